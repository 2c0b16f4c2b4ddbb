-- Characters and text, the line, and the ways of the program.
mod Characters
mod Chunks
mod Lines
pub mod Runs
mod Programs
