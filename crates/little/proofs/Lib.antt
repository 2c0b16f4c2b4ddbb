-- Little-endian numbers, bytes put into bytes, entries of one size, and tables.
pub mod LittleLaws
pub mod Library
pub mod Putting
pub mod EntryLaws
pub mod FilledLaws
