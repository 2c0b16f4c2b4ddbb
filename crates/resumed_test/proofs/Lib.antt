-- Tests that are alike go on alike; so does a test that was read back; demand 3 over saves.
pub mod Simulation
pub mod EverAfter
pub mod Demand
