pub mod Firsts
pub mod Paths
pub mod Needs
pub mod Steps
