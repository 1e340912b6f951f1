pub mod Profiled
