pub mod Typed
pub mod Check
pub mod Decode
pub mod Encode
pub mod Layers
