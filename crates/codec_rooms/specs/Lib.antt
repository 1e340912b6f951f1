pub mod Typed
pub mod Check
pub mod Encode
pub mod Decode
pub mod Layers
pub mod Laws
pub mod Commands
pub mod inner
