pub mod Decoding
pub mod Decoders
pub mod Endings
pub mod Sizes
pub mod Wholes
pub mod inner
pub mod Laws
