pub mod Codings
pub mod Typings
pub mod Comparing
pub mod Laws
pub mod inner
