pub mod InputRead
pub mod Checking
pub mod Typing
mod Encoding
pub mod TypedLaws
pub mod FileLaws
pub mod TypedFiles
pub mod EncodingLaws
mod Decoding
mod InputTaken
pub mod InputLeft
pub mod DecodingLaws
mod Layering
mod Following
pub mod LayeringLaws
mod OutputLines
