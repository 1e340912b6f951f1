pub mod Rule
pub mod Tokens
pub mod Lexed
pub mod OneAnswer
pub mod Spelled
