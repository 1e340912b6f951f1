pub mod Crc
pub mod HexText
pub mod Bytes
pub mod Numbers
