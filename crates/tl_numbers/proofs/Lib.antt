pub mod Digits
pub mod Division
pub mod LowestBits
pub mod Polynomials
pub mod Printed
pub mod Register
pub mod Remainders
pub mod Spelled
