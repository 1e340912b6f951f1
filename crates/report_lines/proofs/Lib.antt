mod Puts
mod Lookups
mod Digits
mod Lanes
