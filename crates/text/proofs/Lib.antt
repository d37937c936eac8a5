pub mod Puts
pub mod Decimals
pub mod Amounts
pub mod Lengths
