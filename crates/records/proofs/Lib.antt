pub mod KindNumbers
pub mod Records
mod Packed
pub mod Headers
mod Payloads
pub mod Widths
