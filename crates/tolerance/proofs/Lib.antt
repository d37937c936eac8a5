pub mod Tolerated
