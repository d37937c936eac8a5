mod Depths
mod Masks
mod Moves
mod NodeTests
mod Parents
mod Weights
