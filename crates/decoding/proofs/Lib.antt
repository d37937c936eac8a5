mod Filled
mod Entries
mod Nodes
