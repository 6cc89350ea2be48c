mod Entries
mod Halving
