pub mod Floor
mod Splits
mod Runs
