mod Decimals
mod Steps
mod Tails
