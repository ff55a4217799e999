mod Parts
mod Fairness
