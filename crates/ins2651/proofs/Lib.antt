mod Branches
mod Masks
mod Weights
