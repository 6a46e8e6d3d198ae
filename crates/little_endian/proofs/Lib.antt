-- Laws of runs of numbers, and of the lists that they fill.
pub mod Runs
pub mod Fronts
