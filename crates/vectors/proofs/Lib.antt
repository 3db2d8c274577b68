mod Fitting
mod Single
