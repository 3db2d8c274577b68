mod Again
mod Begun
mod Faultless
mod Printed
