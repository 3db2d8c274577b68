mod Commands
mod Matched
mod Naming
mod Rows
mod Spelling
mod Walking
mod Written
