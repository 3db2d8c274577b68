mod Due
mod Forgetting
mod Undo
