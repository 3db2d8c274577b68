mod Records
mod Room
