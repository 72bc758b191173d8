mod Chain
mod Pieces
mod Queueing
mod Summing
