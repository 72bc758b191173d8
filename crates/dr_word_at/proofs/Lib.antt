mod Doings
mod Pieces
