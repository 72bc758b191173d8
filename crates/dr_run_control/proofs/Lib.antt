mod InTurn
mod Telling
