mod Picked
mod Picks
mod Rows
