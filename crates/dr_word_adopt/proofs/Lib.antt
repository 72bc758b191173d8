mod Adopted
mod Begun
mod Changed
mod Lists
mod Nodes
mod Standings
mod Stepping
