mod Going
mod Limits
mod Numerals
mod Once
