mod Heard
mod Written
