mod Fronts
mod Nothing
mod OneAsked
mod Places
mod Trying
