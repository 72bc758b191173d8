mod CutJournals
mod CutsBegin
mod Joining
mod Noted
mod Numbering
mod Reached
mod Spelled
