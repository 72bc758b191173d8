pub mod Chained
mod Counted
mod Journaled
mod Lines
mod Responded
mod Statuses
mod Totals
mod Tries
