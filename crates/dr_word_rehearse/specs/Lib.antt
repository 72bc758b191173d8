pub mod Endings
pub mod Looks
pub mod Rehearsals
