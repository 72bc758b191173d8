pub mod Imports
pub mod Tables
