pub mod FileLemmas
pub mod InTables
pub mod LawLemmas
pub mod Onward
pub mod Prefixes
pub mod Refused
pub mod SealLemmas
