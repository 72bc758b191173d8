pub mod Entries
pub mod FieldLemmas
pub mod Narrowing
pub mod Visits
pub mod Orders
pub mod Wanted
pub mod RowLemmas
