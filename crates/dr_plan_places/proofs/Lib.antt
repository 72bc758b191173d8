mod Exceeding
pub mod ByName
pub mod FieldsFlawed
pub mod ListenFlawed
pub mod Flawed
pub mod Indices
pub mod Refuted
pub mod ShortRefuted
pub mod Small
pub mod Strange
pub mod Placing
pub mod Unknowing
