pub mod RunLemmas
pub mod PadLemmas
pub mod Numerals
