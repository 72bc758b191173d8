pub mod GapLemmas
pub mod PieceLemmas
pub mod PlaceLemmas
pub mod SumLemmas
