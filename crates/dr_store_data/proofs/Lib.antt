pub mod HeadLemmas
pub mod Opens
