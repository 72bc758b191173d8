pub mod Flowing
pub mod Gathered
pub mod WalksAlike
pub mod NodesListen
pub mod SetLemmas
