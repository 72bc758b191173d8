pub mod Carried
pub mod Entering
pub mod Followed
pub mod Gathering
pub mod PairSets
pub mod Spreading
pub mod TwoNodes
pub mod Walked
