pub mod FollowLemmas
pub mod FoundLemmas
pub mod WorkedLemmas
