pub mod Chained
pub mod Drawn
pub mod Looking
pub mod Numbered
pub mod Used
