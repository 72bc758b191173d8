pub mod Bringing
pub mod Edges
pub mod Findings
pub mod Graphs
pub mod Texts
pub mod Uses
