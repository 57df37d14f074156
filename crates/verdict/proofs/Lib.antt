pub mod Common
pub mod Chain
pub mod Examples
pub mod InputBits
pub mod Widths
pub mod Proved
pub mod Findings
