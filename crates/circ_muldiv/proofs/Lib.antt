pub mod Common
pub mod Masks
pub mod Rows
pub mod OverflowTests
pub mod Quotients
pub mod SignedQuotients
