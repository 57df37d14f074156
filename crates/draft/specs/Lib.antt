pub mod KeptOrders
pub mod Drafts
pub mod Placing
pub mod Whole
