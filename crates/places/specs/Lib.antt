pub mod Orders
pub mod Links
pub mod Numbers
pub mod Spacings
pub mod Sets
pub mod Heaps
pub mod Worklist
