pub mod Common
pub mod ListPlaces
pub mod DrawnOps
pub mod InstPlaces
pub mod RightReads
pub mod NamesApart
pub mod Formed
pub mod Entries
