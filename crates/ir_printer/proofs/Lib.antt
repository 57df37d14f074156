pub mod Common
pub mod Entries
pub mod Identified
pub mod Printed
pub mod Reports
