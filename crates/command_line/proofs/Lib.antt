pub mod Common
mod Described
mod FaultFree
mod KnownCommands
mod RowsFit
mod NumberLemmas
mod Parses
mod WidthLemmas
