pub mod Common
pub mod Ending
pub mod Feeds
pub mod Forms
pub mod KeptLines
pub mod Lexing
pub mod NameForms
pub mod NumberForms
pub mod Placing
pub mod Shapes
pub mod Spelled
pub mod Standing
pub mod Zeros
mod Streams
mod Prints
mod Tokens
mod Calling
mod Numbered
mod Operands
mod Calls
mod Insts
mod Ends
mod Items
mod Blocks
mod Functions
pub mod Modules
