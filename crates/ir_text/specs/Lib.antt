pub mod Forms
pub mod Lexemes
pub mod NameText
pub mod NumberText
pub mod PrintedText
pub mod Report
pub mod CanonicalModule
pub mod Laws
