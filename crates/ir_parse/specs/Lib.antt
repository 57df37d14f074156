pub use Rattle.refusal.specs.Refusals
pub use Rattle.ir_tokens.specs.SeenTokens
pub mod Grammar
pub mod Laws
pub mod ModuleReaders
pub mod Text
