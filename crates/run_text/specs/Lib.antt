pub use Rattle.refusal.specs.Refusals
pub use Rattle.ir_reader.specs.Text
pub mod Arguments
pub mod OutcomeText
pub mod Runs
pub mod RunFaults
pub mod OutcomeLaws
