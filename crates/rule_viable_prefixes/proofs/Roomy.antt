-- Limits that leave room for a name of two bytes and for a statement.
use Rattle.rule_viable_prefixes.proofs.Common.{ℕ, suc, Limits}

abbrev pub roomy : ℕ → ℕ → ℕ → Limits
roomy spare_bytes deepest spare_statements = record { name_bytes = suc (suc spare_bytes); nested = deepest; statements = suc spare_statements }
