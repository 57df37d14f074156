-- The lists of uses in the code, as contracts see them.
use Rattle.std.specs.Prelude.{◌≡◌, List, map, ◌++◌}
use Rattle.ir_tokens.specs.declared.raw.RawIdentifier.{RawIdentifier}
use Rattle.ir_resolve.specs.declared.uses.Read.{Read}
use Rattle.ir_resolve.specs.declared.uses.Uses.{Uses}
use Rattle.ir_resolve.specs.TypedReads.{Typed, typed}

abbrev pub seen_read : Read → Typed
seen_read r = typed r.width r.operand.now

abbrev pub seen_reads : Uses → List Typed
seen_reads uses = map seen_read uses.reads.items

abbrev pub seen_targets : Uses → List RawIdentifier
seen_targets uses = map (λ w. w.now) uses.targets.items

-- these uses were appended
pub record Adds (before after : Uses) (reads : List Typed) (targets : List RawIdentifier) : Type 0 where
  pub reads_added : seen_reads after ≡ seen_reads before ++ reads
  pub targets_added : seen_targets after ≡ seen_targets before ++ targets
