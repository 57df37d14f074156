-- When a function or a module refines another: each of its outcomes is allowed by one of the other's.
use Rattle.std.specs.Prelude.{◌≡◌, ℕ, List, [], ◌∷◌, map}
use Rattle.ops.specs.Value.{AllowsValue, IsValueOf}
use Rattle.ops.specs.declared.value.Value.{Value}
use Rattle.ir_core.specs.declared.module.Module.{Module}
use Rattle.ir_core.specs.declared.module.Entry.{Entry}
use Rattle.ir_core.specs.declared.module.Entry.TheVariants as entries
use Rattle.ir_core.specs.declared.function.Function.{Function}
use Rattle.ir_core.specs.declared.function.Parameter.{Parameter}
use Rattle.ir_core.specs.declared.outcome.Outcome.{Outcome}
use Rattle.ir_core.specs.declared.outcome.Outcome.TheVariants as outcomes
use Rattle.ir_core.specs.Run.{HasOutcome}

-- Undefined behaviour allows every outcome, a return allows the returns that its value allows, and a run that goes on
-- allows only one that would enter the same block next.
abbrev pub AllowsOutcome : Outcome → Outcome → Type 0
AllowsOutcome outcomes.Undefined o = Unit {0}
AllowsOutcome (outcomes.Return v) (outcomes.Return w) = AllowsValue v w
AllowsOutcome (outcomes.Return v) outcomes.Undefined = ⊥
AllowsOutcome (outcomes.Return v) (outcomes.Running b) = ⊥
AllowsOutcome (outcomes.Running b) o = o ≡ outcomes.Running b

-- one value of its width for each parameter
abbrev pub AreArguments : List Parameter → List Value → Type 0
AreArguments [] [] = Unit {0}
AreArguments [] (v ∷ vs) = ⊥
AreArguments (p ∷ ps) [] = ⊥
AreArguments (p ∷ ps) (v ∷ vs) = IsValueOf p.width v × AreArguments ps vs

-- The new function refines the old one: it has the same header and blocks of the same names, and for all arguments and
-- every bound on the blocks entered each of its outcomes is allowed by one of the old.
pub record Refines (old new : Function) : Type 0 where
  pub name : new.name ≡ old.name
  pub before : new.before ≡ old.before
  pub width : new.width ≡ old.width
  pub parameters : new.parameters ≡ old.parameters
  pub after : new.after ≡ old.after
  pub blocks : map (λ b. b.name) new.blocks ≡ map (λ b. b.name) old.blocks
  pub outcomes : (args : List Value) (n : ℕ) (o : Outcome) → AreArguments old.parameters args → HasOutcome new args n o → (allowed_by : Outcome) × HasOutcome old args n allowed_by × AllowsOutcome allowed_by o

-- a kept line is unchanged, and a function refines the old one
abbrev pub EntryRefines : Entry → Entry → Type 0
EntryRefines (entries.Kept old) (entries.Kept new) = new ≡ old
EntryRefines (entries.Function old) (entries.Function new) = Refines old new
EntryRefines (entries.Kept old) (entries.Function new) = ⊥
EntryRefines (entries.Function old) (entries.Kept new) = ⊥

-- the same entries in order, each refining the old one there
abbrev pub EntriesRefine : List Entry → List Entry → Type 0
EntriesRefine [] [] = Unit {0}
EntriesRefine [] (e ∷ es) = ⊥
EntriesRefine (d ∷ ds) [] = ⊥
EntriesRefine (d ∷ ds) (e ∷ es) = EntryRefines d e × EntriesRefine ds es

abbrev pub ModuleRefines : Module → Module → Type 0
ModuleRefines old new = EntriesRefine old.entries new.entries
