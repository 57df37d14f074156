-- A function that meets its checks has an outcome: that of a run in which registers hold more than the arguments.
use Rattle.ir_meaning.proofs.Common.{◌≡◌, ℕ, suc, Bool, true, false, List, [], ◌∷◌, length, Option, None, Some, refl, sym, ap, subst, arith, Value, MeetsChecks, AreArguments, Registers, arguments, RunsFrom, Starts, OnlyZero, HasZeroOutcome, breaks_noundef, Function, Parameter, Outcome, FunctionsHaveOutcomes}
use Rattle.std.proofs.Common.{unwrap_or}
use Rattle.ops.specs.declared.value.Value.TheVariants as values
use Rattle.ir_core.specs.declared.outcome.Outcome.TheVariants as outcomes
use Rattle.ir_meaning.proofs.Pieces.{some_at, not_in_empty}
use Rattle.ir_meaning.proofs.Restricting.{Within, PassedAreHeld, runs_restrict}
use Rattle.ir_meaning.proofs.Totality.{AllHeld, runs}
use Rattle.ir_meaning.proofs.ZeroOutcomes.{starts_any}

pub arguments_count : (parameters : List Parameter) (args : List Value) → AreArguments parameters args → length args ≡ length parameters
arguments_count [] [] h = refl
arguments_count [] (v ∷ vs) h = absurd h
arguments_count (p ∷ ps) [] h = absurd h
arguments_count (p ∷ ps) (v ∷ vs) h = ap suc (arguments_count ps vs h.1)

arguments_held : (f : Function) (args : List Value) → AreArguments f.parameters args → PassedAreHeld f [] (arguments args)
arguments_held f args are = record {
  parameters = λ p below. let count = arguments_count f.parameters args are in some_at args p (omega arith);
  results = λ d j has none. absurd (not_in_empty d none);
}

-- a run in which registers hold the arguments and more at the start has an outcome of the run from the arguments alone
pub runs_from_arguments : (C : ℕ → ℕ → Type 0) (f : Function) (args : List Value) (full : Registers) (n : ℕ) (o : Outcome) → MeetsChecks f → AreArguments f.parameters args → Within (arguments args) full
    → RunsFrom C f n None 0 full o → RunsFrom C f n None 0 (arguments args) o
runs_from_arguments C f args full n o meets are within run =
    runs_restrict C f meets n None 0 [] (arguments args) full o refl refl within (arguments_held f args are) run

-- the arguments, and poison elsewhere
abbrev filled : List Value → Registers
filled args r = Some (unwrap_or (arguments args r) values.Poison)

filled_within : (args : List Value) → Within (arguments args) (filled args)
filled_within args r v h = ap (λ (o : Option Value). Some (unwrap_or o values.Poison)) h

filled_held : (args : List Value) → AllHeld (filled args)
filled_held args r = (unwrap_or (arguments args r) values.Poison, refl)

starts : (breaks : Bool) (f : Function) (args : List Value) (n : ℕ) → MeetsChecks f → AreArguments f.parameters args → (o : Outcome) × Starts OnlyZero breaks f args n o
starts true f args n meets are = (outcomes.Undefined, refl)
starts false f args n meets are =
    let run = runs f meets.formed n None 0 (filled args) refl meets.formed.some_block (filled_held args) in
    (run.0, runs_from_arguments OnlyZero f args (filled args) n run.0 meets are (filled_within args) run.1)

pub functions_have_outcomes : FunctionsHaveOutcomes
functions_have_outcomes f meets args are n =
    let breaks = breaks_noundef f.parameters args in
    let found = starts breaks f args n meets are in
    (found.0, found.1, starts_any breaks f args n found.0 found.1)

-- a function whose arguments break no `noundef` has the outcome of a run in which registers hold more at the start
pub zero_outcome : (f : Function) (args : List Value) (full : Registers) (n : ℕ) (o : Outcome) → MeetsChecks f → AreArguments f.parameters args → breaks_noundef f.parameters args ≡ false → Within (arguments args) full
    → RunsFrom OnlyZero f n None 0 full o → HasZeroOutcome f args n o
zero_outcome f args full n o meets are breaks within run =
    subst (λ t. Starts OnlyZero t f args n o) (sym breaks) (runs_from_arguments OnlyZero f args full n o meets are within run)
