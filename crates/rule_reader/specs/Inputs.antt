-- The names that operands give, in order of first use, as a loop over the operands collects them.
use Rattle.std.specs.Prelude.{◌≡◌, ◌⊎◌, ℕ, List, [], ◌∷◌, ◌++◌, Contains}
use Rattle.rule_parse.specs.declared.raw.RawStatement.{RawStatement}
use Rattle.rule_parse.specs.declared.raw.RawArgument.{RawArgument}
use Rattle.rule_reader.specs.declared.names.Names.{Names}
use Rattle.rule_reader.specs.Meaning.{AreFirstGiven, GivesInput, GivesConstant}

-- the name is appended where it is new
abbrev pub AddsNew : List (List ℕ) → List ℕ → List (List ℕ) → Type 0
AddsNew before name after = (¬ Contains before name × (after ≡ before ++ name ∷ [])) ⊎ (Contains before name × (after ≡ before))

-- the operand's name, if it gives one, is appended where it is new
abbrev pub Adds : (RawArgument → List ℕ → Type 0) → List (List ℕ) → RawArgument → List (List ℕ) → Type 0
Adds Gives before a after = ((name : List ℕ) × Gives a name × AddsNew before name after) ⊎ (((name : List ℕ) → ¬ Gives a name) × (after ≡ before))

-- the same for both lists, of inputs and of constants
pub record AddsNames (source : List RawStatement) (before : Names) (a : RawArgument) (after : Names) : Type 0 where
  pub inputs : Adds (GivesInput source) before.inputs a after.inputs
  pub constants : Adds GivesConstant before.constants a after.constants

-- the inputs and the constants among some operands of a source
pub record AreNamesAmong (source : List RawStatement) (arguments : List RawArgument) (names : Names) : Type 0 where
  pub inputs : AreFirstGiven (GivesInput source) arguments names.inputs
  pub constants : AreFirstGiven GivesConstant arguments names.constants

-- whatever operands gave the names before, with these behind them they give the names after
abbrev pub AddsUses : List RawStatement → Names → List RawArgument → Names → Type 0
AddsUses source before more after = (arguments : List RawArgument) → AreNamesAmong source arguments before → AreNamesAmong source (arguments ++ more) after
