-- If runs of two functions go through the same blocks, and each pass of the second is allowed by one of the first, the
-- second function refines the first.
use Rattle.substitution.proofs.Common.{◌≡◌, ℕ, zero, suc, Bool, true, false, List, [], ◌∷◌, Some, refl, sym, subst, map, AllowsValue, Value, AllowsOutcome, AreArguments, Refines, Registers, arguments, breaks_noundef, Ending, Undefines, Returns, Goes, AnyNumber, Leads, Passes, RunsFrom, Starts, Function, Outcome}
use Rattle.ir_core.specs.declared.outcome.Outcome.TheVariants as outcomes
use Rattle.substitution.proofs.Arriving.{last_of}

-- the new function has the header of the old one, and blocks of the same names
pub record SameHeader (old new : Function) : Type 0 where
  pub name : new.name ≡ old.name
  pub before : new.before ≡ old.before
  pub width : new.width ≡ old.width
  pub parameters : new.parameters ≡ old.parameters
  pub after : new.after ≡ old.after
  pub blocks : map (λ b. b.name) new.blocks ≡ map (λ b. b.name) old.blocks

-- a relation of two runs that have passed the same blocks and enter block b with these registers
abbrev pub Relation : Type 1
Relation = (before : List ℕ) (b : ℕ) (held new : Registers) → Type 0

-- the one ending allows the other, and if control goes on to a block the runs are related there again
abbrev pub Allowed : Relation → List ℕ → Ending → Ending → Type 0
Allowed R before Undefines end' = Unit {0}
Allowed R before (Returns v) end' = (v' : Value) × (end' ≡ Returns v') × AllowsValue v v'
Allowed R before (Goes c held) end' = (new : Registers) × (end' ≡ Goes c new) × R before c held new

-- each pass of g through a block at which both are related is allowed by one of f
abbrev pub IsSimulation : Function → Function → Relation → Type 0
IsSimulation f g R = (before : List ℕ) (b : ℕ) (held new : Registers) (end' : Ending) → R before b held new → Passes AnyNumber g (last_of before) b new end'
    → (end : Ending) × Passes AnyNumber f (last_of before) b held end × Allowed R (b ∷ before) end end'

module _ (f g : Function) (R : Relation) (simulates : IsSimulation f g R) where
  -- some run of f allows the outcome
  abbrev IsAllowed : ℕ → List ℕ → ℕ → Registers → Outcome → Type 0
  IsAllowed n before b held o = (allowed_by : Outcome) × RunsFrom AnyNumber f n (last_of before) b held allowed_by × AllowsOutcome allowed_by o

  leads : (n : ℕ) (before : List ℕ) (b : ℕ) (held : Registers) (end' : Ending) (o : Outcome)
      → ((c : ℕ) (next new : Registers) → R (b ∷ before) c next new → RunsFrom AnyNumber g n (Some b) c new o → IsAllowed n (b ∷ before) c next o)
      → (end : Ending) → Passes AnyNumber f (last_of before) b held end → Allowed R (b ∷ before) end end' → Leads (RunsFrom AnyNumber g n (Some b)) end' o → IsAllowed (suc n) before b held o
  leads n before b held end' o rest Undefines pass allowed run = (outcomes.Undefined, (Undefines, pass, refl), tt)
  leads n before b held end' o rest (Returns v) pass allowed run =
      let is : o ≡ outcomes.Return allowed.0 = subst (λ x. Leads (RunsFrom AnyNumber g n (Some b)) x o) allowed.1 run in
      (outcomes.Return v, (Returns v, pass, refl), subst (AllowsOutcome (outcomes.Return v)) (sym is) allowed.2)
  leads n before b held end' o rest (Goes c next) pass allowed run =
      let r : IsAllowed n (b ∷ before) c next o = rest c next allowed.0 allowed.2 (subst (λ x. Leads (RunsFrom AnyNumber g n (Some b)) x o) allowed.1 run) in
      (r.0, (Goes c next, pass, r.1), r.2)

  runs : (n : ℕ) (before : List ℕ) (b : ℕ) (held new : Registers) (o : Outcome) → R before b held new → RunsFrom AnyNumber g n (last_of before) b new o → IsAllowed n before b held o
  runs zero before b held new o related run = (outcomes.Running b, refl, run)
  runs (suc n) before b held new o related run =
      let r : (end : Ending) × Passes AnyNumber f (last_of before) b held end × Allowed R (b ∷ before) end run.0 = simulates before b held new run.0 related run.1 in
      leads n before b held run.0 o (λ c next new' related' run'. runs n (b ∷ before) c next new' o related' run') r.0 r.1 r.2 run.2

  starts : (args : List Value) (n : ℕ) (o : Outcome) → R [] 0 (arguments args) (arguments args) → (breaks : Bool) → Starts AnyNumber breaks g args n o
      → (allowed_by : Outcome) × Starts AnyNumber breaks f args n allowed_by × AllowsOutcome allowed_by o
  starts args n o related true run = (outcomes.Undefined, refl, tt)
  starts args n o related false run = runs n [] 0 (arguments args) (arguments args) o related run

  pub outcomes_allowed : (args : List Value) (n : ℕ) (o : Outcome) → R [] 0 (arguments args) (arguments args) → Starts AnyNumber (breaks_noundef f.parameters args) g args n o
      → (allowed_by : Outcome) × Starts AnyNumber (breaks_noundef f.parameters args) f args n allowed_by × AllowsOutcome allowed_by o
  outcomes_allowed args n o related run = starts args n o related (breaks_noundef f.parameters args) run

pub simulations_refine : (f g : Function) (R : (args : List Value) → AreArguments f.parameters args → Relation) → SameHeader f g
    → ((args : List Value) (are : AreArguments f.parameters args) → IsSimulation f g (R args are))
    → ((args : List Value) (are : AreArguments f.parameters args) → R args are [] 0 (arguments args) (arguments args)) → Refines f g
simulations_refine f g R same simulates at_start = record {
  name = same.name;
  before = same.before;
  width = same.width;
  parameters = same.parameters;
  after = same.after;
  blocks = same.blocks;
  outcomes = λ args n o a run.
      outcomes_allowed f g (R args a) (simulates args a) args n o (at_start args a) (subst (λ ps. Starts AnyNumber (breaks_noundef ps args) g args n o) same.parameters run);
}
