-- The root of a rule and the instruction at which it matches are the same operation.
use Rattle.bindings.proofs.Common.{◌≡◌, ◌↔◌, ◌∙◌, ℕ, suc, ◌-◌, length, Bool, false, true, IsTrue, Some, sym, subst, arith, slice_get, same_Some, HasInst, IsInst, Function, Inst, IsRule, Rule, Statement, IsRootOperation, IsAvailable, IsInScope, IsMatch, Knowledge, MatchesInAnyOrder, MatchesWhere, known_in, IsSameOperation, Binding}
use Rattle.bindings.proofs.Bound.{statement_at}
use Rattle.bindings.proofs.Reading.{has_inst_at, same_inst}

pub matched_operation : {Before : ℕ → ℕ → ℕ → ℕ → Type 0} {known : Knowledge} (f : Function) (b k : ℕ) (rule : Rule) (m : Binding) → IsRule rule → MatchesWhere Before known f b k rule m → IsRootOperation f b k rule
matched_operation f b k rule m is_rule is =
    let some = is_rule.source_root in
    let (s, at) = statement_at rule (length rule.source - 1) (omega arith) in
    let bound = is.statements (length rule.source - 1) s at in
    let last : suc (length rule.source - 1) ≡ length rule.source = omega arith in
    let root = bound.matches.root last in
    let there : IsInst f m.block m.place bound.inst = subst (λ (d : ℕ). IsInst f d m.place bound.inst) root.0 (subst (λ (p : ℕ). IsInst f bound.block p bound.inst) root.1 bound.is_inst) in
    record {
      root = s;
      inst = bound.inst;
      is_root = at;
      is_inst = subst (λ (d : ℕ). IsInst f d k bound.inst) is.block (subst (λ (p : ℕ). IsInst f m.block p bound.inst) is.place there);
      operation = bound.matches.operation;
    }

-- whether they are is decided by the operations of the root and of the instruction there
pub root_operation : (f : Function) (b k : ℕ) (rule : Rule) (s : Statement) (inst : Inst) (same : Bool) → slice_get rule.source (length rule.source - 1) ≡ Some s → IsInst f b k inst
    → (IsTrue same ↔ IsSameOperation s.op inst.op) → IsTrue same ↔ IsRootOperation f b k rule
root_operation f b k rule s inst same at is operation = (
  λ yes. record { root = s; inst = inst; is_root = at; is_inst = is; operation = operation.0 yes },
  λ root. operation.1 (subst (λ (t : Statement). IsSameOperation t.op inst.op) (same_Some root.root s (sym root.is_root ∙ at))
      (subst (λ (i : Inst). IsSameOperation root.root.op i.op) (same_inst f b k root.inst inst root.is_inst is) root.operation)),
)

pub no_root_operation : (f : Function) (b k : ℕ) (rule : Rule) → ¬ HasInst f b k → IsTrue false ↔ IsRootOperation f b k rule
no_root_operation f b k rule none = (λ h. absurd cc, λ root. absurd (none (has_inst_at f b k root.inst root.is_inst)))

-- a match is at the instruction that its binding names
pub match_there : {Before : ℕ → ℕ → ℕ → ℕ → Type 0} {known : Knowledge} (f : Function) (b k : ℕ) (rule : Rule) (m n : Binding) → MatchesWhere Before known f b k rule m → n ≡ m → MatchesWhere Before known f n.block n.place rule n
match_there {Before = Before} {known = known} f b k rule m n is same =
    subst (λ (x : Binding). MatchesWhere Before known f x.block x.place rule x) (sym same)
    (subst (λ (d : ℕ). MatchesWhere Before known f d m.place rule m) (sym is.block) (subst (λ (p : ℕ). MatchesWhere Before known f b p rule m) (sym is.place) is))

pub match_here : {Before : ℕ → ℕ → ℕ → ℕ → Type 0} {known : Knowledge} (f : Function) (b k : ℕ) (rule : Rule) (m : Binding) → (m.block ≡ b) × (m.place ≡ k) → MatchesWhere Before known f m.block m.place rule m → MatchesWhere Before known f b k rule m
match_here {Before = Before} {known = known} f b k rule m there is =
    subst (λ (p : ℕ). MatchesWhere Before known f b p rule m) there.1 (subst (λ (d : ℕ). MatchesWhere Before known f d m.place rule m) there.0 is)

-- what stands before the root is in scope
available_in_scope : (across : Bool) (f : Function) (d p b k : ℕ) → IsAvailable across f d p b k → IsInScope across d p b k
available_in_scope false f d p b k is = is.0
available_in_scope true f d p b k is = tt

-- a match in order is one without regard to the order
pub in_any_order : (across : Bool) (f : Function) (b k : ℕ) (rule : Rule) (m : Binding) → IsMatch across f b k rule m → MatchesInAnyOrder across (known_in f) f b k rule m
in_any_order across f b k rule m is = record {
  block = is.block;
  place = is.place;
  reached = is.reached;
  statement_count = is.statement_count;
  statements = is.statements;
  before = λ j d p less at. available_in_scope across f d p m.block m.place (is.before j d p less at);
  input_count = is.input_count;
  no_undef = is.no_undef;
  constant_count = is.constant_count;
  typing = is.typing;
  precondition = is.precondition;
  one_use = is.one_use;
  facts = is.facts;
}
