-- What a statement of a rule's source is bound to.
use Rattle.bindings.proofs.Common.{◌≡◌, ◌↔◌, ℕ, suc, ◌<◌, List, length, get_or, Bool, false, true, IsTrue, Some, sym, ap, subst, ◌∙◌, arith, inl, inr, slice_get, cases_lt, slice_get_cases, slice_get-get_or, get_or_from_slice_get, same_Some, HasInst, IsInst, Function, Inst, Register, Rule, Statement, slice_get_within, AreKept, MatchesAt, InstMatches, IsInScope, IsSameOperation, Knowledge, MatchesInAnyOrder, StatementMatches, TargetNamesTemporary, promises_of_inst, promises_of_statement, Binding, Contains, IsBoundInScope, place_in}
use Rattle.ir_core.specs.declared.operand.Register.TheVariants as registers
use Rattle.bindings.proofs.Reading.{same_inst}

not_last : (j n : ℕ) → suc j < n → suc j ≡ n → ⊥
not_last j n less last = omega arith

-- there is a statement with each index
pub statement_at : (rule : Rule) (j : ℕ) → j < length rule.source → (s : Statement) × (slice_get rule.source j ≡ Some s)
statement_at rule j within = elim (slice_get_cases rule.source j).1 [
  | inl (s, lt, at, is) ↦ (s, at)
  | inr (past, at) ↦ absurd (omega arith)
]

-- it is bound to one register
pub is_bound : (f : Function) (rule : Rule) (binding : Binding) (j : ℕ) (s : Statement) (r : Register) → slice_get binding.statements j ≡ Some r → (m : StatementMatches f rule binding j s) → r ≡ registers.Result m.block m.place
is_bound f rule binding j s r at m = same_Some r (registers.Result m.block m.place) (sym at ∙ m.bound)

pub same_block : (b b' k k' : ℕ) → registers.Result b k ≡ registers.Result b' k' → b ≡ b'
same_block b b' k k' e = cc

pub same_place : (b b' k k' : ℕ) → registers.Result b k ≡ registers.Result b' k' → k ≡ k'
same_place b b' k k' e = cc

-- the instruction that is there matches it
pub matched_there : (f : Function) (rule : Rule) (binding : Binding) (j b k : ℕ) (s : Statement) (inst : Inst) → slice_get binding.statements j ≡ Some (registers.Result b k) → IsInst f b k inst → StatementMatches f rule binding j s → InstMatches f rule binding j s b k inst
matched_there f rule binding j b k s inst at is m =
    let one = is_bound f rule binding j s (registers.Result b k) at m in
    let block : m.block ≡ b = sym (same_block b m.block k m.place one) in
    let place : m.place ≡ k = sym (same_place b m.block k m.place one) in
    let here : IsInst f b k m.inst = subst (λ (d : ℕ). IsInst f d k m.inst) block (subst (λ (p : ℕ). IsInst f m.block p m.inst) place m.is_inst) in
    subst (λ (i : Inst). InstMatches f rule binding j s b k i) (same_inst f b k m.inst inst here is)
    (subst (λ (d : ℕ). InstMatches f rule binding j s d k m.inst) block (subst (λ (p : ℕ). InstMatches f rule binding j s m.block p m.inst) place m.matches))

pub has_inst : (f : Function) (rule : Rule) (binding : Binding) (j b k : ℕ) (s : Statement) → slice_get binding.statements j ≡ Some (registers.Result b k) → StatementMatches f rule binding j s → HasInst f b k
has_inst f rule binding j b k s at m =
    let one = is_bound f rule binding j s (registers.Result b k) at m in
    subst (λ (d : ℕ). HasInst f d k) (sym (same_block b m.block k m.place one)) (subst (λ (p : ℕ). HasInst f m.block p) (sym (same_place b m.block k m.place one))
    (m.is_inst.block, m.is_inst.is_block, slice_get_within m.is_inst.block.insts m.place m.inst m.is_inst.is_inst))

-- the statement matches, where the instruction matches it
pub matches_there : (f : Function) (rule : Rule) (binding : Binding) (j b k : ℕ) (s : Statement) (inst : Inst) → slice_get binding.statements j ≡ Some (registers.Result b k) → IsInst f b k inst → InstMatches f rule binding j s b k inst → StatementMatches f rule binding j s
matches_there f rule binding j b k s inst at is matches = record { block = b; place = k; inst = inst; bound = at; is_inst = is; matches = matches }

-- the instruction of a temporary is in scope, and that of the root is
pub within_block : (across : Bool) (d p b k : ℕ) → d ≡ b → IsInScope across d p b k
within_block false d p b k same = same
within_block true d p b k same = tt

pub in_scope : (across : Bool) {known : Knowledge} (f : Function) (b k : ℕ) (rule : Rule) (m : Binding) → MatchesInAnyOrder across known f b k rule m
    → (j d p : ℕ) → slice_get m.statements j ≡ Some (registers.Result d p) → IsInScope across d p m.block m.place
in_scope across f b k rule m is j d p at =
    let (s, is_statement) = statement_at rule j (let within : j < length m.statements = slice_get_within m.statements j (registers.Result d p) at in omega (arith, within, is.statement_count)) in
    let h = is.statements j s is_statement in
    elim (cases_lt (suc j) (length rule.source)) [
      | inl less ↦ is.before j d p less at
      | inr last ↦
          let within : j < length rule.source = slice_get_within rule.source j s is_statement in
          let root : h.block ≡ m.block = (h.matches.root (omega (arith, within, last))).0 in
          within_block across d p m.block m.place (same_block d h.block p h.place (is_bound f rule m j s (registers.Result d p) at h) ∙ root)
    ]

pub all_in_scope : (across : Bool) {known : Knowledge} (f : Function) (b k : ℕ) (rule : Rule) (m : Binding) → MatchesInAnyOrder across known f b k rule m
    → (r : Register) → Contains m.statements r → IsBoundInScope across m r
all_in_scope across f b k rule m is (registers.Parameter p) among = tt
all_in_scope across f b k rule m is (registers.Result d p) among = let (j, at) = place_in m.statements (registers.Result d p) among in in_scope across f b k rule m is j d p at

-- of two instructions in scope of a root, the one is in scope of the other
pub scope_between : (across : Bool) (d p e q b k : ℕ) → IsInScope across d p b k → IsInScope across e q b k → IsInScope across d p e q
scope_between false d p e q b k first later = first ∙ sym later
scope_between true d p e q b k first later = tt

-- for a statement that matches nothing the answer is false
pub never : (f : Function) (rule : Rule) (binding : Binding) (j : ℕ) → j < length rule.source → ((s : Statement) → StatementMatches f rule binding j s → ⊥)
    → IsTrue false ↔ ((s : Statement) → slice_get rule.source j ≡ Some s → StatementMatches f rule binding j s)
never f rule binding j within none =
    (λ h. absurd cc, λ all. let (s, at) = statement_at rule j within in absurd (none s (all s at)))

-- the item that is read from a slice
pub read_off : {X : Type 0} (xs ys : List X) (j : ℕ) (d x : X) → xs ≡ ys → j < length ys → get_or xs j d ≡ x → slice_get ys j ≡ Some x
read_off xs ys j d x same within is = slice_get-get_or ys j d within ∙ ap (λ y. Some y) (ap (λ l. get_or l j d) (sym same) ∙ is)

pub read_off_as : {X : Type 0} (xs ys : List X) (j : ℕ) (d x : X) → xs ≡ ys → slice_get ys j ≡ Some x → get_or xs j d ≡ x
read_off_as xs ys j d x same at = ap (λ l. get_or l j d) same ∙ get_or_from_slice_get ys j x d at

-- all that an instruction has to meet
pub met : (f : Function) (rule : Rule) (binding : Binding) (j b k : ℕ) (s : Statement) (inst : Inst) (root exact : Bool)
    → j < length rule.source → (IsTrue root ↔ (suc j ≡ length rule.source)) → (IsTrue exact ↔ TargetNamesTemporary rule)
    → (IsTrue root → (b ≡ binding.block) × (k ≡ binding.place)) → IsSameOperation s.op inst.op
    → (AreKept (promises_of_statement s.op) (promises_of_inst inst.op) × (IsTrue exact → ¬ IsTrue root → promises_of_inst inst.op ≡ promises_of_statement s.op))
    → slice_get binding.typing s.class ≡ Some inst.width → ((i : ℕ) → MatchesAt f binding s.op b k i) → InstMatches f rule binding j s b k inst
met f rule binding j b k s inst root exact within is_root is_exact stands operation flags width operands = record {
  root = λ last. stands (is_root.1 last);
  operation = operation;
  flags = flags.0;
  no_more_flags = λ less reads. flags.1 (is_exact.1 reads) (λ last. not_last j (length rule.source) less (is_root.0 last));
  width = width;
  operands = operands;
}

-- what it has to meet, in the form in which the code checks it
behind : (j n : ℕ) (root : Bool) → j < n → (IsTrue root ↔ (suc j ≡ n)) → ¬ IsTrue root → suc j < n
behind j n root within is_root none = let other : ¬ (suc j ≡ n) = λ last. none (is_root.1 last) in omega arith

pub asked_place : (f : Function) (rule : Rule) (binding : Binding) (j b k : ℕ) (s : Statement) (inst : Inst) (root : Bool) → j < length rule.source → (IsTrue root ↔ (suc j ≡ length rule.source))
    → InstMatches f rule binding j s b k inst → (IsTrue root → (b ≡ binding.block) × (k ≡ binding.place))
asked_place f rule binding j b k s inst root within is_root m =
    λ held. m.root (is_root.0 held)

pub asked_flags : (f : Function) (rule : Rule) (binding : Binding) (j b k : ℕ) (s : Statement) (inst : Inst) (root exact : Bool) → j < length rule.source → (IsTrue root ↔ (suc j ≡ length rule.source)) → (IsTrue exact ↔ TargetNamesTemporary rule)
    → InstMatches f rule binding j s b k inst → AreKept (promises_of_statement s.op) (promises_of_inst inst.op) × (IsTrue exact → ¬ IsTrue root → promises_of_inst inst.op ≡ promises_of_statement s.op)
asked_flags f rule binding j b k s inst root exact within is_root is_exact m =
    (m.flags, λ held none. m.no_more_flags (behind j (length rule.source) root within is_root none) (is_exact.0 held))

-- the statement is the one with this index
pub matches_as : (f : Function) (rule : Rule) (binding : Binding) (j b k : ℕ) (s t : Statement) (inst : Inst) → s ≡ t → InstMatches f rule binding j t b k inst → InstMatches f rule binding j s b k inst
matches_as f rule binding j b k s t inst same m = subst (λ (u : Statement). InstMatches f rule binding j u b k inst) (sym same) m
