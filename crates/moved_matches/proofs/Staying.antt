-- A match stays where what it depends on does.
use Rattle.moved_matches.proofs.Common.{◌≡◌, ℕ, zero, suc, ◌<◌, List, [], ◌∷◌, length, map, Option, None, Some, option_map, none-some, refl, sym, ap, subst, ◌∙◌, arith, Contains, slice_get, length-map, same_Some, slice_get_within, IsInst, Read, IsRead, reads_of, Function, Inst, Op, Operand, Register, contains_at, Argument, Rule, Statement, from_map, get_from_map, get-map, Substitution, IsDefinite, substituted_operand, substituted_op, substituted_inst, IsUsedOnce, KnowsAsMuch, facts_follow, Name, Knowledge, operand_for, MatchesWhere, OperandMatches, StandsFor, AreKept, IsSameOperation, StatementMatches, promises_of_inst, promises_of_statement, Binding, reads_at_inst, same_inst, StandsAt, StandsThere, moved_binding, register_or}
use Rattle.ir_core.specs.declared.instruction.Op.TheVariants as ops
use Rattle.ir_core.specs.declared.operand.Operand.TheVariants as operands
use Rattle.ir_core.specs.declared.operand.Register.TheVariants as registers
use Rattle.rule_core.specs.declared.rule.Argument.TheVariants as arguments
use Rattle.rule_core.specs.declared.rule.Formula.TheVariants as formulas
use Rattle.rule_core.specs.declared.rule.Op.{Op as RuleOp}
use Rattle.rule_core.specs.declared.rule.Op.TheVariants as rule_ops
use Rattle.rule_core.specs.declared.rule.Operand.{Operand as RuleOperand}
use Rattle.rule_core.specs.declared.rule.Register.TheVariants as names

-- a substitution leaves the operation of an instruction, and its flags
same_operation : (to : Substitution) (s : RuleOp) (op : Op) → IsSameOperation s op → IsSameOperation s (substituted_op to op)
same_operation to (rule_ops.Binary opcode flags a b) (ops.Binary opcode' flags' x y) same = same
same_operation to (rule_ops.Compare pred samesign a b) (ops.Compare pred' samesign' width x y) same = same
same_operation to (rule_ops.Unary op truth a) (ops.Unary op' truth' x) same = same
same_operation to (rule_ops.Select c a b) (ops.Select z x y) same = tt
same_operation to (rule_ops.Convert cast flags a to') (ops.Convert cast' flags' from x) same = same
same_operation to (rule_ops.Freeze a j) (ops.Freeze x) same = tt
same_operation to s op same = absurd same

same_promises : (to : Substitution) (op : Op) → promises_of_inst op ≡ promises_of_inst (substituted_op to op)
same_promises to (ops.Binary opcode flags x y) = refl
same_promises to (ops.Compare pred samesign width x y) = refl
same_promises to (ops.Unary op truth x) = refl
same_promises to (ops.Select c x y) = refl
same_promises to (ops.Convert cast flags from x) = refl
same_promises to (ops.Freeze x) = refl
same_promises to (ops.Phi entries) = refl

-- where the instruction in the other function reads an operand, this one reads one for which the substitution gives
-- that
pub record WasRead (f : Function) (to : Substitution) (b p N : ℕ) (op : Op) (i : ℕ) (r : Read) : Type 0 where
  pub old : Read
  pub is_read : slice_get (reads_of f b p N op) i ≡ Some old
  pub width : old.width ≡ r.width
  pub operand : substituted_operand to old.operand ≡ r.operand

was_read : (f f' : Function) (to : Substitution) (b p q N : ℕ) (s : RuleOp) (op : Op) (i : ℕ) (r : Read) → IsSameOperation s op
    → slice_get (reads_of f' b q N (substituted_op to op)) i ≡ Some r → WasRead f to b p N op i r
was_read f f' to b p q N (rule_ops.Binary opcode flags a c) (ops.Binary opcode' flags' x y) zero r same at = record { old = record { operand = x; width = N; block = b; place = p }; is_read = refl; width = cc; operand = cc }
was_read f f' to b p q N (rule_ops.Binary opcode flags a c) (ops.Binary opcode' flags' x y) (suc zero) r same at = record { old = record { operand = y; width = N; block = b; place = p }; is_read = refl; width = cc; operand = cc }
was_read f f' to b p q N (rule_ops.Binary opcode flags a c) (ops.Binary opcode' flags' x y) (suc (suc i)) r same at = absurd cc
was_read f f' to b p q N (rule_ops.Compare pred samesign a c) (ops.Compare pred' samesign' M x y) zero r same at = record { old = record { operand = x; width = M; block = b; place = p }; is_read = refl; width = cc; operand = cc }
was_read f f' to b p q N (rule_ops.Compare pred samesign a c) (ops.Compare pred' samesign' M x y) (suc zero) r same at = record { old = record { operand = y; width = M; block = b; place = p }; is_read = refl; width = cc; operand = cc }
was_read f f' to b p q N (rule_ops.Compare pred samesign a c) (ops.Compare pred' samesign' M x y) (suc (suc i)) r same at = absurd cc
was_read f f' to b p q N (rule_ops.Unary op truth a) (ops.Unary op' truth' x) zero r same at = record { old = record { operand = x; width = N; block = b; place = p }; is_read = refl; width = cc; operand = cc }
was_read f f' to b p q N (rule_ops.Unary op truth a) (ops.Unary op' truth' x) (suc i) r same at = absurd cc
was_read f f' to b p q N (rule_ops.Select z a c) (ops.Select w x y) zero r same at = record { old = record { operand = w; width = 1; block = b; place = p }; is_read = refl; width = cc; operand = cc }
was_read f f' to b p q N (rule_ops.Select z a c) (ops.Select w x y) (suc zero) r same at = record { old = record { operand = x; width = N; block = b; place = p }; is_read = refl; width = cc; operand = cc }
was_read f f' to b p q N (rule_ops.Select z a c) (ops.Select w x y) (suc (suc zero)) r same at = record { old = record { operand = y; width = N; block = b; place = p }; is_read = refl; width = cc; operand = cc }
was_read f f' to b p q N (rule_ops.Select z a c) (ops.Select w x y) (suc (suc (suc i))) r same at = absurd cc
was_read f f' to b p q N (rule_ops.Convert cast flags a N') (ops.Convert cast' flags' M x) zero r same at = record { old = record { operand = x; width = M; block = b; place = p }; is_read = refl; width = cc; operand = cc }
was_read f f' to b p q N (rule_ops.Convert cast flags a N') (ops.Convert cast' flags' M x) (suc i) r same at = absurd cc
was_read f f' to b p q N (rule_ops.Freeze a j) (ops.Freeze x) zero r same at = record { old = record { operand = x; width = N; block = b; place = p }; is_read = refl; width = cc; operand = cc }
was_read f f' to b p q N (rule_ops.Freeze a j) (ops.Freeze x) (suc i) r same at = absurd cc
was_read f f' to b p q N s op i r same at = absurd same

-- a substitution gives `undef` for `undef` alone
was_undef : (to : Substitution) (a : Operand) → IsDefinite to → operands.Undef ≡ substituted_operand to a → a ≡ operands.Undef
was_undef to (operands.Register r) definite is = absurd (definite r (sym is))
was_undef to (operands.Number n) definite is = absurd cc
was_undef to operands.Undef definite is = refl
was_undef to operands.Poison definite is = absurd cc

pub some_at : {X : Type 0} (xs : List X) (k : ℕ) → k < length xs → (x : X) × (slice_get xs k ≡ Some x)
some_at [] k within = absurd (omega arith)
some_at (a ∷ xs) zero within = (a, refl)
some_at (a ∷ xs) (suc k) within = some_at xs k (omega arith)

module _ (Before Before' : ℕ → ℕ → ℕ → ℕ → Type 0) (known known' : Knowledge) (f f' : Function) (to : Substitution) (rule : Rule) (m : Binding) (k : ℕ) (definite : IsDefinite to) (is : MatchesWhere Before known f m.block m.place rule m)
    (there : StandsThere Before Before' known known' f f' to rule m k) where
  -- the instruction of a statement in the other function
  bound_then : (j d p q : ℕ) → slice_get m.statements j ≡ Some (registers.Result d p) → StandsAt f f' to d p q
      → slice_get (map (λ r. register_or r (to r)) m.statements) j ≡ Some (registers.Result d q)
  bound_then j d p q at stands =
      get-map (λ r. register_or r (to r)) m.statements j (registers.Result d p) at ∙ ap (λ (a : Operand). Some (register_or (registers.Result d p) a)) stands.register

  -- under the moved binding a name stands for the substituted operand
  stands_for_then : (N : ℕ) (value : Argument) (a : Operand) → StandsFor m N value a → StandsFor (moved_binding to k m) N value (substituted_operand to a)
  stands_for_then N (arguments.Register (names.Input i)) a h = get-map (substituted_operand to) m.inputs i a h
  stands_for_then N (arguments.Register (names.Source j)) a (r, at, reads) =
      let (s, is_statement) = some_at rule.source j (let within : j < length m.statements = slice_get_within m.statements j r at in omega (arith, within, is.statement_count)) in
      let bound = is.statements j s is_statement in
      let same : r ≡ registers.Result bound.block bound.place = same_Some r (registers.Result bound.block bound.place) (sym at ∙ bound.bound) in
      let (q, stands, before) = there.bound j bound.block bound.place bound.bound in (
        registers.Result bound.block q,
        bound_then j bound.block bound.place q bound.bound stands,
        ap (substituted_operand to) reads ∙ ap to same ∙ stands.register,
      )
  stands_for_then N (arguments.Register (names.Target j)) a h = absurd h
  stands_for_then N (arguments.Literal z) a h = ap (substituted_operand to) h
  stands_for_then N (arguments.Truth b) a h = ap (substituted_operand to) h
  stands_for_then N (arguments.Constant c) a h = (h.0, h.1, h.2, ap (substituted_operand to) h.3)
  stands_for_then N (arguments.Undef c) a h = ap (substituted_operand to) h
  stands_for_then N (arguments.Term n) a h = absurd h

  operand_then : (o : RuleOperand) (old r : Read) → old.width ≡ r.width → substituted_operand to old.operand ≡ r.operand → OperandMatches m o old → OperandMatches (moved_binding to k m) o r
  operand_then o old r width operand h = record {
    width = h.width ∙ ap Some width;
    value = subst (λ (N : ℕ). StandsFor (moved_binding to k m) N o.value r.operand) width
        (subst (StandsFor (moved_binding to k m) old.width o.value) operand (stands_for_then old.width o.value old.operand h.value));
  }

  -- each statement matches its instruction in the other function
  statement_then : (j : ℕ) (s : Statement) → slice_get rule.source j ≡ Some s → StatementMatches f' rule (moved_binding to k m) j s
  statement_then j s at =
      let h = is.statements j s at in
      let (q, stands, before) = there.bound j h.block h.place h.bound in
      let same : stands.inst ≡ h.inst = same_inst f h.block h.place stands.inst h.inst stands.was h.is_inst in
      let is_inst : IsInst f' h.block q (substituted_inst to h.inst) = subst (λ (i : Inst). IsInst f' h.block q (substituted_inst to i)) same stands.is in
      let flags : promises_of_inst h.inst.op ≡ promises_of_inst (substituted_op to h.inst.op) = same_promises to h.inst.op in
      record {
        block = h.block;
        place = q;
        inst = substituted_inst to h.inst;
        bound = bound_then j h.block h.place q h.bound stands;
        is_inst = is_inst;
        matches = record {
          root = λ last. root_then h.block h.place q (h.matches.root last) stands;
          operation = same_operation to s.op h.inst.op h.matches.operation;
          flags = subst (AreKept (promises_of_statement s.op)) flags h.matches.flags;
          no_more_flags = λ earlier reads. sym flags ∙ h.matches.no_more_flags earlier reads;
          width = h.matches.width;
          operands = λ i o r at_i is_read.
              let now : slice_get (reads_of f' h.block q h.inst.width (substituted_op to h.inst.op)) i ≡ Some r = ap (λ (l : List Read). slice_get l i) (sym (reads_at_inst f' h.block q (substituted_inst to h.inst) is_inst)) ∙ is_read in
              let was = was_read f f' to h.block h.place q h.inst.width s.op h.inst.op i r h.matches.operation now in
              let was_there : IsRead f h.block h.place i was.old = ap (λ (l : List Read). slice_get l i) (reads_at_inst f h.block h.place h.inst h.is_inst) ∙ was.is_read in
              operand_then o was.old r was.width was.operand (h.matches.operands i o was.old at_i was_there);
        };
      }
    where
      root_then : (d p q : ℕ) → (d ≡ m.block) × (p ≡ m.place) → StandsAt f f' to d p q → (d ≡ m.block) × (q ≡ k)
      root_then d p q root stands =
          let both : operands.Register (registers.Result d q) ≡ operands.Register (registers.Result m.block k) =
          sym stands.register ∙ ap (λ (n : ℕ). to (registers.Result d n)) root.1 ∙ ap (λ (c : ℕ). to (registers.Result c m.place)) root.0 ∙ there.root in
          let place : q ≡ k = cc in
          (root.0, place)

  one_use_then : (j : ℕ) (r : Register) → Contains rule.precondition (formulas.HasOneUse j) → slice_get (map (λ x. register_or x (to x)) m.statements) j ≡ Some r → IsUsedOnce f' r
  one_use_then j r asked at =
      let (old, was, now) = get_from_map (λ x. register_or x (to x)) m.statements j r at in
      let (s, is_statement) = some_at rule.source j (let within : j < length m.statements = slice_get_within m.statements j old was in omega (arith, within, is.statement_count)) in
      let bound = is.statements j s is_statement in
      let same : old ≡ registers.Result bound.block bound.place = same_Some old (registers.Result bound.block bound.place) (sym was ∙ bound.bound) in
      let (q, stands, before) = there.bound j bound.block bound.place bound.bound in
      let names_it : to old ≡ operands.Register (registers.Result bound.block q) = ap to same ∙ stands.register in
      let is_that : registers.Result bound.block q ≡ r = sym (ap (register_or old) names_it) ∙ now in
      there.uses old r (contains_at m.statements j old was) (names_it ∙ ap operands.Register is_that) (is.one_use j old asked was)

  -- temporaries are related to the root
  before_then : (j e p : ℕ) → suc j < length rule.source → slice_get (map (λ r. register_or r (to r)) m.statements) j ≡ Some (registers.Result e p) → Before' e p m.block k
  before_then j e p less at =
      let (s, is_statement) = some_at rule.source j (omega (arith, less)) in
      let h = is.statements j s is_statement in
      let (q, stands, before) = there.bound j h.block h.place h.bound in
      let same : registers.Result h.block q ≡ registers.Result e p = same_Some (registers.Result h.block q) (registers.Result e p) (sym (bound_then j h.block h.place q h.bound stands) ∙ at) in
      let block : h.block ≡ e = cc in
      let place : q ≡ p = cc in
      subst (λ (d : ℕ). Before' d p m.block k) block (subst (λ (n : ℕ). Before' h.block n m.block k) place (before (is.before j h.block h.place less h.bound)))

  -- what a register stands for is there, and the same is known of it
  gives_then : (r : Name) (y : Operand) → operand_for (moved_binding to k m) r ≡ Some y → (x : Operand) × (operand_for m r ≡ Some x) × (y ≡ substituted_operand to x)
  gives_then (names.Input i) y at = let (x, was, now) = get_from_map (substituted_operand to) m.inputs i y at in (x, was, sym now)
  gives_then (names.Source j) y at = of_statement (slice_get (map (λ r. register_or r (to r)) m.statements) j) refl at
    where
      of_statement : (o : Option Register) → slice_get (map (λ r. register_or r (to r)) m.statements) j ≡ o → option_map operands.Register o ≡ Some y
          → (x : Operand) × (option_map operands.Register (slice_get m.statements j) ≡ Some x) × (y ≡ substituted_operand to x)
      of_statement None is_o h = absurd (none-some y h)
      of_statement (Some new) is_o h =
          let (old, was, now) = get_from_map (λ x. register_or x (to x)) m.statements j new is_o in
          let (s, is_statement) = some_at rule.source j (let within : j < length m.statements = slice_get_within m.statements j old was in omega (arith, within, is.statement_count)) in
          let bound = is.statements j s is_statement in
          let same : old ≡ registers.Result bound.block bound.place = same_Some old (registers.Result bound.block bound.place) (sym was ∙ bound.bound) in
          let (q, stands, before) = there.bound j bound.block bound.place bound.bound in
          let names_it : to old ≡ operands.Register (registers.Result bound.block q) = ap to same ∙ stands.register in
          let is_that : registers.Result bound.block q ≡ new = sym (ap (register_or old) names_it) ∙ now in (
            operands.Register old,
            ap (option_map operands.Register) was,
            sym (same_Some (operands.Register new) y h) ∙ sym (ap operands.Register is_that) ∙ sym names_it,
          )
  gives_then (names.Target j) y at = absurd (none-some y at)

  as_much_then : KnowsAsMuch rule (known m.block m.place) (known' m.block k) m (moved_binding to k m)
  as_much_then r y asks at =
      let (x, was, is_y) = gives_then r y at in
      (x, was, there.bits r x asks was ∙ ap (known' m.block k) (sym is_y))

  match_then : MatchesWhere Before' known' f' m.block k rule (moved_binding to k m)
  match_then = record {
    block = refl;
    place = refl;
    reached = there.reached is.reached;
    statement_count = length-map m.statements (λ r. register_or r (to r)) ∙ is.statement_count;
    statements = statement_then;
    before = before_then;
    input_count = length-map m.inputs (substituted_operand to) ∙ is.input_count;
    no_undef = λ has.
        let (a, among, is_undef) = from_map (substituted_operand to) m.inputs operands.Undef has in
        is.no_undef (subst (Contains m.inputs) (was_undef to a definite is_undef) among);
    constant_count = is.constant_count;
    typing = is.typing;
    precondition = is.precondition;
    one_use = one_use_then;
    facts = λ formula among. facts_follow rule (known m.block m.place) (known' m.block k) m (moved_binding to k m) (λ a. refl) as_much_then formula among (is.facts formula among);
  }

pub matches_stay : (Before Before' : ℕ → ℕ → ℕ → ℕ → Type 0) (known known' : Knowledge) (f f' : Function) (to : Substitution) (rule : Rule) (m : Binding) (k : ℕ)
    → IsDefinite to → MatchesWhere Before known f m.block m.place rule m → StandsThere Before Before' known known' f f' to rule m k → MatchesWhere Before' known' f' m.block k rule (moved_binding to k m)
matches_stay Before Before' known known' f f' to rule m k definite is there = match_then Before Before' known known' f f' to rule m k definite is there
