-- Where the statements of matches at an instruction are bound to untouched ones, the matches are those that were there,
-- but perhaps for some whose rule asks for a register with one use. What a rule asks of bits is of operands that are
-- untouched too.
use Rattle.draft_steps.proofs.Common.{◌≡◌, ◌⊎◌, inl, inr, ℕ, suc, ◌<◌, ◌≤◌, List, [], ◌∷◌, length, get_or, None, Some, refl, sym, ap, subst, ◌∙◌, arith, Bool, false, true, Contains, slice_get, All-contains, Contains-get_or, none-some, same_Some, slice_get_cases, IsInst, Read, IsRead, IsReached, Function, Inst, Register, cases_in, later_in, first_in, not_in_empty, Formula, Rule, IsUsedOnce, IsInScope, MatchesInAnyOrder, in_scope, IsSameOperation, Binding, reads_at_inst, same_inst, Match, AreMatchesInAnyOrder, IsAt, IsMatchInAnyOrder, AreReady, ◌+◌, Operand, AskBits, AsksBitsOf, Knowledge, asked_before_root, operand_for}
use Rattle.rule_core.specs.declared.rule.Register.{Register as Name}
use Rattle.ir_core.specs.declared.operand.Operand.TheVariants as operands
use Rattle.ir_core.specs.declared.operand.Register.TheVariants as registers
use Rattle.rule_core.specs.declared.rule.Formula.TheVariants as formulas
use Rattle.rule_core.specs.declared.rule.Op.{Op as RuleOp}
use Rattle.bindings.specs.Matches.{ComesBefore}
use Rattle.draft_steps.proofs.Filtered.{Filtered, filtered}
use Rattle.draft_steps.proofs.Rooted.{bound_there, each_come, named_read}
use Rattle.draft_steps.proofs.Same.{match_too, same_reads}

-- the instruction is the same in both functions, and has exactly one use in the new one only where it has in the old
-- one
pub record IsSameInst (old new : Function) (b p : ℕ) : Type 0 where
  pub inst : Inst
  pub was : IsInst old b p inst
  pub is : IsInst new b p inst
  pub once : IsUsedOnce new (registers.Result b p) → IsUsedOnce old (registers.Result b p)

-- what stands in the block of a root is in scope of what the root names
of_root : (across : Bool) (b c p q d k : ℕ) → d ≡ b → IsInScope across c p d k → IsInScope across b q c p
of_root false b c p q d k same scope = sym same ∙ sym scope
of_root true b c p q d k same scope = tt

module _ (across : Bool) (was now : Knowledge) (rules : List Rule) (ready : AreReady rules) (old new : Function) (b n depth : ℕ)
    (few : (r : ℕ) (rule : Rule) → slice_get rules r ≡ Some rule → (length rule.source ≤ suc depth) × ((name : Name) → AsksBitsOf rule name → length rule.source ≤ depth))
    (reached_on : IsReached old b → IsReached new b) (reached_back : IsReached new b → IsReached old b)
    (G : ℕ → ℕ → ℕ → Type 0) (root : G 0 b n)
    (more : (t c p e q i : ℕ) (r : Read) → t < depth → G t c p → IsRead new c p i r → r.operand ≡ operands.Register (registers.Result e q) → IsInScope across e q c p → G (suc t) e q)
    (same : (t c p : ℕ) → t ≤ depth → G t c p → IsSameInst old new c p)
    (once_or_not : (c p : ℕ) → IsUsedOnce new (registers.Result c p) ⊎ ¬ IsUsedOnce new (registers.Result c p))
    (bits : AskBits rules → IsReached new b → (x : Operand) → ((p : ℕ) → x ≡ operands.Register (registers.Result b p) → (t : ℕ) × (t ≤ depth) × G t b p) → was b n x ≡ now b n x) where
  -- the instructions that statements are bound to are the same
  module _ (m : Match) (of : IsAt b n m) (rule : Rule) (at_rule : slice_get rules m.rule ≡ Some rule) where
    abbrev x : Binding
    x = m.binding

    root_here : G 0 x.block x.place
    root_here = subst (λ (c : ℕ). G 0 c x.place) (sym of.0) (subst (G 0 b) (sym of.1) root)

    abbrev Bound : ℕ → ℕ → ℕ → Type 0
    Bound j c p = slice_get x.statements j ≡ Some (registers.Result c p)

    -- for a match in the new function
    module _ (is : MatchesInAnyOrder across now new x.block x.place rule x) where
      now_comes : (j c p : ℕ) → Bound j c p → (t : ℕ) × (t + suc j ≤ length rule.source) × G t c p
      now_comes j c p at =
          each_come across new rule x (ready m.rule rule at_rule).checks is G root_here (λ t c p e q i s inst r less g is_inst operation is_read reads scope.
          more t c p e q i r (let most = (few m.rule rule at_rule).0 in omega (arith, most, less)) g is_read reads scope) j c p at

      now_same : (j c p : ℕ) → Bound j c p → IsSameInst old new c p
      now_same j c p at =
          let (t, near, g) = now_comes j c p at in
          same t c p (let most = (few m.rule rule at_rule).0 in omega (arith, most, near)) g

      -- what it names is read one further from the root
      now_named : (name : Name) (y : Operand) → AsksBitsOf rule name → operand_for x name ≡ Some y → (p : ℕ) → y ≡ operands.Register (registers.Result b p) → (t : ℕ) × (t ≤ depth) × G t b p
      now_named name y asks at p is_y =
          let good = (ready m.rule rule at_rule).checks in
          let by = named_read new rule x good is name y (asked_before_root rule name good asks) at in
          let (t, near, g) = now_comes by.i by.matched.block by.matched.place by.matched.bound in
          let most : length rule.source ≤ depth = (few m.rule rule at_rule).1 name asks in
          let scope = of_root across b by.matched.block by.matched.place p x.block x.place of.0 (in_scope across new x.block x.place rule x is by.i by.matched.block by.matched.place by.matched.bound) in
          (suc t, omega (arith, most, near), more t by.matched.block by.matched.place b p by.n by.r (omega (arith, most, near)) g by.is_read_there (by.reads ∙ is_y) scope)

      now_known : (name : Name) (y : Operand) → AsksBitsOf rule name → operand_for x name ≡ Some y → now x.block x.place y ≡ was x.block x.place y
      now_known name y asks at =
          let here : was b n y ≡ now b n y = bits (m.rule, rule, name, at_rule, asks) (subst (IsReached new) of.0 is.reached) y (now_named name y asks at) in
          rw (of.0, of.1) (sym here)

      pub was_there : MatchesInAnyOrder across was old x.block x.place rule x
      was_there = match_too now was new old x.block x.place rule x is
          (λ j c p inst at is_inst.
          let u = now_same j c p at in
          subst (IsInst old c p) (same_inst new c p u.inst inst u.is is_inst) u.was)
          (subst (λ (c : ℕ). IsReached new c → IsReached old c) (sym of.0) reached_back)
          (λ j r asked at.
          let (c, p, is_r, bound) = bound_there new rule x (ready m.rule rule at_rule).checks is j r at in
          let once : IsUsedOnce new (registers.Result c p) = subst (IsUsedOnce new) is_r (is.one_use j r asked at) in
          subst (IsUsedOnce old) (sym is_r) ((now_same j c p bound).once once))
          now_known

    -- for a match in the old one
    module _ (is : MatchesInAnyOrder across was old x.block x.place rule x) where
      step : (t c p e q i : ℕ) (s : RuleOp) (inst : Inst) (r : Read) → t < depth → G t c p → IsInst old c p inst → IsSameOperation s inst.op → IsRead old c p i r
          → r.operand ≡ operands.Register (registers.Result e q) → IsInScope across e q c p → G (suc t) e q
      step t c p e q i s inst r less g is_inst operation is_read reads scope =
          let u = same t c p (omega (arith, less)) g in
          let after : IsInst new c p inst = subst (IsInst new c p) (same_inst old c p u.inst inst u.was is_inst) u.is in
          let read_new : IsRead new c p i r =
          ap (λ (l : List Read). slice_get l i) (reads_at_inst new c p inst after ∙ sym (same_reads old new c p inst.width s inst.op operation) ∙ sym (reads_at_inst old c p inst is_inst)) ∙ is_read in
          more t c p e q i r less g read_new reads scope

      then_comes : (j c p : ℕ) → Bound j c p → (t : ℕ) × (t + suc j ≤ length rule.source) × G t c p
      then_comes j c p at =
          each_come across old rule x (ready m.rule rule at_rule).checks is G root_here (λ t c p e q i s inst r less g is_inst operation is_read reads scope.
          step t c p e q i s inst r (let most = (few m.rule rule at_rule).0 in omega (arith, most, less)) g is_inst operation is_read reads scope) j c p at

      then_same : (j c p : ℕ) → Bound j c p → IsSameInst old new c p
      then_same j c p at =
          let (t, near, g) = then_comes j c p at in
          same t c p (let most = (few m.rule rule at_rule).0 in omega (arith, most, near)) g

      then_named : (name : Name) (y : Operand) → AsksBitsOf rule name → operand_for x name ≡ Some y → (p : ℕ) → y ≡ operands.Register (registers.Result b p) → (t : ℕ) × (t ≤ depth) × G t b p
      then_named name y asks at p is_y =
          let good = (ready m.rule rule at_rule).checks in
          let by = named_read old rule x good is name y (asked_before_root rule name good asks) at in
          let (t, near, g) = then_comes by.i by.matched.block by.matched.place by.matched.bound in
          let most : length rule.source ≤ depth = (few m.rule rule at_rule).1 name asks in
          let scope = of_root across b by.matched.block by.matched.place p x.block x.place of.0 (in_scope across old x.block x.place rule x is by.i by.matched.block by.matched.place by.matched.bound) in
          (suc t, omega (arith, most, near), step t by.matched.block by.matched.place b p by.n by.s.op by.matched.inst by.r (omega (arith, most, near)) g by.matched.is_inst by.matched.matches.operation by.is_read_there (by.reads ∙ is_y) scope)

      then_known : (name : Name) (y : Operand) → AsksBitsOf rule name → operand_for x name ≡ Some y → was x.block x.place y ≡ now x.block x.place y
      then_known name y asks at =
          let here : was b n y ≡ now b n y = bits (m.rule, rule, name, at_rule, asks) (subst (IsReached new) of.0 (subst (λ (c : ℕ). IsReached old c → IsReached new c) (sym of.0) reached_on is.reached)) y (then_named name y asks at) in
          rw (of.0, of.1) here

      -- the registers of which these formulas ask for one use have exactly one
      abbrev AreUsedOnce : List Formula → Type 0
      AreUsedOnce asked = (j : ℕ) (r : Register) → Contains asked (formulas.HasOneUse j) → slice_get x.statements j ≡ Some r → IsUsedOnce new r

      abbrev IsOneUse : Formula → Type 0
      IsOneUse formula = (j : ℕ) (r : Register) → formula ≡ formulas.HasOneUse j → slice_get x.statements j ≡ Some r → IsUsedOnce new r

      register_or_not : (j : ℕ) (r : Register) → slice_get x.statements j ≡ Some r → IsUsedOnce new r ⊎ ¬ IsUsedOnce new r
      register_or_not j r at =
          let (c, p, is_r, bound) = bound_there old rule x (ready m.rule rule at_rule).checks is j r at in
          subst (λ (s : Register). IsUsedOnce new s ⊎ ¬ IsUsedOnce new s) (sym is_r) (once_or_not c p)

      statement_or_not : (j : ℕ) → IsOneUse (formulas.HasOneUse j) ⊎ ¬ IsOneUse (formulas.HasOneUse j)
      statement_or_not j = elim (slice_get_cases x.statements j).1 [
        | inr (past, none) ↦ inl (λ i r same_j at. absurd (nothing i r same_j at none))
        | inl (r, within, at, got) ↦ elim (register_or_not j r at) [
          | inl once ↦ inl (λ i s same_j at_s. subst (IsUsedOnce new) (same_register i s r same_j at_s at) once)
          | inr other ↦ inr (λ all. other (all j r refl at))
        ]
      ]
        where
          same_place : (i : ℕ) → formulas.HasOneUse j ≡ formulas.HasOneUse i → j ≡ i
          same_place i same_j = cc

          same_register : (i : ℕ) (s r : Register) → formulas.HasOneUse j ≡ formulas.HasOneUse i → slice_get x.statements i ≡ Some s → slice_get x.statements j ≡ Some r → r ≡ s
          same_register i s r same_j at_s at = same_Some r s (sym at ∙ ap (slice_get x.statements) (same_place i same_j) ∙ at_s)

          nothing : (i : ℕ) (r : Register) → formulas.HasOneUse j ≡ formulas.HasOneUse i → slice_get x.statements i ≡ Some r → slice_get x.statements j ≡ None → ⊥
          nothing i r same_j at none = none-some r (sym none ∙ ap (slice_get x.statements) (same_place i same_j) ∙ at)

      formula_or_not : (formula : Formula) → IsOneUse formula ⊎ ¬ IsOneUse formula
      formula_or_not (formulas.HasOneUse j) = statement_or_not j
      formula_or_not formula = inl (λ j r is_that at. absurd cc)

      formulas_or_not : (asked : List Formula) → AreUsedOnce asked ⊎ ¬ AreUsedOnce asked
      formulas_or_not [] = inl (λ j r has at. absurd (not_in_empty (formulas.HasOneUse j) has))
      formulas_or_not (formula ∷ asked) = elim (formula_or_not formula) [
        | inr other ↦ inr (λ all. other (λ j r is_that at. all j r (subst (Contains (formula ∷ asked)) is_that (first_in formula asked)) at))
        | inl one ↦ elim (formulas_or_not asked) [
          | inr other ↦ inr (λ all. other (λ j r has at. all j r (later_in formula asked (formulas.HasOneUse j) has) at))
          | inl others ↦ inl (λ j r has at. elim (cases_in formula asked (formulas.HasOneUse j) has) [
            | inl is_that ↦ one j r is_that at
            | inr later ↦ others j r later at
          ])
        ]
      ]

      is_there : AreUsedOnce rule.precondition → MatchesInAnyOrder across now new x.block x.place rule x
      is_there uses = match_too was now old new x.block x.place rule x is
          (λ j c p inst at is_inst.
          let u = then_same j c p at in
          subst (IsInst new c p) (same_inst old c p u.inst inst u.was is_inst) u.is)
          (subst (λ (c : ℕ). IsReached old c → IsReached new c) (sym of.0) reached_on)
          uses
          then_known

      pub there_or_not : MatchesInAnyOrder across now new x.block x.place rule x ⊎ ¬ MatchesInAnyOrder across now new x.block x.place rule x
      there_or_not = elim (formulas_or_not rule.precondition) [
        | inl uses ↦ inl (is_there uses)
        | inr other ↦ inr (λ there. other there.one_use)
      ]

  -- ---- the matches at the instruction

  match_was : (m : Match) → IsAt b n m → IsMatchInAnyOrder across now rules new m → IsMatchInAnyOrder across was rules old m
  match_was m of is = record { rule = is.rule; is_rule = is.is_rule; matches = was_there m of is.rule is.is_rule is.matches }

  match_or_not : (m : Match) → IsAt b n m → IsMatchInAnyOrder across was rules old m → IsMatchInAnyOrder across now rules new m ⊎ ¬ IsMatchInAnyOrder across now rules new m
  match_or_not m of is = elim (there_or_not m of is.rule is.is_rule is.matches) [
    | inl there ↦ inl (record { rule = is.rule; is_rule = is.is_rule; matches = there })
    | inr other ↦ inr (λ there. other (subst (λ (r : Rule). MatchesInAnyOrder across now new m.binding.block m.binding.place r m.binding) (same_Some there.rule is.rule (sym there.is_rule ∙ is.is_rule)) there.matches))
  ]

  pub record StillThere (ms : List Match) : Type 0 where
    pub matches : List Match
    pub are : AreMatchesInAnyOrder across now rules new (IsAt b n) matches
    pub were : (m : Match) → Contains matches m → Contains ms m

  pub still_there : (ms : List Match) → AreMatchesInAnyOrder across was rules old (IsAt b n) ms → StillThere ms
  still_there ms found =
      let each : (m : Match) → Contains ms m → IsMatchInAnyOrder across was rules old m × IsAt b n m = λ m has. All-contains (λ y. IsMatchInAnyOrder across was rules old y × IsAt b n y) ms m found.each has in
      let rest : Filtered (IsMatchInAnyOrder across now rules new) ComesBefore ms = filtered (IsMatchInAnyOrder across now rules new) ComesBefore ms (λ m has. let h = each m has in match_or_not m h.1 h.0) in
      record {
        matches = rest.kept;
        are = record {
          each = λ i d lt. let h = rest.each (get_or rest.kept i d) (Contains-get_or rest.kept i d lt) in (h.1, (each (get_or rest.kept i d) h.0).1);
          all = λ m is of. rest.all m (found.all m (match_was m of is) of) is;
          in_order = rest.in_order found.in_order;
        };
        were = λ m has. (rest.each m has).0;
      }
