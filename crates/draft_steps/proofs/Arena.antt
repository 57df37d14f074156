-- The matches in an arena are those in its function.
use Rattle.draft_steps.proofs.Common.{◌≡◌, inl, inr, ℕ, ◌<◌, List, length, get_or, Some, refl, sym, ap, subst, ◌∙◌, arith, ne_eqb, Contains, slice_get, cases_eq, get_or_from_slice_get, slice_get_within, MeetsChecks, IsInst, Read, reads_of, Function, Inst, Operand, Register, IsRule, Rule, substituted_inst, substituted_operand, IsUsedOnce, AsksBitsOf, Knowledge, known_in, operand_for, asked_before_root, no_phi, IsMatch, MatchesInAnyOrder, in_any_order, Binding, reads_at_inst, moved_binding, matches_stay, placed, AreArranged, KnowsTheFunction, arranged, row_of, Bool, false, true, ◌⊎◌, HasInst, IsAssigned, IsReached, IsRead, IsInScope, IsSameOperation, named_assigned, before_in_block, assignment_transitive, not_both_assigned}
use Rattle.rule_core.specs.declared.rule.Op.{Op as RuleOp}
use Rattle.rule_core.specs.declared.rule.Register.{Register as Name}
use Rattle.ir_core.specs.declared.operand.Operand.TheVariants as operands
use Rattle.ir_core.specs.declared.operand.Register.TheVariants as registers
use Rattle.ir_meaning.proofs.Pieces.{contains_at, place_in as place_of, some_at}
use Rattle.moved_matches.specs.Moved.{StandsAt}
use Rattle.places.specs.Orders.{place_in}
use Rattle.draft_steps.proofs.Back.{inst_back, numbered}
use Rattle.draft_steps.proofs.Places.{IsStanding, inst_on, inst_was, placed-is, placed_register, reached_back, reached_on, used_once_back, used_once_on}
use Rattle.draft_steps.proofs.Positions.{assigned_up}
use Rattle.draft_steps.proofs.Rooted.{bound_inst, bound_there, each_come, named_read}

never_undef : (rows : List (List ℕ)) (r : Register) → placed rows r ≡ operands.Undef → ⊥
never_undef rows (registers.Parameter p) is = absurd cc
never_undef rows (registers.Result b n) is = absurd cc

numbered_definite : (rows : List (List ℕ)) (r : Register) → numbered rows r ≡ operands.Undef → ⊥
numbered_definite rows (registers.Parameter p) is = absurd cc
numbered_definite rows (registers.Result b n) is = absurd cc

same_register : (r s : Register) → operands.Register r ≡ operands.Register s → r ≡ s
same_register r s is = cc

-- the scope of an instruction is by its block alone
scope_moved : (across : Bool) (d p q b k l : ℕ) → IsInScope across d p b k → IsInScope across d q b l
scope_moved false d p q b k l scope = scope
scope_moved true d p q b k l scope = tt

-- nothing is known of results of other blocks
known_elsewhere : (f : Function) (b k c p q : ℕ) → ¬ (c ≡ b) → known_in f b k (operands.Register (registers.Result c p)) ≡ known_in f b k (operands.Register (registers.Result c q))
known_elsewhere f b k c p q other = rw (ne_eqb c b other) refl

module _ (across : Bool) (known : Knowledge) (arena : Function) (rows : List (List ℕ)) (are : AreArranged arena rows) (checks : MeetsChecks (arranged arena rows))
    (rule : Rule) (m : Binding) (good : IsRule rule) where
  abbrev F : Function
  F = arranged arena rows

  abbrev row : List ℕ
  row = row_of rows m.block

  -- ---- from the arena to the function

  module _ (is : MatchesInAnyOrder across known arena m.block m.place rule m) (stands : Contains (row_of rows m.block) m.place)
      (knows : (name : Name) → AsksBitsOf rule name → KnowsTheFunction arena rows known m.block m.place) where
    abbrev root_at : ℕ
    root_at = place_in (row_of rows m.block) m.place

    -- the root, or a result that is assigned at its position
    abbrev IsAtRoot : ℕ → ℕ → Type 0
    IsAtRoot d q = ((d ≡ m.block) × (q ≡ m.place)) ⊎ IsAssigned F (registers.Result d (place_in (row_of rows d) q)) m.block root_at

    -- what is assigned at such an instruction is so at the root
    and_at_root : (reg : Register) (d q : ℕ) → IsAssigned F reg d (place_in (row_of rows d) q) → IsAtRoot d q → IsAssigned F reg m.block root_at
    and_at_root reg d q assigned (inl here) = subst (λ (c : ℕ). IsAssigned F reg c (place_in (row_of rows c) m.place)) here.0 (subst (λ (n : ℕ). IsAssigned F reg d (place_in (row_of rows d) n)) here.1 assigned)
    and_at_root reg d q assigned (inr behind) = assignment_transitive F reg d (place_in (row_of rows d) q) m.block root_at assigned behind

    -- what an instruction reads that stands and is assigned at the root, or is the root
    read_too : (d q e p i : ℕ) (s : RuleOp) (inst : Inst) (r : Read) → Contains (row_of rows d) q × IsAtRoot d q → IsInst arena d q inst → IsSameOperation s inst.op → IsRead arena d q i r
        → r.operand ≡ operands.Register (registers.Result e p) → Contains (row_of rows e) p × IsAssigned F (registers.Result e (place_in (row_of rows e) p)) m.block root_at
    read_too d q e p i s inst r g is_inst same is_read reads =
        let up = assigned_up arena rows are checks d q i e p inst r (no_phi s inst.op same) g.0 is_inst is_read reads in
        (up.0, and_at_root (registers.Result e (place_in (row_of rows e) p)) d q up.1 g.1)

    -- the instruction that a statement is bound to stands, and its result is assigned at the root's position
    each_stands : (j d p : ℕ) → slice_get m.statements j ≡ Some (registers.Result d p) → Contains (row_of rows d) p × IsAtRoot d p
    each_stands j d p at =
        (each_come across arena rule m good is (λ t c q. Contains (row_of rows c) q × IsAtRoot c q) (stands, inl (refl, refl))
        (λ t c q e n i s inst r less g is_inst same is_read reads scope. let up = read_too c q e n i s inst r g is_inst same is_read reads in (up.0, inr up.1)) j d p at).2

    reached_there : IsReached F m.block
    reached_there = reached_on arena rows are m.block is.reached

    root_there : HasInst F m.block root_at
    root_there =
        let (block, is_block, within) = are.there m.block m.place stands in
        let (inst, is_inst) = some_at block.insts m.place within in
        let there : IsInst F m.block root_at (substituted_inst (placed rows) inst) = inst_on arena rows are m.block m.place inst stands (record { block = block; is_block = is_block; is_inst = is_inst }) in
        (there.block, there.is_block, slice_get_within there.block.insts root_at (substituted_inst (placed rows) inst) there.is_inst)

    -- so what it names that is a result of the block stands before the root
    named_before : (name : Name) (x : Operand) → AsksBitsOf rule name → operand_for m name ≡ Some x → (p : ℕ) → x ≡ operands.Register (registers.Result m.block p)
        → Contains row p × (place_in row p < place_in row m.place)
    named_before name x asks at p is_x =
        let by = named_read arena rule m good is name x (asked_before_root rule name good asks) at in
        let reader = each_stands by.i by.matched.block by.matched.place by.matched.bound in
        let up = read_too by.matched.block by.matched.place m.block p by.n by.s.op by.matched.inst by.r reader by.matched.is_inst by.matched.matches.operation by.is_read_there (by.reads ∙ is_x) in
        (up.0, before_in_block not_both_assigned F m.block (place_in row p) root_at reached_there root_there up.1)

    pub placed_match : MatchesInAnyOrder across (known_in F) F m.block (place_in (row_of rows m.block) m.place) rule (moved_binding (placed rows) (place_in (row_of rows m.block) m.place) m)
    placed_match = matches_stay (IsInScope across) (IsInScope across) known (known_in F) arena F (placed rows) rule m (place_in (row_of rows m.block) m.place) (never_undef rows) is (record {
      reached = reached_on arena rows are m.block;
      root = refl;
      bound = λ j d p at.
          let has : Contains (row_of rows d) p = (each_stands j d p at).0 in
          let (inst, is_inst) = bound_inst arena rule m good is j d p at in
          let there : StandsAt arena F (placed rows) d p (place_in (row_of rows d) p) = record {
            inst = inst;
            was = is_inst;
            is = inst_on arena rows are d p inst has is_inst;
            register = refl;
          } in
          (place_in (row_of rows d) p, there, scope_moved across d p (place_in (row_of rows d) p) m.block m.place (place_in (row_of rows m.block) m.place));
      uses = λ r s among names once.
          let (j, at) = place_of m.statements r among in
          let (d, p, is_r, at_p) = bound_there arena rule m good is j r at in
          let standing : IsStanding rows r = subst (IsStanding rows) (sym is_r) (each_stands j d p at_p).0 in
          let same : placed_register rows r ≡ s = same_register (placed_register rows r) s (sym (placed-is rows r) ∙ names) in
          subst (IsUsedOnce F) same (used_once_on arena rows are r standing once);
      bits = λ name x asks at. knows name asks x (named_before name x asks at);
    })

  -- ---- and back

  module _ (n : ℕ) (in_order : IsMatch across F m.block m.place rule m) (at_root : slice_get (row_of rows m.block) m.place ≡ Some n)
      (knows : (name : Name) → AsksBitsOf rule name → KnowsTheFunction arena rows known m.block n) where
    is : MatchesInAnyOrder across (known_in F) F m.block m.place rule m
    is = in_any_order across F m.block m.place rule m in_order

    root_place : place_in row n ≡ m.place
    root_place = are.once m.block m.place n at_root

    root_here : HasInst F m.block m.place
    root_here =
        let has : Contains row n = contains_at row m.place n at_root in
        let (block, is_block, within) = are.there m.block n has in
        let (inst, is_inst) = some_at block.insts n within in
        let there : IsInst F m.block m.place (substituted_inst (placed rows) inst) =
        subst (λ (k : ℕ). IsInst F m.block k (substituted_inst (placed rows) inst)) root_place (inst_on arena rows are m.block n inst has (record { block = block; is_block = is_block; is_inst = is_inst })) in
        (there.block, there.is_block, slice_get_within there.block.insts m.place (substituted_inst (placed rows) inst) there.is_inst)

    -- what the match names that is a result of the block is one at a position before the root
    named_position : (name : Name) (x : Operand) → AsksBitsOf rule name → operand_for m name ≡ Some x → (p : ℕ) → x ≡ operands.Register (registers.Result m.block p)
        → (d : ℕ) × (slice_get row p ≡ Some d) × (p < m.place)
    named_position name x asks at p is_x =
        let assigned : IsAssigned F (registers.Result m.block p) m.block m.place = named_assigned assignment_transitive F m.block m.place rule m checks good is name (registers.Result m.block p) (asked_before_root rule name good asks) (at ∙ ap (λ (y : Operand). Some y) is_x) in
        let before : p < m.place = before_in_block not_both_assigned F m.block p m.place is.reached root_here assigned in
        let within : m.place < length row = slice_get_within row m.place n at_root in
        let (d, at_p) = some_at row p (omega arith) in
        (d, at_p, before)

    known_there : (name : Name) (x : Operand) → AsksBitsOf rule name → operand_for m name ≡ Some x → known_in F m.block m.place x ≡ known m.block n (substituted_operand (numbered rows) x)
    known_there name x asks at =
        subst (λ p. known_in F m.block p x ≡ known m.block n (substituted_operand (numbered rows) x)) root_place
        (sym (knows name asks (substituted_operand (numbered rows) x) (before x at) ∙ (given_back x at)))
      where
        before : (x : Operand) → operand_for m name ≡ Some x → (d : ℕ) → substituted_operand (numbered rows) x ≡ operands.Register (registers.Result m.block d)
            → Contains row d × (place_in row d < place_in row n)
        before (operands.Register (registers.Result c p)) at d is_d =
            let block : c ≡ m.block = cc in
            let (e, at_p, less) = named_position name (operands.Register (registers.Result c p)) asks at p (ap (λ (a : ℕ). operands.Register (registers.Result a p)) block) in
            let number : get_or (row_of rows c) p 0 ≡ d = cc in
            let same : e ≡ d = sym (get_or_from_slice_get row p e 0 at_p) ∙ ap (λ (a : ℕ). get_or (row_of rows a) p 0) (sym block) ∙ number in
            let there : slice_get row p ≡ Some d = at_p ∙ ap (λ a. Some a) same in
            (contains_at row p d there, omega (arith, less, are.once m.block p d there, root_place))
        before (operands.Register (registers.Parameter p)) at d is_d = absurd cc
        before (operands.Number a) at d is_d = absurd cc
        before operands.Undef at d is_d = absurd cc
        before operands.Poison at d is_d = absurd cc

        given_back : (x : Operand) → operand_for m name ≡ Some x
            → known_in F m.block (place_in row n) (substituted_operand (placed rows) (substituted_operand (numbered rows) x)) ≡ known_in F m.block (place_in row n) x
        given_back (operands.Register (registers.Result c p)) at = elim (cases_eq c m.block) [
          | inl block ↦
              let (e, at_p, less) = named_position name (operands.Register (registers.Result c p)) asks at p (ap (λ (a : ℕ). operands.Register (registers.Result a p)) block) in
              let there : get_or (row_of rows c) p 0 ≡ e = ap (λ (a : ℕ). get_or (row_of rows a) p 0) block ∙ get_or_from_slice_get row p e 0 at_p in
              let back : place_in (row_of rows c) (get_or (row_of rows c) p 0) ≡ p = ap (place_in (row_of rows c)) there ∙ ap (λ (a : ℕ). place_in (row_of rows a) e) block ∙ are.once m.block p e at_p in
              ap (λ (q : ℕ). known_in F m.block (place_in row n) (operands.Register (registers.Result c q))) back
          | inr other ↦ known_elsewhere F m.block (place_in row n) c (place_in (row_of rows c) (get_or (row_of rows c) p 0)) p other
        ]
        given_back (operands.Register (registers.Parameter p)) at = refl
        given_back (operands.Number a) at = refl
        given_back operands.Undef at = refl
        given_back operands.Poison at = refl

    -- an instruction of the arena reads only results of instructions that stand
    reads_stand : (b k : ℕ) (inst : Inst) → IsInst arena b k inst → (i : ℕ) (r : Read) → slice_get (reads_of arena b k inst.width inst.op) i ≡ Some r → (s : Register) → r.operand ≡ operands.Register s → IsStanding rows s
    reads_stand b k inst is_inst i r at (registers.Parameter p) reads = tt
    reads_stand b k inst is_inst i r at (registers.Result c d) reads =
        are.read_stands b k i c d r (ap (λ (l : List Read). slice_get l i) (reads_at_inst arena b k inst is_inst) ∙ at) reads

    number_of : (c q d : ℕ) → slice_get (row_of rows c) q ≡ Some d → numbered rows (registers.Result c q) ≡ operands.Register (registers.Result c d)
    number_of c q d at = ap (λ (k : ℕ). operands.Register (registers.Result c k)) (get_or_from_slice_get (row_of rows c) q d 0 at)

    -- a statement is bound to the position of an instruction of the arena
    record AtNumber (c q : ℕ) : Type 0 where
      number : ℕ
      at_place : slice_get (row_of rows c) q ≡ Some number
      stands_at : StandsAt F arena (numbered rows) c q number

    numbered_there : (j c q : ℕ) → slice_get m.statements j ≡ Some (registers.Result c q) → AtNumber c q
    numbered_there j c q at =
        let (new, is_new) = bound_inst F rule m good is j c q at in
        let was = inst_was arena rows are c q new is_new in
        let given_back : substituted_inst (numbered rows) new ≡ was.inst =
        ap (substituted_inst (numbered rows)) (sym was.same) ∙ inst_back rows arena c was.n was.inst (reads_stand c was.n was.inst was.is_inst) in
        record {
          number = was.n;
          at_place = was.number;
          stands_at = record {
            inst = new;
            was = is_new;
            is = subst (IsInst arena c was.n) (sym given_back) was.is_inst;
            register = number_of c q was.n was.number;
          };
        }

    pub numbered_match : MatchesInAnyOrder across known arena m.block n rule (moved_binding (numbered rows) n m)
    numbered_match = matches_stay (IsInScope across) (IsInScope across) (known_in F) known F arena (numbered rows) rule m n (numbered_definite rows) is (record {
      reached = reached_back arena rows are m.block;
      root = number_of m.block m.place n at_root;
      bound = λ j c q at. let there = numbered_there j c q at in (there.number, there.stands_at, scope_moved across c q there.number m.block m.place n);
      uses = λ r s among names once.
          let (j, at) = place_of m.statements r among in
          let (c, q, is_r, at_q) = bound_there F rule m good is j r at in
          let there = numbered_there j c q at_q in
          let d : ℕ = there.number in
          let same : s ≡ registers.Result c d = same_register s (registers.Result c d) (sym names ∙ ap (numbered rows) is_r ∙ number_of c q d there.at_place) in
          let here : placed_register rows (registers.Result c d) ≡ registers.Result c q = ap (λ (k : ℕ). registers.Result c k) (are.once c q d there.at_place) in
          let once_there : IsUsedOnce F (placed_register rows (registers.Result c d)) = subst (IsUsedOnce F) (is_r ∙ sym here) once in
          subst (IsUsedOnce arena) (sym same) (used_once_back arena rows are (registers.Result c d) (contains_at (row_of rows c) q d there.at_place) once_there);
      bits = known_there;
    })
