-- A generated function meets its checks.
use Rattle.load_gen.proofs.Common.{◌≡◌, ℕ, zero, suc, ◌+◌, ◌^◌, ◌<◌, ◌≤◌, List, [], ◌∷◌, length, None, Some, refl, sym, ap, subst, ◌∙◌, arith, inl, inr, map, All, Contains, IsSome, IfSome, slice_get, All-from_recursion, same_Some, Number, Block, Function, Inst, Phi, Operand, ReadIsAssigned, IsBlock, Names, IsInst, IsKnown, OperandHasWidth, IsTyped, CasesFit, IsPhi, EntriesFit, IsFormed, MeetsChecks, Read, IsRead, next_state, drawn, number, a, in_loop, listed, drawn_inst, state_after, width, loop_insts, blocks, function}
use Rattle.ir_core.specs.declared.operand.Operand.TheVariants as operands
use Rattle.load_gen.proofs.ListPlaces.{first_in, later_in, among_two}
use Rattle.load_gen.proofs.DrawnOps.{IsOn, operation_is}
use Rattle.load_gen.proofs.InstPlaces.{HoldsInLoop, each_place, loop_length}
use Rattle.load_gen.proofs.RightReads.{Right, IsRight, names_cases, read_right}
use Rattle.load_gen.proofs.NamesApart.{names_differ}

-- ---- an operand that is `Right` is known, has its width, is assigned, and fits

known : (f : Function) (W b k : ℕ) (x : Operand) → Right f W b k x → IsKnown f x
known f W b k (operands.Register r) right = subst IsSome (sym right.0) refl
known f W b k (operands.Number n) right = tt
known f W b k operands.Undef right = tt
known f W b k operands.Poison right = tt

has_width : (f : Function) (W b k : ℕ) (x : Operand) → Right f W b k x → OperandHasWidth f W x
has_width f W b k (operands.Register r) right = right.0
has_width f W b k (operands.Number n) right = right.0
has_width f W b k operands.Undef right = tt
has_width f W b k operands.Poison right = tt

assigned : (f : Function) (r : Read) → IsRight f r → ReadIsAssigned f r
assigned f r right register is = (subst (Right f r.width r.block r.place) is right).1

pub number_fits : (s J c k i : ℕ) (r : Read) (n : Number)
    → IsRead (function s J) c k i r → r.operand ≡ operands.Number n → n.number < 2 ^ n.width
number_fits s J c k i r n is reads = (subst (Right (function s J) r.width r.block r.place) reads (read_right s J c k i r is)).1

-- ---- instructions

pub twenty : (s J : ℕ) → map (λ block. length block.insts) (function s J).blocks ≡ 0 ∷ 20 ∷ 0 ∷ []
unfolding function blocks
twenty s J = ap (λ n. 0 ∷ n ∷ 0 ∷ []) (loop_length (width s) (next_state s))

pub small : (s J : ℕ) → (length (function s J).blocks ≡ 3) × All (λ block. length block.insts ≤ 20) (function s J).blocks
unfolding function blocks
small s J =
    let P : Block → Type 0 = λ block. length block.insts ≤ 20 in
    let none : 0 ≤ 20 = omega arith in
    let long = loop_length (width s) (next_state s) in
    let most : length (loop_insts (width s) (next_state s)) ≤ 20 = omega arith in
    (refl, All-from_recursion P (function s J).blocks (none, (most, (none, tt))))

module _ (s J : ℕ) where
  abbrev f : Function
  f = function s J

  abbrev W : ℕ
  W = width s

  abbrev t : ℕ
  t = next_state s

  inst_of_block : (c k : ℕ) (inst : Inst) (block : Block) → IsBlock f c block → IsInst f c k inst → slice_get block.insts k ≡ Some inst
  inst_of_block c k inst block at is = ap (λ (x : Block). slice_get x.insts k) (same_Some block is.block (sym at ∙ is.is_block)) ∙ is.is_inst

  -- a predicate that holds of each instruction of the loop holds of each instruction of the function
  each_inst : (P : ℕ → Inst → Type 0) → HoldsInLoop W t (λ k found. IfSome found (P k))
      → (c k : ℕ) (inst : Inst) → IsInst f c k inst → (c ≡ 1) × P k inst
  unfolding function blocks
  each_inst P holds zero k inst is = let none : None ≡ Some inst = inst_of_block 0 k inst _ refl is in absurd cc
  each_inst P holds (suc zero) k inst is =
      let there = each_place W t (λ n found. IfSome found (P n)) holds k in
      (refl, subst (λ found. IfSome found (P k)) (inst_of_block 1 k inst _ refl is) there)
  each_inst P holds (suc (suc zero)) k inst is = let none : None ≡ Some inst = inst_of_block 2 k inst _ refl is in absurd cc
  each_inst P holds (suc (suc (suc c))) k inst is = let none : None ≡ Some is.block = is.is_block in absurd cc

  -- a drawn instruction is a binary one, with no flags
  drawn_is : (k : ℕ) → (x : Operand) × IsOn (λ y. Unit {0}) x (drawn_inst W (suc k) (state_after t k)).op
  unfolding drawn_inst
  drawn_is k =
      let r = state_after t k in
      let x = listed (drawn (next_state r) (suc k + 3)) in
      let y = listed (drawn (next_state (next_state r)) (suc k + 3)) in
      (x, operation_is (λ z. Unit {0}) W x y (omega arith) tt tt (λ n h. tt) (drawn r 9))

  -- its type fits, and it is no phi
  drawn_typed : (k : ℕ) → let i = drawn_inst W (suc k) (state_after t k) in IsTyped i.width i.op
  drawn_typed k = let i = drawn_inst W (suc k) (state_after t k) in subst (IsTyped i.width) (sym (drawn_is k).1.is) refl

  drawn_no_phi : (k : ℕ) → IsPhi (drawn_inst W (suc k) (state_after t k)).op → ⊥
  drawn_no_phi k phi = subst IsPhi (drawn_is k).1.is phi

  insts_typed : (c k : ℕ) (inst : Inst) → IsInst f c k inst → IsTyped inst.width inst.op
  insts_typed c k inst is =
      (each_inst (λ n i. IsTyped i.width i.op)
      (record {
        at_counter = tt;
        at_previous = tt;
        at_drawn = λ j few. drawn_typed j;
        at_next = refl;
        at_condition = refl;
        behind = λ n many. tt;
      }) c k inst is).1

  -- ---- phis

  phi_places : (c k : ℕ) (inst : Inst) → IsInst f c k inst → IsPhi inst.op → k < 2
  phi_places c k inst is =
      (each_inst (λ n i. IsPhi i.op → n < 2)
      (record {
        at_counter = λ phi. omega arith;
        at_previous = λ phi. omega arith;
        at_drawn = λ j few phi. absurd (drawn_no_phi j phi);
        at_next = λ phi. absurd phi;
        at_condition = λ phi. absurd phi;
        behind = λ n many. tt;
      }) c k inst is).1

  first_phi : (c k : ℕ) (inst : Inst) → IsInst f c k inst → k < 1 → IsPhi inst.op
  first_phi c k inst is =
      (each_inst (λ n i. n < 1 → IsPhi i.op)
      (record {
        at_counter = λ h. tt;
        at_previous = λ h. absurd (omega arith);
        at_drawn = λ j few h. absurd (omega arith);
        at_next = λ h. absurd (omega arith);
        at_condition = λ h. absurd (omega arith);
        behind = λ n many. tt;
      }) c k inst is).1

  entry_names_loop : Names f 0 1
  unfolding function blocks
  entry_names_loop = (_, refl, first_in 1 [])

  loop_names_itself : Names f 1 1
  unfolding function blocks
  loop_names_itself = (_, refl, first_in 1 (2 ∷ []))

  abbrev first : Operand × ℕ → Operand
  first e = e.0

  abbrev place : Operand × ℕ → ℕ
  place e = e.1

  module _ (x y : Operand) where
    abbrev entries : List (Operand × ℕ)
    entries = (x, 0) ∷ (y, 1) ∷ []

    named : (c : ℕ) (z : Operand) → Contains entries (z, c) → Names f c 1
    named c z has =
        elim (among_two (x, 0) (y, 1) (z, c) has) [
          | inl is ↦ subst (λ n. Names f n 1) (ap place is) entry_names_loop
          | inr is ↦ subst (λ n. Names f n 1) (ap place is) loop_names_itself
        ]

    has_entry : (c : ℕ) → Names f c 1 → (z : Operand) × Contains entries (z, c)
    has_entry c names =
        elim (names_cases s J c 1 names) [
          | inl from_entry ↦ (x, subst (λ n. Contains entries (x, n)) (sym from_entry.0) (first_in (x, 0) ((y, 1) ∷ [])))
          | inr from_loop ↦
              let last = later_in (x, 0) ((y, 1) ∷ []) (y, 1) (first_in (y, 1) []) in
              (y, subst (λ n. Contains entries (y, n)) (sym from_loop.0) last)
        ]

    same_entry : (z w : Operand) (c : ℕ) → Contains entries (z, c) → Contains entries (w, c) → z ≡ w
    same_entry z w c has has' =
        elim (among_two (x, 0) (y, 1) (z, c) has) [
          | inl is ↦ elim (among_two (x, 0) (y, 1) (w, c) has') [
            | inl is' ↦ sym (ap first is) ∙ ap first is'
            | inr is' ↦ absurd (let one_way = ap place is in let other_way = ap place is' in omega arith)
          ]
          | inr is ↦ elim (among_two (x, 0) (y, 1) (w, c) has') [
            | inl is' ↦ absurd (let one_way = ap place is in let other_way = ap place is' in omega arith)
            | inr is' ↦ sym (ap first is) ∙ ap first is'
          ]
        ]

    entries_fit : EntriesFit f 1 entries
    entries_fit = record { some = omega arith; from = λ c. (λ has. named c has.0 has.1, has_entry c); one = same_entry }

  phi_entries : (x y : Operand) (es : List (Operand × ℕ)) → Phi ((x, 0) ∷ (y, 1) ∷ []) ≡ Phi es → EntriesFit f 1 es
  phi_entries x y es is =
      let same : ◌≡◌ {A = List (Operand × ℕ)} ((x, 0) ∷ (y, 1) ∷ []) es = cc in
      subst (EntriesFit f 1) same (entries_fit x y)

  phis_fit : (c k : ℕ) (inst : Inst) (es : List (Operand × ℕ)) → IsInst f c k inst → inst.op ≡ Phi es → EntriesFit f c es
  phis_fit c k inst es is phi =
      let there = each_inst (λ n i. (list : List (Operand × ℕ)) → i.op ≡ Phi list → EntriesFit f 1 list)
      (record {
        at_counter = phi_entries (number W 0) (in_loop 18);
        at_previous = phi_entries a (in_loop 17);
        at_drawn = λ j few list op. absurd (drawn_no_phi j (subst IsPhi (sym op) tt));
        at_next = λ list op. absurd cc;
        at_condition = λ list op. absurd cc;
        behind = λ n many. tt;
      }) c k inst is in
      subst (λ n. EntriesFit f n es) (sym there.0) (there.1 es phi)

  -- ---- blocks

  block_count : length f.blocks ≡ 3
  unfolding function blocks
  block_count = refl

  names_blocks : (c d : ℕ) → Names f c d → d < length f.blocks
  names_blocks c d names =
      let three = block_count in
      elim (names_cases s J c d names) [
        | inl from_entry ↦ omega arith
        | inr from_loop ↦ elim from_loop.1 [ inl loop ↦ omega arith | inr exit ↦ omega arith ]
      ]

  enters_no_entry : (c : ℕ) → ¬ Names f c 0
  enters_no_entry c names =
      elim (names_cases s J c 0 names) [
        | inl from_entry ↦ omega arith
        | inr from_loop ↦ elim from_loop.1 [ inl loop ↦ omega arith | inr exit ↦ omega arith ]
      ]

  no_switch : (c : ℕ) (block : Block) → IsBlock f c block → CasesFit block.end
  unfolding function blocks
  no_switch zero block is = subst (λ (x : Block). CasesFit x.end) (same_Some _ block is) tt
  no_switch (suc zero) block is = subst (λ (x : Block). CasesFit x.end) (same_Some _ block is) tt
  no_switch (suc (suc zero)) block is = subst (λ (x : Block). CasesFit x.end) (same_Some _ block is) tt
  no_switch (suc (suc (suc c))) block is = absurd cc

  -- ---- the function

  formed : IsFormed f
  formed = record {
    some_block = let three = block_count in omega arith;
    names = names_differ s J;
    registers = λ c k i r is. known f r.width r.block r.place r.operand (read_right s J c k i r is);
    blocks = names_blocks;
    operands = λ c k i r is. has_width f r.width r.block r.place r.operand (read_right s J c k i r is);
    insts = insts_typed;
    cases = no_switch;
    phis_first = λ c j k earlier later at_j at_k before phi.
        let few = phi_places c k later at_k phi in
        first_phi c j earlier at_j (omega arith);
    phis = phis_fit;
    entry = enters_no_entry;
  }

  pub meets_checks : MeetsChecks f
  meets_checks = record { formed = formed; assigned = λ c k i r is. assigned f r (read_right s J c k i r is) }
