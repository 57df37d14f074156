-- Each operand that a generated function reads is a register of its width that is assigned there, or a number of its
-- width.
use Rattle.load_gen.proofs.Common.{◌≡◌, ℕ, zero, suc, ◌+◌, ◌^◌, ◌<◌, ◌≤◌, ◌==◌, Bool, true, false, if◌then◌else◌, List, [], ◌∷◌, length, Option, Some, refl, sym, subst, ◌∙◌, arith, inl, inr, ◌⊎◌, All, Contains, codes, option_map, pow_mono, All-nil, All-cons, same_Some, Block, Function, Inst, Op, Operand, Branch, IsAssigned, HasInst, IsBlock, Names, targets_of, width_of, Read, read, end_of, IsRead, reads_of, reads_by, reads_at, IsWalk, next_state, drawn, number, a, b, in_loop, listed, operation, drawn_inst, state_after, width, loop_insts, blocks, function}
use Rattle.ir_core.specs.declared.operand.Operand.TheVariants as operands
use Rattle.ir_core.specs.declared.operand.Register.TheVariants as registers
use Rattle.load_gen.proofs.ListPlaces.{all_get, first_in, among_one, among_two}
use Rattle.load_gen.proofs.DrawnOps.{IsOn, operation_is, drawn_below}
use Rattle.load_gen.proofs.InstPlaces.{HoldsInLoop, each_place, loop_length}

-- the operand, read at iW at place k of block b, is a register of iW that is assigned there, or a number of iW
abbrev pub Right : Function → ℕ → ℕ → ℕ → Operand → Type 0
Right f W b k (operands.Register r) = (width_of f r ≡ Some W) × IsAssigned f r b k
Right f W b k (operands.Number n) = (n.width ≡ W) × (n.number < 2 ^ n.width)
Right f W b k operands.Undef = ⊥
Right f W b k operands.Poison = ⊥

abbrev pub IsRight : Function → Read → Type 0
IsRight f r = Right f r.width r.block r.place r.operand

all_if : {A : Type 0} (P : A → Type 0) (c : Bool) (xs : List A) → All P xs → All P (if c then xs else [])
all_if P true xs all = all
all_if P false xs all = All-nil P

names_of_block : (f : Function) (c d : ℕ) (block : Block) → IsBlock f c block → Names f c d → Contains (targets_of block.end) d
names_of_block f c d block at (other, is, has) =
    subst (λ (x : Block). Contains (targets_of x.end) d) (same_Some other block (sym is ∙ at)) has

-- the edges of the control-flow graph: the entry names the loop, which names itself and the exit
pub names_cases : (s J c d : ℕ) → Names (function s J) c d → ((c ≡ 0) × (d ≡ 1)) ⊎ ((c ≡ 1) × ((d ≡ 1) ⊎ (d ≡ 2)))
unfolding function blocks
names_cases s J zero d names = inl (refl, sym (among_one 1 d (names_of_block (function s J) 0 d _ refl names)))
names_cases s J (suc zero) d names =
    inr (refl, elim (among_two 1 2 d (names_of_block (function s J) 1 d _ refl names)) [ inl is ↦ inl (sym is) | inr is ↦ inr (sym is) ])
names_cases s J (suc (suc zero)) d names =
    let none : Contains {X = ℕ} [] d = names_of_block (function s J) 2 d _ refl names in absurd (omega arith)
names_cases s J (suc (suc (suc c))) d (block, at, has) = absurd cc

module _ (s J : ℕ) where
  abbrev f : Function
  f = function s J

  abbrev W : ℕ
  W = width s

  abbrev t : ℕ
  t = next_state s

  wide : 3 ≤ W
  wide = omega arith

  number_right : (b k n : ℕ) → n < 8 → Right f W b k (number W n)
  number_right b k n h = let least : 2 ^ 3 ≤ 2 ^ W = pow_mono wide in (refl, omega arith)

  -- ---- registers

  parameter_right : (b k p : ℕ) → p < 2 → Right f W b k (operands.Register (registers.Parameter p))
  unfolding function
  parameter_right b k zero h = (refl, omega arith)
  parameter_right b k (suc zero) h = (refl, omega arith)
  parameter_right b k (suc (suc p)) h = absurd (omega arith)

  -- the first 19 results of the loop have the width of the function, and the last is an i1
  abbrev HasWidth : ℕ → Option Inst → Type 0
  HasWidth j found = j < 19 → option_map (λ i. i.width) found ≡ Some W

  widths_in_loop : HoldsInLoop W t HasWidth
  unfolding drawn_inst
  widths_in_loop = record {
    at_counter = λ h. refl;
    at_previous = λ h. refl;
    at_drawn = λ k few h. refl;
    at_next = λ h. refl;
    at_condition = λ h. absurd (omega arith);
    behind = λ k many h. absurd (omega arith);
  }

  loop_width : (j : ℕ) → j < 19 → width_of f (registers.Result 1 j) ≡ Some W
  unfolding function blocks
  loop_width j h = each_place W t HasWidth widths_in_loop j h

  condition_width : width_of f (registers.Result 1 19) ≡ Some 1
  unfolding function blocks
  condition_width = each_place W t (λ j found. j ≡ 19 → option_map (λ i. i.width) found ≡ Some 1)
      (record {
        at_counter = λ h. absurd (omega arith);
        at_previous = λ h. absurd (omega arith);
        at_drawn = λ k few h. absurd (omega arith);
        at_next = λ h. absurd (omega arith);
        at_condition = λ h. refl;
        behind = λ k many h. absurd (omega arith);
      }) 19 refl

  loop_has : (j : ℕ) → j < 20 → HasInst f 1 j
  unfolding function blocks
  loop_has j h =
      let long = loop_length W t in
      (record { name = Some (codes "loop"); insts = loop_insts W t; end = Branch (in_loop 19) 1 2 }, refl, omega arith)

  -- what is defined earlier in the loop is assigned there, and all results of the loop are assigned behind it
  assigned_in_loop : (j k : ℕ) → j < 20 → j < k → IsAssigned f (registers.Result 1 j) 1 k
  assigned_in_loop j k h earlier = (loop_has j h, λ before walk. inr (refl, earlier))

  passed_loop : (before : List ℕ) → IsWalk f (2 ∷ before) → Contains before 1
  passed_loop [] walk = absurd cc
  passed_loop (c ∷ before) walk =
      elim (names_cases s J c 2 walk.0) [
        | inl from_entry ↦ absurd (omega arith)
        | inr from_loop ↦ subst (λ n. Contains (n ∷ before) 1) (sym from_loop.0) (first_in 1 before)
      ]

  assigned_behind : (j k : ℕ) → j < 20 → IsAssigned f (registers.Result 1 j) 2 k
  assigned_behind j k h = (loop_has j h, λ before walk. inl (passed_loop before walk))

  result_right : (j k : ℕ) → j < 19 → j < k → Right f W 1 k (in_loop j)
  result_right j k h earlier = (loop_width j h, assigned_in_loop j k (omega arith) earlier)

  -- so each of the registers that stand before %vk may be read there
  listed_right : (k n : ℕ) → k < 16 → n < suc k + 3 → Right f W 1 (suc (suc k)) (listed n)
  listed_right k zero few h = parameter_right 1 (suc (suc k)) 0 (omega arith)
  listed_right k (suc zero) few h = parameter_right 1 (suc (suc k)) 1 (omega arith)
  listed_right k (suc (suc j)) few h = result_right j (suc (suc k)) (omega arith) (omega arith)

  -- ---- reads

  one : (r : Read) → IsRight f r → All (IsRight f) (r ∷ [])
  one r right = All-cons (IsRight f) r [] right (All-nil (IsRight f))

  two : (r q : Read) → IsRight f r → IsRight f q → All (IsRight f) (r ∷ q ∷ [])
  two r q right other = All-cons (IsRight f) r (q ∷ []) right (one q other)

  reads_of_binary : (k : ℕ) (x : Operand) (o : Op)
      → Right f W 1 k x → IsOn (Right f W 1 k) x o → All (IsRight f) (reads_of f 1 k W o)
  reads_of_binary k x o right on =
      subst (λ p. All (IsRight f) (reads_of f 1 k W p)) (sym on.is)
      (two (read 1 k W x) (read 1 k W on.second) right on.holds)

  drawn_right : (k : ℕ) → k < 16
      → let i = drawn_inst W (suc k) (state_after t k) in All (IsRight f) (reads_of f 1 (suc (suc k)) i.width i.op)
  unfolding drawn_inst
  drawn_right k few =
      let r = state_after t k in
      let at : ℕ = suc (suc k) in
      let nx = drawn (next_state r) (suc k + 3) in
      let ny = drawn (next_state (next_state r)) (suc k + 3) in
      let x = listed_right k nx few (drawn_below (next_state r) (suc k + 3) (omega arith)) in
      let y = listed_right k ny few (drawn_below (next_state (next_state r)) (suc k + 3) (omega arith)) in
      reads_of_binary at (listed nx) (operation (drawn r 9) W (listed nx) (listed ny)) x
      (operation_is (Right f W 1 at) W (listed nx) (listed ny) wide x y (λ n h. (refl, h)) (drawn r 9))

  abbrev repeated : Block
  repeated = record { name = Some (codes "loop"); insts = loop_insts W t; end = Branch (in_loop 19) 1 2 }

  -- the operand of a phi for the back edge is read at the end of the loop
  round_right : (j : ℕ) → j < 19 → IsRight f (read 1 (end_of f 1) W (in_loop j))
  unfolding function blocks
  round_right j h = let long = loop_length W t in result_right j (length (loop_insts W t)) h (omega arith)

  loop_reads : HoldsInLoop W t (λ k found. All (IsRight f) (reads_by f 1 k repeated found))
  loop_reads = record {
    at_counter =
        two (read 0 (end_of f 0) W (number W 0)) (read 1 (end_of f 1) W (in_loop 18))
        (number_right 0 (end_of f 0) 0 (omega arith)) (round_right 18 (omega arith));
    at_previous =
        two (read 0 (end_of f 0) W a) (read 1 (end_of f 1) W (in_loop 17))
        (parameter_right 0 (end_of f 0) 0 (omega arith)) (round_right 17 (omega arith));
    at_drawn = drawn_right;
    at_next =
        two (read 1 18 W (in_loop 0)) (read 1 18 W (number W 1))
        (result_right 0 18 (omega arith) (omega arith)) (number_right 1 18 1 (omega arith));
    at_condition =
        two (read 1 19 W (in_loop 0)) (read 1 19 W b)
        (result_right 0 19 (omega arith) (omega arith)) (parameter_right 1 19 1 (omega arith));
    behind = λ k many.
        all_if (IsRight f) (k == length (loop_insts W t)) (read 1 k 1 (in_loop 19) ∷ [])
        (one (read 1 k 1 (in_loop 19)) (condition_width, assigned_in_loop 19 k (omega arith) (omega arith)));
  }

  reads_right : (c k : ℕ) → All (IsRight f) (reads_at f c k)
  unfolding function blocks
  reads_right zero k = all_if (IsRight f) (k == 0) [] (All-nil (IsRight f))
  reads_right (suc zero) k = each_place W t (λ n found. All (IsRight f) (reads_by f 1 n repeated found)) loop_reads k
  reads_right (suc (suc zero)) k =
      all_if (IsRight f) (k == 0) (read 2 k W (in_loop 17) ∷ [])
      (one (read 2 k W (in_loop 17)) (loop_width 17 (omega arith), assigned_behind 17 k (omega arith)))
  reads_right (suc (suc (suc c))) k = All-nil (IsRight f)

  pub read_right : (c k i : ℕ) (r : Read) → IsRead f c k i r → IsRight f r
  read_right c k i r is = all_get (IsRight f) (reads_at f c k) i r (reads_right c k) is
