-- Which instructions were removed, inserted and changed where others stand in the place of the root.
use Rattle.changes.proofs.Common.{◌≡◌, ◌⊎◌, inl, inr, ℕ, zero, suc, ◌+◌, ◌-◌, ◌<◌, ◌≤◌, Bool, true, false, cond, List, [], ◌∷◌, length, Option, None, Some, refl, sym, ap, subst, ◌∙◌, arith, slice_get, option_map, Contains, same_Some, slice_get_within, HasInst, IsInst, Function, Inst, Operand, Register, some_at, one_inst, operands_of, contained_at, contains_at, contains_first, contains_later, is_same_register, substituted_inst, root_of, moved_place, stands_for, rewritten_function, Rewrite, same_or_other, IsTheRoot, root_is, other_is, stands_root, stands_other, moved_no_put, inst_on, put_on, inst_back, AreAscending, register_then, Went, Came, IsUnchanged, IsChanged, rewritten_moves, IsPutFor, Listed, ReadsRoot, Put}
use Rattle.ir_core.specs.declared.operand.Operand.TheVariants as operands
use Rattle.ir_core.specs.declared.operand.Register.TheVariants as registers
use Rattle.changes.proofs.Ascending.{none_listed, same_listed}

-- ---- instructions and what they read

pub has_of : (f : Function) (b k : ℕ) (inst : Inst) → IsInst f b k inst → HasInst f b k
has_of f b k inst at = (at.block, at.is_block, slice_get_within at.block.insts k inst at.is_inst)

pub inst_of : (f : Function) (b k : ℕ) → HasInst f b k → (inst : Inst) × IsInst f b k inst
inst_of f b k has =
    let (block, at, within) = has in
    let x : (x : Inst) × (slice_get block.insts k ≡ Some x) = some_at block.insts k within in
    (x.0, record { block = block; is_block = at; is_inst = x.1 })

is_it : (a : Operand) (r : Register) → (a ≡ operands.Register r) ⊎ (a ≡ operands.Register r → ⊥)
is_it (operands.Number n) r = inr (λ e. cc)
is_it operands.Undef r = inr (λ e. cc)
is_it operands.Poison r = inr (λ e. cc)
is_it (operands.Register s) r = elim (is_same_register s r) [
  | inl same ↦ inl (ap (λ (x : Register). operands.Register x) same)
  | inr apart ↦ inr (λ e. apart cc)
]

split : (a : Operand) (reads : List Operand) (x : Operand) → Contains (a ∷ reads) x → (a ≡ x) ⊎ Contains reads x
split a reads x there = by (contained_at (a ∷ reads) x there)
  where
    by : (i : ℕ) × (slice_get (a ∷ reads) i ≡ Some x) → (a ≡ x) ⊎ Contains reads x
    by (zero, at) = inl (same_Some a x at)
    by (suc i, at) = inr (contains_at reads x i at)

is_read : (r : Register) (reads : List Operand) → Contains reads (operands.Register r) ⊎ (Contains reads (operands.Register r) → ⊥)
is_read r [] = inr (λ there. let (i, within, is) = there in absurd (omega arith))
is_read r (a ∷ reads) = elim (is_it a r) [
  | inl here ↦ inl (subst (λ (x : Operand). Contains (a ∷ reads) x) here (contains_first a reads))
  | inr other ↦ elim (is_read r reads) [
    | inl behind ↦ inl (contains_later a reads (operands.Register r) behind)
    | inr none ↦ inr (λ there. elim (split a reads (operands.Register r) there) [ inl here ↦ other here | inr behind ↦ none behind ])
  ]
]

-- ---- new places

pub root_moves : (w : Rewrite) (goes : Bool) (b k : ℕ) → IsTheRoot w b k → rewritten_moves w goes b k ≡ cond goes None (Some (w.place + length w.put - 1))
root_moves w goes b k here = ap (λ c. cond c (cond goes None (Some (w.place + length w.put - 1))) (Some (moved_place w b k))) (root_is w b k here)

pub other_moves : (w : Rewrite) (goes : Bool) (b k : ℕ) → ¬ IsTheRoot w b k → rewritten_moves w goes b k ≡ Some (moved_place w b k)
other_moves w goes b k other = ap (λ c. cond c (cond goes None (Some (w.place + length w.put - 1))) (Some (moved_place w b k))) (other_is w b k other)

module _ (f : Function) (w : Rewrite) (root : Inst) (at_root : IsInst f w.block w.place root) where
  abbrev new : Function
  new = rewritten_function w f

  abbrev last : ℕ
  last = w.place + length w.put - 1

  abbrev IsAnew : ℕ → ℕ → Type 0
  IsAnew b k = (b ≡ w.block) × (k ≡ w.place)

  root_there : (b k : ℕ) → IsTheRoot w b k → HasInst f b k
  root_there b k here =
      let block : w.block ≡ b = sym here.0 in
      let place : w.place ≡ k = sym here.1 in
      subst (λ (j : ℕ). HasInst f b j) place (subst (λ (c : ℕ). HasInst f c w.place) block (has_of f w.block w.place root at_root))

  moves_root : (goes : Bool) (b k : ℕ) → IsTheRoot w b k → rewritten_moves w goes b k ≡ cond goes None (Some last)
  moves_root goes b k here = root_moves w goes b k here

  moves_other : (goes : Bool) (b k : ℕ) → ¬ IsTheRoot w b k → rewritten_moves w goes b k ≡ Some (moved_place w b k)
  moves_other goes b k other = other_moves w goes b k other

  moved_is : (goes : Bool) (b k l : ℕ) → ¬ IsTheRoot w b k → rewritten_moves w goes b k ≡ Some l → moved_place w b k ≡ l
  moved_is goes b k l other m = same_Some (moved_place w b k) l (sym (moves_other goes b k other) ∙ m)

  root_is_last : (b k l : ℕ) → IsTheRoot w b k → rewritten_moves w false b k ≡ Some l → last ≡ l
  root_is_last b k l here m = same_Some last l (sym (moves_root false b k here) ∙ m)

  root_goes : (b k l : ℕ) → IsTheRoot w b k → rewritten_moves w true b k ≡ Some l → ⊥
  root_goes b k l here m = let gone : rewritten_moves w true b k ≡ None = moves_root true b k here in cc

  -- the new name of the register is the operand that the substitution gives for it
  abbrev IsCalled : Bool → Register → Type 0
  IsCalled goes r = option_map operands.Register (register_then (rewritten_moves w goes) r) ≡ Some (stands_for w r)

  called_other : (goes : Bool) (d j : ℕ) → ¬ IsTheRoot w d j → IsCalled goes (registers.Result d j)
  called_other goes d j other =
      ap (λ (o : Option ℕ). option_map operands.Register (option_map (registers.Result d) o)) (moves_other goes d j other)
      ∙ ap (λ (a : Operand). Some a) (sym (stands_other w d j other))

  called_root : w.result ≡ operands.Register (registers.Result w.block last) → (d j : ℕ) → IsTheRoot w d j → IsCalled false (registers.Result d j)
  called_root result d j here =
      ap (λ (o : Option ℕ). option_map operands.Register (option_map (registers.Result d) o)) (moves_root false d j here)
      ∙ ap (λ (c : ℕ). Some (operands.Register (registers.Result c last))) here.0
      ∙ ap (λ (a : Operand). Some a) (sym result ∙ sym (stands_root w d j here))

  unchanged : (goes : Bool) (b k l : ℕ) (inst : Inst) → IsInst f b k inst → ¬ IsTheRoot w b k → rewritten_moves w goes b k ≡ Some l
      → ((r : Register) → Contains (operands_of inst.op) (operands.Register r) → IsCalled goes r) → IsUnchanged f new (rewritten_moves w goes) b k l
  unchanged goes b k l inst at other m called =
      subst (λ (n : ℕ). IsUnchanged f new (rewritten_moves w goes) b k n) (moved_is goes b k l other m)
      (inst, substituted_inst (stands_for w) inst, at, inst_on w f b k inst at other, record { to = stands_for w; called = called; is = refl })

  -- ---- the inserted instructions

  came_put : (goes : Bool) (b l : ℕ) → Came f new (rewritten_moves w goes) b l → (b ≡ w.block) × (w.place ≤ l) × (l < w.place + length w.put)
  came_put goes b l (has, none) =
      let x = inst_of new b l has in
      elim (inst_back w f b l x.0 x.1) [
        | inl s ↦ absurd (none (s.place, (has_of f b s.place s.inst s.is_inst, moves_other goes b s.place s.other ∙ ap (λ (n : ℕ). Some n) (sym s.count))))
        | inr p ↦
            let within : p.place < length w.put = slice_get_within w.put p.place x.0 p.is_put in
            let count : l ≡ w.place + p.place = p.count in
            (p.block, omega arith, omega arith)
      ]

  put_came : (goes : Bool) (b l : ℕ) → b ≡ w.block → w.place ≤ l → l < w.place + length w.put → ((k : ℕ) → IsTheRoot w b k → rewritten_moves w goes b k ≡ Some l → ⊥) → Came f new (rewritten_moves w goes) b l
  put_came goes b l same low high no_root =
      let i : ℕ = l - w.place in
      let within : l - w.place < length w.put = omega arith in
      let place : w.place + (l - w.place) ≡ l = omega arith in
      let block : w.block ≡ b = sym same in
      let x : (x : Inst) × (slice_get w.put (l - w.place) ≡ Some x) = some_at w.put (l - w.place) within in
      let there : HasInst new w.block (w.place + (l - w.place)) = has_of new w.block (w.place + (l - w.place)) x.0 (put_on w f root (l - w.place) x.0 at_root x.1) in (
        subst (λ (c : ℕ). HasInst new c l) block (subst (λ (n : ℕ). HasInst new w.block n) place there),
        λ stays. let k = stays.0 in let m = stays.1.1 in elim (same_or_other b k w.block w.place) [
          | inl here ↦ no_root k here m
          | inr other ↦ moved_no_put w b k (l - w.place) other same within (moved_is goes b k l other m ∙ sym place)
        ],
      )

  module _ (put : Put) (p : IsPutFor w put) where
    -- ---- where the root is removed

    pub went_root : (places : List (ℕ × ℕ)) → AreAscending (λ b k. (b ≡ put.block) × (k ≡ put.place)) places → AreAscending (Went f new (rewritten_moves w true)) places
    went_root places are = same_listed (λ b k. (b ≡ put.block) × (k ≡ put.place)) (Went f new (rewritten_moves w true)) places
        (λ b k at. let here : IsTheRoot w b k = (at.0 ∙ sym p.block, at.1 ∙ sym p.place) in (root_there b k here, moves_root true b k here))
        (λ b k went. elim (same_or_other b k w.block w.place) [
          | inl here ↦ (here.0 ∙ p.block, here.1 ∙ p.place)
          | inr other ↦ let stays = moves_other true b k other in let goes = went.1 in absurd cc
        ])
        are

    pub came_all : (places : List (ℕ × ℕ)) → AreAscending (λ b k. (b ≡ put.block) × (put.place ≤ k) × (k < put.place + put.count)) places → AreAscending (Came f new (rewritten_moves w true)) places
    came_all places are = same_listed (λ b k. (b ≡ put.block) × (put.place ≤ k) × (k < put.place + put.count)) (Came f new (rewritten_moves w true)) places
        (λ b l at. let (same, low, high) = at in let place = p.place in let count = p.count in
        put_came true b l (same ∙ sym p.block) (omega arith) (omega arith) (λ k here m. root_goes b k l here m))
        (λ b l came. let (same, low, high) = came_put true b l came in let place = p.place in let count = p.count in (same ∙ p.block, omega arith, omega arith))
        are

    reader_changed : (b k l : ℕ) → ReadsRoot f w b k l → IsUnchanged f new (rewritten_moves w true) b k l → ⊥
    reader_changed b k l (inst, at, reads, m) (old, now, at_old, at_now, same) =
        let is : inst ≡ old = one_inst f b k inst old at at_old in
        let in_old : Contains (operands_of old.op) (operands.Register (root_of w)) = subst (λ (x : Inst). Contains (operands_of x.op) (operands.Register (root_of w))) is reads in
        let called : option_map operands.Register (register_then (rewritten_moves w true) (root_of w)) ≡ Some (same.to (root_of w)) = same.called (root_of w) in_old in
        let gone : option_map operands.Register (register_then (rewritten_moves w true) (root_of w)) ≡ None =
        ap (λ (o : Option ℕ). option_map operands.Register (option_map (registers.Result w.block) o)) (moves_root true w.block w.place (refl, refl)) in
        cc

    called_where_unread : (inst : Inst) → (Contains (operands_of inst.op) (operands.Register (root_of w)) → ⊥) → (r : Register) → Contains (operands_of inst.op) (operands.Register r) → IsCalled true r
    called_where_unread inst none (registers.Parameter q) there = refl
    called_where_unread inst none (registers.Result d j) there = elim (same_or_other d j w.block w.place) [
      | inl here ↦
          let is : operands.Register (registers.Result d j) ≡ operands.Register (root_of w) = let block = here.0 in let place = here.1 in cc in
          absurd (none (subst (λ (a : Operand). Contains (operands_of inst.op) a) is there))
      | inr other ↦ called_other true d j other
    ]

    changed_reads : (b k l : ℕ) → HasInst f b k → rewritten_moves w true b k ≡ Some l → (IsUnchanged f new (rewritten_moves w true) b k l → ⊥) → ReadsRoot f w b k l
    changed_reads b k l has m changed = elim (same_or_other b k w.block w.place) [
      | inl here ↦ absurd (root_goes b k l here m)
      | inr other ↦
          let x = inst_of f b k has in
          elim (is_read (root_of w) (operands_of x.0.op)) [
            | inl reads ↦ (x.0, x.1, reads, m)
            | inr none ↦ absurd (changed (unchanged true b k l x.0 x.1 other m (called_where_unread x.0 none)))
          ]
    ]

    pub changed_readers : (places : List (ℕ × ℕ)) → AreAscending (Listed f (ReadsRoot f w)) places → AreAscending (IsChanged f new (rewritten_moves w true) IsAnew) places
    changed_readers places are = same_listed (Listed f (ReadsRoot f w)) (IsChanged f new (rewritten_moves w true) IsAnew) places
        (λ b l x. let (k, has, reads) = x in (k, (has, reads.3), inr (reader_changed b k l reads)))
        (λ b l x. let (k, stays, how) = x in elim how [
          | inl here ↦ absurd (root_goes b k l here stays.1)
          | inr changed ↦ (k, stays.0, changed_reads b k l stays.0 stays.1 changed)
        ])
        are

    -- ---- where it stays

    module _ (some : 0 < put.count) where
      pub went_none : AreAscending (Went f new (rewritten_moves w false)) []
      went_none = none_listed (Went f new (rewritten_moves w false)) (λ b k went. elim (same_or_other b k w.block w.place) [
        | inl here ↦ let stays : rewritten_moves w false b k ≡ Some last = moves_root false b k here in let goes = went.1 in cc
        | inr other ↦ let stays = moves_other false b k other in let goes = went.1 in cc
      ])

      pub came_first : (places : List (ℕ × ℕ)) → AreAscending (λ b k. (b ≡ put.block) × (put.place ≤ k) × (k < put.place + (put.count - 1))) places → AreAscending (Came f new (rewritten_moves w false)) places
      came_first places are = same_listed (λ b k. (b ≡ put.block) × (put.place ≤ k) × (k < put.place + (put.count - 1))) (Came f new (rewritten_moves w false)) places
          (λ b l at. let (same, low, high) = at in let place = p.place in let count = p.count in
          put_came false b l (same ∙ sym p.block) (omega arith) (omega arith) (λ k here m. let is = root_is_last b k l here m in omega arith))
          (λ b l came. let (same, low, high) = came_put false b l came in let place = p.place in let count = p.count in
          let short : l < put.place + (put.count - 1) = by b l came same low high in
          (same ∙ p.block, omega arith, short))
          are
        where
          by : (b l : ℕ) → Came f new (rewritten_moves w false) b l → b ≡ w.block → w.place ≤ l → l < w.place + length w.put → l < put.place + (put.count - 1)
          by b l came same low high = elim (at_last l) [
            | inl e ↦
                let here : IsTheRoot w b w.place = (same, refl) in
                let place : last ≡ l = e in
                absurd (came.1 (w.place, (root_there b w.place here, moves_root false b w.place here ∙ ap (λ (n : ℕ). Some n) place)))
            | inr apart ↦ let place = p.place in let count = p.count in omega arith
          ]
            where
              at_last : (l : ℕ) → (last ≡ l) ⊎ (last ≡ l → ⊥)
              at_last l = elim (same_or_other last 0 l 0) [ inl both ↦ inl both.0 | inr apart ↦ inr (λ e. apart (e, refl)) ]

      pub changed_root : w.result ≡ operands.Register (registers.Result w.block last) → (places : List (ℕ × ℕ)) → AreAscending (λ b k. (b ≡ put.block) × (k ≡ put.place + (put.count - 1))) places
          → AreAscending (IsChanged f new (rewritten_moves w false) IsAnew) places
      changed_root result places are = same_listed (λ b k. (b ≡ put.block) × (k ≡ put.place + (put.count - 1))) (IsChanged f new (rewritten_moves w false) IsAnew) places
          (λ b l at.
          let here : IsTheRoot w b w.place = (at.0 ∙ sym p.block, refl) in
          let (same, is) = at in
          let place = p.place in
          let count = p.count in
          let there : last ≡ l = omega arith in
          (w.place, (root_there b w.place here, moves_root false b w.place here ∙ ap (λ (n : ℕ). Some n) there), inl here))
          (λ b l x. let (k, stays, how) = x in elim (same_or_other b k w.block w.place) [
            | inl here ↦ let is = root_is_last b k l here stays.1 in let place = p.place in let count = p.count in (here.0 ∙ p.block, omega arith)
            | inr other ↦ elim how [
              | inl here ↦ absurd (other here)
              | inr changed ↦ let i = inst_of f b k stays.0 in absurd (changed (unchanged false b k l i.0 i.1 other stays.1 (λ r there. called r)))
            ]
          ])
          are
        where
          called : (r : Register) → IsCalled false r
          called (registers.Parameter q) = refl
          called (registers.Result d j) = elim (same_or_other d j w.block w.place) [
            | inl here ↦ called_root result d j here
            | inr other ↦ called_other false d j other
          ]
