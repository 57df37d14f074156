-- Where instructions are inserted and the uses of one register are replaced, every other register has as many uses as
-- before, or more.
use Rattle.draft_steps.proofs.Common.{◌≡◌, ℕ, zero, suc, ◌≤◌, inl, inr, cond, List, [], ◌∷◌, ◌++◌, map, ap, ◌∙◌, arith, sum_by, cases_Bool, sum_by-append, sum_by-cons, Block, Function, Inst, Operand, Register, operands_at_end, substituted_block, substituted_inst, substituted_operand, changed_at, instead, replaced, names, times, times_in, times_in_function, with_put, one_if, names_is, names_self}
use Rattle.ir_core.specs.declared.operand.Operand.TheVariants as operands
use Rattle.needed.specs.Operands.{operands_of}
use Rattle.draft_steps.proofs.Instead.{instead_other}
use Rattle.draft_steps.proofs.Mapping.{end_substituted, operands_substituted}

map_more : {A : Type 0} (h : A → ℕ) (g : A → A) → ((x : A) → h x ≤ h (g x)) → (xs : List A) → sum_by h xs ≤ sum_by h (map g xs)
map_more h g more [] = omega arith
map_more h g more (x ∷ xs) =
    let here = more x in
    let rest = map_more h g more xs in
    let was = sum_by-cons h x xs in
    let now = sum_by-cons h (g x) (map g xs) in
    omega arith

changed_more : {A : Type 0} (h : A → ℕ) (k : ℕ) (g : A → A) → ((x : A) → h x ≤ h (g x)) → (xs : List A) → sum_by h xs ≤ sum_by h (changed_at k g xs)
changed_more h k g more [] = omega arith
changed_more h zero g more (x ∷ xs) =
    let here = more x in
    let was = sum_by-cons h x xs in
    let now = sum_by-cons h (g x) xs in
    omega arith
changed_more h (suc k) g more (x ∷ xs) =
    let rest = changed_more h k g more xs in
    let was = sum_by-cons h x xs in
    let now = sum_by-cons h x (changed_at k g xs) in
    omega arith

module _ (r : Register) where
  pub put_more_often : (f : Function) (b : ℕ) (put : List Inst) → times_in_function r f ≤ times_in_function r (with_put f b put)
  put_more_often f b put =
      changed_more (times_in r) b (λ (block : Block). record { name = block.name; insts = block.insts ++ put; end = block.end })
      (λ x. let both = sum_by-append (λ (i : Inst). times r (operands_of i.op)) x.insts put in omega arith) f.blocks

  module _ (from : Register) (to : Operand) (other : ¬ (r ≡ from)) where
    still_one : (a : Operand) → one_if r a ≤ one_if r (substituted_operand (instead from to) a)
    still_one a =
        elim (cases_Bool (names r a)) [
          | inr other_one ↦ let none : one_if r a ≡ 0 = ap (λ c. cond c 1 0) other_one in omega arith
          | inl named ↦
              let is : a ≡ operands.Register r = names_is r a named in
              let stays : substituted_operand (instead from to) a ≡ operands.Register r = ap (substituted_operand (instead from to)) is ∙ instead_other from to r other in
              let now : one_if r (substituted_operand (instead from to) a) ≡ 1 = ap (λ c. cond c 1 0) (names_self r (substituted_operand (instead from to) a) stays) in
              let was : one_if r a ≡ 1 = ap (λ c. cond c 1 0) named in
              omega arith
        ]

    times_stay : (xs : List Operand) → times r xs ≤ times r (map (substituted_operand (instead from to)) xs)
    times_stay xs = map_more (one_if r) (substituted_operand (instead from to)) still_one xs

    inst_stays : (i : Inst) → times r (operands_of i.op) ≤ times r (operands_of (substituted_inst (instead from to) i).op)
    inst_stays i = let same = ap (times r) (operands_substituted (instead from to) i.op) in let low = times_stay (operands_of i.op) in omega arith

    block_stays : (x : Block) → times_in r x ≤ times_in r (substituted_block (instead from to) x)
    block_stays x =
        let insts = map_more (λ (i : Inst). times r (operands_of i.op)) (substituted_inst (instead from to)) inst_stays x.insts in
        let same = ap (times r) (end_substituted (instead from to) x.end) in
        let low = times_stay (operands_at_end x.end) in
        omega arith

    pub replaced_as_often : (f : Function) → times_in_function r f ≤ times_in_function r (replaced f from to)
    replaced_as_often f = map_more (times_in r) (substituted_block (instead from to)) block_stays f.blocks
