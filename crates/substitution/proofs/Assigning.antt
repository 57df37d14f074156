-- Where registers are assigned.
use Rattle.substitution.proofs.Common.{◌≡◌, ◌≢◌, ℕ, zero, suc, ◌<◌, ◌⊎◌, inl, inr, List, [], ◌∷◌, length, Some, refl, sym, ap, subst, ◌∙◌, arith, Contains, slice_get, cond, eq-eqb, slice_get_past, IsAssigned, IsBlock, Names, IsPhi, Read, read, end_of, reads_of, reads_at_end, reads_by, reads_in, reads_at, Function, Block, Op, Binary, Compare, Unary, Select, Convert, Freeze, Phi, Operand, Register, Terminator, not_in_empty, cases_in, same_Some, end_of-is}
use Rattle.ir_core.specs.declared.operand.Register.TheVariants as registers
use Rattle.ir_core.specs.declared.terminator.Terminator.TheVariants as terminators
use Rattle.substitution.proofs.Arriving.{same_or_other}

-- a register that is assigned right behind an instruction is its result, or was assigned before it
pub assigned_next : (f : Function) (r : Register) (b k : ℕ) → IsAssigned f r b (suc k) → (r ≡ registers.Result b k) ⊎ ((r ≢ registers.Result b k) × IsAssigned f r b k)
assigned_next f (registers.Parameter p) b k h = inr (λ e. cc, h)
assigned_next f (registers.Result d j) b k h =
    elim (same_or_other d j b k) [
      | inl here ↦ inl (let p = here.0 in let q = here.1 in cc)
      | inr other ↦ inr (λ e. other (cc, cc), (h.0, λ before walk. by before other (h.1 before walk)))
    ]
  where
    by : (before : List ℕ) → ¬ ((d ≡ b) × (j ≡ k)) → Contains before d ⊎ ((d ≡ b) × (j < suc k)) → Contains before d ⊎ ((d ≡ b) × (j < k))
    by before other (inl c) = inl c
    by before other (inr (same, lt)) = inr (same, let ne : j ≢ k = λ e. other (same, e) in omega arith)

-- a register that is assigned at the head of a block is assigned at the end of each predecessor
pub assigned_edge : (f : Function) (r : Register) (c b : ℕ) → Names f c b → IsAssigned f r b 0 → IsAssigned f r c (end_of f c)
assigned_edge f (registers.Parameter p) c b names h = h
assigned_edge f (registers.Result d j) c b names h = (h.0, λ before walk. by before (h.1 (c ∷ before) (names, walk)))
  where
    inside : c ≡ d → j < end_of f c
    inside same = let has : j < length h.0.0.insts = h.0.2 in let e : end_of f d ≡ length h.0.0.insts = end_of-is f d h.0.0 h.0.1 in subst (λ (x : ℕ). j < end_of f x) (sym same) (subst (λ (n : ℕ). j < n) (sym e) has)

    by : (before : List ℕ) → Contains (c ∷ before) d ⊎ ((d ≡ b) × (j < 0)) → Contains before d ⊎ ((d ≡ c) × (j < end_of f c))
    by before (inl passed) = elim (cases_in c before d passed) [ inl same ↦ inr (sym same, inside same) | inr earlier ↦ inl earlier ]
    by before (inr (same, lt)) = absurd (omega arith)

-- at the function's entry no result is assigned
pub none_assigned : (f : Function) (d j : ℕ) → ¬ IsAssigned f (registers.Result d j) 0 0
none_assigned f d j h = elim (h.1 [] refl) [ inl passed ↦ not_in_empty d passed | inr here ↦ absurd (let lt : j < 0 = here.1 in omega arith) ]

-- ---- reads

pub end_reads : (f : Function) (b : ℕ) (block : Block) → IsBlock f b block → reads_at f b (length block.insts) ≡ reads_at_end f b (length block.insts) block.end
end_reads f b block at =
    let n = length block.insts in
    ap (reads_in f b n) at ∙ ap (reads_by f b n block) (slice_get_past block.insts n (omega arith)) ∙ ap (λ c. cond c (reads_at_end f b n block.end) []) (eq-eqb n n refl)

pub each_none : {A : Type 0} (P : A → Type 0) (i : ℕ) (y : A) → slice_get [] i ≡ Some y → P y
each_none P i y e = absurd cc

pub each_first : {A : Type 0} (P : A → Type 0) (x : A) (xs : List A) → P x → ((i : ℕ) (y : A) → slice_get xs i ≡ Some y → P y) → (i : ℕ) (y : A) → slice_get (x ∷ xs) i ≡ Some y → P y
each_first P x xs p rest zero y e = subst P (same_Some x y e) p
each_first P x xs p rest (suc i) y e = rest i y e

-- the read is at the place
abbrev pub IsThere : ℕ → ℕ → Read → Type 0
IsThere b k r = (r.block ≡ b) × (r.place ≡ k)

one_there : (b k w : ℕ) (x : Operand) → (i : ℕ) (r : Read) → slice_get (read b k w x ∷ []) i ≡ Some r → IsThere b k r
one_there b k w x = each_first (IsThere b k) (read b k w x) [] (refl, refl) (each_none (IsThere b k))

two_there : (b k w : ℕ) (x y : Operand) → (i : ℕ) (r : Read) → slice_get (read b k w x ∷ read b k w y ∷ []) i ≡ Some r → IsThere b k r
two_there b k w x y = each_first (IsThere b k) (read b k w x) (read b k w y ∷ []) (refl, refl) (one_there b k w y)

-- an instruction that is no phi reads its operands at its own place
pub own_place : (f : Function) (b k w : ℕ) (op : Op) → ¬ IsPhi op → (i : ℕ) (r : Read) → slice_get (reads_of f b k w op) i ≡ Some r → IsThere b k r
own_place f b k w (Binary op flags x y) other = two_there b k w x y
own_place f b k w (Compare pred samesign compared x y) other = two_there b k compared x y
own_place f b k w (Select c x y) other = each_first (IsThere b k) (read b k 1 c) (read b k w x ∷ read b k w y ∷ []) (refl, refl) (two_there b k w x y)
own_place f b k w (Convert cast flags from x) other = one_there b k from x
own_place f b k w (Unary op truth x) other = one_there b k w x
own_place f b k w (Freeze x) other = one_there b k w x
own_place f b k w (Phi entries) other = absurd (other tt)

pub end_place : (f : Function) (b k : ℕ) (t : Terminator) → (i : ℕ) (r : Read) → slice_get (reads_at_end f b k t) i ≡ Some r → IsThere b k r
end_place f b k (terminators.Return a) = one_there b k f.width a
end_place f b k (terminators.Jump to) = each_none (IsThere b k)
end_place f b k (terminators.Branch c to other) = one_there b k 1 c
end_place f b k (terminators.Switch a width other cases) = one_there b k width a
end_place f b k terminators.Unreachable = each_none (IsThere b k)
