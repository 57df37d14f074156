-- An arena has no cycles as before, where no phi is inserted and each terminator has the same successors.
use Rattle.draft.proofs.Common.{◌≡◌, ◌⊎◌, inl, inr, ℕ, zero, suc, List, [], ◌∷◌, ◌++◌, length, Some, sym, ap, subst, ◌∙◌, arith, Contains, option_map, slice_get, length-map, same_Some, slice_get-map, IsBlock, Names, targets_of, IsPhi, Block, Function, Inst, Op, Binary, Compare, Unary, Select, Convert, Freeze, Phi, Terminator, successors_of, mapped, Substitution, substituted_op, end_changed, inst_changed, inst_put, put_in, with_block, changed_cases, HasNoCycles, HasNoPhi}
use Rattle.draft.proofs.Exchanging.{block_cases}
use Rattle.draft.proofs.Reached.{reached_along}

-- a substitution of operands makes no phi
pub no_phi_substituted : (to : Substitution) (op : Op) → ¬ IsPhi op → ¬ IsPhi (substituted_op to op)
no_phi_substituted to (Binary op flags x y) other = other
no_phi_substituted to (Compare pred samesign compared x y) other = other
no_phi_substituted to (Unary op truth x) other = other
no_phi_substituted to (Select c x y) other = other
no_phi_substituted to (Convert cast flags from x) other = other
no_phi_substituted to (Freeze x) other = other
no_phi_substituted to (Phi entries) other = other

-- a function with the same successors names the same blocks
names_along : (f g : Function) → successors_of g ≡ successors_of f → (b c : ℕ) → Names f b c → Names g b c
names_along f g flow b c (block, at, named) =
    let targets : Block → List ℕ = λ x. targets_of x.end in
    let (other, there, same) = mapped targets (slice_get g.blocks b) (targets block) (sym (slice_get-map targets g.blocks b) ∙ ap (λ (l : List (List ℕ)). slice_get l b) flow ∙ slice_get-map targets f.blocks b ∙ ap (option_map targets) at) in
    (other, there, subst (λ (l : List ℕ). Contains l c) (sym same) named)

pub no_cycles_stay : (f g : Function) → successors_of g ≡ successors_of f → (HasNoPhi f → HasNoPhi g) → HasNoCycles f → HasNoCycles g
no_cycles_stay f g flow phis none = record {
  reached = λ b within.
      let as_many = sym (length-map g.blocks (λ (block : Block). targets_of block.end)) ∙ ap length flow ∙ length-map f.blocks (λ (block : Block). targets_of block.end) in
      reached_along f g (names_along f g flow) b (none.reached b (omega (arith, within, as_many)));
  no_phi = phis none.no_phi;
}

put_cases : {A : Type 0} (xs : List A) (y : A) (k : ℕ) (z : A) → slice_get (xs ++ y ∷ []) k ≡ Some z → (slice_get xs k ≡ Some z) ⊎ (y ≡ z)
put_cases [] y zero z at = inr (same_Some y z at)
put_cases [] y (suc k) z at = absurd cc
put_cases (x ∷ xs) y zero z at = inl at
put_cases (x ∷ xs) y (suc k) z at = put_cases xs y k z at

module _ (f : Function) (b : ℕ) (block : Block) (at : IsBlock f b block) (none : HasNoPhi f) where
  none_here : (k : ℕ) (inst : Inst) → slice_get block.insts k ≡ Some inst → ¬ IsPhi inst.op
  none_here k inst here = none b k inst (record { block = block; is_block = at; is_inst = here })

  no_phi_with : (change : Block → Block) → ((k : ℕ) (inst : Inst) → slice_get (change block).insts k ≡ Some inst → ¬ IsPhi inst.op) → HasNoPhi (with_block f b change)
  no_phi_with change changed c k inst is = elim (block_cases f b change block at c is.block is.is_block) [
    | inl (same, now) ↦ changed k inst (subst (λ (x : Block). slice_get x.insts k ≡ Some inst) now is.is_inst)
    | inr (apart, was) ↦ none c k inst (record { block = is.block; is_block = was; is_inst = is.is_inst })
  ]

  pub no_phi_put : (inst : Inst) → ¬ IsPhi inst.op → HasNoPhi (put_in f b inst)
  no_phi_put inst other = no_phi_with (inst_put inst) (λ k i here. elim (put_cases block.insts inst k i here) [
    | inl was ↦ none_here k i was
    | inr same ↦ subst (λ (x : Inst). ¬ IsPhi x.op) same other
  ])

  pub no_phi_changed : (n : ℕ) (change : Inst → Inst) → ((inst : Inst) → ¬ IsPhi inst.op → ¬ IsPhi (change inst).op) → HasNoPhi (with_block f b (inst_changed n change))
  no_phi_changed n change keeps = no_phi_with (inst_changed n change) (λ k i here. elim (changed_cases n change block.insts k i here) [
    | inl (same, (x, was, now)) ↦ subst (λ (y : Inst). ¬ IsPhi y.op) (sym now) (keeps x (none_here n x was))
    | inr (apart, was) ↦ none_here k i was
  ])

  pub no_phi_end : (change : Terminator → Terminator) → HasNoPhi (with_block f b (end_changed change))
  no_phi_end change = no_phi_with (end_changed change) none_here
