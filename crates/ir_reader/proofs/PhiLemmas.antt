-- Phis and their operands.
use Rattle.ir_reader.proofs.Common.{◌≡◌, ◌≢◌, ◌⊎◌, ◌↔◌, inl, inr, ℕ, zero, suc, ◌+◌, ◌<◌, nat_eq, Bool, true, false, not, List, [], ◌∷◌, ◌++◌, take, length, get_or, Option, None, Some, IsTrue, refl, ap, sym, subst, ◌∙◌, arith, slice_get, Contains, All, IsSome, ◌&&◌, then_some, false≢true, eqb-true, eqb_tells, nat_eq_equiv, take_more, take_all, Contains-append_left, Contains-push, Contains-push_cases, list_any-from_Contains, slice_get-get_or, same_Some, Contains-list_any, IndexMap, get, IndexSet, contains, Function, Block, Inst, Op, Binary, Compare, Select, Convert, Freeze, Phi, Operand, IsBlock, Names, IsPhi, RawFunction, RawBlock, RawInst, IsFirst, first_same, first_if, OpFits, BadPhiHere, ArePredecessors, EntriesFitIn, OpFitsIn, FirstArePhis, BadPhiIn}
use Rattle.ir_core.specs.declared.instruction.Op.TheVariants.{Unary}
use Rattle.ir_reader.proofs.Places.{order, same_at, contained}

-- ---- the operands of the first entries

whole : {X : Type 0} (xs : List X) (n : ℕ) (x : X) → Contains (take n xs) x → Contains xs x
whole [] zero x among = among
whole [] (suc n) x among = among
whole (y ∷ xs) zero x (k, lt, is) = absurd (omega arith)
whole (y ∷ xs) (suc n) x (zero, lt, is) = (zero, omega arith, is)
whole (y ∷ xs) (suc n) x (suc k, lt, is) = let (j, lt', is') = whole xs n x (k, omega arith, is) in (suc j, omega arith, is')

same_pair : (a b : Operand) (m n : ℕ) → a ≡ b → m ≡ n → ◌≡◌ {A = Operand × ℕ} (a, m) (b, n)
same_pair a b m n p q = cc

-- the table has the operands of the first n entries
abbrev pub Knows : {S : Type 0} → List (Operand × ℕ) → ℕ → IndexMap ℕ Operand S → Type 0
Knows entries n m = (c : ℕ) (x : Operand) → (get nat_eq m c ≡ Some x) ↔ Contains (take n entries) (x, c)

-- where entry i is this one
module _ (entries : List (Operand × ℕ)) (i : ℕ) (e : Operand × ℕ) (within : i < length entries) (here : e ≡ get_or entries i e) where
  own : Contains entries (e.0, e.1)
  own = (i, within, sym here)

  push : take (i + 1) entries ≡ take i entries ++ e ∷ []
  push = take_more entries i e within ∙ ap (λ x. take i entries ++ x ∷ []) (sym here)

  pub no_predecessor : {R : Type 0} (set : IndexSet ℕ R) → contains nat_eq set e.1 ≡ false → ¬ EntriesFitIn set entries
  no_predecessor set none fit = false≢true (sym none ∙ (fit.from e.1).0 (e.0, own))

  pub two_operands : {S R : Type 0} (set : IndexSet ℕ R) (m : IndexMap ℕ Operand S) → Knows entries i m → (keeps : Bool) → keeps ≡ false
      → (IsTrue keeps ↔ ((other : Operand) → get nat_eq m e.1 ≡ Some other → other ≡ e.0)) → ¬ EntriesFitIn set entries
  two_operands set m knows keeps is keeps_iff fit = false≢true (sym is ∙ keeps_iff.1 (λ other at. fit.one other e.0 e.1 (whole entries i (other, e.1) ((knows e.1 other).0 at)) own))

  pub knows_more : {S : Type 0} (m n : IndexMap ℕ Operand S) → Knows entries i m → ((other : Operand) → get nat_eq m e.1 ≡ Some other → other ≡ e.0) → get nat_eq n e.1 ≡ Some e.0
      → ((c : ℕ) → c ≢ e.1 → get nat_eq n c ≡ get nat_eq m c) → Knows entries (i + 1) n
  knows_more m n knows one has others c x = elim (eqb_tells c e.1) [ inl (same, is) ↦ own_block is | inr (other, differ) ↦ other_block differ ]
    where
      old_or_new : Contains (take (i + 1) entries) (x, c) → Contains (take i entries) (x, c) ⊎ ((x ≡ e.0) × (c ≡ e.1))
      old_or_new among = elim (Contains-push_cases (take i entries) e (x, c) (subst (λ l. Contains l (x, c)) push among)) [
        | inl old ↦ inl old
        | inr new ↦ inr (sym (ap (λ (p : Operand × ℕ). p.0) new), sym (ap (λ (p : Operand × ℕ). p.1) new))
      ]

      kept : Contains (take i entries) (x, c) → Contains (take (i + 1) entries) (x, c)
      kept old = subst (λ l. Contains l (x, c)) (sym push) (Contains-append_left (take i entries) (e ∷ []) (x, c) old)

      added : x ≡ e.0 → c ≡ e.1 → Contains (take (i + 1) entries) (x, c)
      added x_is c_is = subst (λ l. Contains l (x, c)) (sym push) (subst (Contains (take i entries ++ e ∷ [])) (same_pair e.0 x e.1 c (sym x_is) (sym c_is)) (Contains-push (take i entries) e))

      own_block : c ≡ e.1 → (get nat_eq n c ≡ Some x) ↔ Contains (take (i + 1) entries) (x, c)
      own_block is = (
        λ at. added (same_Some x e.0 (sym at ∙ ap (get nat_eq n) is ∙ has)) is,
        λ among. ap (get nat_eq n) is ∙ has ∙ ap (λ y. Some y) (sym (elim (old_or_new among) [ inl old ↦ one x (ap (get nat_eq m) (sym is) ∙ (knows c x).1 old) | inr new ↦ new.0 ])),
      )

      other_block : (c ≡ e.1 → ⊥) → (get nat_eq n c ≡ Some x) ↔ Contains (take (i + 1) entries) (x, c)
      other_block differ = (
        λ at. kept ((knows c x).0 (sym (others c differ) ∙ at)),
        λ among. others c differ ∙ elim (old_or_new among) [ inl old ↦ (knows c x).1 old | inr new ↦ absurd (differ new.1) ],
      )

  pub among_more : {R : Type 0} (set : IndexSet ℕ R) → ((c : ℕ) (x : Operand) → Contains (take i entries) (x, c) → IsTrue (contains nat_eq set c)) → contains nat_eq set e.1 ≡ true
      → (c : ℕ) (x : Operand) → Contains (take (i + 1) entries) (x, c) → IsTrue (contains nat_eq set c)
  among_more set among is c x in_all = elim (Contains-push_cases (take i entries) e (x, c) (subst (λ l. Contains l (x, c)) push in_all)) [
    | inl old ↦ among c x old
    | inr new ↦ subst (λ p. IsTrue (contains nat_eq set p)) (ap (λ (p : Operand × ℕ). p.1) new) is
  ]

-- the table has the operands of all entries
pub knows_all : {S : Type 0} (entries : List (Operand × ℕ)) (i : ℕ) (m : IndexMap ℕ Operand S) → length entries ≡ i → Knows entries i m → (c : ℕ) (x : Operand) → (get nat_eq m c ≡ Some x) ↔ Contains entries (x, c)
knows_all entries i m end knows = subst (λ l. (c : ℕ) (x : Operand) → (get nat_eq m c ≡ Some x) ↔ Contains l (x, c)) (take_all i entries (omega arith)) knows

pub all_among : {R : Type 0} (entries : List (Operand × ℕ)) (i : ℕ) (set : IndexSet ℕ R) → length entries ≡ i → ((c : ℕ) (x : Operand) → Contains (take i entries) (x, c) → IsTrue (contains nat_eq set c)) → (c : ℕ) (x : Operand) → Contains entries (x, c) → IsTrue (contains nat_eq set c)
all_among entries i set end among = subst (λ l. (c : ℕ) (x : Operand) → Contains l (x, c) → IsTrue (contains nat_eq set c)) (take_all i entries (omega arith)) among

-- ---- the entries of a phi

from_some : {X : Type 0} (o : Option X) → IsSome o → (x : X) × (o ≡ Some x)
from_some None h = cc
from_some (Some x) h = (x, refl)

to_some : {X : Type 0} (o : Option X) (x : X) → o ≡ Some x → IsSome o
to_some None x h = cc
to_some (Some y) x h = refl

module _ {S R : Type 0} (set : IndexSet ℕ R) (entries : List (Operand × ℕ)) (m : IndexMap ℕ Operand S) (knows : (c : ℕ) (x : Operand) → (get nat_eq m c ≡ Some x) ↔ Contains entries (x, c)) where
  fit_keys : ((c : ℕ) (x : Operand) → Contains entries (x, c) → IsTrue (contains nat_eq set c)) → All (λ c. IsSome (get nat_eq m c)) set.keys ↔ EntriesFitIn set entries
  fit_keys among = (
    λ all. record {
      from = λ c. (
        λ (x, in_all). among c x in_all,
        λ has. let (k, lt, at) = Contains-list_any nat_eq eqb-true set.keys c has in
            let (x, is) = from_some (get nat_eq m c) (subst (λ y. IsSome (get nat_eq m y)) at (all k c lt)) in
            (x, (knows c x).0 is),
      );
      one = λ x y c p q. same_Some x y (sym ((knows c x).1 p) ∙ (knows c y).1 q);
    },
    λ fit k d lt.
        let c = get_or set.keys k d in
        let (x, in_all) = (fit.from c).1 (list_any-from_Contains nat_eq_equiv c set.keys (contained set.keys k c (slice_get-get_or set.keys k d lt))) in
        to_some (get nat_eq m c) x ((knows c x).1 in_all),
  )

  pub fit_exactly : (keys : List ℕ) → keys ≡ set.keys → ((c : ℕ) (x : Operand) → Contains entries (x, c) → IsTrue (contains nat_eq set c)) → All (λ c. IsSome (get nat_eq m c)) keys ↔ EntriesFitIn set entries
  fit_exactly keys is among = subst (λ ks. All (λ c. IsSome (get nat_eq m c)) ks ↔ EntriesFitIn set entries) (sym is) (fit_keys among)

-- ---- the phis of a block

not_iff : (b : Bool) (P : Type 0) → (IsTrue b ↔ P) → IsTrue (not b) ↔ ¬ P
not_iff true P iff = (λ h. absurd (false≢true h), λ none. absurd (none (iff.0 refl)))
not_iff false P iff = (λ h p. false≢true (iff.1 p), λ none. refl)

and_iff : (a b : Bool) → IsTrue (a && b) ↔ (IsTrue a × IsTrue b)
and_iff true b = (λ h. (refl, h), λ h. h.1)
and_iff false b = (λ h. absurd (false≢true h), λ h. absurd (false≢true h.0))

module _ {R : Type 0} (set : IndexSet ℕ R) where
  fits_where : (P Q : Type 0) → (P → Q) → (op : Op) → OpFitsIn set P op → OpFitsIn set Q op
  fits_where P Q f (Phi entries) h = (f h.0, h.1)
  fits_where P Q f (Binary op flags x y) h = tt
  fits_where P Q f (Compare pred samesign width x y) h = tt
  fits_where P Q f (Select c x y) h = tt
  fits_where P Q f (Convert cast flags from x) h = tt
  fits_where P Q f (Unary op truth x) h = tt
  fits_where P Q f (Freeze x) h = tt

  module _ (written : List RawInst) (insts : List Inst) (k : ℕ) (inst : Inst) (w : RawInst) (here : slice_get insts k ≡ Some inst) (w_here : slice_get written k ≡ Some w) where
    -- the line of an instruction, if it is a phi that doesn't fit
    pub bad_here : (only fits : Bool) (found : Option ℕ) → (IsTrue only ↔ FirstArePhis insts k) → (IsTrue fits ↔ OpFitsIn set (IsTrue only) inst.op) → found ≡ then_some (not fits) w.result.line → IsFirst (BadPhiIn set written insts k) found
    bad_here only fits found phis iff is =
        first_same (λ line. ¬ OpFitsIn set (FirstArePhis insts k) inst.op × (w.result.line ≡ line)) (BadPhiIn set written insts k)
        (λ line (bad, on). ((inst, here, bad), (w, w_here, on)))
        (λ line ((inst', at, bad), (w', w_at, on)).
        (subst (λ (x : Inst). ¬ OpFitsIn set (FirstArePhis insts k) x.op) (same_at insts k inst' inst at here) bad, ap (λ (x : RawInst). x.result.line) (same_at written k w w' w_here w_at) ∙ on))
        found
        (first_if (not fits) (¬ OpFitsIn set (FirstArePhis insts k) inst.op) w.result.line found
        (not_iff fits (OpFitsIn set (FirstArePhis insts k) inst.op) (λ h. fits_where (IsTrue only) (FirstArePhis insts k) phis.0 inst.op (iff.0 h), λ h. iff.1 (fits_where (FirstArePhis insts k) (IsTrue only) phis.1 inst.op h))) is)

-- whether the first instructions are phis, with one more
pub phis_more : (insts : List Inst) (k : ℕ) (inst : Inst) (only is_phi : Bool) → slice_get insts k ≡ Some inst → (IsTrue only ↔ FirstArePhis insts k) → (IsTrue is_phi ↔ IsPhi inst.op) → IsTrue (only && is_phi) ↔ FirstArePhis insts (k + 1)
phis_more insts k inst only is_phi here first iff = (
  λ h j earlier lt at. let both = (and_iff only is_phi).0 h in
      elim (order j k) [
        | inl before ↦ first.0 both.0 j earlier before at
        | inr (inl e) ↦ subst (λ (x : Inst). IsPhi x.op) (same_at insts k inst earlier here (subst (λ n. slice_get insts n ≡ Some earlier) e at)) (iff.0 both.1)
        | inr (inr behind) ↦ absurd (omega arith)
      ],
  λ phis. (and_iff only is_phi).1 (first.1 (λ j earlier lt at. phis j earlier (omega arith) at), iff.1 (phis k inst (omega arith) here)),
)

-- ---- the phis of a function

module _ {R : Type 0} (raw : RawFunction) (f : Function) (sets : List (IndexSet ℕ R)) (preds : ArePredecessors f sets) (b : ℕ) (w : RawBlock) (block : Block) (set : IndexSet ℕ R)
    (w_at : slice_get raw.blocks b ≡ Some w) (at : IsBlock f b block) (set_at : slice_get sets b ≡ Some set) where
  named : (c : ℕ) → IsTrue (contains nat_eq set c) ↔ Names f c b
  named c = (
    λ has. (preds.holds b c).0 (set, set_at, has),
    λ names. let (other, other_at, has) = (preds.holds b c).1 names in subst (λ s. IsTrue (contains nat_eq s c)) (same_at sets b other set other_at set_at) has,
  )

  op_fits : (k : ℕ) (op : Op) → OpFitsIn set (FirstArePhis block.insts k) op ↔ OpFits f b k op
  op_fits k (Phi entries) = (
    λ h. record {
      only_phis = λ j earlier lt inst. h.0 j earlier lt (subst (λ (x : Block). slice_get x.insts j ≡ Some earlier) (same_at f.blocks b inst.block block inst.is_block at) inst.is_inst);
      from = λ c. (λ some. (named c).0 ((h.1.from c).0 some), λ names. (h.1.from c).1 ((named c).1 names));
      one = h.1.one;
    },
    λ h. (
      λ j earlier lt here. h.only_phis j earlier lt (record { block = block; is_block = at; is_inst = here }),
      record { from = λ c. (λ some. (named c).1 ((h.from c).0 some), λ has. (h.from c).1 ((named c).0 has)); one = h.one },
    ),
  )
  op_fits k (Binary op flags x y) = (λ h. tt, λ h. tt)
  op_fits k (Compare pred samesign width x y) = (λ h. tt, λ h. tt)
  op_fits k (Select c x y) = (λ h. tt, λ h. tt)
  op_fits k (Convert cast flags from x) = (λ h. tt, λ h. tt)
  op_fits k (Unary op truth x) = (λ h. tt, λ h. tt)
  op_fits k (Freeze x) = (λ h. tt, λ h. tt)

  pub bad_in_block : (found : Option ℕ) → IsFirst (λ line. (k : ℕ) × BadPhiIn set w.insts block.insts k line) found → IsFirst (λ line. (k : ℕ) × BadPhiHere raw f b k line) found
  bad_in_block found first =
      first_same (λ line. (k : ℕ) × BadPhiIn set w.insts block.insts k line) (λ line. (k : ℕ) × BadPhiHere raw f b k line)
      (λ line (k, ((inst, here, bad), (written, there, on))). (k, ((inst, record { block = block; is_block = at; is_inst = here }, λ fits. bad ((op_fits k inst.op).1 fits)), (written, (w, w_at, there), on))))
      (λ line (k, ((inst, is, bad), (written, (w', w'_at, there), on))). (
        k,
        (
          (inst, subst (λ (x : Block). slice_get x.insts k ≡ Some inst) (same_at f.blocks b is.block block is.is_block at) is.is_inst, λ fits. bad ((op_fits k inst.op).0 fits)),
          (written, subst (λ (x : RawBlock). slice_get x.insts k ≡ Some written) (same_at raw.blocks b w' w w'_at w_at) there, on),
        ),
      ))
      found first

  -- the same in terms of the sets and lists that the code has
  pub bad_in_seen : (found : Option ℕ) (seen : IndexSet ℕ R) (ws : List RawInst) (insts : List Inst) → seen ≡ set → ws ≡ w.insts → insts ≡ block.insts
      → IsFirst (λ line. (k : ℕ) × BadPhiIn seen ws insts k line) found → IsFirst (λ line. (k : ℕ) × BadPhiHere raw f b k line) found
  bad_in_seen found seen ws insts e ws_is insts_is first = bad_in_block found (rw (e, ws_is, insts_is) at first)
