-- Use lists from which places are dropped that don't read the register.
use Rattle.draft.proofs.Common.{◌≡◌, ◌↔◌, inl, inr, List, sym, subst, ◌∙◌, Contains, Function, Register, operands_at, AreReadersOf, IsListSetTo, IsPlaceIn, IsReader, arena_place, listed_for, Place, Readers, is_same_register, reads_written, written_reads}
use Rattle.ir_core.specs.declared.operand.Operand.TheVariants as operands

module _ (f : Function) (register : Register) (empty kept : List Place) (old mid new : Readers) (are : AreReadersOf f old) (taken : IsListSetTo register empty old mid) (put : IsListSetTo register kept mid new)
    (chosen : (p : Place) → Contains kept p ↔ (Contains (listed_for old register) p × Contains (operands_at f p) (operands.Register register))) where
  others : (r : Register) → ¬ (r ≡ register) → listed_for new r ≡ listed_for old r
  others r apart = put.others r apart ∙ taken.others r apart

  pub trimmed_exact : (p : Place) → Contains (listed_for new register) p ↔ (IsPlaceIn f p × IsReader f register p)
  trimmed_exact p = (
    λ h.
        let (there, reads) = (chosen p).0 (subst (λ (l : List Place). Contains l p) put.is h) in
        (are.places register p there, written_reads f p.block (arena_place f p) register reads),
    λ (inside, reader). subst (λ (l : List Place). Contains l p) (sym put.is)
        ((chosen p).1 (are.complete register p inside reader, reads_written f p.block (arena_place f p) register reader)),
  )

  pub trimmed_readers : AreReadersOf f new
  trimmed_readers = record {
    there = λ r known. (put.there r).0 ((taken.there r).0 (are.there r known));
    complete = λ r p inside reader. elim (is_same_register r register) [
      | inl same ↦ subst (λ (s : Register). Contains (listed_for new s) p) (sym same) ((trimmed_exact p).1 (inside, subst (λ (s : Register). IsReader f s p) same reader))
      | inr apart ↦ subst (λ (l : List Place). Contains l p) (sym (others r apart)) (are.complete r p inside reader)
    ];
    places = λ r p h. elim (is_same_register r register) [
      | inl same ↦ ((trimmed_exact p).0 (subst (λ (s : Register). Contains (listed_for new s) p) same h)).0
      | inr apart ↦ are.places r p (subst (λ (l : List Place). Contains l p) (others r apart) h)
    ];
  }
