use Rattle.scan.proofs.Common.{ℕ, [], ◌∷◌, sym, ap, ◌∙◌, subst, not, refl, inl, inr, arith, take_rest, codes, begins_with, is_name_byte, IsLongest, is_among, is_unsigned_operator}
use Rattle.scan.proofs.Fronts.{before_some, before_none, two_of}
use Rattle.scan.proofs.length.unsigned_operator.Goals as goal
use Rattle.scan.proofs.length.unsigned_operator.Goals.{else-longest_among-eq2-via-then-longest_among-eq2+else-not-begins_name_byte, else-longest_among-eq2-via-else-longest_among-eq2}

pub returns-then-not-begins_name_byte : goal.returns-then-not-begins_name_byte
unfolding is_unsigned_operator
returns-then-not-begins_name_byte c = before_some (codes "/u" ∷ codes "%u" ∷ []) 2 ((λ rest. not (begins_with is_name_byte rest))) c.args.text.now (two_of (codes "/u") (codes "%u") refl) (omega arith)
    (subst (λ (n : ℕ). IsLongest (λ bytes rest. is_among (codes "/u" ∷ codes "%u" ∷ []) bytes) c.args.text.now n) c.if-longest_among-eq2.true c.longest_among.ensures)
    (rw take_rest at (ap not (sym c.begins_name_byte.ensures) ∙ ap not c.if-not-begins_name_byte.true))

pub returns-else-longest_among-eq2 : goal.returns-else-longest_among-eq2
unfolding is_unsigned_operator
returns-else-longest_among-eq2 c = elim c.else-longest_among-eq2.branch [
  | else-longest_among-eq2-via-then-longest_among-eq2+else-not-begins_name_byte w ↦ before_none (codes "/u" ∷ codes "%u" ∷ []) 2 ((λ rest. not (begins_with is_name_byte rest))) c.args.text.now c.longest_among.result (two_of (codes "/u") (codes "%u") refl) (omega arith) c.longest_among.ensures
      (inr (rw take_rest at (ap not (sym w.begins_name_byte.ensures) ∙ ap not w.if-not-begins_name_byte.false)))
  | else-longest_among-eq2-via-else-longest_among-eq2 w ↦ before_none (codes "/u" ∷ codes "%u" ∷ []) 2 ((λ rest. not (begins_with is_name_byte rest))) c.args.text.now c.longest_among.result (two_of (codes "/u") (codes "%u") refl) (omega arith) c.longest_among.ensures (inl w.if-longest_among-eq2.false)
]
