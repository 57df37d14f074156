use Rattle.scan.proofs.Common.{ℕ, [], ◌∷◌, sym, ◌∙◌, subst, inl, inr, arith, take_rest, codes, begins_with, IsLongest, is_among, is_remainder, begins_argument}
use Rattle.scan.proofs.Fronts.{before_some, before_none, one_of}
use Rattle.scan.proofs.length.remainder.Goals as goal
use Rattle.scan.proofs.length.remainder.Goals.{else-longest_among-eq1-via-then-longest_among-eq1+else-begins_argument, else-longest_among-eq1-via-else-longest_among-eq1}

pub returns-then-begins_argument : goal.returns-then-begins_argument
unfolding is_remainder
returns-then-begins_argument c = before_some (codes "%" ∷ []) 1 (begins_with begins_argument) c.args.text.now (one_of (codes "%")) (omega arith)
    (subst (λ (n : ℕ). IsLongest (λ bytes rest. is_among (codes "%" ∷ []) bytes) c.args.text.now n) c.if-longest_among-eq1.true c.longest_among.ensures)
    (rw take_rest at (sym c.begins_argument.ensures ∙ c.if-begins_argument.true))

pub returns-else-longest_among-eq1 : goal.returns-else-longest_among-eq1
unfolding is_remainder
returns-else-longest_among-eq1 c = elim c.else-longest_among-eq1.branch [
  | else-longest_among-eq1-via-then-longest_among-eq1+else-begins_argument w ↦ before_none (codes "%" ∷ []) 1 (begins_with begins_argument) c.args.text.now c.longest_among.result (one_of (codes "%")) (omega arith) c.longest_among.ensures
      (inr (rw take_rest at (sym w.begins_argument.ensures ∙ w.if-begins_argument.false)))
  | else-longest_among-eq1-via-else-longest_among-eq1 w ↦ before_none (codes "%" ∷ []) 1 (begins_with begins_argument) c.args.text.now c.longest_among.result (one_of (codes "%")) (omega arith) c.longest_among.ensures (inl w.if-longest_among-eq1.false)
]
