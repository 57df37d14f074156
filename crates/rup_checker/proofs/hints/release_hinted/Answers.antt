use Rattle.rup_checker.proofs.Common.{◌==◌, ◌≡◌, ℕ, ◌<◌, ◌≤◌, false, not, ◌&&◌, List, get_or, length, sym, ◌∙◌, subst, inl, inr, true≢false, clauses_with, used_in}
use Rattle.rup_checker.proofs.UsedLemmas.{Accounted-less, marked_later, none_marked}
use Rattle.rup_checker.proofs.hints.release_hinted.Goals as goal

pub loop-number-preserved : goal.loop-number-preserved
loop-number-preserved c =
    let step = c.args.step.now in
    let place = c.loop-number.number-index in
    let items = c.as_slice-number-items.result.now in
    let is : items ≡ step.hints = c.as_slice-number-items.ensures in
    let used = c.loop-number.used in
    let less = c.release_marked.new.used in
    let taken : (n : ℕ) → used_in less n ≡ (used_in used n && not (n == get_or step.hints place 0)) =
    subst (λ (hints : List ℕ). (n : ℕ) → used_in less n ≡ (used_in used n && not (n == get_or hints place 0))) is c.release_marked.ensures.taken in
    record {
      accounted =
          Accounted-less (clauses_with c.args.cnf.now c.args.earlier.now) step.clause (get_or items place 0) c.loop-number.table c.release_marked.new.table used less
          c.release_marked.ensures.released c.release_marked.ensures.taken c.loop-number.invariant.accounted;
      marked =
          marked_later step.hints place used less (subst (λ (hints : List ℕ). place < length hints) is c.loop-number-test.true) taken
          c.loop-number.invariant.marked;
    }

pub returns-clause-unused : goal.returns-clause-unused
returns-clause-unused c =
    none_marked c.args.step.now.hints c.loop-number.number-index c.loop-number.used
    (subst (λ (hints : List ℕ). length hints ≤ c.loop-number.number-index) c.as_slice-number-items.ensures c.loop-number-test.false) c.loop-number.invariant.marked

pub returns-clause-own : goal.returns-clause-own
returns-clause-own c =
    λ m holds.
    let none : (number : ℕ) → used_in c.loop-number.used number ≡ false =
    none_marked c.args.step.now.hints c.loop-number.number-index c.loop-number.used
    (subst (λ (hints : List ℕ). length hints ≤ c.loop-number.number-index) c.as_slice-number-items.ensures c.loop-number-test.false) c.loop-number.invariant.marked in
    elim (c.loop-number.invariant.accounted m holds) [
      | inl own ↦ own
      | inr (n, is, stands) ↦ absurd (true≢false (sym is ∙ none n))
    ]
