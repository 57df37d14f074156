use Rattle.changes.proofs.Common.{ℕ, List, false, sym, subst, Went, rewritten_moves, AreAscending, rewritten_function}
use Rattle.changes.proofs.Rewritten.{went_none, came_first, changed_root}
use Rattle.changes.proofs.applying.changes_with.Goals as goal

pub returns : goal.returns
returns c = λ f w root p at result.
    let put = c.args.put in
    let some = c.requires.some in
    record {
      went = subst (λ (l : List (ℕ × ℕ)). AreAscending (Went f (rewritten_function w f) (rewritten_moves w false)) l) (sym c.new-went.ensures) (went_none f w root at put p some);
      came = came_first f w root at put p some c.in_ok-came.came c.in_ok-came.ensures;
      changed = changed_root f w root at put p some result c.in_ok-changed.changed c.in_ok-changed.ensures;
    }
