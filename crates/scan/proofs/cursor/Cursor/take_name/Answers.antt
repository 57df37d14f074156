use Rattle.scan.proofs.Common.{ℕ, List, ◌+◌, ◌≤◌, length, take, refl, sym, ap, subst, ◌∙◌, feeds, is_in_rest}
use Rattle.scan.proofs.PlaceLemmas.{rest_within, run_feeds}
use Rattle.scan.proofs.cursor.Cursor.take_name.Goals as goal

pub invariant_of-self : goal.invariant_of-self
unfolding is_in_rest
invariant_of-self c = (
  subst (λ (rest : List ℕ). c.self.inside.at + length rest ≤ length c.self.inside.text.now) (sym c.rest_of_line-rest.ensures.value) (rest_within c.self.inside.text.now c.self.inside.at c.self.invariant.0),
  c.self.invariant.1 ∙ sym (run_feeds is_in_rest c.self.inside.text.now c.self.inside.at refl)
      ∙ ap (λ (rest : List ℕ). feeds (take (c.self.inside.at + length rest) c.self.inside.text.now)) (sym c.rest_of_line-rest.ensures.value),
)
