use Rattle.scan.proofs.Common.{ℕ, List, ◌+◌, ◌≤◌, length, take, not, eqb, refl, sym, ap, subst, ◌∙◌, feeds}
use Rattle.scan.proofs.PlaceLemmas.{run_within, run_feeds}
use Rattle.scan.proofs.cursor.Cursor.take_line.Goals as goal

pub invariant_of-self : goal.invariant_of-self
invariant_of-self c = (
  subst (λ (rest : List ℕ). c.self.inside.at + length rest ≤ length c.self.inside.text.now) (sym c.rest_to_feed-rest.ensures) (run_within (λ b. not (eqb b 10)) c.self.inside.text.now c.self.inside.at c.self.invariant.0),
  c.self.invariant.1 ∙ sym (run_feeds (λ b. not (eqb b 10)) c.self.inside.text.now c.self.inside.at refl)
      ∙ ap (λ (rest : List ℕ). feeds (take (c.self.inside.at + length rest) c.self.inside.text.now)) (sym c.rest_to_feed-rest.ensures),
)
