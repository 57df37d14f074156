use Rattle.places.proofs.Common.{◌≡◌, ℕ, [], ◌∷◌, ◌++◌, length, sym, ap, subst, ◌∙◌, arith, length_push, Has}
use Rattle.places.proofs.MarkLemmas.{none_has, none_more}
use Rattle.places.proofs.marks.Marks.none.Goals as goal

pub loop-block-init : goal.loop-block-init
loop-block-init c =
    let e : c.new-rows.result.items ≡ [] = cc in
    record { blocks = ap length e; none = λ b n has. none_has b n (subst (λ rows. Has rows b n) e has) }

pub loop-block-preserved : goal.loop-block-preserved
loop-block-preserved c =
    let h = c.loop-block.invariant in
    let blocks = h.blocks in
    let e : c.push.new.self.items ≡ c.loop-block.rows.items ++ [] ∷ [] = c.in_ok-push.ensures.items ∙ ap (λ row. c.loop-block.rows.items ++ row ∷ []) c.new-row.ensures in
    let lengths = ap length e ∙ length_push c.loop-block.rows.items [] in
    record { blocks = omega arith; none = subst (λ rows. (b n : ℕ) → ¬ Has rows b n) (sym e) (none_more c.loop-block.rows.items h.none) }
