use Rattle.blast_term.proofs.Common.{◌≡◌, false, ◌∷◌, [], if◌then◌else◌, length, ap, subst, ◌∙◌, arith, IfOk-weaker, comparison, bits, HasWidth, Poison, Undefined, Gives, number_of, Adds-trans, Adds-weaken, held_value, effect_of}
use Rattle.blast_term.proofs.Comparing.{compares-value, one-word, held_value-width, two-widths}
use Rattle.blast_term.proofs.formula.blast_compares.Goals as goal

pub returns-clause-value : goal.returns-clause-value
returns-clause-value g c = IfOk-weaker c.and.result _ _ (λ made known inputs admitted.
    let m = g.C.State in
    let start = m.value c.args.c.now inputs in
    let mid = m.value c.blast_pair.new.c inputs in
    let now = c.blast_pair.ensures.adds.keeps.admitted inputs admitted in
    let left = c.args.left.now in
    let right = c.args.right.now in
    let effect = c.in_ok-made.made in
    let bit = c.index-as_slice-0.result in
    let word : effect.bits ≡ bit ∷ [] = one-word effect.bits bit (c.in_ok-made.ensures.width ∙ c.one.ensures) (rw c.as_slice.ensures at c.index-as_slice-0.is) in
    let has = c.in_ok-made.ensures.effect inputs admitted in
    let gives : effect_of mid effect ≡ Gives (comparison c.args.pred false (length left.bits) (held_value start left) (held_value start right)) =
    has (length left.bits) (held_value-width start left) (subst (HasWidth (held_value start right)) c.requires.same_width (held_value-width start right)) in
    rw (c.not.ensures.value inputs now) at (known inputs now)
    ∙ compares-value c.args.pred (start left.poison) (start right.poison) (mid effect.undefined) (mid effect.poison) (mid bit) (length left.bits) (length right.bits) (number_of start left.bits) (number_of start right.bits)
    (subst (λ w. (if mid effect.undefined then Undefined else Gives (if mid effect.poison then Poison else bits (length w) (number_of mid w))) ≡ Gives (comparison c.args.pred false (length left.bits) (held_value start left) (held_value start right))) word gives))
    c.and.ensures.value

pub blast_pair-requires-clause-operands : goal.blast_pair-requires-clause-operands
blast_pair-requires-clause-operands g c =
    let width = length c.args.left.now.bits in
    (width, c.requires.some, ap (λ n. width ∷ n ∷ []) c.requires.same_width, c.one.ensures)

pub blast_pair-requires-clause-own_left : goal.blast_pair-requires-clause-own_left
blast_pair-requires-clause-own_left g c = c.requires.own_left

pub blast_pair-requires-clause-own_right : goal.blast_pair-requires-clause-own_right
blast_pair-requires-clause-own_right g c = c.requires.own_right

pub returns-in_err-made-clause-adds : goal.returns-in_err-made-clause-adds
returns-in_err-made-clause-adds g c =
    Adds-weaken c.blast_pair.ensures.adds (omega (arith, two-widths (length c.args.left.now.bits) (length c.args.right.now.bits) c.requires.same_width))

pub returns-clause-own : goal.returns-clause-own
returns-clause-own g c = c.and.ensures.own

pub returns-clause-adds : goal.returns-clause-adds
returns-clause-adds g c =
    Adds-weaken (Adds-trans c.blast_pair.ensures.adds c.and.ensures.adds) (omega (arith, two-widths (length c.args.left.now.bits) (length c.args.right.now.bits) c.requires.same_width))
