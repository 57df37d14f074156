use Rattle.draft_bits.proofs.Common.{List, length, inl, inr, sym, ap, subst, ◌∙◌, arith, All, eqb-false, eqb-true, AreBitsBefore, IsPlaceIn, Place, arena_of}
use Rattle.draft_bits.proofs.Updates.{nothing_kept}
use Rattle.draft_bits.proofs.updating.update.Goals as goal

pub returns-then-is_empty-clause-bits : goal.returns-then-is_empty-clause-bits
returns-then-is_empty-clause-bits c before =
    let none = eqb-true c.args.bits.blocks.len 0 (sym c.is_empty.ensures ∙ c.if-is_empty.true) in
    nothing_kept c.args.draft.now c.args.touched.items c.args.bits (omega (arith, none, c.args.bits.blocks.ok.0)) before

pub returns-then-is_empty-clause-none : goal.returns-then-is_empty-clause-none
returns-then-is_empty-clause-none c none = none

pub returns-then-is_empty-clause-touched : goal.returns-then-is_empty-clause-touched
returns-then-is_empty-clause-touched c p has = has

pub begin-requires-clause-whole : goal.begin-requires-clause-whole
begin-requires-clause-whole c = c.requires.settled.whole

pub begin-requires-clause-places : goal.begin-requires-clause-places
begin-requires-clause-places c = subst (All (IsPlaceIn (arena_of c.args.draft.now))) (sym c.as_slice.ensures.value) c.requires.places

pub begin-requires-clause-before : goal.begin-requires-clause-before
begin-requires-clause-before c =
    let before : AreBitsBefore c.args.draft.now c.args.touched.items c.args.bits = elim c.requires.bits [
      | inl are ↦ are
      | inr none ↦ absurd (eqb-false c.args.bits.blocks.len 0 (sym c.is_empty.ensures ∙ c.if-is_empty.false) (let size = ap length none in omega (arith, size, c.args.bits.blocks.ok.0)))
    ] in
    subst (λ (l : List Place). AreBitsBefore c.args.draft.now l c.args.bits) (sym c.as_slice.ensures.value) before

pub follow-requires-clause-few : goal.follow-requires-clause-few
follow-requires-clause-few c = c.in_ok-waiting.ensures.grown.few c.requires.few

pub returns-clause-bits : goal.returns-clause-bits
returns-clause-bits c before = c.in_ok-follow.ensures.bits

pub returns-clause-none : goal.returns-clause-none
returns-clause-none c none =
    absurd (eqb-false c.args.bits.blocks.len 0 (sym c.is_empty.ensures ∙ c.if-is_empty.false) (let size = ap length none in omega (arith, size, c.args.bits.blocks.ok.0)))

pub returns-clause-touched : goal.returns-clause-touched
returns-clause-touched c = c.in_ok-follow.ensures.more

pub returns-clause-same : goal.returns-clause-same
returns-clause-same c b n within free = c.in_ok-follow.ensures.same b n free ∙ c.in_ok-waiting.ensures.grown.kept b n within
