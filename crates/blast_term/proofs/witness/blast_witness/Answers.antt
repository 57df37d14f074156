use Rattle.blast_term.proofs.Common.{◌≡◌, length, sym, ap, ◌∙◌, slice_index, length-map, IfOk-weaker, Adds-trans, Term}
use Rattle.blast_term.proofs.witness.blast_witness.Goals as goal

pub numbers_at-requires-clause-there : goal.numbers_at-requires-clause-there
numbers_at-requires-clause-there g c =
    let held = c.in_ok-terms.terms.items in
    let widths = rw c.as_slice.ensures at c.in_ok-terms.ensures.widths in
    let long : length held ≡ length c.args.rule.now.witness_terms =
    sym (length-map held (λ h. length h.bits)) ∙ ap length widths ∙ length-map c.args.rule.now.witness_terms (λ (t : Term). slice_index c.args.typing.now t.class) in
    rw (c.deref.ensures.value, c.as_slice-2.ensures, long) c.requires.there

pub numbers_at-requires-clause-own : goal.numbers_at-requires-clause-own
numbers_at-requires-clause-own g c = rw c.deref.ensures.value c.in_ok-terms.ensures.own

pub returns-clause-numbers : goal.returns-clause-numbers
returns-clause-numbers g c =
    let keeps = c.blast_terms.ensures.adds.keeps in
    IfOk-weaker c.numbers_at.result _ _ (λ words numbers inputs names admitted means.
    let values = rw c.as_slice.ensures at (c.in_ok-terms.ensures.values inputs names admitted means) in
    let widths = rw c.as_slice.ensures at c.in_ok-terms.ensures.widths in
    rw (c.deref.ensures.value, c.as_slice-2.ensures, widths, values) at (numbers inputs (keeps.admitted inputs admitted))) c.numbers_at.ensures.numbers

pub returns-clause-widths : goal.returns-clause-widths
returns-clause-widths g c =
    let widths = rw c.as_slice.ensures at c.in_ok-terms.ensures.widths in
    IfOk-weaker c.numbers_at.result _ _ (λ words is. rw (c.deref.ensures.value, c.as_slice-2.ensures, widths) at is) c.numbers_at.ensures.widths

pub returns-clause-adds : goal.returns-clause-adds
returns-clause-adds g c =
    let widths = rw c.as_slice.ensures at c.in_ok-terms.ensures.widths in
    let first = rw c.as_slice.ensures at c.blast_terms.ensures.adds in
    let second = rw (c.deref.ensures.value, c.as_slice-2.ensures, widths) at c.numbers_at.ensures.adds in
    Adds-trans first second
