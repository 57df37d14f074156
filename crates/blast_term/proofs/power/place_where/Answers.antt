use Rattle.blast_term.proofs.Common.{◌≡◌, if◌then◌else◌, length, map, sym, ap, ◌∙◌, IfOk-weaker, select_gates, number, number_of, Adds-none}
use Rattle.blast_term.proofs.Powers.{number-if}
use Rattle.blast_term.proofs.power.place_where.Goals as goal

pub constant-requires : goal.constant-requires
constant-requires g c = rw c.len.ensures c.requires.fits

pub select-requires-clause-same_width : goal.select-requires-clause-same_width
select-requires-clause-same_width g c = rw (c.as_slice.ensures, c.as_slice-2.ensures) (sym (c.in_ok-places.ensures.width ∙ c.len.ensures))

pub select-requires-clause-own_condition : goal.select-requires-clause-own_condition
select-requires-clause-own_condition g c = c.requires.own_here

pub select-requires-clause-own_yes : goal.select-requires-clause-own_yes
select-requires-clause-own_yes g c = rw c.as_slice.ensures c.in_ok-places.ensures.own

pub select-requires-clause-own_no : goal.select-requires-clause-own_no
select-requires-clause-own_no g c = rw c.as_slice-2.ensures c.requires.own

pub returns-in_err-places-clause-adds : goal.returns-in_err-places-clause-adds
returns-in_err-places-clause-adds g c = Adds-none

pub returns-clause-number : goal.returns-clause-number
returns-clause-number g c =
    let bits = c.args.bits.now in
    IfOk-weaker c.select.result _ _
    (λ made known inputs admitted.
    let start = g.C.State.value c.args.c.now inputs in
    ap number (rw (c.as_slice.ensures, c.as_slice-2.ensures) at (known inputs admitted))
    ∙ number-if (start c.args.here) (map start c.in_ok-places.places) (map start bits)
    ∙ ap (λ n. if start c.args.here then n else number_of start bits) (c.in_ok-places.ensures.number inputs admitted))
    c.select.ensures.values

pub returns-clause-width : goal.returns-clause-width
returns-clause-width g c =
    IfOk-weaker c.select.result _ _ (λ made is. is ∙ ap length c.as_slice.ensures ∙ c.in_ok-places.ensures.width ∙ c.len.ensures) c.select.ensures.width

pub returns-clause-own : goal.returns-clause-own
returns-clause-own g c = c.select.ensures.own

pub returns-clause-adds : goal.returns-clause-adds
returns-clause-adds g c =
    let width : length c.as_slice.result.now ≡ length c.args.bits.now = ap length c.as_slice.ensures ∙ c.in_ok-places.ensures.width ∙ c.len.ensures in
    rw width at c.select.ensures.adds
