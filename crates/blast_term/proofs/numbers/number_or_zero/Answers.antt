use Rattle.blast_term.proofs.Common.{◌≡◌, length, replicate, sym, ap, ◌∙◌, length-replicate, All-replicate, IfOk-weaker, number, Adds-none}
use Rattle.blast_term.proofs.Functions.{or_zero-word}
use Rattle.blast_term.proofs.numbers.number_or_zero.Goals as goal

pub select-requires-clause-same_width : goal.select-requires-clause-same_width
select-requires-clause-same_width g c =
    rw (c.as_slice.ensures, c.as_slice-2.ensures) (sym (ap length c.in_ok-zeros.ensures ∙ length-replicate c.len.result c.zero.result ∙ c.len.ensures))

pub select-requires-clause-own_condition : goal.select-requires-clause-own_condition
select-requires-clause-own_condition g c = c.requires.poison

pub select-requires-clause-own_yes : goal.select-requires-clause-own_yes
select-requires-clause-own_yes g c = rw (c.as_slice.ensures, c.in_ok-zeros.ensures) (All-replicate (g.C.State.has_literal c.args.c.now) c.len.result c.zero.result c.zero.ensures.own)

pub select-requires-clause-own_no : goal.select-requires-clause-own_no
select-requires-clause-own_no g c = rw c.as_slice-2.ensures c.requires.bits

pub returns-in_err-zeros-clause-adds : goal.returns-in_err-zeros-clause-adds
returns-in_err-zeros-clause-adds g c = Adds-none

pub returns-clause-number : goal.returns-clause-number
returns-clause-number g c = IfOk-weaker c.select.result _ _ (λ word known inputs admitted.
    let value = g.C.State.value c.args.c.now inputs in
    ap number (known inputs admitted) ∙ rw (c.as_slice.ensures, c.as_slice-2.ensures)
    (or_zero-word value c.args.held.now c.in_ok-zeros.zeros (length c.args.held.now.bits) c.zero.result (c.in_ok-zeros.ensures ∙ ap (λ n. replicate n c.zero.result) c.len.ensures) (c.zero.ensures.value inputs admitted)))
    c.select.ensures.values

pub returns-clause-width : goal.returns-clause-width
returns-clause-width g c =
    let width : length c.as_slice.result.now ≡ length c.args.held.now.bits = ap length (c.as_slice.ensures ∙ c.in_ok-zeros.ensures) ∙ length-replicate c.len.result c.zero.result ∙ c.len.ensures in
    IfOk-weaker c.select.result _ _ (λ word is. is ∙ width) c.select.ensures.width

pub returns-clause-own : goal.returns-clause-own
returns-clause-own g c = c.select.ensures.own

pub returns-clause-adds : goal.returns-clause-adds
returns-clause-adds g c =
    let width : length c.as_slice.result.now ≡ length c.args.held.now.bits = ap length (c.as_slice.ensures ∙ c.in_ok-zeros.ensures) ∙ length-replicate c.len.result c.zero.result ∙ c.len.ensures in
    rw width at c.select.ensures.adds
