use Rattle.ir_meaning.proofs.Common.{None, sym, ◌∙◌, IfOk-weaker, HasOutcome, HasZeroOutcome, OnlyZero, RunsFrom, held_of}
use Rattle.ir_meaning.proofs.Outcomes.{arguments_count, zero_outcome}
use Rattle.ir_meaning.proofs.ZeroOutcomes.{zero_is_outcome}
use Rattle.ir_meaning.proofs.run.run_zero.Goals as goal

pub breaks_noundef-requires : goal.breaks_noundef-requires
breaks_noundef-requires c = rw (c.as_slice-2.ensures, c.as_slice.ensures) (arguments_count c.args.f.now.parameters c.args.args.now c.requires.arguments)

pub returns-clause-zero : goal.returns-clause-zero
returns-clause-zero c =
    let f = c.args.f.now in
    let args = c.args.args.now in
    let full = held_of f c.in_ok-table.table.values.items in
    let breaks = rw (c.as_slice.ensures, c.as_slice-2.ensures) at (sym c.breaks_noundef.ensures ∙ c.if-breaks_noundef.false) in
    let within = rw c.as_slice-3.ensures at c.in_ok-table.ensures.arguments in
    IfOk-weaker c.run.result (RunsFrom OnlyZero f c.args.blocks None 0 full) (HasZeroOutcome f args c.args.blocks)
    (λ o run. zero_outcome f args full c.args.blocks o c.requires.checks c.requires.arguments breaks within run) c.run.ensures

pub returns-clause-outcome : goal.returns-clause-outcome
returns-clause-outcome c =
    let f = c.args.f.now in
    let args = c.args.args.now in
    let full = held_of f c.in_ok-table.table.values.items in
    let breaks = rw (c.as_slice.ensures, c.as_slice-2.ensures) at (sym c.breaks_noundef.ensures ∙ c.if-breaks_noundef.false) in
    let within = rw c.as_slice-3.ensures at c.in_ok-table.ensures.arguments in
    IfOk-weaker c.run.result (RunsFrom OnlyZero f c.args.blocks None 0 full) (HasOutcome f args c.args.blocks)
    (λ o run. zero_is_outcome f args c.args.blocks o (zero_outcome f args full c.args.blocks o c.requires.checks c.requires.arguments breaks within run)) c.run.ensures
