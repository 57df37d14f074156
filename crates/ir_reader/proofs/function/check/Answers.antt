-- The checks one by one: what holds if none has failed so far, and the fault of the one that fails.
use Rattle.ir_reader.proofs.Common.{◌∙◌, length, ap, sym, subst, arith, on_ok_weaker, IfErr-weaker, ArePredecessors}
use Rattle.ir_reader.proofs.Meaning.{same_count, targets_within}
use Rattle.ir_reader.proofs.Checking.{bad_phi_fault, entry_fault, reads_fault, function_of}
use Rattle.ir_reader.proofs.function.check.Goals as goal

pub predecessors-requires-clause-targets : goal.predecessors-requires-clause-targets
predecessors-requires-clause-targets c = targets_within c.args.raw.now c.args.f.now c.requires.means

pub returns-in-Some-clause-refused : goal.returns-in-Some-clause-refused
returns-in-Some-clause-refused c =
    bad_phi_fault c.args.raw.now c.args.f.now c.requires.means c.in-Some.line c.refused.result c.refused.ensures (rw c.in-Some.is at c.in_ok-line.ensures)

pub named_entry-requires-clause-some_block : goal.named_entry-requires-clause-some_block
named_entry-requires-clause-some_block c = c.requires.written.some_block

pub named_entry-requires-clause-blocks : goal.named_entry-requires-clause-blocks
named_entry-requires-clause-blocks c =
    let countable = c.is_countable.ensures c.if-not-is_countable.false in
    omega (arith, countable.blocks, same_count c.args.raw.now c.args.f.now c.requires.means)

pub named_entry-requires-clause-count : goal.named_entry-requires-clause-count
named_entry-requires-clause-count c = ap length c.as_slice-2.ensures.value ∙ c.in_ok-predecessors.ensures.count ∙ same_count c.args.raw.now c.args.f.now c.requires.means

pub returns-in-Some-named_entry-clause-refused : goal.returns-in-Some-named_entry-clause-refused
returns-in-Some-named_entry-clause-refused c =
    let f = c.args.f.now in
    entry_fault c.args.raw.now f c.requires.means c.in-Some-named_entry.line c.refused-in-Some-named_entry.result c.refused-in-Some-named_entry.ensures
    (rw c.in_default.is at c.in_ok-line.ensures) (c.in-Some-named_entry.ensures f (subst (ArePredecessors f) (sym c.as_slice-2.ensures.value) c.in_ok-predecessors.ensures))

pub check_reads-requires-clause-some_block : goal.check_reads-requires-clause-some_block
check_reads-requires-clause-some_block c = omega (arith, c.requires.written.some_block, same_count c.args.raw.now c.args.f.now c.requires.means)

pub check_reads-requires-clause-targets : goal.check_reads-requires-clause-targets
check_reads-requires-clause-targets c = targets_within c.args.raw.now c.args.f.now c.requires.means

pub returns-clause-refused : goal.returns-clause-refused
returns-clause-refused c =
    let f = c.args.f.now in
    IfErr-weaker c.check_reads.result _ _ (λ e first. reads_fault c.args.raw.now f c.requires.means e
    (rw c.in_default.is at c.in_ok-line.ensures) (c.in_default-named_entry.ensures f (subst (ArePredecessors f) (sym c.as_slice-2.ensures.value) c.in_ok-predecessors.ensures)) first)
    c.check_reads.ensures.refused

pub returns-clause-ok : goal.returns-clause-ok
returns-clause-ok c =
    let f = c.args.f.now in
    on_ok_weaker c.check_reads.result (function_of c.args.raw.now f c.requires.means c.requires.written
    (rw c.in_default.is at c.in_ok-line.ensures) (c.in_default-named_entry.ensures f (subst (ArePredecessors f) (sym c.as_slice-2.ensures.value) c.in_ok-predecessors.ensures)))
    c.check_reads.ensures.ok
