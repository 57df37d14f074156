use Rattle.ir_reader.proofs.Common.{ap, ◌∙◌, RawOperand}
use Rattle.ir_reader.proofs.Meaning.{written_read, found_operand, not_found, unassigned_fault}
use Rattle.ir_reader.proofs.assigned.check_reads.Goals as goal
use Rattle.ir_reader.proofs.assigned.check_reads.Goals.{in-Ok, in-Err-NoMemory, in-Err-Unassigned+in-Some}

pub unassigned-requires : goal.unassigned-requires
unassigned-requires c =
    let arm = c.in-Err-Unassigned in
    let first = (rw arm.field-0-is at arm.ensures).unassigned in
    let r = written_read c.args.raw.now c.args.f.now c.requires.means arm.field-0-0 arm.block arm.place arm.index first in
    let same = found_operand c.args.raw.now c.args.f.now c.requires.means arm.block arm.place arm.index r c.in-Some.written.now c.in-Some.ensures in
    (r.name, ap (λ (o : RawOperand). o.value) same ∙ r.named)

pub unreachable-requires : goal.unreachable-requires
unreachable-requires c =
    let arm = c.in-Err-Unassigned in
    let first = (rw arm.field-0-is at arm.ensures).unassigned in
    let r = written_read c.args.raw.now c.args.f.now c.requires.means arm.field-0-0 arm.block arm.place arm.index first in
    not_found c.args.raw.now c.args.f.now c.requires.means arm.block arm.place arm.index r c.in-None.ensures

pub returns-clause-refused : goal.returns-clause-refused
returns-clause-refused c =
    let raw = c.args.raw.now in
    let f = c.args.f.now in
    elim c.match-check_assigned.branch [
      | in-Ok w ↦ rw w.result-is tt
      | in-Err-NoMemory w ↦ rw w.result-is tt
      | in-Err-Unassigned+in-Some w ↦
          let arm = w.in-Err-Unassigned in
          let first = (rw arm.field-0-is at arm.ensures).unassigned in
          rw w.result-is (unassigned_fault raw f c.requires.means w.unassigned.result arm.field-0-0 arm.block arm.place arm.index first w.in-Some.written.now w.in-Some.ensures w.unassigned.ensures)
    ]
