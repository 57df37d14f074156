use Rattle.ir_reader.proofs.Common.{IfErr-weaker, IsTextFault}
use Rattle.ir_reader.proofs.Sets.{on_ok}
use Rattle.ir_reader.proofs.reader.push_entries.Goals as goal

pub returns-clause-ok : goal.returns-clause-ok
returns-clause-ok c =
    let (front, left, is) = c.in_ok-first_entries.ensures in
    let left' = rw (← c.as_slice.ensures.value) at left in
    on_ok c.last_entries.result _ _ (λ read. read c.args.bytes.now front left' is) c.last_entries.ensures.ok

pub returns-clause-refused : goal.returns-clause-refused
returns-clause-refused c =
    let (front, left, is) = c.in_ok-first_entries.ensures in
    let left' = rw (← c.as_slice.ensures.value) at left in
    IfErr-weaker c.last_entries.result _ _ (λ e told. told c.args.bytes.now front left' c.requires.limit) c.last_entries.ensures.refused
