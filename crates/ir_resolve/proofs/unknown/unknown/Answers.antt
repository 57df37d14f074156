use Rattle.ir_resolve.proofs.Common.{map, subst, IsFirst, SomeAt, known_by, seen_read, seen_reads, seen_targets}
use Rattle.ir_resolve.proofs.Firsts.{first_either}
use Rattle.ir_resolve.proofs.Unknowns.{ReadIsUnknown, TargetIsUnknown}
use Rattle.ir_resolve.proofs.unknown.unknown.Goals as goal

pub returns : goal.returns
returns c =
    let known = known_by c.args.names.now in
    let uses = c.args.uses.now in
    let registers = subst (λ reads. IsFirst (SomeAt (map seen_read reads) (ReadIsUnknown known)) c.unknown_register.result) c.as_slice.ensures.value c.unknown_register.ensures in
    let blocks = subst (λ targets. IsFirst (SomeAt (map (λ w. w.now) targets) (TargetIsUnknown known)) c.unknown_block.result) c.as_slice-2.ensures.value c.unknown_block.ensures in
    rw c.lesser.ensures (first_either (SomeAt (seen_reads uses) (ReadIsUnknown known)) (SomeAt (seen_targets uses) (TargetIsUnknown known)) c.unknown_register.result c.unknown_block.result registers blocks)
