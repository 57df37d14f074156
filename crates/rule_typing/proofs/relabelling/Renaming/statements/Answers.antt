use Rattle.rule_typing.proofs.Common.{◌∙◌, length, map, ap, sym, arith, length-map, get_or-map, Statement, mapped_statement, renamed}
use Rattle.rule_typing.proofs.Seams.{seam_length, seam_next}
use Rattle.rule_typing.proofs.relabelling.Renaming.statements.Goals as goal

pub get_mut-statement-requires : goal.get_mut-statement-requires
get_mut-statement-requires c =
    let new = map (mapped_statement (renamed c.args.self)) c.args.statements.now in
    let same = length-map c.args.statements.now (mapped_statement (renamed c.args.self)) in
    let count = ap length c.loop-place.invariant ∙ seam_length new c.args.statements.now c.loop-place.place same in
    omega (arith, count)

pub loop-place-preserved : goal.loop-place-preserved
loop-place-preserved c =
    let f = mapped_statement (renamed c.args.self) in
    let x : Statement = c.get_mut-statement.result.now in
    let same = length-map c.args.statements.now f in
    rw (c.of-statement.ensures, c.op-statement.ensures)
    (seam_next (map f c.args.statements.now) c.args.statements.now c.loop-place.statements c.loop-place.place x (f x) c.loop-place.invariant same (omega arith) c.get_mut-statement.ensures.value
    (λ is. ap f is ∙ sym (get_or-map f c.args.statements.now c.loop-place.place x)))
