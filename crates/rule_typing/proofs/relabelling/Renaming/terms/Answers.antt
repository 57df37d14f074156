use Rattle.rule_typing.proofs.Common.{◌∙◌, length, map, ap, sym, arith, length-map, get_or-map, Term, mapped_term, renamed}
use Rattle.rule_typing.proofs.Seams.{seam_length, seam_next}
use Rattle.rule_typing.proofs.relabelling.Renaming.terms.Goals as goal

pub get_mut-term-requires : goal.get_mut-term-requires
get_mut-term-requires c =
    let new = map (mapped_term (renamed c.args.self)) c.args.terms.now in
    let same = length-map c.args.terms.now (mapped_term (renamed c.args.self)) in
    let count = ap length c.loop-place.invariant ∙ seam_length new c.args.terms.now c.loop-place.place same in
    omega (arith, count)

pub loop-place-preserved : goal.loop-place-preserved
loop-place-preserved c =
    let f = mapped_term (renamed c.args.self) in
    let x : Term = c.get_mut-term.result.now in
    let same = length-map c.args.terms.now f in
    rw (c.of-term.ensures, c.node-term.ensures)
    (seam_next (map f c.args.terms.now) c.args.terms.now c.loop-place.terms c.loop-place.place x (f x) c.loop-place.invariant same (omega arith) c.get_mut-term.ensures.value
    (λ is. ap f is ∙ sym (get_or-map f c.args.terms.now c.loop-place.place x)))
