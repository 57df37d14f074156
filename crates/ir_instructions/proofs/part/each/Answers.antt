use Rattle.ir_instructions.proofs.Common.{◌∙◌, sym, refl, err_from_is_err_and, seen}
use Rattle.ir_instructions.proofs.Loops.{each-more, each-fault, each-done}
use Rattle.ir_instructions.proofs.part.each.Goals as goal

pub returns-in_err-read : goal.returns-in_err-read
returns-in_err-read g c =
    let p = err_from_is_err_and c.from_residual.result c.from_residual.ensures.1 in
    record { read = rw (p.1, p.2) (each-fault g.P.Part.begins g.P.Part.reader c.parts.parts (seen c.parts.rest.now) _ c.in_err-read.field-0.0 (sym c.is_next.ensures ∙ c.parts-test.true) c.in_err-read.ensures c.parts.invariant); unmoved = rw p.1 refl }

pub parts-smaller : goal.parts-smaller
parts-smaller g c = c.requires (seen c.parts.rest.now) (c.in_ok-read.field-0, seen c.read.new.tokens.now) (sym c.is_next.ensures ∙ c.parts-test.true) c.in_ok-read.ensures

pub parts-preserved : goal.parts-preserved
parts-preserved g c =
    rw c.in_ok-push.ensures.ok (
    sym (each-more g.P.Part.begins g.P.Part.reader c.requires c.parts.parts (seen c.parts.rest.now) (c.in_ok-read.field-0, seen c.read.new.tokens.now) (sym c.is_next.ensures ∙ c.parts-test.true) c.in_ok-read.ensures)
    ∙ c.parts.invariant)

pub returns : goal.returns
returns g c = record { read = sym c.parts.invariant ∙ each-done g.P.Part.begins g.P.Part.reader c.parts.parts (seen c.parts.rest.now) (sym c.is_next.ensures ∙ c.parts-test.false); unmoved = tt }
