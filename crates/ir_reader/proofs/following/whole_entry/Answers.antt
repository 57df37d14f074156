use Rattle.ir_reader.proofs.Common.{length, ◌∙◌, sym, ap, nil_from_length, eqb-true, seen}
use Rattle.ir_reader.proofs.Advancing.{whole_is}
use Rattle.ir_reader.proofs.following.whole_entry.Goals as goal

pub returns-in-Ok : goal.returns-in-Ok
returns-in-Ok c =
    let rest = c.entry.new.tokens.now in
    whole_is (seen c.args.tokens.now) (seen rest) c.in-Ok.entry c.is_empty.result c.then_some.result c.in-Ok.ensures.read
    (λ t. ap seen (nil_from_length rest (eqb-true (length rest) 0 (sym c.is_empty.ensures ∙ t)))) c.then_some.ensures
