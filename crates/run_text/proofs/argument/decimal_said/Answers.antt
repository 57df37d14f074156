use Rattle.run_text.proofs.Common.{◌≡◌, Ok, sym}
use Rattle.run_text.proofs.ArgumentLemmas.{number_through, none_said}
use Rattle.run_text.proofs.argument.decimal_said.Goals as goal

pub returns-in-Ok : goal.returns-in-Ok
returns-in-Ok c = number_through c.args.width c.args.text.now c.parse.result c.parse.ensures.value.0 (sym c.if-begins_as_none.ensures) c.in-Ok.number c.in-Ok.is c.new.result c.map.result c.new.ensures.range c.new.ensures.word c.map.ensures.cases

pub returns-in-Err : goal.returns-in-Err
returns-in-Err c = none_said c.args.width c.args.text.now c.parse.result c.parse.ensures.value.0 (sym c.if-begins_as_none.ensures) c.requires (λ n is. let bad : Ok n ≡ c.parse.result = sym is in cc)
