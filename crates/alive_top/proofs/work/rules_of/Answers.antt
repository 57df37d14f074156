use Rattle.alive_top.proofs.Common.{arith}
use Rattle.alive_top.proofs.Reading.{are_ready}
use Rattle.alive_top.proofs.work.rules_of.Goals as goal

pub returns-in-Ok-clause-ready : goal.returns-in-Ok-clause-ready
returns-in-Ok-clause-ready c =
    are_ready c.in-Ok.rules.items (λ k d within. record {
      checks = c.in-Ok.ensures.rules k d within;
      classes = c.in-Ok.ensures.classes k d within;
      typed = c.in-Ok.ensures.typed k d within;
    })

pub returns-in-Ok-clause-few : goal.returns-in-Ok-clause-few
returns-in-Ok-clause-few c = omega (arith, c.in-Ok.ensures.limit, c.rule_texts_are_small.ensures c.args.bytes.now c.in-Ok.rules.items c.in-Ok.ensures.ok)
