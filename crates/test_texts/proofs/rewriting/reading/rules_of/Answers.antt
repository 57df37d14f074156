use Rattle.test_texts.proofs.Readiness.{rules_are_ready}
use Rattle.test_texts.proofs.rewriting.reading.rules_of.Goals as goal

pub returns-in-Ok : goal.returns-in-Ok
returns-in-Ok c = rules_are_ready c.in-Ok.rules.items c.in-Ok.ensures.rules c.in-Ok.ensures.classes c.in-Ok.ensures.typed
