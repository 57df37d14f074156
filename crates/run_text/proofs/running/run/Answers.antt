use Rattle.run_text.proofs.ArgumentLemmas.{said_fit, texts_of}
use Rattle.run_text.proofs.LawLemmas.{function_meets}
use Rattle.run_text.proofs.running.run.Goals as goal

pub run_zero-requires-clause-checks : goal.run_zero-requires-clause-checks
run_zero-requires-clause-checks c = function_meets c.in-Ok.module c.in-Some.function.now c.in-Ok.ensures.checks c.in-Some.ensures.found.entry

pub run_zero-requires-clause-arguments : goal.run_zero-requires-clause-arguments
run_zero-requires-clause-arguments c =
    said_fit c.in-Some.function.now.parameters (texts_of c.args.arguments.now) c.in-Some-2.values
    (rw (c.as_slice.ensures, c.in-Some-2.is) at c.in_ok-values.ensures.said)
