use Rattle.blast_rule.proofs.Common.{◌≡◌, arith, All-same, run_gates}
use Rattle.blast_rule.proofs.Counts.{HaveWidths, classes_in_source, classes_in_target}
use Rattle.blast_rule.proofs.gates.halves_gates.Goals as goal

pub run_gates-requires-clause-classes : goal.run_gates-requires-clause-classes
run_gates-requires-clause-classes c = All-same (HaveWidths c.args.typing.now) _ c.args.rule.now.source c.as_slice-source.ensures (classes_in_source c.args.rule.now c.args.typing.now c.requires.rule c.requires.typing)

pub run_gates-requires-2-clause-classes : goal.run_gates-requires-2-clause-classes
run_gates-requires-2-clause-classes c = All-same (HaveWidths c.args.typing.now) _ c.args.rule.now.target c.as_slice-target.ensures (classes_in_target c.args.rule.now c.args.typing.now c.requires.rule c.requires.typing)

pub returns-clause-value : goal.returns-clause-value
returns-clause-value c =
    let source : c.run_gates.result ≡ run_gates c.args.typing.now c.args.rule.now.source = rw c.as_slice-source.ensures at c.run_gates.ensures.value in
    let target : c.run_gates-2.result ≡ run_gates c.args.typing.now c.args.rule.now.target = rw c.as_slice-target.ensures at c.run_gates-2.ensures.value in
    omega (arith, source, target)
