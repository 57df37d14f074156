use Rattle.rule_reader.proofs.Common.{inl}
use Rattle.rule_reader.proofs.Looking.{says, is_yes, is_either}
use Rattle.rule_reader.proofs.Found.{among_inputs}
use Rattle.rule_reader.proofs.Assignments.{temporary_is, says_as}
use Rattle.rule_reader.proofs.checks.is_taken.Goals as goal

pub returns-then-is_among : goal.returns-then-is_among
returns-then-is_among c = is_yes _ _ c.if-is_among.true (inl ((among_inputs c.args.source.now c.args.inputs.now c.args.name.now c.requires.inputs).0 (says _ _ c.is_among.ensures c.if-is_among.true)))

pub returns-else-is_among : goal.returns-else-is_among
returns-else-is_among c =
    is_either c.is_among.result c.is_assigned.result _ _ c.if-is_among.false
    (says_as _ _ _ c.is_among.ensures (among_inputs c.args.source.now c.args.inputs.now c.args.name.now c.requires.inputs))
    (says_as _ _ _ c.is_assigned.ensures (temporary_is c.args.source.now c.args.name.now c.requires.source))
