use Rattle.rule_typing.proofs.Common.{sym, Rule, IsRule, numbered}
use Rattle.rule_typing.proofs.Relabelled.{alike_numbered}
use Rattle.rule_typing.proofs.AlikeRules.{IsRule-alike}
use Rattle.rule_typing.proofs.Merging.{IsRule-merged}
use Rattle.rule_typing.proofs.Numbering.{IsRule-renumbered}
use Rattle.rule_typing.proofs.Classified.{few_positions, rest, classified}
use Rattle.rule_typing.proofs.classes.write_classes.Goals as goal

IsRule-numbered : (rule : Rule) → IsRule rule → IsRule (numbered rule)
IsRule-numbered rule checked = IsRule-alike rule (numbered rule) (sym (alike_numbered rule)) checked

pub number_positions-requires : goal.number_positions-requires
number_positions-requires c = few_positions c.args.rule.now c.requires

pub join_lines-requires : goal.join_lines-requires
join_lines-requires c = rw c.number_positions.ensures (IsRule-numbered c.args.rule.now c.requires)

pub number_classes-requires : goal.number_classes-requires
number_classes-requires c =
    IsRule-merged c.number_positions.new.rule c.join_lines.new.rule (rw c.number_positions.ensures (IsRule-numbered c.args.rule.now c.requires)) c.join_lines.ensures.merged

pub returns-clause-rule : goal.returns-clause-rule
returns-clause-rule c =
    IsRule-renumbered c.join_lines.new.rule c.number_classes.new.rule
    (IsRule-merged c.number_positions.new.rule c.join_lines.new.rule (rw c.number_positions.ensures (IsRule-numbered c.args.rule.now c.requires)) c.join_lines.ensures.merged) c.number_classes.ensures.renumbered

pub returns-clause-rest : goal.returns-clause-rest
returns-clause-rest c =
    rest c.args.rule.now c.number_positions.new.rule c.join_lines.new.rule c.number_classes.new.rule c.number_positions.ensures c.join_lines.ensures.merged c.number_classes.ensures.renumbered

pub returns-clause-classes : goal.returns-clause-classes
returns-clause-classes c =
    classified c.args.rule.now c.number_positions.new.rule c.join_lines.new.rule c.number_classes.new.rule c.number_positions.ensures c.join_lines.ensures.merged c.number_classes.ensures.renumbered
    c.join_lines.ensures.joined c.number_classes.ensures.order
