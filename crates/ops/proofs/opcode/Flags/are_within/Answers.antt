use Rattle.ops.proofs.Common.{sym, ◌∙◌}
use Rattle.ops.proofs.FlagSets.{flags_equal}
use Rattle.ops.proofs.opcode.Flags.are_within.Goals as goal

pub returns : goal.returns
returns c =
    let equal = flags_equal c.common.result c.args.self c.eq.result c.eq.ensures in
    ((λ holds. sym c.common.ensures ∙ equal.0 holds), (λ within. equal.1 (c.common.ensures ∙ within)))
