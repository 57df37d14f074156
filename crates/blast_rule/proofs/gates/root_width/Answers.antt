use Rattle.blast_rule.proofs.Common.{length, ◌-◌, ◌∙◌, arith}
use Rattle.blast_rule.proofs.Counts.{classes_in_source, root_class}
use Rattle.blast_rule.proofs.gates.root_width.Goals as goal

pub width_of-requires : goal.width_of-requires
width_of-requires c =
    rw c.as_slice-source.ensures
    (classes_in_source c.args.rule.now c.args.typing.now c.requires.rule c.requires.typing (length c.args.rule.now.source - 1) c.index-source-source.result (omega (arith, c.requires.rule.source_root)) 0 0 (omega arith))

pub returns : goal.returns
returns c = c.width_of.ensures ∙ rw c.as_slice-source.ensures (root_class c.args.rule.now c.args.typing.now c.index-source-source.result c.requires.rule.source_root)
