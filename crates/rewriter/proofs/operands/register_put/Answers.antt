use Rattle.rewriter.proofs.TargetReads.{source_put}
use Rattle.rewriter.proofs.operands.register_put.Goals as goal

pub returns-in-Source : goal.returns-in-Source
returns-in-Source c =
    source_put c.args.rule.now c.args.binding.now c.args.results.now _ c.args.register c.in-Source.j c.as_slice-in-Source.result.now _ c.requires.bound c.requires.register c.in-Source.is c.as_slice-in-Source.ensures
