use Rattle.draft.proofs.Common.{reads_written, written_reads, arena_place}
use Rattle.draft.proofs.Wholeness.{counted_insts}
use Rattle.draft.proofs.draft.Draft.reads.Goals as goal

pub reads-requires : goal.reads-requires
reads-requires c = counted_insts c.args.self.now c.requires

pub returns : goal.returns
returns c =
    let f = c.args.self.now.arena in
    let p = c.args.place in
    (λ so. written_reads f p.block (arena_place f p) c.args.register (c.reads.ensures.0 so), λ h. c.reads.ensures.1 (reads_written f p.block (arena_place f p) c.args.register h))
