use Rattle.changes.proofs.Common.{◌∙◌, sym, both_ways}
use Rattle.changes.proofs.Readers.{reader_is, is_reader}
use Rattle.changes.proofs.applying.reader_at.Goals as goal

pub returns-then-not-reads : goal.returns-then-not-reads
returns-then-not-reads c = λ w l p. (
  λ none. absurd cc,
  λ reads. absurd (both_ways c.reads.result c.if-not-reads.true (c.reads.ensures.1 (is_reader w c.args.put p c.args.f.now c.args.block c.args.place l c.requires.insts reads))),
)

pub returns : goal.returns
returns c = λ w l p. (
  λ moves. reader_is w c.args.put p c.args.f.now c.args.block c.args.place l c.requires.insts c.requires.there (c.reads.ensures.0 c.if-not-reads.false) (sym (c.place_then.ensures w p) ∙ moves),
  λ reads. c.place_then.ensures w p ∙ reads.3,
)
