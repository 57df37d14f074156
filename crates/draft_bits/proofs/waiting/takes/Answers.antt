use Rattle.draft_bits.proofs.Common.{Inst, IsPhi, subst, false≢true, fails, holds, one_inst, arena_of, stands_there}
use Rattle.draft_bits.proofs.waiting.takes.Goals as goal

pub returns-then-reader-place : goal.returns-then-reader-place
returns-then-reader-place c = (λ yes. absurd (false≢true yes), λ taken. absurd (c.if-reader-place.true taken.1.block))

pub returns-then-not-stands_reached : goal.returns-then-not-stands_reached
returns-then-not-stands_reached c = (λ yes. absurd (false≢true yes), λ taken. absurd (fails c.stands_reached.result c.stands_reached.ensures c.if-not-stands_reached.true taken.0))

pub inst_at-inst-requires : goal.inst_at-inst-requires
inst_at-inst-requires c =
    let stands = holds c.stands_reached.result c.stands_reached.ensures c.if-not-stands_reached.false in
    stands_there c.args.draft.now c.requires.whole c.args.reader.block c.args.reader.number stands.1

pub returns-then-is_phi : goal.returns-then-is_phi
returns-then-is_phi c = (
  λ yes. absurd (false≢true yes),
  λ taken. absurd (taken.1.no_phi c.inst_at-inst.result.now c.inst_at-inst.ensures (c.is_phi.ensures.0 c.if-is_phi.true)),
)

pub returns : goal.returns
returns c =
    let stands = holds c.stands_reached.result c.stands_reached.ensures c.if-not-stands_reached.false in
    let no_phi : ¬ IsPhi c.inst_at-inst.result.now.op = fails c.is_phi.result c.is_phi.ensures c.if-is_phi.false in (
      λ yes. (
        stands,
        record {
          block = c.if-reader-place.false;
          no_phi = λ inst is.
              subst (λ (x : Inst). ¬ IsPhi x.op) (one_inst (arena_of c.args.draft.now) c.args.reader.block c.args.reader.number c.inst_at-inst.result.now inst c.inst_at-inst.ensures is) no_phi;
          reads = c.reads.ensures.0 yes;
        },
      ),
      λ taken. c.reads.ensures.1 taken.1.reads,
    )
