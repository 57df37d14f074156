use Rattle.readers.proofs.Common.{◌+◌, ◌<◌, List, length, sym, subst, arith, take, take_all, Operand, operands_at, AreListed, Readers}
use Rattle.readers.proofs.Listing.{listed_more, listed_none, listed_past, next_list}
use Rattle.readers.proofs.uses.list_reads.Goals as goal
use Rattle.readers.proofs.uses.list_reads.Goals.{in-Register+in_ok-list, in_default}

pub loop-index-init : goal.loop-index-init
loop-index-init c = listed_none c.args.place c.args.readers.now

pub list-requires : goal.list-requires
list-requires c =
    let l = c.loop-index in
    next_list c.args.place (operands_at c.args.arena.now c.args.place) l.index c.operand_at.result c.args.readers.now l.readers (omega arith) c.operand_at.ensures l.invariant c.requires.there c.in-Register.register c.in-Register.is

pub loop-index-preserved : goal.loop-index-preserved
loop-index-preserved c =
    let l = c.loop-index in
    let reads : List Operand = operands_at c.args.arena.now c.args.place in
    let within : l.index < length reads = omega arith in
    elim c.match-operand_at.branch [
      | in-Register+in_ok-list w ↦
          subst (λ (r : Readers). AreListed c.args.place (take (l.index + 1) reads) c.args.readers.now r) (sym w.readers-is)
          (listed_more c.args.place reads l.index c.operand_at.result c.args.readers.now l.readers within c.operand_at.ensures l.invariant w.in-Register.register w.list.new.self w.in-Register.is w.in_ok-list.ensures.listed)
      | in_default w ↦
          subst (λ (r : Readers). AreListed c.args.place (take (l.index + 1) reads) c.args.readers.now r) (sym w.readers-is)
          (listed_past c.args.place reads l.index c.operand_at.result c.args.readers.now l.readers within c.operand_at.ensures l.invariant w.in_default.not-Register)
    ]

pub returns : goal.returns
returns c =
    let l = c.loop-index in
    subst (λ (reads : List Operand). AreListed c.args.place reads c.args.readers.now l.readers) (take_all l.index (operands_at c.args.arena.now c.args.place) (omega arith)) l.invariant
