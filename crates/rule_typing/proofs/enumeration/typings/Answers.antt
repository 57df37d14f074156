use Rattle.rule_typing.proofs.Common.{arith, length_push}
use Rattle.rule_typing.proofs.Answered.{all_found, too_many}
use Rattle.rule_typing.proofs.Found.{first_found, found_more}
use Rattle.rule_typing.proofs.enumeration.typings.Goals as goal

pub least_typing-requires-clause-count : goal.least_typing-requires-clause-count
least_typing-requires-clause-count c = rw c.deref.ensures.value c.in_ok-sets.ensures.count

pub loop-next-init : goal.loop-next-init
loop-next-init c = rw c.new-found.ensures (first_found c.args.rule.now c.in_ok-sets.sets.items c.in_ok-next.next (rw c.deref.ensures.value at c.in_ok-next.ensures), omega arith)

pub returns-then-len-most : goal.returns-then-len-most
returns-then-len-most c =
    too_many c.args.rule.now c.args.widths.now c.in_ok-sets.sets.items c.requires c.in_ok-sets.ensures.count (rw c.as_slice.ensures at c.in_ok-sets.ensures.each) c.loop-next.found c.in-Some.typing
    (rw c.in-Some.is at c.loop-next.invariant.0) c.args.most (omega (arith, c.len.ensures, c.if-len-most.true))

pub next_typing-requires-clause-count : goal.next_typing-requires-clause-count
next_typing-requires-clause-count c = rw c.deref-in-Some.ensures.value c.in_ok-sets.ensures.count

pub loop-next-preserved : goal.loop-next-preserved
loop-next-preserved c =
    rw c.in_ok-push.ensures.ok (
      found_more c.args.rule.now c.in_ok-sets.sets.items c.loop-next.found c.in-Some.typing (rw c.in-Some.is at c.loop-next.invariant.0) c.in_ok-next-2.next
          (rw (c.deref-in-Some.ensures.value, c.as_slice-in-Some.ensures) at c.in_ok-next-2.ensures),
      omega (arith, length_push c.loop-next.found c.in-Some.typing, c.len.ensures, c.if-len-most.false),
    )

pub returns : goal.returns
returns c =
    (all_found c.args.rule.now c.args.widths.now c.in_ok-sets.sets.items c.requires c.in_ok-sets.ensures.count (rw c.as_slice.ensures at c.in_ok-sets.ensures.each) c.loop-next.found (rw c.in_default.is at c.loop-next.invariant.0), c.loop-next.invariant.1)
