-- the widths so far are fixed ones, and all fixed ones are among them
use Rattle.matcher.proofs.Common.{◌≡◌, length}
use Rattle.matcher.proofs.Widths.{AreFixed}
use Rattle.matcher.proofs.slots.fixed_widths.Given as goal

abbrev pub invariant-loop-class : goal.invariant-loop-class
invariant-loop-class l = record {
  count : length l.widths.items ≡ l.class;
  fixed : AreFixed l.rule l.widths.items;
}
