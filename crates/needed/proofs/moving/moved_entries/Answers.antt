use Rattle.needed.proofs.Common.{◌≡◌, ◌<◌, ℕ, List, length, get_or, map, refl, subst, arith, Operand, moved_operand, IsNumbered, marks_by}
use Rattle.needed.proofs.MarkLemmas.{numbered_entry}
use Rattle.needed.proofs.KeptLemmas.{next_as_before}
use Rattle.needed.proofs.moving.moved_entries.Goals as goal

pub moved_operand-entry-requires : goal.moved_operand-entry-requires
moved_operand-entry-requires c =
    let kept = c.args.kept.now in
    let entry = c.entry-item.result in
    let i = c.loop-entry.entry-index in
    let size = c.loop-entry.invariant.size in
    let move : List (Operand × ℕ) → List (Operand × ℕ) = λ entries. map (λ e. (moved_operand (marks_by kept.firsts.items kept.marks.items) e.0, e.1)) entries in
    let test = c.loop-entry-test.true in
    let same = c.loop-entry.auto.entry-items in
    let lt : i < length c.loop-entry.entry-items = omega arith in
    let was : entry ≡ get_or c.args.entries i entry = next_as_before (λ n. move) c.args.entries i c.loop-entry.entry-items entry c.loop-entry.invariant lt c.entry-item.is in
    subst (λ (e : Operand × ℕ). IsNumbered kept.firsts.items (length kept.marks.items) e.0) c.entry-item.is
    (numbered_entry kept.firsts.items c.args.entries i entry (length kept.marks.items) (length kept.marks.items) c.requires refl (omega arith) was)
