use Rattle.needed.proofs.Common.{◌≡◌, ◌+◌, ◌-◌, ◌≤◌, arith, kept_before, marks_by}
use Rattle.needed.proofs.Counting.{kept_before_le}
use Rattle.needed.proofs.KeptLemmas.{place_read, place_is}
use Rattle.needed.proofs.moving.moved_register.Goals as goal

pub overflow_sub-before : goal.overflow_sub-before
overflow_sub-before c =
    let kept = c.args.kept.now in
    let is : c.index.result.now ≡ c.index-in-Result.result.now + kept_before (marks_by kept.firsts.items kept.marks.items) c.in-Result.block c.in-Result.place = place_read kept.firsts.items kept.counts.items kept.marks.items c.args.register c.in-Result.block c.in-Result.place c.index-first.result.now c.index.result.now c.index-in-Result.result.now kept.counted c.in-Result.is c.requires c.index-first.ensures c.index.ensures c.index-in-Result.ensures in
    omega arith

pub overflow_cast-result : goal.overflow_cast-result
overflow_cast-result c =
    let kept = c.args.kept.now in
    let is : c.index.result.now ≡ c.index-in-Result.result.now + kept_before (marks_by kept.firsts.items kept.marks.items) c.in-Result.block c.in-Result.place = place_read kept.firsts.items kept.counts.items kept.marks.items c.args.register c.in-Result.block c.in-Result.place c.index-first.result.now c.index.result.now c.index-in-Result.result.now kept.counted c.in-Result.is c.requires c.index-first.ensures c.index.ensures c.index-in-Result.ensures in
    let le : kept_before (marks_by kept.firsts.items kept.marks.items) c.in-Result.block c.in-Result.place ≤ c.in-Result.place = kept_before_le (marks_by kept.firsts.items kept.marks.items) c.in-Result.block c.in-Result.place in
    omega arith

pub returns-in-Result : goal.returns-in-Result
returns-in-Result c =
    let kept = c.args.kept.now in
    let is : c.index.result.now ≡ c.index-in-Result.result.now + kept_before (marks_by kept.firsts.items kept.marks.items) c.in-Result.block c.in-Result.place = place_read kept.firsts.items kept.counts.items kept.marks.items c.args.register c.in-Result.block c.in-Result.place c.index-first.result.now c.index.result.now c.index-in-Result.result.now kept.counted c.in-Result.is c.requires c.index-first.ensures c.index.ensures c.index-in-Result.ensures in
    place_is (marks_by kept.firsts.items kept.marks.items) c.args.register c.in-Result.block c.in-Result.place (c.index.result.now - c.index-in-Result.result.now) c.in-Result.is (omega arith)
