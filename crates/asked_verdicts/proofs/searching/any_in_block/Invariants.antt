-- the matches at the instructions so far are asked, and where bits are asked for, they are known of these
use Rattle.asked_verdicts.proofs.Common.{◌≡◌, ◌≤◌, length, take, All, IsTrue, AsksAll, insts_of, known_results}
use Rattle.asked_verdicts.proofs.Parts.{IsEarlier}
use Rattle.asked_verdicts.proofs.searching.any_in_block.Given as goal

abbrev pub invariant-loop-place : goal.invariant-loop-place
invariant-loop-place l = record {
  asked : AsksAll l.rules.across l.rules.all.now l.conflicts l.f (IsEarlier l.block l.place) l.fn.verdicts l.verdicts l.any;
  block : l.known.block ≡ l.block;
  few : All (λ bits. length bits ≤ 64) l.known.results;
  known : IsTrue l.asks → l.known.results ≡ known_results l.block (take l.place (insts_of l.f l.block));
}
