use Rattle.draft_bits.proofs.Common.{◌≤◌, List, length, sym, ap, subst, ◌∙◌, arith, All, All-nil, fails, take_all, KnownBit, Facts, insts_of, known_results}
use Rattle.draft_bits.proofs.Made.{as_many_insts}
use Rattle.draft_bits.proofs.bits.facts_of.Goals as goal

pub returns-then-not-reached : goal.returns-then-not-reached
returns-then-not-reached c = record {
  block = ap (λ (x : Facts). x.block) c.nothing.ensures;
  few = subst (λ (x : Facts). All (λ (word : List KnownBit). length word ≤ 64) x.results) (sym c.nothing.ensures) (All-nil (λ (word : List KnownBit). length word ≤ 64));
  results = λ reached. absurd (fails c.reached.result (c.reached.ensures c.args.draft.now.arena (sym c.requires.whole.facts.flow)) c.if-not-reached.true reached);
}

pub facts_before-requires-clause-formed : goal.facts_before-requires-clause-formed
facts_before-requires-clause-formed c = c.requires.checks.formed

pub facts_before-requires-clause-place : goal.facts_before-requires-clause-place
facts_before-requires-clause-place c = omega (arith, c.count_in.ensures)

pub returns : goal.returns
returns c =
    let insts = insts_of c.args.draft.now.arena c.args.block in
    let over : length insts ≤ c.count_in.result = omega (arith, c.count_in.ensures, as_many_insts c.args.draft.now.arena c.args.block) in
    record {
      block = c.in_ok-facts.ensures.block;
      few = c.in_ok-facts.ensures.few;
      results = λ reached. c.in_ok-facts.ensures.results ∙ ap (known_results c.args.block) (take_all c.count_in.result insts over);
    }
