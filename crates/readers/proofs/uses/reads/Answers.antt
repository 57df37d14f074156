use Rattle.readers.proofs.Common.{◌≡◌, ◌<◌, ◌∙◌, ℕ, true, inl, inr, ap, refl, sym, arith, length, get_or, List, both_ways, cases_eq, false≢true, Operand, operands_at}
use Rattle.ir_core.specs.declared.operand.Operand.TheVariants as operands
use Rattle.readers.proofs.Listing.{found_at, not_found}
use Rattle.readers.proofs.uses.reads.Goals as goal

pub loop-index-preserved : goal.loop-index-preserved
loop-index-preserved c = λ k less is.
    let reads : List Operand = operands_at c.args.arena.now c.args.place in
    elim (cases_eq k c.loop-index.index) [
      | inl same ↦
          let so : c.is.result ≡ true = c.is.ensures.1 (c.operand_at.ensures ∙ ap (λ (n : ℕ). get_or reads n operands.Poison) (sym same) ∙ is) in
          both_ways c.is.result c.if-is.false so
      | inr apart ↦ c.loop-index.invariant k (omega arith) is
    ]

pub returns-then-is : goal.returns-then-is
returns-then-is c =
    let reads : List Operand = operands_at c.args.arena.now c.args.place in
    let count = c.count_at-index-end.ensures in
    let test = c.loop-index-test.true in
    let within : c.loop-index.index < length reads = omega arith in
    (λ so. found_at reads c.loop-index.index (operands.Register c.args.register) operands.Poison within (sym c.operand_at.ensures ∙ c.is.ensures.0 c.if-is.true), λ there. refl)

pub returns : goal.returns
returns c =
    let reads : List Operand = operands_at c.args.arena.now c.args.place in
    let count = c.count_at-index-end.ensures in
    let test = c.loop-index-test.false in
    (λ so. absurd (false≢true so), λ there. absurd (not_found reads c.loop-index.index (operands.Register c.args.register) operands.Poison (omega arith) c.loop-index.invariant there))
