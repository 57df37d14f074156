use Rattle.known_bits.proofs.Common.{◌≡◌, take, ap, ◌∙◌, refl, known_of, known_operand, known_results, insts_of}
use Rattle.known_bits.proofs.Loops.{any_width}
use Rattle.known_bits.proofs.place.known.Goals as goal

pub returns : goal.returns
returns c width =
    let results = known_results c.args.block (take c.args.place (insts_of c.args.f.now c.args.block)) in
    let bits_are : c.as_slice.result.now ≡ known_operand c.args.block results 1 c.args.operand =
    c.as_slice.ensures ∙ c.in_ok-bits.ensures.bits ∙ rw (c.in_ok-facts.ensures.block, c.in_ok-facts.ensures.results) refl in
    c.of_bits.ensures ∙ ap known_of bits_are ∙ any_width c.args.block results 1 width c.args.operand
