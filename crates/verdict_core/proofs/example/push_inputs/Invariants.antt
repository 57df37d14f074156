use Rattle.verdict_core.proofs.Common.{◌≡◌, ◌++◌, zip_first, zip_second, iter_rest, inputs_text}
use Rattle.verdict_core.proofs.example.push_inputs.Given as goal

-- what is left of the two lists is still to be printed
abbrev pub invariant-loop-name : goal.invariant-loop-name
invariant-loop-name l =
    l.out.items ++ inputs_text (iter_rest (zip_first l.name-iterator)) (iter_rest (zip_second l.name-iterator)) ≡ l.fn.out.items ++ inputs_text l.names l.values
