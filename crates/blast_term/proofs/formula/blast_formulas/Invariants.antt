use Rattle.blast_term.proofs.Common.{◌≡◌, Bool, List, map, take, length, All, Adds, truths_of, held_value, widths_of, formulas_gates}
use Rattle.blast_term.proofs.formula.blast_formulas.Given as goal

abbrev pub invariant-loop-formula : goal.invariant-loop-formula
invariant-loop-formula g l =
    let m = g.C.State in record {
      values : (inputs : List Bool) → m.admits l.initial.c inputs → map (m.value l.c inputs) l.truths.items ≡ truths_of (map (held_value (m.value l.initial.c inputs)) l.terms) (take l.formula-index l.formulas);
      count : length l.truths.items ≡ l.formula-index;
      own : All (m.has_literal l.c) l.truths.items;
      adds : Adds m l.initial.c l.c (formulas_gates (widths_of l.terms) (take l.formula-index l.formulas));
    }
