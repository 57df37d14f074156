use Rattle.blast_term.proofs.Common.{Bool, List, IsTrue, ◌↔◌, ◌+◌, take, map, Adds, last_holds, truths_of, held_value, widths_of, formulas_gates}
use Rattle.blast_term.proofs.Preconditions.{AllNumbers}
use Rattle.blast_term.proofs.formula.blast_precondition.Given as goal

abbrev pub invariant-loop-term : goal.invariant-loop-term
invariant-loop-term g l =
    let m = g.C.State in record {
      met : (inputs : List Bool) → m.admits l.fn.c inputs →
          IsTrue (m.value l.c inputs l.met)
          ↔ (AllNumbers (map (held_value (m.value l.fn.c inputs)) (take l.term-index l.terms)) × IsTrue (last_holds (truths_of (map (held_value (m.value l.fn.c inputs)) l.terms) l.formulas)));
      own : m.has_literal l.c l.met;
      adds : Adds m l.fn.c l.c (formulas_gates (widths_of l.terms) l.formulas + l.term-index);
    }
