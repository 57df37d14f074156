use Rattle.blast_term.proofs.Common.{◌≡◌, Bool, ◌&&◌, ◌||◌, List, length, map, take, Adds, number_of, facts_hold, facts_gates, seen}
use Rattle.blast_term.proofs.facts.blast_facts.Given as goal

abbrev pub invariant-loop-formula : goal.invariant-loop-formula
invariant-loop-formula g l =
    let m = g.C.State in record {
      value : (inputs : List Bool) → m.admits l.initial.c inputs →
          m.value l.c inputs l.kept
          ≡ (m.value l.initial.c inputs l.fn.met && (m.value l.initial.c inputs l.undefined || facts_hold (seen (m.value l.initial.c inputs) l.scope) (map (number_of (m.value l.initial.c inputs)) l.scope.terms.now) (take l.formula-index l.formulas)));
      own : m.has_literal l.c l.kept;
      adds : Adds m l.initial.c l.c (facts_gates (map length l.scope.terms.now) (take l.formula-index l.formulas));
    }
