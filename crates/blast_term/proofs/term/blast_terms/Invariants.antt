use Rattle.blast_term.proofs.Common.{◌≡◌, Bool, List, map, take, All, Adds, Meanings, values_of, held_value, widths_of, IsOwn, terms_gates, MeansNames, term_widths}
use Rattle.blast_term.proofs.term.blast_terms.Given as goal

abbrev pub invariant-loop-term : goal.invariant-loop-term
invariant-loop-term g l =
    let m = g.C.State in record {
      values : (inputs : List Bool) (names : Meanings) → m.admits l.initial.c inputs → MeansNames (m.value l.initial.c inputs) l.scope names →
          map (held_value (m.value l.c inputs)) l.held.items ≡ values_of l.typing names (take l.term-index l.terms);
      widths : widths_of l.held.items ≡ term_widths l.typing (take l.term-index l.terms);
      own : All (IsOwn (m.has_literal l.c)) l.held.items;
      adds : Adds m l.initial.c l.c (terms_gates l.typing (take l.term-index l.terms));
    }
