use Rattle.blast_term.proofs.Common.{◌≡◌, Bool, List, map, take, length, All, Adds, number_of, number_or_zero, held_value, widths_of, numbers_gates}
use Rattle.blast_term.proofs.term.numbers_or_zeros.Given as goal

abbrev pub invariant-loop-value : goal.invariant-loop-value
invariant-loop-value g l =
    let m = g.C.State in record {
      numbers : (inputs : List Bool) → m.admits l.initial.c inputs → map (number_of (m.value l.c inputs)) l.words.items ≡ map number_or_zero (map (held_value (m.value l.initial.c inputs)) (take l.value-index l.held));
      widths : map length l.words.items ≡ widths_of (take l.value-index l.held);
      own : All (All (m.has_literal l.c)) l.words.items;
      adds : Adds m l.initial.c l.c (numbers_gates (widths_of (take l.value-index l.held)));
    }
