use Rattle.blast_term.proofs.Common.{◌≡◌, Bool, List, length, map, take, slice_index, All, Adds, held_value, widths_of, choices_gates, number_held, number_chosen}
use Rattle.blast_term.proofs.witness.numbers_at.Given as goal

abbrev pub invariant-loop-place : goal.invariant-loop-place
invariant-loop-place g l =
    let m = g.C.State in record {
      numbers : (inputs : List Bool) → m.admits l.initial.c inputs →
          map (number_held (m.value l.c inputs)) l.words ≡ map (number_chosen (widths_of l.values) (map (held_value (m.value l.initial.c inputs)) l.values)) (take l.place-index l.places);
      widths : map length l.words ≡ map (slice_index (widths_of l.values)) (take l.place-index l.places);
      own : All (All (m.has_literal l.c)) l.words;
      adds : Adds m l.initial.c l.c (choices_gates (widths_of l.values) (take l.place-index l.places));
    }
