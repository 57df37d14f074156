use Rattle.blast_term.proofs.Common.{◌≡◌, ℕ, List, get_or, ◌+◌, ◌<◌, ◌∷◌, [], length, map, take, refl, sym, ap, ◌∙◌, arith, All, slice_index, map-append, take_all, All-push, slice_get-get_or, get_or_from_slice_get, select_gates, Adds-none, Adds-trans, Adds-weaken, held_value, widths_of, IsOwn, number_held, number_chosen, AllAll-kept, numbers_held-kept, values-kept, AllOwn-kept}
use Rattle.blast_term.proofs.Turns.{own_from_get, sum-more, sum-fewer, map-more, width_chosen, chosen}
use Rattle.blast_term.proofs.witness.numbers_at.Goals as goal

-- the element at a place within a list is the same with each default
there : (places : List ℕ) (i : ℕ) → i < length places → get_or places i 0 ≡ get_or places i (get_or places i 0)
there places i within = sym (get_or_from_slice_get places i (get_or places i 0) (get_or places i 0) (slice_get-get_or places i 0 within))

pub at-requires : goal.at-requires
at-requires g c = c.requires.there c.loop-place.place-index 0 (omega arith)

pub number_or_zero-requires : goal.number_or_zero-requires
number_or_zero-requires g c = own_from_get (IsOwn (g.C.State.has_literal c.loop-place.c)) c.args.values.now (get_or c.args.places.now c.loop-place.place-index 0) c.at.result.now (AllOwn-kept c.loop-place.invariant.adds.keeps c.args.values.now c.requires.own) c.at.ensures

pub returns-in_err-word-clause-adds : goal.returns-in_err-word-clause-adds
returns-in_err-word-clause-adds g c =
    let f : ℕ → ℕ = λ n. select_gates (slice_index (widths_of c.args.values.now) n) in
    let more = sum-more f c.args.places.now c.loop-place.place-index (get_or c.args.places.now c.loop-place.place-index 0) (omega arith) (there c.args.places.now c.loop-place.place-index (omega arith)) in
    let width = width_chosen c.args.values.now (get_or c.args.places.now c.loop-place.place-index 0) c.at.result.now c.at.ensures in
    Adds-weaken (Adds-trans c.loop-place.invariant.adds c.number_or_zero.ensures.adds) (omega (arith, more, width, sum-fewer f c.args.places.now (c.loop-place.place-index + 1)))

pub returns-in_err-push-clause-adds : goal.returns-in_err-push-clause-adds
returns-in_err-push-clause-adds g c =
    let f : ℕ → ℕ = λ n. select_gates (slice_index (widths_of c.args.values.now) n) in
    let more = sum-more f c.args.places.now c.loop-place.place-index (get_or c.args.places.now c.loop-place.place-index 0) (omega arith) (there c.args.places.now c.loop-place.place-index (omega arith)) in
    let width = width_chosen c.args.values.now (get_or c.args.places.now c.loop-place.place-index 0) c.at.result.now c.at.ensures in
    Adds-weaken (Adds-trans c.loop-place.invariant.adds c.number_or_zero.ensures.adds) (omega (arith, more, width, sum-fewer f c.args.places.now (c.loop-place.place-index + 1)))

pub loop-place-preserved : goal.loop-place-preserved
loop-place-preserved g c =
    let m = g.C.State in
    let before = c.loop-place.invariant in
    let i = c.loop-place.place-index in
    let within : i < length c.args.places.now = omega arith in
    let n : ℕ = get_or c.args.places.now c.loop-place.place-index 0 in
    let values = c.args.values.now in
    let keeps = c.number_or_zero.ensures.adds.keeps in
    let words = c.loop-place.words in
    let word = c.in_ok-word.word in
    let f : ℕ → ℕ = λ k. select_gates (slice_index (widths_of values) k) in
    rw c.in_ok-push.ensures.ok record {
      numbers = λ inputs admitted.
          let now_admitted = before.adds.keeps.admitted inputs admitted in
          let start = m.value c.args.c.now inputs in
          let values_same = values-kept before.adds.keeps inputs admitted values c.requires.own in
          let old = numbers_held-kept keeps inputs now_admitted words before.own ∙ before.numbers inputs admitted in
          let new = rw values_same at (chosen (m.value c.number_or_zero.new.c inputs) (m.value c.loop-place.c inputs) values n c.at.result.now word c.at.ensures c.in_ok-word.ensures.width (c.in_ok-word.ensures.number inputs now_admitted)) in
          map-append (number_held (m.value c.number_or_zero.new.c inputs)) words (word ∷ []) ∙ rw (old, new)
          (sym (map-more (number_chosen (widths_of values) (map (held_value start) values)) c.args.places.now i n within (there c.args.places.now i within)));
      widths = map-append length words (word ∷ []) ∙ rw (before.widths, c.in_ok-word.ensures.width, ← width_chosen values n c.at.result.now c.at.ensures) (sym (map-more (slice_index (widths_of values)) c.args.places.now i n within (there c.args.places.now i within)));
      own = All-push (All (m.has_literal c.number_or_zero.new.c)) words word (AllAll-kept keeps words before.own) c.in_ok-word.ensures.own;
      adds = Adds-weaken (Adds-trans before.adds c.number_or_zero.ensures.adds) (omega (arith, sum-more f c.args.places.now i n within (there c.args.places.now i within), width_chosen values n c.at.result.now c.at.ensures));
    }

pub loop-place-init : goal.loop-place-init
loop-place-init g c = rw c.new-words.ensures record {
  numbers = λ inputs admitted. refl;
  widths = refl;
  own = λ k d within. absurd (omega arith);
  adds = Adds-none;
}

pub returns-clause-numbers : goal.returns-clause-numbers
returns-clause-numbers g c = λ inputs admitted.
    let values = c.args.values.now in
    c.loop-place.invariant.numbers inputs admitted
    ∙ ap (λ places. map (number_chosen (widths_of values) (map (held_value (g.C.State.value c.args.c.now inputs)) values)) places) (take_all c.loop-place.place-index c.args.places.now c.loop-place-test.false)

pub returns-clause-widths : goal.returns-clause-widths
returns-clause-widths g c =
    c.loop-place.invariant.widths ∙ ap (λ places. map (slice_index (widths_of c.args.values.now)) places) (take_all c.loop-place.place-index c.args.places.now c.loop-place-test.false)

pub returns-clause-own : goal.returns-clause-own
returns-clause-own g c = c.loop-place.invariant.own

pub returns-clause-adds : goal.returns-clause-adds
returns-clause-adds g c =
    let whole : take c.loop-place.place-index c.args.places.now ≡ c.args.places.now = take_all c.loop-place.place-index c.args.places.now c.loop-place-test.false in
    rw whole at c.loop-place.invariant.adds
