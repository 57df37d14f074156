use Rattle.blast_term.proofs.Common.{◌≡◌, ◌+◌, ◌<◌, ◌∷◌, [], length, map, take, refl, sym, ap, ◌∙◌, arith, All, map-append, take_all, All-push, number_of, Adds-none, Adds-trans, Adds-weaken, own_at, number_or_zero, Held, held_value, widths_of, IsOwn, AllAll-kept, numbers_of-kept, held_value-kept, IsOwn-kept}
use Rattle.blast_term.proofs.Turns.{map-more, numbers_gates-more, numbers_gates-fewer}
use Rattle.blast_term.proofs.term.numbers_or_zeros.Goals as goal

pub number_or_zero-requires : goal.number_or_zero-requires
number_or_zero-requires g c =
    IsOwn-kept c.loop-value.invariant.adds.keeps c.value-item.result (own_at (IsOwn (g.C.State.has_literal c.args.c.now)) c.args.held.now c.loop-value.value-index c.value-item.result c.requires (omega arith) c.value-item.is)

pub returns-in_err-word-clause-adds : goal.returns-in_err-word-clause-adds
returns-in_err-word-clause-adds g c =
    let more = numbers_gates-more c.args.held.now c.loop-value.value-index c.value-item.result (omega arith) c.value-item.is in
    Adds-weaken (Adds-trans c.loop-value.invariant.adds c.number_or_zero.ensures.adds) (omega (arith, more, numbers_gates-fewer c.args.held.now (c.loop-value.value-index + 1)))

pub returns-in_err-push-clause-adds : goal.returns-in_err-push-clause-adds
returns-in_err-push-clause-adds g c =
    let more = numbers_gates-more c.args.held.now c.loop-value.value-index c.value-item.result (omega arith) c.value-item.is in
    Adds-weaken (Adds-trans c.loop-value.invariant.adds c.number_or_zero.ensures.adds) (omega (arith, more, numbers_gates-fewer c.args.held.now (c.loop-value.value-index + 1)))

pub loop-value-preserved : goal.loop-value-preserved
loop-value-preserved g c =
    let m = g.C.State in
    let before = c.loop-value.invariant in
    let i = c.loop-value.value-index in
    let within : i < length c.args.held.now = omega arith in
    let h = c.value-item.result in
    let keeps = c.number_or_zero.ensures.adds.keeps in
    let words = c.loop-value.words.items in
    let word = c.in_ok-word.word in
    let own_h = own_at (IsOwn (m.has_literal c.args.c.now)) c.args.held.now i h c.requires within c.value-item.is in
    rw c.in_ok-push.ensures.items record {
      numbers = λ inputs admitted.
          let now_admitted = before.adds.keeps.admitted inputs admitted in
          let start = m.value c.args.c.now inputs in
          let old = numbers_of-kept keeps inputs now_admitted words before.own ∙ before.numbers inputs admitted in
          let new = c.in_ok-word.ensures.number inputs now_admitted ∙ ap number_or_zero (held_value-kept before.adds.keeps inputs admitted h own_h) in
          map-append (number_of (m.value c.number_or_zero.new.c inputs)) words (word ∷ []) ∙ rw (old, new)
          (sym (ap (map number_or_zero) (map-more (held_value start) c.args.held.now i h within c.value-item.is) ∙ map-append number_or_zero (map (held_value start) (take i c.args.held.now)) (held_value start h ∷ [])));
      widths = map-append length words (word ∷ []) ∙ rw (before.widths, c.in_ok-word.ensures.width) (sym (map-more (λ (x : Held _). length x.bits) c.args.held.now i h within c.value-item.is));
      own = All-push (All (m.has_literal c.number_or_zero.new.c)) words word (AllAll-kept keeps words before.own) c.in_ok-word.ensures.own;
      adds = Adds-weaken (Adds-trans before.adds c.number_or_zero.ensures.adds) (omega (arith, numbers_gates-more c.args.held.now i h within c.value-item.is));
    }

pub loop-value-init : goal.loop-value-init
loop-value-init g c = rw c.new-words.ensures.items record {
  numbers = λ inputs admitted. refl;
  widths = refl;
  own = λ k d within. absurd (omega arith);
  adds = Adds-none;
}

pub returns-clause-numbers : goal.returns-clause-numbers
returns-clause-numbers g c = λ inputs admitted.
    c.loop-value.invariant.numbers inputs admitted
    ∙ ap (λ held. map number_or_zero (map (held_value (g.C.State.value c.args.c.now inputs)) held)) (take_all c.loop-value.value-index c.args.held.now c.loop-value-test.false)

pub returns-clause-widths : goal.returns-clause-widths
returns-clause-widths g c = c.loop-value.invariant.widths ∙ ap (λ held. widths_of held) (take_all c.loop-value.value-index c.args.held.now c.loop-value-test.false)

pub returns-clause-own : goal.returns-clause-own
returns-clause-own g c = c.loop-value.invariant.own

pub returns-clause-adds : goal.returns-clause-adds
returns-clause-adds g c =
    let whole : take c.loop-value.value-index c.args.held.now ≡ c.args.held.now = take_all c.loop-value.value-index c.args.held.now c.loop-value-test.false in
    rw whole at c.loop-value.invariant.adds
