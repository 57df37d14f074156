use Rattle.circ_muldiv.proofs.Common.{◌≡◌, ℕ, ◌≤◌, ◌-◌, ◌++◌, List, take, drop, length, ap, sym, subst, ◌∙◌, length-append, length-drop, arith, All, length-take-le, take_all, All-append, All-take, All-drop, All-kept, map-kept, Adds-weaken, row_gates}
use Rattle.circ_muldiv.proofs.Masks.{row_sum}
use Rattle.circ_muldiv.proofs.row.add_row.Goals as goal

pub returns-clause-number : goal.returns-clause-number
returns-clause-number g c inputs admitted =
    let m = g.C.State in
    let word = c.args.word.now in
    let place = c.args.place in
    let bits : c.in_ok-bits.bits ≡ take c.args.place c.args.word.now ++ c.in_ok-upper.upper.bits = c.in_ok-bits.ensures ∙ ap (λ upper. take place word ++ upper) c.as_slice.ensures in
    let lower_kept = map-kept c.add_where.ensures.adds.keeps inputs admitted (take place word) (All-take (m.has_literal c.args.c.now) place word c.requires.own_word) in
    let rest : take (length c.args.word.now - c.args.place) (drop c.args.place c.args.word.now) ≡ drop c.args.place c.args.word.now = take_all (length c.args.word.now - c.args.place) (drop c.args.place c.args.word.now) (omega (arith, length-drop c.args.place c.args.word.now)) in
    rw bits
    (row_sum (m.value c.args.c.now inputs) (m.value c.add_where.new.c inputs) word c.args.a.now c.in_ok-upper.upper.bits c.args.digit c.in_ok-upper.upper.carry place c.requires.place c.requires.same_width lower_kept (rw rest at (c.in_ok-upper.ensures.number inputs admitted)))

-- the gates of a row: those of the bits from its place on
row_few : {L : Type 0} (word a : List L) (place : ℕ) → length word ≡ length a → row_gates (length (take (length word - place) (drop place word))) ≤ row_gates (length a - place)
row_few word a place same =
    let cut : length (take (length word - place) (drop place word)) ≡ length word - place = length-take-le (length word - place) (drop place word) (omega (arith, length-drop place word)) in
    rw (cut, same) (omega arith)

pub returns-in_err-upper-clause-adds : goal.returns-in_err-upper-clause-adds
returns-in_err-upper-clause-adds g c = Adds-weaken c.add_where.ensures.adds (row_few c.args.word.now c.args.a.now c.args.place c.requires.same_width)

pub returns-in_err-bits-clause-adds : goal.returns-in_err-bits-clause-adds
returns-in_err-bits-clause-adds g c = Adds-weaken c.add_where.ensures.adds (row_few c.args.word.now c.args.a.now c.args.place c.requires.same_width)

pub returns-clause-adds : goal.returns-clause-adds
returns-clause-adds g c = Adds-weaken c.add_where.ensures.adds (row_few c.args.word.now c.args.a.now c.args.place c.requires.same_width)

pub add_where-requires-clause-same_width : goal.add_where-requires-clause-same_width
add_where-requires-clause-same_width g c =
    let word = c.args.word.now in
    let a = c.args.a.now in
    let place = c.args.place in
    length-take-le (length a - place) a (omega arith)
    ∙ ap (λ n. n - place) (sym c.requires.same_width)
    ∙ sym (length-take-le (length word - place) (drop place word) (omega (arith, length-drop place word)))

pub add_where-requires-clause-own_word : goal.add_where-requires-clause-own_word
add_where-requires-clause-own_word g c =
    let P = g.C.State.has_literal c.args.c.now in
    let word = c.args.word.now in
    All-take P (length word - c.args.place) (drop c.args.place word) (All-drop P c.args.place word c.requires.own_word)

pub add_where-requires-clause-own_added : goal.add_where-requires-clause-own_added
add_where-requires-clause-own_added g c =
    All-take (g.C.State.has_literal c.args.c.now) (length c.args.a.now - c.args.place) c.args.a.now c.requires.own_a

pub returns-clause-own_bits : goal.returns-clause-own_bits
returns-clause-own_bits g c =
    let word = c.args.word.now in
    let place = c.args.place in
    let P = g.C.State.has_literal c.add_where.new.c in
    let lower = All-kept c.add_where.ensures.adds.keeps (take place word) (All-take (g.C.State.has_literal c.args.c.now) place word c.requires.own_word) in
    subst (All P) (sym (c.in_ok-bits.ensures ∙ ap (λ upper. take place word ++ upper) c.as_slice.ensures))
    (All-append P (take place word) c.in_ok-upper.upper.bits lower c.in_ok-upper.ensures.own_bits)

pub returns-clause-width : goal.returns-clause-width
returns-clause-width g c =
    let word = c.args.word.now in
    let place = c.args.place in
    let upper = c.in_ok-upper.upper.bits in
    let bits : c.in_ok-bits.bits ≡ take place word ++ upper = c.in_ok-bits.ensures ∙ ap (λ upper. take place word ++ upper) c.as_slice.ensures in
    let lower_width : length (take place word) ≡ place = length-take-le place word (omega arith) in
    let cut : length (take (length word - place) (drop place word)) ≡ length word - place = length-take-le (length word - place) (drop place word) (omega (arith, length-drop place word)) in
    omega (arith, ap length bits, length-append (take place word) upper, c.in_ok-upper.ensures.width)
