use Rattle.blast_term.proofs.Common.{◌≡◌, ℕ, ◌*◌, ◌^◌, ◌<◌, ◌≤◌, ◌∙◌, if◌then◌else◌, Some, None, length, map, take, not, ◌&&◌, ap, sym, subst, arith, pow_pos, length-map, length-take, take_all, Ghosts, Adds, number, number_of, Adds-refl, Adds-trans, Adds-weaken, Keeps-trans, All-kept, map-kept, own_at, number-below, number-take_more, exponent, power_gates}
use Rattle.blast_term.proofs.Powers.{scanned-none, scanned-more, scanned-exponent}
use Rattle.blast_term.proofs.power.place.Goals as goal

-- the gates of a turn that may stop in the middle stay within the bound of the whole
turn_within : {C L : Type 0} {state : Ghosts C L} {start now next : C} {i n width : ℕ} → Adds state start now (8 * i) → Adds state now next n → i < width → n ≤ 8 → Adds state start next (power_gates width)
turn_within before turn inside few = Adds-weaken (Adds-trans before turn) (omega arith)

-- the number of a place fits the bits for it
place_fits : (i n width m : ℕ) → i < n → n ≤ 2 ^ width → m ≡ width → i < 2 ^ m
place_fits i n width m inside enough is = rw is (omega arith)

pub constant-requires : goal.constant-requires
constant-requires g c = pow_pos c.args.width

pub place_where-requires-clause-fits : goal.place_where-requires-clause-fits
place_where-requires-clause-fits g c = place_fits c.loop-i.i (length c.args.word.now) c.args.width _ c.loop-i-test.true c.requires.enough c.loop-i.invariant.4

pub place_where-requires-clause-own_here : goal.place_where-requires-clause-own_here
place_where-requires-clause-own_here g c =
    c.loop-i.invariant.0.keeps.literals c.index-word-i.result
    (own_at (g.C.State.has_literal c.args.c.now) c.args.word.now c.loop-i.i c.index-word-i.result c.requires.own c.loop-i-test.true c.index-word-i.is)

pub place_where-requires-clause-own : goal.place_where-requires-clause-own
place_where-requires-clause-own g c = c.loop-i.invariant.3

pub mux-requires-clause-own_condition : goal.mux-requires-clause-own_condition
mux-requires-clause-own_condition g c =
    (Keeps-trans c.loop-i.invariant.0.keeps c.place_where.ensures.adds.keeps).literals c.index-word-i.result
    (own_at (g.C.State.has_literal c.args.c.now) c.args.word.now c.loop-i.i c.index-word-i.result c.requires.own c.loop-i-test.true c.index-word-i.is)

pub mux-requires-clause-own_yes : goal.mux-requires-clause-own_yes
mux-requires-clause-own_yes g c = c.place_where.ensures.adds.keeps.literals c.loop-i.none c.loop-i.invariant.1

pub mux-requires-clause-own_no : goal.mux-requires-clause-own_no
mux-requires-clause-own_no g c = c.place_where.ensures.adds.keeps.literals c.loop-i.one c.loop-i.invariant.2

pub not-requires : goal.not-requires
not-requires g c =
    (Keeps-trans c.loop-i.invariant.0.keeps (Keeps-trans c.place_where.ensures.adds.keeps c.mux.ensures.adds.keeps)).literals c.index-word-i.result
    (own_at (g.C.State.has_literal c.args.c.now) c.args.word.now c.loop-i.i c.index-word-i.result c.requires.own c.loop-i-test.true c.index-word-i.is)

pub and-requires-clause-own_a : goal.and-requires-clause-own_a
and-requires-clause-own_a g c = (Keeps-trans c.place_where.ensures.adds.keeps c.mux.ensures.adds.keeps).literals c.loop-i.none c.loop-i.invariant.1

pub and-requires-clause-own_b : goal.and-requires-clause-own_b
and-requires-clause-own_b g c = c.not.ensures.own

pub returns-in_err-bits-clause-adds : goal.returns-in_err-bits-clause-adds
returns-in_err-bits-clause-adds g c = Adds-weaken Adds-refl (omega arith)

pub returns-in_err-bits-2-clause-adds : goal.returns-in_err-bits-2-clause-adds
returns-in_err-bits-2-clause-adds g c =
    turn_within c.loop-i.invariant.0 c.place_where.ensures.adds c.loop-i-test.true (omega (arith, c.loop-i.invariant.4, c.requires.few))

pub returns-in_err-one-clause-adds : goal.returns-in_err-one-clause-adds
returns-in_err-one-clause-adds g c =
    turn_within c.loop-i.invariant.0 (Adds-trans c.place_where.ensures.adds c.mux.ensures.adds) c.loop-i-test.true (omega (arith, c.loop-i.invariant.4, c.requires.few))

pub returns-in_err-none-clause-adds : goal.returns-in_err-none-clause-adds
returns-in_err-none-clause-adds g c =
    turn_within c.loop-i.invariant.0 (Adds-trans c.place_where.ensures.adds (Adds-trans c.mux.ensures.adds c.and.ensures.adds)) c.loop-i-test.true (omega (arith, c.loop-i.invariant.4, c.requires.few))

pub returns-clause-adds : goal.returns-clause-adds
returns-clause-adds g c = let within = c.loop-i.auto.i-end in Adds-weaken c.loop-i.invariant.0 (omega arith)

pub loop-i-init : goal.loop-i-init
loop-i-init g c = (
  Adds-refl,
  c.one-none.ensures.own,
  c.zero-one.ensures.own,
  c.in_ok-bits.ensures.own,
  c.in_ok-bits.ensures.width,
  λ inputs admitted. scanned-none _ _ _ (c.one-none.ensures.value inputs admitted) (c.zero-one.ensures.value inputs admitted),
)

pub loop-i-preserved : goal.loop-i-preserved
loop-i-preserved g c =
    let m = g.C.State in
    let before = c.loop-i.invariant in
    let i = c.loop-i.i in
    let bit = c.index-word-i.result in
    let k0 = before.0.keeps in
    let k1 = c.place_where.ensures.adds.keeps in
    let k2 = c.mux.ensures.adds.keeps in
    let k3 = c.and.ensures.adds.keeps in
    let inside : i < length c.args.word.now = c.loop-i-test.true in
    let own_bit = own_at (m.has_literal c.args.c.now) c.args.word.now i bit c.requires.own inside c.index-word-i.is in
    let own_loop = k0.literals bit own_bit in
    let own_placed = k1.literals bit own_loop in (
      Adds-weaken (Adds-trans before.0 (Adds-trans c.place_where.ensures.adds (Adds-trans c.mux.ensures.adds c.and.ensures.adds))) (omega (arith, before.4, c.requires.few)),
      c.in_ok-none.ensures.own,
      k3.literals c.in_ok-one.one c.in_ok-one.ensures.own,
      All-kept (Keeps-trans k2 k3) c.in_ok-bits-2.bits c.in_ok-bits-2.ensures.own,
      c.in_ok-bits-2.ensures.width ∙ before.4,
      λ inputs admitted.
          let a0 = k0.admitted inputs admitted in
          let a1 = k1.admitted inputs a0 in
          let a2 = k2.admitted inputs a1 in
          let start = m.value c.args.c.now inputs in
          let at_loop = m.value c.loop-i.c inputs in
          let bit_loop : at_loop bit ≡ start bit = k0.values inputs bit admitted own_bit in
          let bit_placed : m.value c.place_where.new.c inputs bit ≡ start bit = k1.values inputs bit a0 own_loop ∙ bit_loop in
          let bit_mux : m.value c.mux.new.self inputs bit ≡ start bit = k2.values inputs bit a1 own_placed ∙ bit_placed in
          let none_placed = k1.values inputs c.loop-i.none a0 before.1 in
          let none_mux = k2.values inputs c.loop-i.none a1 (k1.literals c.loop-i.none before.1) ∙ none_placed in
          let one_placed = k1.values inputs c.loop-i.one a0 before.2 in
          let kept = map-kept (Keeps-trans k2 k3) inputs a1 c.in_ok-bits-2.bits c.in_ok-bits-2.ensures.own in
          let is_k : number_of (m.value c.and.new.self inputs) c.in_ok-bits-2.bits ≡ (if start bit then i else number_of at_loop c.loop-i.bits) =
          ap number kept ∙ rw bit_loop at (c.in_ok-bits-2.ensures.number inputs a0) in
          let is_one : m.value c.and.new.self inputs c.in_ok-one.one ≡ (if start bit then at_loop c.loop-i.none else at_loop c.loop-i.one) =
          k3.values inputs c.in_ok-one.one a2 c.in_ok-one.ensures.own ∙ rw (bit_placed, none_placed, one_placed) at (c.in_ok-one.ensures.value inputs a1) in
          let is_none : m.value c.and.new.self inputs c.in_ok-none.none ≡ (at_loop c.loop-i.none && not (start bit)) =
          rw (none_mux, c.not.ensures.value inputs a2, bit_mux) at (c.in_ok-none.ensures.value inputs a2) in
          let short : length (map start (take i c.args.word.now)) ≡ i = length-map (take i c.args.word.now) start ∙ omega (arith, length-take i c.args.word.now) in
          let below = subst (λ n. number (map start (take i c.args.word.now)) < 2 ^ n) short (number-below (map start (take i c.args.word.now))) in
          scanned-more i _ _ _ _ _ _ (start bit) _ _ (before.5 inputs admitted) below (number-take_more start c.args.word.now i bit inside c.index-word-i.is) is_k is_one is_none,
    )

pub returns-clause-value : goal.returns-clause-value
returns-clause-value g c = λ inputs admitted.
    let m = g.C.State in
    let start = m.value c.args.c.now inputs in
    let now = m.value c.loop-i.c inputs in
    let word = c.args.word.now in
    let end : c.loop-i.i ≡ length word = omega (arith, c.loop-i-test.false, c.loop-i.auto.i-end) in
    let whole : take c.loop-i.i word ≡ word = take_all c.loop-i.i word c.loop-i-test.false in
    let found = scanned-exponent _ _ _ _ _ (c.loop-i.invariant.5 inputs admitted) in
    subst (λ n. exponent n (number_of start word) ≡ (if now c.loop-i.one then Some (number_of now c.loop-i.bits) else None)) end
    (subst (λ w. exponent c.loop-i.i (number_of start w) ≡ (if now c.loop-i.one then Some (number_of now c.loop-i.bits) else None)) whole found)
