use Rattle.circuits.proofs.Common.{◌&&◌, ◌||◌, ap, ◌∙◌, arith, xor, known_and, known_or, known_xor}
use Rattle.circuits.proofs.Kept.{Adds-trans, Adds-weaken, Keeps-trans}
use Rattle.circuits.proofs.adder.full_adder.Goals as goal

pub xor-requires-2-clause-own_b : goal.xor-requires-2-clause-own_b
xor-requires-2-clause-own_b g c = c.xor.ensures.adds.keeps.literals c.args.carry c.requires.own_carry

pub and-requires-clause-own_a : goal.and-requires-clause-own_a
and-requires-clause-own_a g c = (Keeps-trans c.xor.ensures.adds.keeps c.xor-2.ensures.adds.keeps).literals c.args.a c.requires.own_a

pub and-requires-clause-own_b : goal.and-requires-clause-own_b
and-requires-clause-own_b g c = (Keeps-trans c.xor.ensures.adds.keeps c.xor-2.ensures.adds.keeps).literals c.args.b c.requires.own_b

pub and-requires-2-clause-own_a : goal.and-requires-2-clause-own_a
and-requires-2-clause-own_a g c =
    (Keeps-trans (Keeps-trans c.xor.ensures.adds.keeps c.xor-2.ensures.adds.keeps) c.and.ensures.adds.keeps).literals c.args.carry c.requires.own_carry

pub and-requires-2-clause-own_b : goal.and-requires-2-clause-own_b
and-requires-2-clause-own_b g c =
    (Keeps-trans c.xor-2.ensures.adds.keeps c.and.ensures.adds.keeps).literals c.in_ok-differ.differ c.in_ok-differ.ensures.own

pub or-requires-clause-own_a : goal.or-requires-clause-own_a
or-requires-clause-own_a g c = c.and-2.ensures.adds.keeps.literals c.in_ok-both.both c.in_ok-both.ensures.own

pub returns-in_err-differ-clause-adds : goal.returns-in_err-differ-clause-adds
returns-in_err-differ-clause-adds g c = Adds-weaken c.xor.ensures.adds (omega arith)

pub returns-in_err-sum-clause-adds : goal.returns-in_err-sum-clause-adds
returns-in_err-sum-clause-adds g c = Adds-weaken (Adds-trans c.xor.ensures.adds c.xor-2.ensures.adds) (omega arith)

pub returns-in_err-both-clause-adds : goal.returns-in_err-both-clause-adds
returns-in_err-both-clause-adds g c =
    Adds-weaken (Adds-trans (Adds-trans c.xor.ensures.adds c.xor-2.ensures.adds) c.and.ensures.adds) (omega arith)

pub returns-in_err-passed-clause-adds : goal.returns-in_err-passed-clause-adds
returns-in_err-passed-clause-adds g c =
    Adds-weaken (Adds-trans (Adds-trans (Adds-trans c.xor.ensures.adds c.xor-2.ensures.adds) c.and.ensures.adds) c.and-2.ensures.adds) (omega arith)

pub returns-in_err-carry-clause-adds : goal.returns-in_err-carry-clause-adds
returns-in_err-carry-clause-adds g c =
    Adds-trans (Adds-trans (Adds-trans (Adds-trans c.xor.ensures.adds c.xor-2.ensures.adds) c.and.ensures.adds) c.and-2.ensures.adds) c.or.ensures.adds

pub returns-clause-adds : goal.returns-clause-adds
returns-clause-adds g c =
    Adds-trans (Adds-trans (Adds-trans (Adds-trans c.xor.ensures.adds c.xor-2.ensures.adds) c.and.ensures.adds) c.and-2.ensures.adds) c.or.ensures.adds

pub returns-clause-own_sum : goal.returns-clause-own_sum
returns-clause-own_sum g c =
    (Keeps-trans (Keeps-trans c.and.ensures.adds.keeps c.and-2.ensures.adds.keeps) c.or.ensures.adds.keeps).literals c.in_ok-sum.sum c.in_ok-sum.ensures.own

pub returns-clause-sum : goal.returns-clause-sum
returns-clause-sum g c inputs admitted =
    let value = g.C.State.value c.args.c.now inputs in
    let carry = c.args.carry in
    let after_1 = c.xor.ensures.adds.keeps.admitted inputs admitted in
    let after_2 = c.xor-2.ensures.adds.keeps.admitted inputs after_1 in
    let later = Keeps-trans (Keeps-trans c.and.ensures.adds.keeps c.and-2.ensures.adds.keeps) c.or.ensures.adds.keeps in
    later.values inputs c.in_ok-sum.sum after_2 c.in_ok-sum.ensures.own
    ∙ c.in_ok-sum.ensures.value inputs after_1
    ∙ ap (λ p. xor p (g.C.State.value c.xor.new.self inputs carry)) (c.in_ok-differ.ensures.value inputs admitted)
    ∙ ap (λ q. xor (xor (value c.args.a) (value c.args.b)) q) (c.xor.ensures.adds.keeps.values inputs carry admitted c.requires.own_carry)

pub returns-clause-carry : goal.returns-clause-carry
returns-clause-carry g c inputs admitted =
    let value = g.C.State.value c.args.c.now inputs in
    let passed = g.C.State.value c.and-2.new.self inputs c.in_ok-passed.passed in
    let a = c.args.a in
    let b = c.args.b in
    let carry = c.args.carry in
    let differ = c.in_ok-differ.differ in
    let to_2 = Keeps-trans c.xor.ensures.adds.keeps c.xor-2.ensures.adds.keeps in
    let to_3 = Keeps-trans to_2 c.and.ensures.adds.keeps in
    let after_1 = c.xor.ensures.adds.keeps.admitted inputs admitted in
    let after_2 = to_2.admitted inputs admitted in
    let after_3 = to_3.admitted inputs admitted in
    let after_4 = c.and-2.ensures.adds.keeps.admitted inputs after_3 in
    let a_kept = to_2.values inputs a admitted c.requires.own_a in
    let b_kept = to_2.values inputs b admitted c.requires.own_b in
    let carry_kept = to_3.values inputs carry admitted c.requires.own_carry in
    let differ_kept = (Keeps-trans c.xor-2.ensures.adds.keeps c.and.ensures.adds.keeps).values inputs differ after_1 c.in_ok-differ.ensures.own in
    let now_2 = g.C.State.value c.xor-2.new.self inputs in
    let now_3 = g.C.State.value c.and.new.self inputs in
    c.in_ok-carry.ensures.value inputs after_4
    ∙ ap (λ p. p || passed)
    (c.and-2.ensures.adds.keeps.values inputs c.in_ok-both.both after_3 c.in_ok-both.ensures.own
    ∙ c.in_ok-both.ensures.value inputs after_2 ∙ ap (λ p. p && now_2 b) a_kept ∙ ap (λ p. value a && p) b_kept)
    ∙ ap (λ p. (value a && value b) || p)
    (c.in_ok-passed.ensures.value inputs after_3 ∙ ap (λ p. p && now_3 differ) carry_kept
    ∙ ap (λ p. value carry && p) (differ_kept ∙ c.in_ok-differ.ensures.value inputs admitted))

pub returns-clause-sum_known : goal.returns-clause-sum_known
returns-clause-sum_known g c inputs =
    let known = g.C.State.known c.args.c.now inputs in
    let carry = c.args.carry in
    let later = Keeps-trans (Keeps-trans c.and.ensures.adds.keeps c.and-2.ensures.adds.keeps) c.or.ensures.adds.keeps in
    later.known inputs c.in_ok-sum.sum c.in_ok-sum.ensures.own
    ∙ c.in_ok-sum.ensures.known inputs
    ∙ ap (λ p. known_xor p (g.C.State.known c.xor.new.self inputs carry)) (c.in_ok-differ.ensures.known inputs)
    ∙ ap (λ q. known_xor (known_xor (known c.args.a) (known c.args.b)) q) (c.xor.ensures.adds.keeps.known inputs carry c.requires.own_carry)

pub returns-clause-carry_known : goal.returns-clause-carry_known
returns-clause-carry_known g c inputs =
    let known = g.C.State.known c.args.c.now inputs in
    let passed = g.C.State.known c.and-2.new.self inputs c.in_ok-passed.passed in
    let a = c.args.a in
    let b = c.args.b in
    let carry = c.args.carry in
    let differ = c.in_ok-differ.differ in
    let to_2 = Keeps-trans c.xor.ensures.adds.keeps c.xor-2.ensures.adds.keeps in
    let to_3 = Keeps-trans to_2 c.and.ensures.adds.keeps in
    let differ_kept = (Keeps-trans c.xor-2.ensures.adds.keeps c.and.ensures.adds.keeps).known inputs differ c.in_ok-differ.ensures.own in
    let now_2 = g.C.State.known c.xor-2.new.self inputs in
    let now_3 = g.C.State.known c.and.new.self inputs in
    c.in_ok-carry.ensures.known inputs
    ∙ ap (λ p. known_or p passed)
    (c.and-2.ensures.adds.keeps.known inputs c.in_ok-both.both c.in_ok-both.ensures.own
    ∙ c.in_ok-both.ensures.known inputs ∙ ap (λ p. known_and p (now_2 b)) (to_2.known inputs a c.requires.own_a) ∙ ap (λ p. known_and (known a) p) (to_2.known inputs b c.requires.own_b))
    ∙ ap (λ p. known_or (known_and (known a) (known b)) p)
    (c.in_ok-passed.ensures.known inputs ∙ ap (λ p. known_and p (now_3 differ)) (to_3.known inputs carry c.requires.own_carry)
    ∙ ap (λ p. known_and (known carry) p) (differ_kept ∙ c.in_ok-differ.ensures.known inputs))
