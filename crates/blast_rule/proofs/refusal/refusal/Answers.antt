use Rattle.blast_rule.proofs.Common.{◌≡◌, ◌==◌, not, ◌&&◌, ◌||◌, length, arith, IfOk-weaker, number_of, Adds-trans, Adds-weaken, Keeps-trans}
use Rattle.blast_rule.proofs.Refusals.{refused_where}
use Rattle.blast_rule.proofs.refusal.refusal.Goals as goal

pub equal-requires-clause-same_width : goal.equal-requires-clause-same_width
equal-requires-clause-same_width g c = c.requires.same_width

pub equal-requires-clause-own_a : goal.equal-requires-clause-own_a
equal-requires-clause-own_a g c = c.requires.own_source.bits

pub equal-requires-clause-own_b : goal.equal-requires-clause-own_b
equal-requires-clause-own_b g c = c.requires.own_target.bits

pub not-requires : goal.not-requires
not-requires g c = c.in_ok-same.ensures.own

pub or-requires-clause-own_a : goal.or-requires-clause-own_a
or-requires-clause-own_a g c = c.equal.ensures.adds.keeps.literals c.args.target.now.poison c.requires.own_target.poison

pub or-requires-clause-own_b : goal.or-requires-clause-own_b
or-requires-clause-own_b g c = c.not.ensures.own

pub not-requires-2 : goal.not-requires-2
not-requires-2 g c = (Keeps-trans c.equal.ensures.adds.keeps c.or.ensures.adds.keeps).literals c.args.source.now.poison c.requires.own_source.poison

pub and-requires-clause-own_a : goal.and-requires-clause-own_a
and-requires-clause-own_a g c = c.not-2.ensures.own

pub and-requires-clause-own_b : goal.and-requires-clause-own_b
and-requires-clause-own_b g c = c.in_ok-differs.ensures.own

pub or-requires-2-clause-own_a : goal.or-requires-2-clause-own_a
or-requires-2-clause-own_a g c =
    (Keeps-trans c.equal.ensures.adds.keeps (Keeps-trans c.or.ensures.adds.keeps c.and.ensures.adds.keeps)).literals c.args.target.now.undefined c.requires.own_target.undefined

pub or-requires-2-clause-own_b : goal.or-requires-2-clause-own_b
or-requires-2-clause-own_b g c = c.in_ok-other.ensures.own

pub not-requires-3 : goal.not-requires-3
not-requires-3 g c =
    (Keeps-trans c.equal.ensures.adds.keeps (Keeps-trans c.or.ensures.adds.keeps (Keeps-trans c.and.ensures.adds.keeps c.or-2.ensures.adds.keeps))).literals c.args.source.now.undefined c.requires.own_source.undefined

pub and-requires-2-clause-own_a : goal.and-requires-2-clause-own_a
and-requires-2-clause-own_a g c = c.not-3.ensures.own

pub and-requires-2-clause-own_b : goal.and-requires-2-clause-own_b
and-requires-2-clause-own_b g c = c.in_ok-worse.ensures.own

pub returns-in_err-same-clause-adds : goal.returns-in_err-same-clause-adds
returns-in_err-same-clause-adds g c = Adds-weaken c.equal.ensures.adds (omega arith)

pub returns-in_err-differs-clause-adds : goal.returns-in_err-differs-clause-adds
returns-in_err-differs-clause-adds g c = Adds-weaken (Adds-trans c.equal.ensures.adds c.or.ensures.adds) (omega arith)

pub returns-in_err-other-clause-adds : goal.returns-in_err-other-clause-adds
returns-in_err-other-clause-adds g c = Adds-weaken (Adds-trans (Adds-trans c.equal.ensures.adds c.or.ensures.adds) c.and.ensures.adds) (omega arith)

pub returns-in_err-worse-clause-adds : goal.returns-in_err-worse-clause-adds
returns-in_err-worse-clause-adds g c =
    Adds-weaken (Adds-trans (Adds-trans (Adds-trans c.equal.ensures.adds c.or.ensures.adds) c.and.ensures.adds) c.or-2.ensures.adds) (omega arith)

pub returns-clause-value : goal.returns-clause-value
returns-clause-value g c =
    let v = g.C.State.value in
    let source = c.args.source.now in
    let target = c.args.target.now in
    let k1 = c.equal.ensures.adds.keeps in
    let k2 = Keeps-trans k1 c.or.ensures.adds.keeps in
    let k3 = Keeps-trans k2 c.and.ensures.adds.keeps in
    let k4 = Keeps-trans k3 c.or-2.ensures.adds.keeps in
    IfOk-weaker c.and-2.result _ _
    (λ refused known inputs admitted.
    let a1 = k1.admitted inputs admitted in
    let a2 = k2.admitted inputs admitted in
    let a3 = k3.admitted inputs admitted in
    let a4 = k4.admitted inputs admitted in
    let start = v c.args.c.now inputs in
    let is : v c.and-2.new.self inputs refused ≡ (not (start source.undefined) && (start target.undefined || (not (start source.poison) && (start target.poison || not (number_of start source.bits == number_of start target.bits))))) =
    rw (
      c.not-3.ensures.value inputs a4,
      k4.values inputs source.undefined admitted c.requires.own_source.undefined,
      c.in_ok-worse.ensures.value inputs a3,
      k3.values inputs target.undefined admitted c.requires.own_target.undefined,
      c.in_ok-other.ensures.value inputs a2,
      c.not-2.ensures.value inputs a2,
      k2.values inputs source.poison admitted c.requires.own_source.poison,
      c.in_ok-differs.ensures.value inputs a1,
      k1.values inputs target.poison admitted c.requires.own_target.poison,
      c.not.ensures.value inputs a1,
      c.in_ok-same.ensures.value inputs admitted,
    )
    at (known inputs a4) in
    rw is (refused_where (start source.undefined) (start source.poison) (start target.undefined) (start target.poison) (length source.bits) (length target.bits) (number_of start source.bits) (number_of start target.bits) c.requires.same_width))
    c.and-2.ensures.value

pub returns-clause-own : goal.returns-clause-own
returns-clause-own g c = c.and-2.ensures.own

pub returns-clause-adds : goal.returns-clause-adds
returns-clause-adds g c =
    Adds-weaken (Adds-trans (Adds-trans (Adds-trans (Adds-trans c.equal.ensures.adds c.or.ensures.adds) c.and.ensures.adds) c.or-2.ensures.adds) c.and-2.ensures.adds) (omega arith)
