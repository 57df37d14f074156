use Rattle.first_uip.proofs.Common.{◌≡◌, ◌+◌, true, Some, None, take, drop, sym, ap, ◌∙◌, subst, All, MatchOption, Option, take-append-drop, same_Some, Lit, is_held, held_at_place, equal_literals, held_left}
use Rattle.first_uip.proofs.StartLemmas.{differ_by_ne, one_more}
use Rattle.first_uip.proofs.start.shape_of.Goals as goal
use Rattle.first_uip.proofs.start.shape_of.Goals.{in-None, in-Some+else-ne}

pub returns-then-ne : goal.returns-then-ne
returns-then-ne c =
    let clause = c.args.clause.now in
    let k = c.loop-literal.literal-index in
    let x : Lit = c.literal-item.result in
    let other = c.in-Some.other in
    let so_far : (is_held (take k clause) other ≡ true) × All (λ m. m ≡ other) (take k clause) =
    subst (λ o. MatchOption o (k ≡ 0) (λ y. (is_held (take k clause) y ≡ true) × All (λ m. m ≡ y) (take k clause))) c.in-Some.is c.loop-literal.invariant in
    let stands : is_held clause other ≡ true =
    sym (ap (λ ls. is_held ls other) (take-append-drop k clause)) ∙ held_left (take k clause) (drop k clause) other so_far.0 in
    let here : is_held clause x ≡ true = ap (is_held clause) c.literal-item.is ∙ held_at_place clause k x c.loop-literal-test.true in
    (stands, here, λ e. differ_by_ne other x c.ne.result c.ne.ensures c.if-ne.true e)

pub loop-literal-preserved : goal.loop-literal-preserved
loop-literal-preserved c =
    let clause = c.args.clause.now in
    let k = c.loop-literal.literal-index in
    let x : Lit = c.literal-item.result in
    let next : Option Lit → Type 0 =
    λ o. MatchOption o (k + 1 ≡ 0) (λ y. (is_held (take (k + 1) clause) y ≡ true) × All (λ m. m ≡ y) (take (k + 1) clause)) in
    elim c.match-first.branch [
      | in-None w ↦
          subst next (sym w.first-is)
          (one_more clause k x c.loop-literal.first c.loop-literal-test.true c.literal-item.is (λ l is. let none : None ≡ Some l = sym w.in-None.is ∙ is in cc)
          c.loop-literal.invariant)
      | in-Some+else-ne w ↦
          let other : Lit = w.in-Some.other in
          let same : other ≡ x = equal_literals other x w.ne.result w.ne.ensures w.if-ne.false in
          subst next (sym (w.first-is ∙ ap Some same))
          (one_more clause k x c.loop-literal.first c.loop-literal-test.true c.literal-item.is (λ l is. same_Some l other (sym is ∙ w.in-Some.is) ∙ same)
          c.loop-literal.invariant)
    ]
