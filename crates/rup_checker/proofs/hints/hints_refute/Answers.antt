use Rattle.rup_checker.proofs.Common.{◌≡◌, ℕ, ◌+◌, List, [], ◌∷◌, ◌++◌, get_or, drop, sym, ap, ◌∙◌, subst, inl, arith, ◌↔◌, false≢true, true≢false, at_drop_more, drop_all, slice_get_within, Lit, HintsRefute, NamesUnit, negations_of, Step, HintsRefute-cons, HintsRefute-one, HintsRefute-only, clauses_with}
use Rattle.rup_checker.proofs.TableLemmas.{Represents-hold, Represents-again, own_negations}
use Rattle.rup_checker.proofs.HintLemmas.{no_move, after_move, unit_within}
use Rattle.rup_checker.proofs.UsedLemmas.{UsedAreUnit-none, UsedAreUnit-more, UsedAreUnit-marked, Accounted-more, marked_more}
use Rattle.rup_checker.proofs.hints.hints_refute.Goals as goal

-- all hints refute the state at the start exactly where those behind a propagation refute the state after it
goes_on : (clauses : List (List Lit)) (step : Step) (held : List Lit) (number : ℕ) (literal : Lit) (later now : List ℕ) (last : ℕ) → now ++ last ∷ [] ≡ number ∷ (later ++ last ∷ []) → NamesUnit clauses held number literal → (HintsRefute clauses (negations_of step.clause) step.hints ↔ HintsRefute clauses held (now ++ last ∷ [])) → (HintsRefute clauses (negations_of step.clause) step.hints ↔ HintsRefute clauses (literal ∷ held) (later ++ last ∷ []))
goes_on clauses step held number literal later now last here unit same = (
  λ refutes. after_move clauses held number literal later last unit (subst (HintsRefute clauses held) here (same.0 refutes)),
  λ refutes.
      same.1 (subst (HintsRefute clauses held) (sym here) (HintsRefute-cons clauses held number literal (later ++ last ∷ []) unit refutes)),
)

pub returns-in_default-clause-accounted : goal.returns-in_default-clause-accounted
returns-in_default-clause-accounted c = λ m holds. inl (own_negations c.args.table.now c.args.step.now.clause c.requires.negated m holds)

pub loop-number-init : goal.loop-number-init
loop-number-init c =
    let clauses = clauses_with c.args.cnf.now c.args.earlier.now in
    let step = c.args.step.now in
    let negated = negations_of step.clause in
    let hints : step.hints ≡ c.in-Some.moves.now ++ c.in-Some.last.now ∷ [] = sym c.as_slice.ensures ∙ c.in-Some.ensures.cases.0 in
    record {
      state = (
        negated,
        c.requires.negated,
        UsedAreUnit-none clauses negated c.args.used.now c.requires.unused,
        ((λ refutes. subst (HintsRefute clauses negated) hints refutes), (λ refutes. subst (HintsRefute clauses negated) (sym hints) refutes)),
      );
      accounted = λ m holds. inl (own_negations c.args.table.now step.clause c.requires.negated m holds);
      marked = λ number is. absurd (true≢false (sym is ∙ c.requires.unused number));
    }

pub returns-in_default-unit_named-clause-refute : goal.returns-in_default-unit_named-clause-refute
returns-in_default-unit_named-clause-refute c =
    let clauses = clauses_with c.args.cnf.now c.args.earlier.now in
    let (held, represents, units, same) = c.loop-number.invariant.state in
    let moves = c.in-Some.moves.now in
    let place = c.loop-number.number-index in
    let last = c.in-Some.last.now in
    let here : drop place moves ++ last ∷ [] ≡ get_or moves place 0 ∷ (drop (place + 1) moves ++ last ∷ []) =
    at_drop_more (λ ns. ns ++ last ∷ []) moves place 0 c.loop-number-test.true in (
      λ yes. absurd (false≢true yes),
      λ refutes.
          absurd (no_move clauses held (get_or moves place 0) (drop (place + 1) moves) last (c.in_default-unit_named.ensures held represents)
          (subst (HintsRefute clauses held) here (same.0 refutes))),
    )

pub hold-requires : goal.hold-requires
hold-requires c =
    let clauses = clauses_with c.args.cnf.now c.args.earlier.now in
    let (held, represents, units, same) = c.loop-number.invariant.state in
    let variable = unit_within c.args.cnf.now.count clauses held (get_or c.in-Some.moves.now c.loop-number.number-index 0) c.in-Some-unit_named.literal c.requires.within (c.in-Some-unit_named.ensures held represents) in
    omega (arith, variable.1, c.requires.room, c.loop-number.auto.table)

pub loop-number-preserved-then-is_used : goal.loop-number-preserved-then-is_used
loop-number-preserved-then-is_used c =
    let clauses = clauses_with c.args.cnf.now c.args.earlier.now in
    let (held, represents, units, same) = c.loop-number.invariant.state in
    let moves = c.in-Some.moves.now in
    let place = c.loop-number.number-index in
    let number : ℕ = get_or moves place 0 in
    let last = c.in-Some.last.now in
    let (literal, unit, holds) = units.unit_of number (sym c.is_used.ensures ∙ c.if-is_used.true) in
    let here : drop place moves ++ last ∷ [] ≡ number ∷ (drop (place + 1) moves ++ last ∷ []) =
    at_drop_more (λ ns. ns ++ last ∷ []) moves place 0 c.loop-number-test.true in
    record {
      state = (
        literal ∷ held,
        Represents-again c.loop-number.table held literal holds represents,
        UsedAreUnit-more clauses held c.loop-number.used literal unit.2.not_false units,
        goes_on clauses c.args.step.now held number literal (drop (place + 1) moves) (drop place moves) last here unit same,
      );
      accounted = c.loop-number.invariant.accounted;
      marked = c.loop-number.invariant.marked;
    }

pub mark-requires : goal.mark-requires
mark-requires c =
    let clauses = clauses_with c.args.cnf.now c.args.earlier.now in
    let (held, represents, units, same) = c.loop-number.invariant.state in
    let unit = c.in-Some-unit_named.ensures held represents in
    omega (arith, slice_get_within clauses (get_or c.in-Some.moves.now c.loop-number.number-index 0) unit.0 unit.1, c.requires.clause_room, c.loop-number.auto.used)

pub loop-number-preserved : goal.loop-number-preserved
loop-number-preserved c =
    let clauses = clauses_with c.args.cnf.now c.args.earlier.now in
    let (held, represents, units, same) = c.loop-number.invariant.state in
    let step = c.args.step.now in
    let moves = c.in-Some.moves.now in
    let place = c.loop-number.number-index in
    let number : ℕ = get_or moves place 0 in
    let last = c.in-Some.last.now in
    let literal = c.in-Some-unit_named.literal in
    let unit = c.in-Some-unit_named.ensures held represents in
    let here : drop place moves ++ last ∷ [] ≡ number ∷ (drop (place + 1) moves ++ last ∷ []) =
    at_drop_more (λ ns. ns ++ last ∷ []) moves place 0 c.loop-number-test.true in
    let hints : step.hints ≡ moves ++ last ∷ [] = sym c.as_slice.ensures ∙ c.in-Some.ensures.cases.0 in
    record {
      state = (
        literal ∷ held,
        Represents-hold c.loop-number.table c.hold.new.table held literal c.hold.ensures represents,
        UsedAreUnit-marked clauses held c.loop-number.used c.mark.new.used number literal unit c.mark.ensures units,
        goes_on clauses step held number literal (drop (place + 1) moves) (drop place moves) last here unit same,
      );
      accounted = Accounted-more clauses step.clause held number literal c.loop-number.table c.hold.new.table c.loop-number.used c.mark.new.used unit c.hold.ensures c.mark.ensures c.loop-number.invariant.accounted;
      marked = marked_more step.hints moves last place c.loop-number.used c.mark.new.used hints c.loop-number-test.true c.mark.ensures c.loop-number.invariant.marked;
    }

pub returns-clause-refute : goal.returns-clause-refute
returns-clause-refute c =
    let clauses = clauses_with c.args.cnf.now c.args.earlier.now in
    let (held, represents, units, same) = c.loop-number.invariant.state in
    let last = c.in-Some.last.now in
    let named = c.names_false.ensures held represents in
    let here : drop c.loop-number.number-index c.in-Some.moves.now ++ last ∷ [] ≡ last ∷ [] =
    ap (λ ns. ns ++ last ∷ []) (drop_all c.loop-number.number-index c.in-Some.moves.now c.loop-number-test.false) in (
      λ yes. same.1 (subst (HintsRefute clauses held) (sym here) (HintsRefute-one clauses held last (named.0 yes))),
      λ refutes. named.1 (HintsRefute-only clauses held last (subst (HintsRefute clauses held) here (same.0 refutes))),
    )
