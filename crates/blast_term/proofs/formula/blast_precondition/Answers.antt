use Rattle.blast_term.proofs.Common.{◌≡◌, ◌<◌, IsTrue, ◌↔◌, ◌&&◌, not, map, length, take, ap, subst, sym, ◌∙◌, arith, take_all, length-map, Adds-trans, Adds-weaken, own_at, last_holds, truths_of, Held, held_value, IsOwn}
use Rattle.blast_term.proofs.Preconditions.{AllNumbers, met_more, precondition_met}
use Rattle.blast_term.proofs.Turns.{map-more}
use Rattle.blast_term.proofs.formula.blast_precondition.Goals as goal

pub loop-term-init : goal.loop-term-init
loop-term-init g c =
    let m = g.C.State in
    let adds = c.blast_formulas.ensures.adds in
    record {
      met = λ inputs admitted.
          let values = map (held_value (m.value c.args.c.now inputs)) c.args.terms.now in
          let same : m.value c.blast_formulas.new.c inputs c.last_truth-met.result ≡ last_holds (truths_of values c.args.formulas.now) =
          rw c.deref.ensures.value at (c.last_truth-met.ensures.value inputs (adds.keeps.admitted inputs admitted)) ∙ ap last_holds (c.in_ok-truths.ensures.values inputs admitted) in
          (λ h. (tt, subst IsTrue same h), λ h. subst IsTrue (sym same) h.1);
      own = c.last_truth-met.ensures.own;
      adds = Adds-weaken adds (omega arith);
    }

pub loop-term-preserved : goal.loop-term-preserved
loop-term-preserved g c =
    let m = g.C.State in
    let before = c.loop-term.invariant in
    let i = c.loop-term.term-index in
    let h = c.term-item.result in
    let within : i < length c.args.terms.now = omega arith in
    let own = own_at (IsOwn (m.has_literal c.args.c.now)) c.args.terms.now i h c.requires.own within c.term-item.is in
    record {
      met = λ inputs admitted.
          let start = m.value c.args.c.now inputs in
          let now = before.adds.keeps.admitted inputs admitted in
          let values = map (held_value start) c.args.terms.now in
          let poison : m.value c.loop-term.c inputs h.poison ≡ start h.poison = before.adds.keeps.values inputs h.poison admitted own.poison in
          let next : m.value c.and.new.self inputs c.in_ok-met.met ≡ (m.value c.loop-term.c inputs c.loop-term.met && not (start h.poison)) =
          rw (c.not.ensures.value inputs now, poison) at (c.in_ok-met.ensures.value inputs now) in
          subst (λ vs. IsTrue (m.value c.and.new.self inputs c.in_ok-met.met) ↔ (AllNumbers vs × IsTrue (last_holds (truths_of values c.args.formulas.now))))
          (sym (map-more (held_value start) c.args.terms.now i h within c.term-item.is))
          (met_more (m.value c.loop-term.c inputs c.loop-term.met) (start h.poison) (m.value c.and.new.self inputs c.in_ok-met.met) (map (held_value start) (take i c.args.terms.now)) _ _ _ (before.met inputs admitted) next);
      own = c.in_ok-met.ensures.own;
      adds = Adds-weaken (Adds-trans before.adds c.and.ensures.adds) (omega arith);
    }

pub returns-in_err-met-clause-adds : goal.returns-in_err-met-clause-adds
returns-in_err-met-clause-adds g c =
    Adds-weaken (Adds-trans c.loop-term.invariant.adds c.and.ensures.adds) (omega (arith, length-map c.args.terms.now (λ (h : Held _). length h.bits)))

pub returns-clause-value : goal.returns-clause-value
returns-clause-value g c = λ inputs admitted.
    let m = g.C.State in
    let terms = c.args.terms.now in
    let values = map (held_value (m.value c.args.c.now inputs)) terms in
    let met = m.value c.loop-term.c inputs c.loop-term.met in
    precondition_met values c.args.formulas.now met
    (subst (λ ts. IsTrue met ↔ (AllNumbers (map (held_value (m.value c.args.c.now inputs)) ts) × IsTrue (last_holds (truths_of values c.args.formulas.now))))
    (take_all c.loop-term.term-index terms c.loop-term-test.false) (c.loop-term.invariant.met inputs admitted))

pub returns-clause-adds : goal.returns-clause-adds
returns-clause-adds g c = Adds-weaken c.loop-term.invariant.adds (omega (arith, length-map c.args.terms.now (λ (h : Held _). length h.bits)))
