use Rattle.blast_term.proofs.Common.{◌≡◌, ℕ, pos, get_or, List, ◌+◌, ◌<◌, ◌∷◌, [], Some, length, take, refl, sym, ap, subst, ◌∙◌, arith, slice_get, slice_index, map-append, take_all, slice_get-get_or, get_or_from_slice_get, All-push, Adds-none, Adds-trans, Adds-weaken, Term, term_value, values_of, in_turn-step, Held, held_value, IsOwn, term_gates, TermIsHeld, term_widths, AllOwn-kept, values-kept}
use Rattle.rule_core.specs.declared.rule.Node.TheVariants as nodes
use Rattle.blast_term.proofs.Kept.{scope_own-kept, names-kept}
use Rattle.blast_term.proofs.Turns.{sum-more, sum-fewer, map-more, take-map}
use Rattle.blast_term.proofs.term.blast_terms.Goals as goal

abbrev read : List Term → ℕ → Term
read terms i = get_or terms i (record { class = 0; node = nodes.Literal (pos 0) })

-- the node that is read at a place stands there
stands : (terms : List Term) (i : ℕ) → i < length terms → slice_get terms i ≡ Some (read terms i)
stands terms i within = slice_get-get_or terms i (record { class = 0; node = nodes.Literal (pos 0) }) within

is_read : (terms : List Term) (i : ℕ) → i < length terms → read terms i ≡ get_or terms i (read terms i)
is_read terms i within = sym (get_or_from_slice_get terms i (read terms i) (read terms i) (stands terms i within))

pub blast_term-requires-clause-ready : goal.blast_term-requires-clause-ready
blast_term-requires-clause-ready g c =
    let i = c.loop-term.term-index in
    let at = stands c.args.terms.now i (omega arith) in
    let widths = take-map (λ (t : Term). slice_index c.args.typing.now t.class) i c.args.terms.now ∙ sym c.loop-term.invariant.widths in
    rw c.deref.ensures.value (subst (λ ws. TermIsHeld c.args.typing.now c.args.scope ws (read c.args.terms.now i)) widths (c.requires.ready i (read c.args.terms.now i) at))

pub blast_term-requires-clause-own : goal.blast_term-requires-clause-own
blast_term-requires-clause-own g c = scope_own-kept c.loop-term.invariant.adds.keeps c.args.scope c.requires.own

pub blast_term-requires-clause-own_before : goal.blast_term-requires-clause-own_before
blast_term-requires-clause-own_before g c = rw c.deref.ensures.value c.loop-term.invariant.own

pub returns-in_err-made-clause-adds : goal.returns-in_err-made-clause-adds
returns-in_err-made-clause-adds g c =
    let more = sum-more (term_gates c.args.typing.now) c.args.terms.now c.loop-term.term-index (read c.args.terms.now c.loop-term.term-index) (omega arith) (is_read c.args.terms.now c.loop-term.term-index (omega arith)) in
    Adds-weaken (Adds-trans c.loop-term.invariant.adds c.blast_term.ensures.adds) (omega (arith, more, sum-fewer (term_gates c.args.typing.now) c.args.terms.now (c.loop-term.term-index + 1)))

pub returns-in_err-push-clause-adds : goal.returns-in_err-push-clause-adds
returns-in_err-push-clause-adds g c =
    let more = sum-more (term_gates c.args.typing.now) c.args.terms.now c.loop-term.term-index (read c.args.terms.now c.loop-term.term-index) (omega arith) (is_read c.args.terms.now c.loop-term.term-index (omega arith)) in
    Adds-weaken (Adds-trans c.loop-term.invariant.adds c.blast_term.ensures.adds) (omega (arith, more, sum-fewer (term_gates c.args.typing.now) c.args.terms.now (c.loop-term.term-index + 1)))

pub loop-term-preserved : goal.loop-term-preserved
loop-term-preserved g c =
    let m = g.C.State in
    let before = c.loop-term.invariant in
    let i = c.loop-term.term-index in
    let within : i < length c.args.terms.now = omega arith in
    let at = stands c.args.terms.now i within in
    let keeps = c.blast_term.ensures.adds.keeps in
    let items = c.loop-term.held.items in
    let made = c.in_ok-made.made in
    rw c.in_ok-push.ensures.items record {
      values = λ inputs names admitted means.
          let now_admitted = before.adds.keeps.admitted inputs admitted in
          let now_means = names-kept before.adds.keeps inputs admitted c.args.scope names c.requires.own means in
          let old = values-kept keeps inputs now_admitted items before.own ∙ before.values inputs names admitted means in
          let new = rw c.deref.ensures.value at (c.in_ok-made.ensures.value inputs names now_admitted now_means) in
          map-append (held_value (m.value c.blast_term.new.c inputs)) items (made ∷ [])
          ∙ rw (old, new, before.values inputs names admitted means) (sym (in_turn-step (term_value c.args.typing.now names) c.args.terms.now i (read c.args.terms.now i) at));
      widths = map-append (λ (h : Held _). length h.bits) items (made ∷ []) ∙ rw (before.widths, c.in_ok-made.ensures.width)
          (sym (map-more (λ (t : Term). slice_index c.args.typing.now t.class) c.args.terms.now i (read c.args.terms.now i) within (is_read c.args.terms.now i within)));
      own = All-push (IsOwn (m.has_literal c.blast_term.new.c)) items made (AllOwn-kept keeps items before.own) c.in_ok-made.ensures.own;
      adds = Adds-weaken (Adds-trans before.adds c.blast_term.ensures.adds) (omega (arith, sum-more (term_gates c.args.typing.now) c.args.terms.now i (read c.args.terms.now i) within (is_read c.args.terms.now i within)));
    }

pub loop-term-init : goal.loop-term-init
loop-term-init g c = rw c.new-held.ensures.items record {
  values = λ inputs names admitted means. refl;
  widths = refl;
  own = λ k d within. absurd (omega arith);
  adds = Adds-none;
}

pub returns-clause-values : goal.returns-clause-values
returns-clause-values g c = λ inputs names admitted means.
    c.loop-term.invariant.values inputs names admitted means ∙ ap (values_of c.args.typing.now names) (take_all c.loop-term.term-index c.args.terms.now c.loop-term-test.false)

pub returns-clause-widths : goal.returns-clause-widths
returns-clause-widths g c = c.loop-term.invariant.widths ∙ ap (term_widths c.args.typing.now) (take_all c.loop-term.term-index c.args.terms.now c.loop-term-test.false)

pub returns-clause-own : goal.returns-clause-own
returns-clause-own g c = c.loop-term.invariant.own

pub returns-clause-adds : goal.returns-clause-adds
returns-clause-adds g c =
    let whole : take c.loop-term.term-index c.args.terms.now ≡ c.args.terms.now = take_all c.loop-term.term-index c.args.terms.now c.loop-term-test.false in
    rw whole at c.loop-term.invariant.adds
