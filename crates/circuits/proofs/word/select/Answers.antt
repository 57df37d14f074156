use Rattle.circuits.proofs.Common.{◌<◌, length, ◌∷◌, [], ◌+◌, ◌∙◌, ap, sym, arith, map-append, length_push, All-push}
use Rattle.circuits.proofs.Kept.{Adds-trans, Adds-weaken, All-kept, map-kept, own_at}
use Rattle.circuits.proofs.Words.{take_select, take_select_all}
use Rattle.circuits.proofs.word.select.Goals as goal

pub loop-i-preserved : goal.loop-i-preserved
loop-i-preserved g c =
    let m = g.C.State in
    let before = c.loop-i.invariant in
    let in_yes : c.loop-i.i < length c.args.yes.now = omega arith in
    let in_no : c.loop-i.i < length c.args.no.now = omega arith in
    let own = All-push (m.has_literal c.mux.new.self) c.loop-i.word c.in_ok-bit.bit (All-kept c.mux.ensures.adds.keeps c.loop-i.word before.1) c.in_ok-bit.ensures.own in (
      Adds-trans before.0 c.mux.ensures.adds,
      rw c.in_ok-push.ensures.ok own,
      ap length c.in_ok-push.ensures.ok ∙ length_push c.loop-i.word c.in_ok-bit.bit ∙ ap (λ n. n + 1) before.2,
      λ inputs admitted.
          let now_admitted = before.0.keeps.admitted inputs admitted in
          let condition_kept = before.0.keeps.values inputs c.args.condition admitted c.requires.own_condition in
          let yes_kept = before.0.keeps.values inputs c.index-yes-i.result admitted (own_at (m.has_literal c.args.c.now) c.args.yes.now c.loop-i.i c.index-yes-i.result c.requires.own_yes in_yes c.index-yes-i.is) in
          let no_kept = before.0.keeps.values inputs c.index-no-i.result admitted (own_at (m.has_literal c.args.c.now) c.args.no.now c.loop-i.i c.index-no-i.result c.requires.own_no in_no c.index-no-i.is) in
          let word_kept = map-kept c.mux.ensures.adds.keeps inputs now_admitted c.loop-i.word before.1 in
          rw (c.in_ok-push.ensures.ok, map-append (m.value c.mux.new.self inputs) c.loop-i.word (c.in_ok-bit.bit ∷ []), word_kept, before.3 inputs admitted, c.in_ok-bit.ensures.value inputs now_admitted, condition_kept, yes_kept, no_kept)
          (sym (take_select (m.value c.args.c.now inputs) (m.value c.args.c.now inputs c.args.condition) c.args.yes.now c.args.no.now c.loop-i.i c.index-yes-i.result c.index-no-i.result in_yes in_no c.index-yes-i.is c.index-no-i.is)),
    )

pub mux-requires-clause-own_condition : goal.mux-requires-clause-own_condition
mux-requires-clause-own_condition g c = c.loop-i.invariant.0.keeps.literals c.args.condition c.requires.own_condition

pub mux-requires-clause-own_yes : goal.mux-requires-clause-own_yes
mux-requires-clause-own_yes g c =
    let inside : c.loop-i.i < length c.args.yes.now = omega arith in
    c.loop-i.invariant.0.keeps.literals c.index-yes-i.result (own_at (g.C.State.has_literal c.args.c.now) c.args.yes.now c.loop-i.i c.index-yes-i.result c.requires.own_yes inside c.index-yes-i.is)

pub mux-requires-clause-own_no : goal.mux-requires-clause-own_no
mux-requires-clause-own_no g c =
    let inside : c.loop-i.i < length c.args.no.now = omega arith in
    c.loop-i.invariant.0.keeps.literals c.index-no-i.result (own_at (g.C.State.has_literal c.args.c.now) c.args.no.now c.loop-i.i c.index-no-i.result c.requires.own_no inside c.index-no-i.is)

pub returns-in_err-bit-clause-adds : goal.returns-in_err-bit-clause-adds
returns-in_err-bit-clause-adds g c = Adds-weaken (Adds-trans c.loop-i.invariant.0 c.mux.ensures.adds) (omega arith)

pub returns-in_err-push-clause-adds : goal.returns-in_err-push-clause-adds
returns-in_err-push-clause-adds g c = Adds-weaken (Adds-trans c.loop-i.invariant.0 c.mux.ensures.adds) (omega arith)

pub returns-clause-values : goal.returns-clause-values
returns-clause-values g c inputs admitted =
    let value = g.C.State.value c.args.c.now inputs in
    c.loop-i.invariant.3 inputs admitted ∙ take_select_all value (value c.args.condition) c.args.yes.now c.args.no.now c.loop-i.i (omega arith) (omega arith)

pub returns-clause-adds : goal.returns-clause-adds
returns-clause-adds g c = Adds-weaken c.loop-i.invariant.0 (omega arith)
