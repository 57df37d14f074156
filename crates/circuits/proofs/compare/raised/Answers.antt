use Rattle.circuits.proofs.Common.{◌≡◌, ◌<◌, ◌-◌, length, take, ◌++◌, ◌∷◌, [], map, sym, ap, subst, ◌∙◌, arith, All, length_push, length-take-le, All-push, All-take, number}
use Rattle.circuits.proofs.Kept.{own_at}
use Rattle.circuits.proofs.Words.{number-flipped}
use Rattle.circuits.proofs.compare.raised.Given.{Over}
use Rattle.circuits.proofs.compare.raised.Goals as goal

bits : (g : Over) (c : goal.After-from_vec g) → c.from_vec.result ≡ take (length c.args.a.now - 1) c.args.a.now ++ c.not.result ∷ []
bits g c = c.from_vec.ensures ∙ c.in_ok-push.ensures.items ∙ ap (λ word. word ++ c.not.result ∷ []) c.in_ok-word.ensures.items

pub not-requires : goal.not-requires
not-requires g c =
    let inside : length c.args.a.now - 1 < length c.args.a.now = omega arith in
    own_at (g.C.State.has_literal c.args.c.now) c.args.a.now (length c.args.a.now - 1) c.index-a-top.result c.requires.own inside c.index-a-top.is

pub returns-clause-own : goal.returns-clause-own
returns-clause-own g c =
    let P = g.C.State.has_literal c.args.c.now in
    let top = length c.args.a.now - 1 in
    subst (All P) (sym (bits g c)) (All-push P (take top c.args.a.now) c.not.result (All-take P top c.args.a.now c.requires.own) c.not.ensures.own)

pub returns-clause-width : goal.returns-clause-width
returns-clause-width g c =
    let top = length c.args.a.now - 1 in
    let lower : length (take top c.args.a.now) ≡ top = length-take-le top c.args.a.now (omega arith) in
    omega (arith, ap length (bits g c), length_push (take top c.args.a.now) c.not.result)

pub returns-clause-number : goal.returns-clause-number
returns-clause-number g c inputs admitted =
    let value = g.C.State.value c.args.c.now inputs in
    ap (λ word. number (map value word)) (bits g c) ∙ number-flipped value c.args.a.now (length c.args.a.now - 1) c.index-a-top.result c.not.result (omega arith) c.index-a-top.is (c.not.ensures.value inputs admitted)
