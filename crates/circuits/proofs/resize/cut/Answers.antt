use Rattle.circuits.proofs.Common.{◌≡◌, take, length, map, sym, ap, subst, ◌∙◌, All, length-take-le, All-take, number}
use Rattle.circuits.proofs.Words.{number-cut}
use Rattle.circuits.proofs.resize.cut.Given.{Over}
use Rattle.circuits.proofs.resize.cut.Goals as goal

bits : (g : Over) (c : goal.After-from_vec g) → c.from_vec.result ≡ take c.args.to c.args.a.now
bits g c = c.from_vec.ensures ∙ c.in_ok-from_slice.ensures.items ∙ ap (take c.args.to) c.as_slice.ensures

pub returns-clause-own : goal.returns-clause-own
returns-clause-own g c =
    let P = g.C.State.has_literal c.args.c.now in
    subst (All P) (sym (bits g c)) (All-take P c.args.to c.args.a.now c.requires.own)

pub returns-clause-bits : goal.returns-clause-bits
returns-clause-bits g c = bits g c

pub returns-clause-width : goal.returns-clause-width
returns-clause-width g c = ap length (bits g c) ∙ length-take-le c.args.to c.args.a.now c.requires.narrower

pub returns-clause-number : goal.returns-clause-number
returns-clause-number g c inputs admitted =
    ap (λ word. number (map (g.C.State.value c.args.c.now inputs) word)) (bits g c) ∙ number-cut (g.C.State.value c.args.c.now inputs) c.args.a.now c.args.to c.requires.narrower
