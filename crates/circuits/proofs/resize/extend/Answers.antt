use Rattle.circuits.proofs.Common.{arith, ◌≡◌, ◌-◌, ◌++◌, length, take, replicate, sym, ap, subst, ◌∙◌, map, length-append, All, length-replicate, take_all, All-append, All-replicate, number}
use Rattle.circuits.proofs.Words.{number-extend}
use Rattle.circuits.proofs.resize.extend.Given.{Over}
use Rattle.circuits.proofs.resize.extend.Goals as goal

bits : (g : Over) (c : goal.After-from_vec g) → c.from_vec.result ≡ c.args.a.now ++ replicate (c.args.to - length c.args.a.now) c.args.top
bits g c =
    let to = c.args.to in
    c.from_vec.ensures ∙ c.in_ok-resize.ensures.items
    ∙ ap (λ n. take to c.in_ok-word.word.items ++ replicate (to - n) c.args.top) (c.in_ok-word.ensures.len ∙ ap length c.as_slice.ensures)
    ∙ ap (λ word. take to word ++ replicate (to - length c.args.a.now) c.args.top) (c.in_ok-word.ensures.items ∙ c.as_slice.ensures)
    ∙ ap (λ word. word ++ replicate (to - length c.args.a.now) c.args.top) (take_all to c.args.a.now c.requires.wider)

pub returns-clause-own : goal.returns-clause-own
returns-clause-own g c =
    let P = g.C.State.has_literal c.args.c.now in
    let more = c.args.to - length c.args.a.now in
    subst (All P) (sym (bits g c)) (All-append P c.args.a.now (replicate more c.args.top) c.requires.own_a (All-replicate P more c.args.top c.requires.own_top))

pub returns-clause-bits : goal.returns-clause-bits
returns-clause-bits g c = bits g c

pub returns-clause-width : goal.returns-clause-width
returns-clause-width g c =
    let more = c.args.to - length c.args.a.now in
    omega (arith, ap length (bits g c), length-append c.args.a.now (replicate more c.args.top), length-replicate more c.args.top)

pub returns-clause-number : goal.returns-clause-number
returns-clause-number g c inputs admitted =
    ap (λ word. number (map (g.C.State.value c.args.c.now inputs) word)) (bits g c) ∙ number-extend (g.C.State.value c.args.c.now inputs) c.args.a.now c.args.to c.args.top c.requires.wider
