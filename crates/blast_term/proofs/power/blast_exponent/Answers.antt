use Rattle.blast_term.proofs.Common.{◌≡◌, length, ap, ◌∙◌, arith, bit, number_of, Adds-weaken}
use Rattle.blast_term.proofs.Functions.{places-told}
use Rattle.blast_term.proofs.power.blast_exponent.Goals as goal

pub place-requires-clause-enough : goal.place-requires-clause-enough
place-requires-clause-enough g c = rw c.as_slice.ensures (places-told (length c.args.word.now) c.min.result c.requires.most (omega arith))

pub place-requires-clause-own : goal.place-requires-clause-own
place-requires-clause-own g c = rw c.as_slice.ensures c.requires.own

pub extend-requires-clause-own_a : goal.extend-requires-clause-own_a
extend-requires-clause-own_a g c = c.in_ok-found.ensures.own_bits

pub extend-requires-clause-own_top : goal.extend-requires-clause-own_top
extend-requires-clause-own_top g c = c.zero-zero.ensures.own

pub returns-in_err-found-clause-adds : goal.returns-in_err-found-clause-adds
returns-in_err-found-clause-adds g c = Adds-weaken c.place.ensures.adds (omega (arith, ap length c.as_slice.ensures))

pub returns-in_err-bits-clause-adds : goal.returns-in_err-bits-clause-adds
returns-in_err-bits-clause-adds g c = rw c.extend.ensures.same (Adds-weaken c.place.ensures.adds (omega (arith, ap length c.as_slice.ensures)))

pub returns-clause-value : goal.returns-clause-value
returns-clause-value g c = λ inputs admitted.
    let m = g.C.State in
    let found = c.in_ok-found.found in
    let mid = m.value c.place.new.c inputs in
    let end = m.value c.extend.new.c inputs in
    let now = c.place.ensures.adds.keeps.admitted inputs admitted in
    let none : bit (mid c.zero-zero.result) ≡ 0 = ap bit (c.zero-zero.ensures.value inputs now) in
    let told = rw none at (c.in_ok-bits.ensures.number inputs now) in
    let number : number_of end c.in_ok-bits.bits ≡ number_of mid found.bits = omega (arith, told) in
    let exists : end found.exists ≡ mid found.exists = ap (λ d. m.value d inputs found.exists) c.extend.ensures.same in
    rw (exists, number) (rw c.as_slice.ensures at (c.in_ok-found.ensures.value inputs admitted))

pub returns-clause-width : goal.returns-clause-width
returns-clause-width g c = c.in_ok-bits.ensures.width ∙ c.len-width.ensures

pub returns-clause-own_exists : goal.returns-clause-own_exists
returns-clause-own_exists g c = rw c.extend.ensures.same c.in_ok-found.ensures.own_exists

pub returns-clause-own_bits : goal.returns-clause-own_bits
returns-clause-own_bits g c = c.in_ok-bits.ensures.own

pub returns-clause-adds : goal.returns-clause-adds
returns-clause-adds g c = rw c.extend.ensures.same (Adds-weaken c.place.ensures.adds (omega (arith, ap length c.as_slice.ensures)))
