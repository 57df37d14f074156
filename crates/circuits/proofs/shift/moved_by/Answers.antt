use Rattle.circuits.proofs.Common.{arith, ◌≡◌, ◌-◌, ◌++◌, [], length, take, replicate, ap, ◌∙◌, take_all}
use Rattle.circuits.proofs.Shifts.{moved_up}
use Rattle.circuits.proofs.shift.moved_by.Goals as goal

pub returns-in_ok-extend_from_slice-in-Up-clause-bits : goal.returns-in_ok-extend_from_slice-in-Up-clause-bits
returns-in_ok-extend_from_slice-in-Up-clause-bits g c =
    let word = c.args.word.now in
    let distance = c.args.distance in
    let whole : distance - 0 ≡ distance = omega arith in
    let filled : c.resize.new.self.items ≡ replicate distance c.args.fill =
    c.in_ok-resize-in-Up.ensures.items
    ∙ ap (λ n. take distance c.new-bits.result.items ++ replicate (distance - n) c.args.fill) c.new-bits.ensures.len
    ∙ ap (λ w. take distance w ++ replicate (distance - 0) c.args.fill) c.new-bits.ensures.items
    ∙ ap (λ w. w ++ replicate (distance - 0) c.args.fill) (take_all distance [] (omega arith))
    ∙ ap (λ n. replicate n c.args.fill) whole in
    let made : c.from_vec.result ≡ replicate distance c.args.fill ++ take (length word - distance) word =
    c.from_vec.ensures ∙ c.in_ok-extend_from_slice-in-Up.ensures.items ∙ ap (λ w. w ++ take (length word - distance) word) filled in
    rw c.in-Up.is (made ∙ moved_up word distance c.args.fill c.requires)
