use Rattle.packed_log.proofs.Common.{◌≡◌, ◌+◌, ◌-◌, drop, length, length-drop, sym, ap, ◌∙◌, inl, inr, arith, cases_lt, drop_all, take_all}
use Rattle.packed_log.proofs.Numbers.{behind_number-leading}
use Rattle.packed_log.proofs.number.take_number.Goals as goal

pub returns-clause-behind : goal.returns-clause-behind
returns-clause-behind c =
    let bytes = c.args.rest.now.now in
    let count = c.leading-count.result in
    let cut = c.min.result in
    let same : drop cut bytes ≡ drop (count + 1) bytes =
    elim (cases_lt count (length bytes)) [
      | inl within ↦ let e : cut ≡ count + 1 = omega (arith, within, c.min.ensures) in ap (λ n. drop n bytes) e
      | inr all ↦ drop_all cut bytes (omega (arith, all, c.min.ensures)) ∙ sym (drop_all (count + 1) bytes (omega (arith, all)))
    ] in
    take_all (length bytes - cut) (drop cut bytes) (omega (arith, length-drop cut bytes))
    ∙ same ∙ sym (behind_number-leading bytes count c.leading-count.ensures.more c.leading-count.ensures.stops)
