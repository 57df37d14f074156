use Rattle.proof_reader.proofs.Common.{[], ◌+◌, refl, subst, sym, take, bytes_eq, lookup}
use Rattle.proof_reader.proofs.RuleNames.{Known, known_none, known_more, read_at}
use Rattle.proof_reader.proofs.names.places_of.Goals as goal

pub loop-place-init : goal.loop-place-init
loop-place-init c = λ key. subst (λ es. Known [] key.now (lookup (λ y. bytes_eq key.now y.now) es)) (sym c.new-places.ensures.empty) (known_none key.now)

pub loop-place-preserved : goal.loop-place-preserved
loop-place-preserved c =
    let rules = c.args.rules.now in
    let i = c.loop-place.place in
    let rule = c.index-rules-place.result in
    let at = read_at rules i rule c.loop-place-test.true c.index-rules-place.is in
    λ q. subst (λ o. Known (take (i + 1) rules) q.now o) (sym (c.in_ok-insert.ensures.updates.0 q))
    (known_more rules i rule c.as_slice.result.now q.now _ at c.as_slice.ensures (c.loop-place.invariant q) _ refl)
