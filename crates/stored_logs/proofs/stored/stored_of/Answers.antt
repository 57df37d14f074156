use Rattle.stored_logs.proofs.Common.{◌≡◌, List, [], ◌∷◌, ◌++◌, ap, sym, subst, ◌∙◌, append_assoc, arith, All, into_iter_items, append-nil, nil_from_length, All-nil, RuleProof, AreOfPairsOnce, IsLogStored}
use Rattle.stored_logs.proofs.Storing.{one_more_stored}
use Rattle.stored_logs.proofs.stored.stored_of.Goals as goal

pub loop-proof-init : goal.loop-proof-init
loop-proof-init c =
    let all : into_iter_items c.into_iter-proof-iterator.result ≡ c.args.proofs.items = c.into_iter-proof-iterator.ensures.into_iter_gives.0 in
    record { stored = All-nil (IsLogStored c.new-stored.result); left = all }

pub loop-proof-preserved : goal.loop-proof-preserved
loop-proof-preserved c =
    let rest = into_iter_items c.next.new.self in
    let front = c.loop-proof.yielded in
    let proof = c.in-Some.proof in
    let left : front ++ proof ∷ rest ≡ c.args.proofs.items = rw (← c.in-Some.ensures.steps.0) c.loop-proof.invariant.left in
    let once : AreOfPairsOnce (front ++ proof ∷ rest) = subst AreOfPairsOnce (sym left) c.requires in
    record {
      stored = one_more_stored front proof rest c.loop-proof.stored c.insert.new.self once c.loop-proof.invariant.stored c.in_ok-insert.ensures.stored c.in_ok-insert.ensures.others;
      left = append_assoc front (proof ∷ []) rest ∙ left;
    }

pub returns : goal.returns
returns c =
    let none : into_iter_items c.loop-proof.proof-iterator ≡ [] = nil_from_length _ (omega (arith, c.in-None.ensures.steps.0, c.loop-proof.proof-iterator.rest.ok.0)) in
    let proofs : c.loop-proof.yielded ≡ c.args.proofs.items =
    sym (ap (λ (l : List RuleProof). c.loop-proof.yielded ++ l) none ∙ append-nil c.loop-proof.yielded) ∙ c.loop-proof.invariant.left
    in
    subst (All (IsLogStored c.loop-proof.stored)) proofs c.loop-proof.invariant.stored
