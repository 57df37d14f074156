use Rattle.stored_logs.proofs.Common.{◌≡◌, List, [], ◌∷◌, ◌++◌, ap, sym, refl, subst, ◌∙◌, append_assoc, arith, rules, into_iter_items, append-nil, nil_from_length, All-weaker, IsClassified, IsReadRule, RuleProof, IsReadOf}
use Rattle.stored_logs.proofs.Rechecking.{none_yet, one_more, next_typed, all_rechecked}
use Rattle.stored_logs.proofs.rechecked.recheck.Goals as goal

pub read_logs-requires-clause-classes : goal.read_logs-requires-clause-classes
read_logs-requires-clause-classes c = All-weaker IsReadRule IsClassified (λ rule h. h.classes) c.args.rules.now c.requires.rules

pub loop-proof-init : goal.loop-proof-init
loop-proof-init c =
    let all : into_iter_items c.into_iter-proof-iterator.result ≡ c.in_ok-proofs.proofs.items = c.into_iter-proof-iterator.ensures.into_iter_gives.0 in
    record {
      rows = none_yet c.args.rules.now c.args.conflicts _ (search rules) (search rules) refl;
      left = subst (IsReadOf c.args.rules.now c.args.bytes.now) (sym all) c.in_ok-proofs.ensures.ok;
    }

pub push_verdict_on-requires-clause-proof : goal.push_verdict_on-requires-clause-proof
push_verdict_on-requires-clause-proof c =
    let rest = into_iter_items c.next.new.self in
    let read : IsReadOf c.args.rules.now c.args.bytes.now (c.loop-proof.yielded ++ c.in-Some.proof ∷ rest) = rw (← c.in-Some.ensures.steps.0) c.loop-proof.invariant.left in
    next_typed c.args.rules.now c.args.bytes.now c.loop-proof.yielded c.in-Some.proof rest read

pub loop-proof-preserved : goal.loop-proof-preserved
loop-proof-preserved c =
    let rest = into_iter_items c.next.new.self in
    let read : IsReadOf c.args.rules.now c.args.bytes.now (c.loop-proof.yielded ++ c.in-Some.proof ∷ rest) = rw (← c.in-Some.ensures.steps.0) c.loop-proof.invariant.left in
    record {
      rows = one_more c.args.rules.now c.args.conflicts c.loop-proof.yielded c.in-Some.proof c.loop-proof.rechecked c.push_verdict_on.new.rechecked c.loop-proof.invariant.rows c.in_ok-push_verdict_on.ensures;
      left = subst (IsReadOf c.args.rules.now c.args.bytes.now) (sym (append_assoc c.loop-proof.yielded (c.in-Some.proof ∷ []) rest)) read;
    }

pub returns-clause-ok : goal.returns-clause-ok
returns-clause-ok c =
    let none : into_iter_items c.loop-proof.proof-iterator ≡ [] = nil_from_length _ (omega (arith, c.in-None.ensures.steps.0, c.loop-proof.proof-iterator.rest.ok.0)) in
    let all : c.loop-proof.yielded ++ into_iter_items c.loop-proof.proof-iterator ≡ c.loop-proof.yielded = ap (λ (l : List RuleProof). c.loop-proof.yielded ++ l) none ∙ append-nil c.loop-proof.yielded in
    all_rechecked c.args.rules.now c.args.bytes.now c.args.conflicts c.loop-proof.yielded c.loop-proof.rechecked (subst (IsReadOf c.args.rules.now c.args.bytes.now) all c.loop-proof.invariant.left) c.loop-proof.invariant.rows
