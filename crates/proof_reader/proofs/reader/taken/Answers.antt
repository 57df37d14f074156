use Rattle.proof_reader.proofs.Common.{◌≡◌, ◌+◌, List, [], ◌∷◌, ◌++◌, sym, ap, subst, ◌∙◌, arith, AllZip, into_iter_items, append-nil, nil_from_length, err_from_is_err_and, Proof, LogFault, IsTextOf, text_of, AreGood, IsAtProof, IsProofOf, AreKeysOf, RefusesProof}
use Rattle.std.proofs.Common.{append_assoc}
use Rattle.proof_reader.proofs.Growing.{bad_next, few_lines, well_formed_at}
use Rattle.proof_reader.proofs.Refusing.{IfRefused-weaker}
use Rattle.proof_reader.proofs.reader.taken.Goals as goal

pub loop-proof-init : goal.loop-proof-init
loop-proof-init c = record { taken = c.new-so_far.ensures c.args.rules.now; left = c.into_iter-proof-iterator.ensures.into_iter_gives.0 }

pub take-requires-clause-proof : goal.take-requires-clause-proof
take-requires-clause-proof c =
    let earlier = c.loop-proof.yielded in
    let rest = into_iter_items c.next.new.self in
    let all : earlier ++ c.in-Some.proof ∷ rest ≡ c.args.proofs.items = rw (← c.in-Some.ensures.steps.0) c.loop-proof.invariant.left in
    let text : IsTextOf (text_of (earlier ++ c.in-Some.proof ∷ rest)) (earlier ++ c.in-Some.proof ∷ rest) = rw all c.requires.text in
    well_formed_at earlier rest c.in-Some.proof text.1

pub take-requires-clause-fits : goal.take-requires-clause-fits
take-requires-clause-fits c =
    let earlier = c.loop-proof.yielded in
    let rest = into_iter_items c.next.new.self in
    let all : earlier ++ c.in-Some.proof ∷ rest ≡ c.args.proofs.items = rw (← c.in-Some.ensures.steps.0) c.loop-proof.invariant.left in
    let text : IsTextOf (text_of (earlier ++ c.in-Some.proof ∷ rest)) (earlier ++ c.in-Some.proof ∷ rest) = rw all c.requires.text in
    let few = few_lines (text_of (earlier ++ c.in-Some.proof ∷ rest)) earlier rest c.in-Some.proof c.loop-proof.so_far.line text c.loop-proof.invariant.taken.line_is in
    omega arith

pub returns-in_err-take-clause-refused : goal.returns-in_err-take-clause-refused
returns-in_err-take-clause-refused c =
    let rules = c.args.rules.now in
    let earlier = c.loop-proof.yielded in
    let proof = c.in-Some.proof in
    let rest = into_iter_items c.next.new.self in
    let line = c.loop-proof.so_far.line in
    let taken = c.loop-proof.invariant.taken in
    let all : earlier ++ proof ∷ rest ≡ c.args.proofs.items = rw (← c.in-Some.ensures.steps.0) c.loop-proof.invariant.left in
    let so = λ (fault : LogFault) (bad : (before : List Proof) → AreKeysOf rules before c.loop-proof.so_far.seen.keys → RefusesProof rules before proof line fault).
    subst (λ (ps : List Proof). IsAtProof rules ps fault) all (bad_next rules earlier rest proof line fault taken.good taken.line_is (bad earlier taken.keys_are)) in
    let p = err_from_is_err_and c.from_residual.result c.from_residual.ensures.1 in
    rw (p.1, p.2) (IfRefused-weaker c.in_err-take.field-0.0 _ (IsAtProof rules c.args.proofs.items) so c.in_err-take.ensures.refused)

pub loop-proof-preserved : goal.loop-proof-preserved
loop-proof-preserved c =
    let earlier = c.loop-proof.yielded in
    let proof = c.in-Some.proof in
    let rest = into_iter_items c.next.new.self in
    let all : earlier ++ proof ∷ rest ≡ c.args.proofs.items = rw (← c.in-Some.ensures.steps.0) c.loop-proof.invariant.left in
    record {
      taken = c.in_ok-take.ensures.ok earlier c.loop-proof.invariant.taken;
      left = append_assoc earlier (proof ∷ []) rest ∙ all;
    }

pub returns-clause-ok : goal.returns-clause-ok
returns-clause-ok c =
    let rules = c.args.rules.now in
    let taken = c.loop-proof.invariant.taken in
    let none : into_iter_items c.loop-proof.proof-iterator ≡ [] = nil_from_length _ (omega (arith, c.in-None.ensures.steps.0, c.loop-proof.proof-iterator.rest.ok.0)) in
    let all : c.loop-proof.yielded ≡ c.args.proofs.items =
    sym (ap (λ (l : List Proof). c.loop-proof.yielded ++ l) none ∙ append-nil c.loop-proof.yielded) ∙ c.loop-proof.invariant.left in
    (subst (AreGood rules) all taken.good, rw c.into_read.ensures (subst (λ (ps : List Proof). AllZip (IsProofOf rules) ps c.loop-proof.so_far.read) all taken.each))
