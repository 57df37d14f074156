use Rattle.proof_reader.proofs.Common.{ℕ, List, take, subst, Rule, Proof, LogFaultKind, LogFault, TextsHaveOneReading, IsGood, AreGood, IsBad, unknown, badly_typed, repeated, IsAtProof, IsTextOfGood, IsFault, of_text, of_proof}
use Rattle.proof_reader.proofs.laws.texts_have_proofs_or_a_fault.Goals as goal

-- no proof is both good and bad
torn : (rules : List Rule) (earlier : List Proof) (proof : Proof) (kind : LogFaultKind) → IsGood rules earlier proof → IsBad rules earlier proof kind → ⊥
torn rules earlier proof kind good (unknown none) = none (good.is.0.0, (good.rule, good.is.0.1, good.is.1))
torn rules earlier proof kind good (badly_typed named none) = none good.rule good.is good.typing
torn rules earlier proof kind good (repeated rule is typing among) = good.new among

good_or_bad : (rules : List Rule) (proofs : List Proof) (fault : LogFault) → AreGood rules proofs → IsAtProof rules proofs fault → ⊥
good_or_bad rules proofs fault good at = torn rules (take at.place proofs) at.proof fault.kind (good at.place at.proof at.is) at.bad

not_both : TextsHaveOneReading → (rules : List Rule) (text : List ℕ) (proofs : List Proof) (fault : LogFault) → IsTextOfGood rules text proofs → IsFault rules text fault → ⊥
not_both law rules text proofs fault good (of_text bad) = law.apart text proofs fault good.0 bad
not_both law rules text proofs fault good (of_proof others is at) =
    good_or_bad rules proofs fault good.1 (subst (λ (ps : List Proof). IsAtProof rules ps fault) (law.proofs text others proofs is good.0) at)

pub returns : goal.returns
returns c = record {
  one = λ rules text proofs other a b. c.texts_have_one_reading.ensures.proofs text proofs other a.0 b.0;
  not_both = not_both c.texts_have_one_reading.ensures;
}
