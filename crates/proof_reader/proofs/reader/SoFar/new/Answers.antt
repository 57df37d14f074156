use Rattle.proof_reader.proofs.Common.{[], refl, sym, subst, AllZip, IsProofOf, AreKeysOf}
use Rattle.proof_reader.proofs.Growing.{none_good}
use Rattle.proof_reader.proofs.reader.SoFar.new.Goals as goal

pub returns : goal.returns
returns c = λ rules. record {
  good = none_good rules;
  each = subst (AllZip (IsProofOf rules) []) (sym c.new-2.ensures) tt;
  keys_are = subst (AreKeysOf rules []) (sym c.new.ensures.empty) tt;
  line_is = refl;
}
