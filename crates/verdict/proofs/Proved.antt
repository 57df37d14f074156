-- Where a log doesn't refute the clauses of a `Budget`.
use Rattle.verdict.proofs.Common.{◌≡◌, ◌↔◌, Bool, true, false, IsTrue, List, Result, Ok, Err, IfOk, subst, Cnf, Step, IsRefutation, Verdict, Admitted, Refuted, WitnessFails, Budget, IsUnrefutedBy, Keeps}

pub not_refuted : (found : Bool) (R : Type 0) → (IsTrue found ↔ R) → found ≡ false → R → ⊥
not_refuted found R h e r = let is : found ≡ true = h.1 r in absurd cc

unrefuted : (verdict : Verdict) (set : Cnf) (log : List Step) → ¬ (IsRefutation set log) → Keeps set verdict → IsUnrefutedBy log verdict
unrefuted Admitted set log deny k = tt
unrefuted (Refuted example) set log deny k = tt
unrefuted (WitnessFails example) set log deny k = tt
unrefuted (Budget tried) set log deny k = λ refuted. deny (subst (λ (kept : Cnf). IsRefutation kept log) k refuted)

pub keeps_unrefuted : {E : Type 0} (made : Result Verdict E) (set : Cnf) (log : List Step) → ¬ (IsRefutation set log) → IfOk made (Keeps set) → IfOk made (IsUnrefutedBy log)
keeps_unrefuted (Ok verdict) set log deny k = unrefuted verdict set log deny k
keeps_unrefuted (Err e) set log deny k = tt
