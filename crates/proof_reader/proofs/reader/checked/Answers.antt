use Rattle.proof_reader.proofs.Common.{◌≡◌, ℕ, List, [], ◌∷◌, ◌++◌, map, sym, subst, ap, refl, Result, Ok, Err, IfOk, OnOk, IfErr-weaker, err_from_is_err_and, AreDistinct, IsTyping, Rule, Repeated, Proof, LogFault, RuleProof, HasNameAt, IsBad, repeated, Key, IsProofOf, IsTypedAt, AreKeysOf, AddsKey, HasKey, TakesProof, RefusesProof}
use Rattle.proof_reader.proofs.Keys.{found, lost, keys_more}
use Rattle.proof_reader.proofs.Refusing.{IfRefused-weaker}
use Rattle.proof_reader.proofs.reader.checked.Goals as goal

-- from what holds of a value, and what holds wherever there is one
both : {T E : Type 0} (r : Result T E) (P : T → Type 0) (Q : Type 0) (R : T → Type 0) → ((x : T) → P x → Q → R x) → IfOk r P → OnOk r Q → IfOk r R
both (Ok x) P Q R so p q = so x p q
both (Err e) P Q R so p q = tt

module _ (rules : List Rule) (proof : Proof) (place : ℕ) (typing : List ℕ) (at : IsTypedAt rules proof place typing) where
  -- the rule of the key has the proof's name
  named : (k : ℕ) → k ≡ place → HasNameAt rules k proof.name
  named k is = subst (λ (n : ℕ). HasNameAt rules n proof.name) (sym is) (at.rule, at.is, at.named)

  is_typing : IsTyping at.rule proof.widths
  is_typing = subst (λ (ws : List ℕ). IsTyping at.rule ws) at.widths at.typed

  takes : (earlier : List Proof) (old new : List Key) (read : RuleProof) → AreDistinct (map (λ (r : Rule). r.name) rules) → read ≡ record { rule = place; typing = typing; log = proof.log }
      → AddsKey old place proof.widths new → AreKeysOf rules earlier old → TakesProof rules earlier proof read new
  takes earlier old new read distinct is adds keys =
      let name = named adds.key.0 adds.rule_is in
      record {
        good = record {
          rule = at.rule;
          is = ((place, at.is), at.named);
          typing = is_typing;
          new = lost rules proof adds.key name adds.widths_are distinct earlier old keys adds.lacked;
        };
        is = subst (IsProofOf rules proof) (sym is) (record { rule = at.rule; is = at.is; named = at.named; typing = at.widths; typed = at.typed; log = refl });
        keys_are = subst (AreKeysOf rules (earlier ++ proof ∷ [])) (sym adds.added) (keys_more rules earlier old proof adds.key keys name adds.widths_are);
      }

  refuses : (earlier : List Proof) (old : List Key) (line : ℕ) (fault : LogFault) → fault ≡ record { line = line; kind = Repeated } → HasKey old place proof.widths
      → AreKeysOf rules earlier old → RefusesProof rules earlier proof line fault
  refuses earlier old line fault is has keys =
      let among = found rules proof has.key (named has.key.0 has.rule_is) has.widths_are earlier old keys has.had in
      record {
        bad = subst (IsBad rules earlier proof) (sym (ap (λ (f : LogFault). f.kind) is)) (repeated at.rule ((place, at.is), at.named) is_typing among);
        line_is = ap (λ (f : LogFault). f.line) is;
      }

pub returns-in_err-rule-clause-refused : goal.returns-in_err-rule-clause-refused
returns-in_err-rule-clause-refused c =
    let p = err_from_is_err_and c.from_residual.result c.from_residual.ensures.1 in
    rw (p.1, p.2) (IfRefused-weaker c.in_err-rule.field-0.0 _ _ (λ fault bad earlier keys. bad earlier) c.in_err-rule.ensures.refused)

pub returns-clause-ok : goal.returns-clause-ok
returns-clause-ok c =
    let at = c.in_ok-rule.ensures.ok in
    both c.unless_repeated.result _ _ _ (λ read is adds earlier keys.
    takes c.args.rules.now c.args.proof c.in_ok-rule.rule c.in_ok-rule.typing at earlier c.args.seen.now.keys _ read c.requires.names is adds keys)
    c.unless_repeated.ensures.read c.unless_repeated.ensures.added

pub returns-clause-refused : goal.returns-clause-refused
returns-clause-refused c =
    let at = c.in_ok-rule.ensures.ok in
    IfErr-weaker c.unless_repeated.result _ _ (λ e. IfRefused-weaker e _ _ (λ fault has earlier keys.
    refuses c.args.rules.now c.args.proof c.in_ok-rule.rule c.in_ok-rule.typing at earlier c.args.seen.now.keys c.args.line fault has.0 has.1 keys)) c.unless_repeated.ensures.refused
