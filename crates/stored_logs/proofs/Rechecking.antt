-- The verdicts on the proofs so far, with one more.
use Rattle.stored_logs.proofs.Common.{◌≡◌, ◌↔◌, ℕ, Bool, true, false, IsTrue, ◌&&◌, List, [], ◌∷◌, ◌++◌, All, Option, Some, get_or, refl, sym, ap, subst, ◌∙◌, slice_get, AllZip, option_map_or, append-nil, All-nil, All-head, All-append, flat_map-append, same_Some, slice_get_within, slice_get-get_or, all_zipped_more, Rule, Step, Proof, RuleProof, IsProofOf, IsReadOf, IsTypedIn, Row, Verdict, Admitted, IsHonest, IsUnrefutedBy, IsHonestRow, IsHonestTable, row_text, table_text, verdict_text, Rechecked, AddsVerdict, IsVerdictOn, IsRechecked}
use Rattle.stored_logs.proofs.Pairs.{parts, one, pairs_through, pairs_at}

-- what is read of a proof is of one of the rules, at one of its typings
typed : (rules : List Rule) (proof : Proof) (read : RuleProof) → IsProofOf rules proof read → IsTypedIn rules read
typed rules proof read is = (is.rule, is.is, is.typed)

pub next_typed : (rules : List Rule) (text : List ℕ) (front : List RuleProof) (read : RuleProof) (rest : List RuleProof)
    → IsReadOf rules text (front ++ read ∷ rest) → IsTypedIn rules read
next_typed rules text front read rest is =
    let at : (proof : Proof) × IsProofOf rules proof read = pairs_at (IsProofOf rules) is.proofs front read rest is.each in
    typed rules at.0 read at.1

-- the rule that is read at its place is that rule
pub read_at : (rules : List Rule) (place : ℕ) (rule read : Rule) → slice_get rules place ≡ Some rule
    → read ≡ get_or rules place read → (rule ≡ read) × (slice_get rules place ≡ Some read)
read_at rules place rule read at is =
    let here : slice_get rules place ≡ Some read = slice_get-get_or rules place read (slice_get_within rules place rule at) ∙ ap (λ (r : Rule). Some r) (sym is) in
    (same_Some rule read (sym at ∙ here), here)

both : (a b : Bool) → IsTrue (a && b) ↔ (IsTrue a × IsTrue b)
both true b = (λ h. (refl, h), λ h. h.1)
both false b = (λ h. cc, λ h. cc)

-- the verdict on the pair of a proof is appended
pub one_verdict : (rules : List Rule) (conflicts : ℕ) (proof : RuleProof) (rule : Rule) (verdict : Verdict) (admitted : Bool) (old new : Rechecked)
    → slice_get rules proof.rule ≡ Some rule → IsHonest rule proof.typing conflicts verdict
    → IsUnrefutedBy proof.log verdict
    → IsTrue admitted ↔ (verdict ≡ Admitted) → new.table ≡ old.table ++ (record { rule = proof.rule; typing = proof.typing; verdict = verdict }) ∷ [] → new.text.items ≡ old.text.items ++ verdict_text rule proof.typing verdict
    → new.all_admitted ≡ (old.all_admitted && admitted) → AddsVerdict rules conflicts proof old new
one_verdict rules conflicts proof rule verdict admitted old new is honest unrefuted is_admitted table text all =
    let halves = both old.all_admitted admitted in
    record {
      rule = rule;
      is = is;
      row = record { rule = proof.rule; typing = proof.typing; verdict = verdict };
      of_rule = refl;
      typing = refl;
      honest = honest;
      unrefuted = unrefuted;
      table = table;
      text = text;
      all_admitted = (
        λ h. let b = halves.0 (subst IsTrue all h) in (b.0, is_admitted.0 b.1),
        λ h. subst IsTrue (sym all) (halves.1 (h.0, is_admitted.1 h.1)),
      );
    }

-- the row has the verdict on the pair of the proof
pub record IsRowFor (rules : List Rule) (conflicts : ℕ) (proof : RuleProof) (row : Row) : Type 0 where
  pub rule : Rule
  pub is : slice_get rules proof.rule ≡ Some rule
  pub of_rule : row.rule ≡ proof.rule
  pub typing : row.typing ≡ proof.typing
  pub honest : IsHonest rule row.typing conflicts row.verdict
  pub unrefuted : IsUnrefutedBy proof.log row.verdict

-- a row for each of these proofs, in order
pub record AreRows (rules : List Rule) (conflicts : ℕ) (proofs : List RuleProof) (rechecked : Rechecked) : Type 0 where
  pub rows : AllZip (IsRowFor rules conflicts) proofs rechecked.table
  pub honest : IsHonestTable rules conflicts rechecked.table
  pub text : rechecked.text.items ≡ table_text rules rechecked.table
  pub all_admitted : IsTrue rechecked.all_admitted ↔ All (λ row. row.verdict ≡ Admitted) rechecked.table

pub none_yet : (rules : List Rule) (conflicts : ℕ) (rechecked : Rechecked) → rechecked.table ≡ []
    → rechecked.text.items ≡ [] → rechecked.all_admitted ≡ true → AreRows rules conflicts [] rechecked
none_yet rules conflicts rechecked table text all =
    record {
      rows = rw table tt;
      honest = subst (λ (rows : List Row). IsHonestTable rules conflicts rows) (sym table) (All-nil _);
      text = rw table text;
      all_admitted = (λ h. subst (λ (rows : List Row). All (λ (row : Row). row.verdict ≡ Admitted) rows) (sym table) (All-nil _), λ h. subst IsTrue (sym all) refl);
    }

pub one_more : (rules : List Rule) (conflicts : ℕ) (proofs : List RuleProof) (proof : RuleProof) (old new : Rechecked)
    → AreRows rules conflicts proofs old → AddsVerdict rules conflicts proof old new
    → AreRows rules conflicts (proofs ++ proof ∷ []) new
one_more rules conflicts proofs proof old new so_far more =
    let P : Row → Type 0 = λ r. r.verdict ≡ Admitted in
    let text : Row → List ℕ = λ row. option_map_or (λ (rule : Rule). row_text rule row) (slice_get rules row.rule) [] in
    let at : slice_get rules more.row.rule ≡ Some more.rule = subst (λ (k : ℕ). slice_get rules k ≡ Some more.rule) (sym more.of_rule) more.is in
    let last : text more.row ≡ row_text more.rule more.row = ap (λ (found : Option Rule). option_map_or (λ (rule : Rule). row_text rule more.row) found []) at in
    let texts : table_text rules (old.table ++ more.row ∷ []) ≡ table_text rules old.table ++ row_text more.rule more.row =
    flat_map-append text old.table (more.row ∷ []) ∙ ap (λ (l : List ℕ). table_text rules old.table ++ l) (append-nil (text more.row) ∙ last) in
    let row : IsRowFor rules conflicts proof more.row = record { rule = more.rule; is = more.is; of_rule = more.of_rule; typing = more.typing; honest = more.honest; unrefuted = more.unrefuted } in
    record {
      rows = rw more.table (all_zipped_more (IsRowFor rules conflicts) proofs old.table proof more.row so_far.rows row);
      honest = subst (λ (rows : List Row). IsHonestTable rules conflicts rows) (sym more.table)
          (All-append (IsHonestRow rules conflicts) old.table (more.row ∷ []) so_far.honest (one (IsHonestRow rules conflicts) more.row (record { rule = more.rule; is = at; honest = more.honest })));
      text = more.text ∙ (ap (λ (l : List ℕ). l ++ row_text more.rule more.row) so_far.text ∙ (sym texts ∙ ap (table_text rules) (sym more.table)));
      all_admitted = (
        λ h. let b = more.all_admitted.0 h in subst (λ (rows : List Row). All P rows) (sym more.table) (All-append P old.table (more.row ∷ []) (so_far.all_admitted.0 b.0) (one P more.row b.1)),
        λ h. let p = parts P old.table (more.row ∷ []) (subst (λ (rows : List Row). All P rows) more.table h) in more.all_admitted.1 (so_far.all_admitted.1 p.0, All-head P more.row [] p.1),
      );
    }

-- a verdict for what was read of a proof is one for the proof
on_proof : (rules : List Rule) (conflicts : ℕ) (proof : Proof) (read : RuleProof) (row : Row)
    → IsProofOf rules proof read → IsRowFor rules conflicts read row → IsVerdictOn rules conflicts proof row
on_proof rules conflicts proof read row is row_is =
    let same : is.rule ≡ row_is.rule = same_Some is.rule row_is.rule (sym is.is ∙ row_is.is) in
    record {
      rule = row_is.rule;
      is = subst (λ (k : ℕ). slice_get rules k ≡ Some row_is.rule) (sym row_is.of_rule) row_is.is;
      named = ap (λ (r : Rule). r.name) (sym same) ∙ is.named;
      typing = row_is.typing ∙ is.typing;
      honest = row_is.honest;
      unrefuted = subst (λ (log : List Step). IsUnrefutedBy log row.verdict) is.log row_is.unrefuted;
    }

pub all_rechecked : (rules : List Rule) (text : List ℕ) (conflicts : ℕ) (read : List RuleProof) (rechecked : Rechecked)
    → IsReadOf rules text read → AreRows rules conflicts read rechecked → IsRechecked rules text conflicts rechecked
all_rechecked rules text conflicts read rechecked is rows =
    record {
      proofs = is.proofs;
      read = is.text_is;
      rows = pairs_through (IsProofOf rules) (IsRowFor rules conflicts) (IsVerdictOn rules conflicts) (on_proof rules conflicts) is.proofs read rechecked.table is.each rows.rows;
      honest = rows.honest;
      text_is = rows.text;
      all_admitted = rows.all_admitted;
    }
