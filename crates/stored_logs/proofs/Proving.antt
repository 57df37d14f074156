-- What is proved, with one more row or with one more rule.
use Rattle.stored_logs.proofs.Common.{◌≡◌, ◌≢◌, ℕ, zero, suc, ◌+◌, ◌<◌, false, IsTrue, List, [], ◌∷◌, ◌++◌, length, take, get_or, flat_map, All, Contains, Option, Some, refl, sym, ap, ap₂, subst, ◌∙◌, append_assoc, add-zero, arith, slice_get, AllZip, enumerate_from, zip, option_map_or, append-nil, map-append, take_more, length-take-le, All-nil, All-head, All-append, All-weaker, All-filter, All-contains_itself, filter-append, flat_map-append, slice_get_within, all_zipped_more, IsRefutation, Cnf, Step, Rule, IsTyping, IsAnswer, proof_text, Row, Verdict, Admitted, Refuted, WitnessFails, Budget, Finding, Decided, TooMany, IsFinding, IsRowOf, rows_of, IsAdmitted, IsHonest, most_typings, IsLogOf, IsHonestRow, IsHonestTable, Proved, Refutation, AddsProof, AddsProved, AddsProvedRule, IsProved, Refutes, IsRefutationOf, AreRefutationsOf, proof_of, row_proof_text, proofs_text, is_admitted, admitted_in}
use Rattle.rule_typing.specs.declared.answer.Typings.TheVariants as answers
use Rattle.stored_logs.proofs.Pairs.{parts, one, pairs_weaker, pairs_append, zip_append, pairs_and, same_texts}

abbrev pub row_at : ℕ → List ℕ → Verdict → Row
row_at place typing verdict = record { rule = place; typing = typing; verdict = verdict }

abbrev texts : Rule → List Row → List Refutation → List ℕ
texts rule rows refutations = flat_map (λ (pair : Row × Refutation). proof_text (proof_of rule pair.0.typing pair.1)) (zip rows refutations)

abbrev AreRight : Rule → List Row → List Refutation → Type 0
AreRight rule rows refutations = AllZip (λ (row : Row) (refutation : Refutation). Refutes rule row.typing refutation) rows refutations

kept : (place : ℕ) (typing : List ℕ) (verdict : Verdict) → verdict ≡ Admitted
    → admitted_in (row_at place typing verdict ∷ []) ≡ row_at place typing verdict ∷ []
kept place typing Admitted is = refl
kept place typing (Refuted example) is = absurd cc
kept place typing (WitnessFails example) is = absurd cc
kept place typing (Budget tried) is = absurd cc

left_out : (place : ℕ) (typing : List ℕ) (verdict : Verdict) → verdict ≢ Admitted
    → admitted_in (row_at place typing verdict ∷ []) ≡ []
left_out place typing Admitted is_not = absurd (is_not refl)
left_out place typing (Refuted example) is_not = refl
left_out place typing (WitnessFails example) is_not = refl
left_out place typing (Budget tried) is_not = refl

-- where the verdict is `Admitted`, the log of `prove` refutes the clauses
pub refutation_of : (verdict : Verdict) (set : Cnf) (log : List Step) → verdict ≡ Admitted → IsLogOf verdict set log
    → IsRefutation set log
refutation_of verdict set log is log_is = subst (λ (v : Verdict). IsLogOf v set log) is log_is

-- no row yet
pub no_rows : (conflicts place : ℕ) (rule : Rule) (proved : Proved) → AddsProved conflicts place rule [] proved proved
no_rows conflicts place rule proved =
    record {
      rows = [];
      typings_of = refl;
      right = All-nil _;
      added = record {
        more = [];
        right = tt;
        refutations = sym (append-nil _);
        text = sym (append-nil _);
        table = sym (append-nil _);
        all_admitted = (λ h. (h, All-nil _), λ h. h.0);
      };
    }

-- a row that is admitted is appended, behind its proof
pub admitted_row : (conflicts place : ℕ) (rule : Rule) (typing : List ℕ) (verdict : Verdict) (old mid new : Proved)
    → verdict ≡ Admitted → IsHonest rule typing conflicts verdict → AddsProof rule typing old mid
    → new.table ≡ mid.table ++ row_at place typing verdict ∷ [] → new.refutations ≡ mid.refutations
    → new.text.items ≡ mid.text.items → new.all_admitted ≡ mid.all_admitted
    → AddsProved conflicts place rule (typing ∷ []) old new
admitted_row conflicts place rule typing verdict old mid new admitted honest proof table refutations text all =
    let row = row_at place typing verdict in
    let only : admitted_in (row ∷ []) ≡ row ∷ [] = kept place typing verdict admitted in
    let P : Row → Type 0 = λ r. r.verdict ≡ Admitted in
    let line = proof_text (proof_of rule typing proof.refutation) in
    record {
      rows = row ∷ [];
      typings_of = refl;
      right = one (IsRowOf conflicts place rule) row (record { of_rule = refl; honest = honest });
      added = record {
        more = proof.refutation ∷ [];
        right = subst (λ (rows : List Row). AreRight rule rows (proof.refutation ∷ [])) (sym only) (proof.right, tt);
        refutations = refutations ∙ proof.refutations;
        text = text ∙ (proof.text ∙ ap (λ (l : List ℕ). old.text.items ++ l)
            (sym (append-nil line) ∙ ap (λ (rows : List Row). texts rule rows (proof.refutation ∷ [])) (sym only)));
        table = table ∙ ap (λ (rows : List Row). rows ++ row ∷ []) proof.table;
        all_admitted = (
          λ h. (subst IsTrue (all ∙ proof.all_admitted) h, one P row admitted),
          λ h. subst IsTrue (sym (all ∙ proof.all_admitted)) h.0,
        );
      };
    }

-- a row that is not admitted is appended
pub other_row : (conflicts place : ℕ) (rule : Rule) (typing : List ℕ) (verdict : Verdict) (old new : Proved)
    → verdict ≢ Admitted → IsHonest rule typing conflicts verdict
    → new.table ≡ old.table ++ row_at place typing verdict ∷ [] → new.refutations ≡ old.refutations
    → new.text.items ≡ old.text.items → new.all_admitted ≡ false → AddsProved conflicts place rule (typing ∷ []) old new
other_row conflicts place rule typing verdict old new other honest table refutations text all =
    let row = row_at place typing verdict in
    let none : admitted_in (row ∷ []) ≡ [] = left_out place typing verdict other in
    let P : Row → Type 0 = λ r. r.verdict ≡ Admitted in
    record {
      rows = row ∷ [];
      typings_of = refl;
      right = one (IsRowOf conflicts place rule) row (record { of_rule = refl; honest = honest });
      added = record {
        more = [];
        right = subst (λ (rows : List Row). AreRight rule rows []) (sym none) tt;
        refutations = refutations ∙ sym (append-nil old.refutations);
        text = text ∙ (sym (append-nil old.text.items) ∙ ap (λ (rows : List Row). old.text.items ++ texts rule rows []) (sym none));
        table = table;
        all_admitted = (λ h. absurd (let no = subst IsTrue all h in cc), λ h. absurd (other (All-head P row [] h.1)));
      };
    }

-- rows are appended behind rows
pub more_rows : (conflicts place : ℕ) (rule : Rule) (ts us : List (List ℕ)) (old mid new : Proved)
    → AddsProved conflicts place rule ts old mid → AddsProved conflicts place rule us mid new
    → AddsProved conflicts place rule (ts ++ us) old new
more_rows conflicts place rule ts us old mid new a b =
    let P : Row → Type 0 = λ r. r.verdict ≡ Admitted in
    let R : Row → Refutation → Type 0 = λ (row : Row) (refutation : Refutation). Refutes rule row.typing refutation in
    let one_of : Row × Refutation → List ℕ = λ pair. proof_text (proof_of rule pair.0.typing pair.1) in
    let as_ = admitted_in a.rows in
    let bs = admitted_in b.rows in
    let rows : admitted_in (a.rows ++ b.rows) ≡ as_ ++ bs = filter-append (λ (row : Row). is_admitted row.verdict) a.rows b.rows in
    let pairs : zip (as_ ++ bs) (a.added.more ++ b.added.more) ≡ zip as_ a.added.more ++ zip bs b.added.more = zip_append R as_ a.added.more bs b.added.more a.added.right in
    let text : texts rule (admitted_in (a.rows ++ b.rows)) (a.added.more ++ b.added.more) ≡ texts rule as_ a.added.more ++ texts rule bs b.added.more =
    ap (λ (l : List Row). texts rule l (a.added.more ++ b.added.more)) rows ∙ (ap (flat_map one_of) pairs ∙ flat_map-append one_of (zip as_ a.added.more) (zip bs b.added.more)) in
    record {
      rows = a.rows ++ b.rows;
      typings_of = map-append (λ (r : Row). r.typing) a.rows b.rows ∙ rw (a.typings_of, b.typings_of) refl;
      right = All-append (IsRowOf conflicts place rule) a.rows b.rows a.right b.right;
      added = record {
        more = a.added.more ++ b.added.more;
        right = subst (λ (l : List Row). AreRight rule l (a.added.more ++ b.added.more)) (sym rows) (pairs_append R as_ a.added.more bs b.added.more a.added.right b.added.right);
        refutations = rw (b.added.refutations, a.added.refutations) (append_assoc old.refutations a.added.more b.added.more);
        text = b.added.text ∙ (ap (λ (l : List ℕ). l ++ texts rule bs b.added.more) a.added.text ∙ (append_assoc old.text.items (texts rule as_ a.added.more) (texts rule bs b.added.more)
            ∙ ap (λ (l : List ℕ). old.text.items ++ l) (sym text)));
        table = rw (b.added.table, a.added.table) (append_assoc old.table a.rows b.rows);
        all_admitted = (
          λ h. let l = b.added.all_admitted.0 h in let e = a.added.all_admitted.0 l.0 in (e.0, All-append P a.rows b.rows e.1 l.1),
          λ h. let p = parts P a.rows b.rows h.1 in b.added.all_admitted.1 (a.added.all_admitted.1 (h.0, p.0), p.1),
        );
      };
    }

-- the typings that are found are typings of the rule
pub typed : (rule : Rule) (widths : List ℕ) (most : ℕ) (ts : List (List ℕ)) → IsAnswer rule widths most (answers.All ts)
    → All (IsTyping rule) ts
typed rule widths most ts answer = All-weaker (Contains ts) (IsTyping rule) (λ t here. ((answer.0.all t).0 here).typed) ts (All-contains_itself ts)

-- the rule's rows are appended
pub decided : (widths : List ℕ) (conflicts place : ℕ) (rule : Rule) (ts : List (List ℕ)) (old new : Proved)
    → IsAnswer rule widths most_typings (answers.All ts) → AddsProved conflicts place rule ts old new
    → AddsProvedRule widths conflicts place rule old new
decided widths conflicts place rule ts old new answer more =
    record { finding = Decided more.rows; right = (rw more.typings_of answer, more.right); added = more.added }

-- the rule has too many typings
pub too_many : (widths : List ℕ) (conflicts place : ℕ) (rule : Rule) (old new : Proved)
    → IsAnswer rule widths most_typings answers.TooMany → new.table ≡ old.table → new.refutations ≡ old.refutations
    → new.text.items ≡ old.text.items → new.all_admitted ≡ false → AddsProvedRule widths conflicts place rule old new
too_many widths conflicts place rule old new answer table refutations text all =
    record {
      finding = TooMany;
      right = answer;
      added = record {
        more = [];
        right = tt;
        refutations = refutations ∙ sym (append-nil old.refutations);
        text = text ∙ sym (append-nil old.text.items);
        table = table ∙ sym (append-nil old.table);
        all_admitted = (λ h. absurd (let no = subst IsTrue all h in cc), λ h. absurd h.1);
      };
    }

-- ---- one more rule

enumerated_more : {X : Type 0} (n : ℕ) (xs : List X) (x : X)
    → enumerate_from n (xs ++ x ∷ []) ≡ enumerate_from n xs ++ (n + length xs, x) ∷ []
enumerated_more n [] x = rw add-zero refl
enumerated_more n (y ∷ xs) x =
    let place : (n + 1) + length xs ≡ n + suc (length xs) = omega arith in
    ap (λ (l : List _). (n, y) ∷ l) (enumerated_more (n + 1) xs x ∙ rw place refl)

stays_at : (rules : List Rule) (rule : Rule) (k : ℕ) (at : Rule) → slice_get rules k ≡ Some at
    → slice_get (rules ++ rule ∷ []) k ≡ Some at
stays_at [] rule k at is = absurd (omega (arith, slice_get_within [] k at is))
stays_at (r ∷ rules) rule zero at is = is
stays_at (r ∷ rules) rule (suc k) at is = stays_at rules rule k at is

stands_last : (rules : List Rule) (rule : Rule) → slice_get (rules ++ rule ∷ []) (length rules) ≡ Some rule
stands_last [] rule = refl
stands_last (r ∷ rules) rule = stands_last rules rule

-- a row on the last rule is on this one
is_last : (conflicts : ℕ) (rules : List Rule) (rule : Rule) (row : Row) → IsRowOf conflicts (length rules) rule row
    → slice_get (rules ++ rule ∷ []) row.rule ≡ Some rule
is_last conflicts rules rule row row_is = subst (λ (k : ℕ). slice_get (rules ++ rule ∷ []) k ≡ Some rule) (sym row_is.of_rule) (stands_last rules rule)

still_honest : (rules : List Rule) (rule : Rule) (conflicts : ℕ) (row : Row) → IsHonestRow rules conflicts row
    → IsHonestRow (rules ++ rule ∷ []) conflicts row
still_honest rules rule conflicts row h = record { rule = h.rule; is = stays_at rules rule row.rule h.rule h.is; honest = h.honest }

still_refuted : (rules : List Rule) (rule : Rule) (row : Row) (refutation : Refutation)
    → IsRefutationOf rules row refutation → IsRefutationOf (rules ++ rule ∷ []) row refutation
still_refuted rules rule row refutation h = (h.0, stays_at rules rule row.rule h.0 h.1, h.2)

-- the text of a proof, where the row's rule is known
text_at : (rules : List Rule) (rule : Rule) (row : Row) (refutation : Refutation) → slice_get rules row.rule ≡ Some rule
    → row_proof_text rules row refutation ≡ proof_text (proof_of rule row.typing refutation)
text_at rules rule row refutation at = ap (λ (found : Option Rule). option_map_or (λ (r : Rule). proof_text (proof_of r row.typing refutation)) found []) at

same_text : (rules : List Rule) (rule : Rule) (row : Row) (refutation : Refutation)
    → IsRefutationOf rules row refutation
    → row_proof_text (rules ++ rule ∷ []) row refutation ≡ row_proof_text rules row refutation
same_text rules rule row refutation h = text_at (rules ++ rule ∷ []) h.0 row refutation (stays_at rules rule row.rule h.0 h.1) ∙ sym (text_at rules h.0 row refutation h.1)

-- the rows of a right finding are on the last rule
rows_right : (widths : List ℕ) (conflicts : ℕ) (rules : List Rule) (rule : Rule) (finding : Finding)
    → IsFinding widths conflicts (length rules) rule finding
    → All (IsRowOf conflicts (length rules) rule) (rows_of finding)
rows_right widths conflicts rules rule (Decided rows) right = right.1
rows_right widths conflicts rules rule TooMany right = All-nil _

module _ (widths : List ℕ) (conflicts : ℕ) (rules : List Rule) (rule : Rule) (old new : Proved) (so_far : IsProved rules widths conflicts old) (more : AddsProvedRule widths conflicts (length rules) rule old new) where
  abbrev all_rules : List Rule
  all_rules = rules ++ rule ∷ []

  abbrev rows : List Row
  rows = rows_of more.finding

  abbrev front : List Row
  front = admitted_in old.table

  abbrev back : List Row
  back = admitted_in rows

  in_rows : All (IsRowOf conflicts (length rules) rule) rows
  in_rows = rows_right widths conflicts rules rule more.finding more.right

  admitted_is : admitted_in new.table ≡ front ++ back
  admitted_is = ap (λ (l : List Row). admitted_in l) more.added.table ∙ filter-append (λ (row : Row). is_admitted row.verdict) old.table rows

  -- the refutation is for a row on the last rule
  abbrev IsOfLast : Row → Refutation → Type 0
  IsOfLast row refutation = IsRowOf conflicts (length rules) rule row × Refutes rule row.typing refutation

  of_last : AllZip IsOfLast back more.added.more
  of_last = pairs_and (IsRowOf conflicts (length rules) rule) (λ (row : Row) (refutation : Refutation). Refutes rule row.typing refutation) back more.added.more (All-filter (λ (row : Row). is_admitted row.verdict) (IsRowOf conflicts (length rules) rule) rows in_rows) more.added.right

  refuted_more : AreRefutationsOf all_rules new.table new.refutations
  refuted_more =
      let before = pairs_weaker (IsRefutationOf rules) (IsRefutationOf all_rules) (still_refuted rules rule) front old.refutations so_far.refuted in
      let last = pairs_weaker IsOfLast (IsRefutationOf all_rules) (λ row refutation h. (rule, is_last conflicts rules rule row h.0, h.1)) back more.added.more of_last in
      subst (λ (rs : List Row). AllZip (IsRefutationOf all_rules) rs new.refutations) (sym admitted_is)
      (subst (λ (fs : List Refutation). AllZip (IsRefutationOf all_rules) (front ++ back) fs) (sym more.added.refutations) (pairs_append (IsRefutationOf all_rules) front old.refutations back more.added.more before last))

  text_more : new.text.items ≡ proofs_text all_rules new.table new.refutations
  text_more =
      let written : List Row → List Refutation → List ℕ = λ rs fs. flat_map (λ (pair : Row × Refutation). row_proof_text all_rules pair.0 pair.1) (zip rs fs) in
      let before : written front old.refutations ≡ proofs_text rules old.table old.refutations = same_texts (IsRefutationOf rules) (row_proof_text all_rules) (row_proof_text rules) (same_text rules rule) front old.refutations so_far.refuted in
      let last : written back more.added.more ≡ texts rule back more.added.more = same_texts IsOfLast (row_proof_text all_rules) (λ (row : Row) (refutation : Refutation). proof_text (proof_of rule row.typing refutation))
      (λ row refutation h. text_at all_rules rule row refutation (is_last conflicts rules rule row h.0)) back more.added.more of_last in
      let halves : written (front ++ back) (old.refutations ++ more.added.more) ≡ written front old.refutations ++ written back more.added.more =
      ap (flat_map (λ (pair : Row × Refutation). row_proof_text all_rules pair.0 pair.1)) (zip_append (IsRefutationOf rules) front old.refutations back more.added.more so_far.refuted)
      ∙ flat_map-append (λ (pair : Row × Refutation). row_proof_text all_rules pair.0 pair.1) (zip front old.refutations) (zip back more.added.more) in
      let all : written (admitted_in new.table) new.refutations ≡ written front old.refutations ++ written back more.added.more = ap₂ written admitted_is more.added.refutations ∙ halves in
      more.added.text ∙ (ap₂ (λ (a b : List ℕ). a ++ b) (so_far.text ∙ sym before) (sym last) ∙ sym all)

  pub one_rule : IsProved all_rules widths conflicts new
  one_rule =
      let fs = so_far.findings in
      let f = more.finding in
      let right : ℕ × Rule → Finding → Type 0 = λ placed finding. IsFinding widths conflicts placed.0 placed.1 finding in
      let place : 0 + length rules ≡ length rules = omega arith in
      let here : right (0 + length rules, rule) f = rw place more.right in
      record {
        findings = fs ++ f ∷ [];
        found = rw (enumerated_more 0 rules rule) (all_zipped_more right (enumerate_from 0 rules) fs (0 + length rules, rule) f so_far.found here);
        table = rw (more.added.table, so_far.table, flat_map-append rows_of fs (f ∷ []), append-nil (rows_of f)) refl;
        honest = subst (λ (l : List Row). IsHonestTable all_rules conflicts l) (sym more.added.table)
            (All-append (IsHonestRow all_rules conflicts) old.table rows
            (All-weaker (IsHonestRow rules conflicts) (IsHonestRow all_rules conflicts) (still_honest rules rule conflicts) old.table so_far.honest)
            (All-weaker (IsRowOf conflicts (length rules) rule) (IsHonestRow all_rules conflicts) (λ row h. record { rule = rule; is = is_last conflicts rules rule row h; honest = h.honest }) rows in_rows));
        refuted = refuted_more;
        text = text_more;
        all_admitted = (
          λ h. let b = more.added.all_admitted.0 h in All-append IsAdmitted fs (f ∷ []) (so_far.all_admitted.0 b.0) (one IsAdmitted f b.1),
          λ h. let p = parts IsAdmitted fs (f ∷ []) h in more.added.all_admitted.1 (so_far.all_admitted.1 p.0, All-head IsAdmitted f [] p.1),
        );
      }

-- the loop's next rule
pub next_rule : (widths : List ℕ) (conflicts : ℕ) (rules : List Rule) (i : ℕ) (rule : Rule) (old new : Proved)
    → i < length rules → rule ≡ get_or rules i rule → IsProved (take i rules) widths conflicts old
    → AddsProvedRule widths conflicts i rule old new → IsProved (take (i + 1) rules) widths conflicts new
next_rule widths conflicts rules i rule old new within is so_far more =
    let next : take (i + 1) rules ≡ take i rules ++ rule ∷ [] = take_more rules i rule within ∙ ap (λ (r : Rule). take i rules ++ r ∷ []) (sym is) in
    let count : length (take i rules) ≡ i = length-take-le i rules (omega arith) in
    rw next (one_rule widths conflicts (take i rules) rule old new so_far (rw count more))
