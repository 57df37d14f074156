-- What is found, with one more row or with one more rule.
use Rattle.verdict.proofs.Common.{◌≡◌, ◌↔◌, ℕ, ◌+◌, ◌<◌, Bool, true, false, IsTrue, ◌&&◌, List, [], ◌∷◌, ◌++◌, length, take, get_or, flat_map, All, Contains, refl, sym, ap, subst, ◌∙◌, append_assoc, add-zero, zero, suc, arith, Some, slice_get, slice_get_within, enumerate_from, zip, map-append, take_more, length-take-le, length-enumerate_from, flat_map-append, All-nil, All-cons, All-head, All-tail, All-append, All-weaker, All-contains_itself, all_zipped_more, AllZip-long, Rule, IsTyping, IsAnswer, Row, Verdict, Admitted, IsHonest, Verified, verdict_text, too_many_text, Finding, Decided, TooMany, IsFinding, IsRowOf, rows_of, finding_text, AddsRows, AddsRule, most_typings, IsHonestRow, IsHonestTable, row_text, IsVerified}
use Rattle.std.proofs.lemmas.List.{append-nil}
use Rattle.rule_typing.specs.declared.answer.Typings.TheVariants as answers
use Rattle.verdict.specs.Findings.{IsAdmitted}

-- what holds of each element of two lists, one behind the other, holds of each of either
parts : {X : Type 0} (P : X → Type 0) (xs ys : List X) → All P (xs ++ ys) → All P xs × All P ys
parts P [] ys all = (All-nil P, all)
parts P (x ∷ xs) ys all =
    let rest = parts P xs ys (All-tail P x (xs ++ ys) all) in (All-cons P x xs (All-head P x (xs ++ ys) all) rest.0, rest.1)

one : {X : Type 0} (P : X → Type 0) (x : X) → P x → All P (x ∷ [])
one P x here = All-cons P x [] here (All-nil P)

both : (a b : Bool) → IsTrue (a && b) ↔ (IsTrue a × IsTrue b)
both true b = (λ h. (refl, h), λ h. h.1)
both false b = (λ h. cc, λ h. cc)

-- no row yet
pub no_rows : (conflicts place : ℕ) (rule : Rule) (verified : Verified) → AddsRows conflicts place rule [] verified verified
no_rows conflicts place rule verified =
    record {
      rows = [];
      typings_of = refl;
      right = All-nil _;
      added = record {
        table = sym (append-nil _);
        text = sym (append-nil _);
        all_admitted = (λ h. (h, All-nil _), λ h. h.0);
      };
    }

-- a row that is decided is appended
pub one_row : (conflicts place : ℕ) (rule : Rule) (typing : List ℕ) (verdict : Verdict) (admitted : Bool) (old new : Verified) → IsHonest rule typing conflicts verdict → IsTrue admitted ↔ (verdict ≡ Admitted) → new.table ≡ old.table ++ (record { rule = place; typing = typing; verdict = verdict }) ∷ [] → new.text.items ≡ old.text.items ++ verdict_text rule typing verdict → new.all_admitted ≡ (old.all_admitted && admitted) → AddsRows conflicts place rule (typing ∷ []) old new
one_row conflicts place rule typing verdict admitted old new honest is_admitted table text all =
    let row : Row = record { rule = place; typing = typing; verdict = verdict } in
    let P : Row → Type 0 = λ r. r.verdict ≡ Admitted in
    let halves = both old.all_admitted admitted in
    record {
      rows = row ∷ [];
      typings_of = refl;
      right = one (IsRowOf conflicts place rule) row (record { of_rule = refl; honest = honest });
      added = record {
        table = table;
        text = text ∙ ap (λ (l : List ℕ). old.text.items ++ l) (sym (append-nil (verdict_text rule typing verdict)));
        all_admitted = (
          λ h. let b = halves.0 (subst IsTrue all h) in (b.0, one P row (is_admitted.0 b.1)),
          λ h. subst IsTrue (sym all) (halves.1 (h.0, is_admitted.1 (All-head P row [] h.1))),
        );
      };
    }

-- rows are appended behind rows
pub more_rows : (conflicts place : ℕ) (rule : Rule) (ts us : List (List ℕ)) (old mid new : Verified) → AddsRows conflicts place rule ts old mid → AddsRows conflicts place rule us mid new → AddsRows conflicts place rule (ts ++ us) old new
more_rows conflicts place rule ts us old mid new a b =
    let P : Row → Type 0 = λ r. r.verdict ≡ Admitted in
    let text : Row → List ℕ = row_text rule in
    record {
      rows = a.rows ++ b.rows;
      typings_of = map-append (λ (r : Row). r.typing) a.rows b.rows ∙ rw (a.typings_of, b.typings_of) refl;
      right = All-append (IsRowOf conflicts place rule) a.rows b.rows a.right b.right;
      added = record {
        table = rw (b.added.table, a.added.table) (append_assoc old.table a.rows b.rows);
        text = rw (b.added.text, a.added.text, flat_map-append text a.rows b.rows) (append_assoc old.text.items (flat_map text a.rows) (flat_map text b.rows));
        all_admitted = (
          λ h. let l = b.added.all_admitted.0 h in let e = a.added.all_admitted.0 l.0 in (e.0, All-append P a.rows b.rows e.1 l.1),
          λ h. let p = parts P a.rows b.rows h.1 in b.added.all_admitted.1 (a.added.all_admitted.1 (h.0, p.0), p.1),
        );
      };
    }

enumerated_more : {X : Type 0} (n : ℕ) (xs : List X) (x : X) → enumerate_from n (xs ++ x ∷ []) ≡ enumerate_from n xs ++ (n + length xs, x) ∷ []
enumerated_more n [] x = rw add-zero refl
enumerated_more n (y ∷ xs) x =
    let place : (n + 1) + length xs ≡ n + suc (length xs) = omega arith in
    ap (λ (l : List _). (n, y) ∷ l) (enumerated_more (n + 1) xs x ∙ rw place refl)

zipped_more : {A B : Type 0} (as_ : List A) (bs : List B) (a : A) (b : B) → length bs ≡ length as_ → zip (as_ ++ a ∷ []) (bs ++ b ∷ []) ≡ zip as_ bs ++ (a, b) ∷ []
zipped_more [] [] a b e = refl
zipped_more [] (y ∷ bs) a b e = absurd (omega arith)
zipped_more (x ∷ as_) [] a b e = absurd (omega arith)
zipped_more (x ∷ as_) (y ∷ bs) a b e = ap (λ (l : List _). (x, y) ∷ l) (zipped_more as_ bs a b (omega arith))

-- ---- honest rows

stays_at : (rules : List Rule) (rule : Rule) (k : ℕ) (at : Rule) → slice_get rules k ≡ Some at → slice_get (rules ++ rule ∷ []) k ≡ Some at
stays_at [] rule k at is = absurd (omega (arith, slice_get_within [] k at is))
stays_at (r ∷ rules) rule zero at is = is
stays_at (r ∷ rules) rule (suc k) at is = stays_at rules rule k at is

stands_last : (rules : List Rule) (rule : Rule) → slice_get (rules ++ rule ∷ []) (length rules) ≡ Some rule
stands_last [] rule = refl
stands_last (r ∷ rules) rule = stands_last rules rule

still_honest : (rules : List Rule) (rule : Rule) (conflicts : ℕ) (row : Row) → IsHonestRow rules conflicts row → IsHonestRow (rules ++ rule ∷ []) conflicts row
still_honest rules rule conflicts row h = record { rule = h.rule; is = stays_at rules rule row.rule h.rule h.is; honest = h.honest }

honest_last : (rules : List Rule) (rule : Rule) (conflicts : ℕ) (row : Row) → IsRowOf conflicts (length rules) rule row → IsHonestRow (rules ++ rule ∷ []) conflicts row
honest_last rules rule conflicts row h =
    record { rule = rule; is = subst (λ (k : ℕ). slice_get (rules ++ rule ∷ []) k ≡ Some rule) (sym h.of_rule) (stands_last rules rule); honest = h.honest }

rows_honest : (widths : List ℕ) (conflicts : ℕ) (rules : List Rule) (rule : Rule) (finding : Finding)
    → IsFinding widths conflicts (length rules) rule finding → IsHonestTable (rules ++ rule ∷ []) conflicts (rows_of finding)
rows_honest widths conflicts rules rule (Decided rows) right =
    All-weaker (IsRowOf conflicts (length rules) rule) (IsHonestRow (rules ++ rule ∷ []) conflicts) (λ row h. honest_last rules rule conflicts row h) rows right.1
rows_honest widths conflicts rules rule TooMany right = All-nil _

-- one more rule is decided
pub one_rule : (widths : List ℕ) (conflicts : ℕ) (rules : List Rule) (rule : Rule) (old new : Verified) → IsVerified rules widths conflicts old → AddsRule widths conflicts (length rules) rule old new → IsVerified (rules ++ rule ∷ []) widths conflicts new
one_rule widths conflicts rules rule old new so_far more =
    let fs = so_far.findings in
    let f = more.finding in
    let right : ℕ × Rule → Finding → Type 0 = λ placed finding. IsFinding widths conflicts placed.0 placed.1 finding in
    let text : Rule × Finding → List ℕ = λ pair. finding_text pair.0 pair.1 in
    let count : length fs ≡ length rules = AllZip-long right (enumerate_from 0 rules) fs so_far.found ∙ length-enumerate_from 0 rules in
    let place : 0 + length rules ≡ length rules = omega arith in
    let here : right (0 + length rules, rule) f = rw place more.right in
    record {
      findings = fs ++ f ∷ [];
      found = rw (enumerated_more 0 rules rule) (all_zipped_more right (enumerate_from 0 rules) fs (0 + length rules, rule) f so_far.found here);
      table = rw (more.added.table, so_far.table, flat_map-append rows_of fs (f ∷ []), append-nil (rows_of f)) refl;
      honest = subst (λ (rows : List Row). IsHonestTable (rules ++ rule ∷ []) conflicts rows) (sym more.added.table)
          (All-append (IsHonestRow (rules ++ rule ∷ []) conflicts) old.table (rows_of f)
          (All-weaker (IsHonestRow rules conflicts) (IsHonestRow (rules ++ rule ∷ []) conflicts) (λ row h. still_honest rules rule conflicts row h) old.table so_far.honest)
          (rows_honest widths conflicts rules rule f more.right));
      text = rw (more.added.text, so_far.text, zipped_more rules fs rule f count, flat_map-append text (zip rules fs) ((rule, f) ∷ []), append-nil (finding_text rule f)) refl;
      all_admitted = (
        λ h. let b = more.added.all_admitted.0 h in All-append IsAdmitted fs (f ∷ []) (so_far.all_admitted.0 b.0) (one IsAdmitted f b.1),
        λ h. let p = parts IsAdmitted fs (f ∷ []) h in more.added.all_admitted.1 (so_far.all_admitted.1 p.0, All-head IsAdmitted f [] p.1),
      );
    }

-- the loop's next rule
pub next_rule : (widths : List ℕ) (conflicts : ℕ) (rules : List Rule) (i : ℕ) (rule : Rule) (old new : Verified) → i < length rules → rule ≡ get_or rules i rule → IsVerified (take i rules) widths conflicts old → AddsRule widths conflicts i rule old new → IsVerified (take (i + 1) rules) widths conflicts new
next_rule widths conflicts rules i rule old new within is so_far more =
    let next : take (i + 1) rules ≡ take i rules ++ rule ∷ [] = take_more rules i rule within ∙ ap (λ (r : Rule). take i rules ++ r ∷ []) (sym is) in
    let count : length (take i rules) ≡ i = length-take-le i rules (omega arith) in
    rw next (one_rule widths conflicts (take i rules) rule old new so_far (rw count more))

-- the typings that are found are typings of the rule
pub typed : (rule : Rule) (widths : List ℕ) (most : ℕ) (ts : List (List ℕ)) → IsAnswer rule widths most (answers.All ts) → All (IsTyping rule) ts
typed rule widths most ts answer = All-weaker (Contains ts) (IsTyping rule) (λ t here. ((answer.0.all t).0 here).typed) ts (All-contains_itself ts)

-- the rule's rows are added
pub decided : (widths : List ℕ) (conflicts place : ℕ) (rule : Rule) (ts : List (List ℕ)) (old new : Verified) → IsAnswer rule widths most_typings (answers.All ts) → AddsRows conflicts place rule ts old new → AddsRule widths conflicts place rule old new
decided widths conflicts place rule ts old new answer more =
    record { finding = Decided more.rows; right = (rw more.typings_of answer, more.right); added = more.added }

-- the rule has too many typings
pub too_many : (widths : List ℕ) (conflicts place : ℕ) (rule : Rule) (old new : Verified) → IsAnswer rule widths most_typings answers.TooMany → new.table ≡ old.table → new.text.items ≡ old.text.items ++ too_many_text rule → new.all_admitted ≡ false → AddsRule widths conflicts place rule old new
too_many widths conflicts place rule old new answer table text all =
    record {
      finding = TooMany;
      right = answer;
      added = record { table = table ∙ sym (append-nil old.table); text = text; all_admitted = (λ h. cc, λ h. absurd h.1) };
    }
