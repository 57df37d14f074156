-- The kept verdicts, as one more pair is asked.
use Rattle.asked_verdicts.proofs.Common.{◌≡◌, ℕ, zero, suc, Bool, true, false, not, List, [], ◌∷◌, ◌++◌, if◌then◌else◌, length, map, take, Some, refl, sym, ap, subst, ◌∙◌, arith, Result, Ok, Err, ◌||◌, ◌≢◌, slice_get, All, Contains, MatchBool, OnErr, list_any, option_map, length-map, map-append, take-append-le, take_all, All-append, All-cons, All-nil, Any-from_list_any, same_Some, slice_get-map, slice_get_read, insert_key, place_in, contains_at, Rule, Row, Admitted, IsHonestRow, IsHonestTable, Verdicts, Pair, pair_in, HasVerdict, AreFirstAsked, Asks, IsUnrefutedIn, Key, pair_of_key, StoredLogs}
use Rattle.std.proofs.Common.{append-nil}
use Rattle.asked_verdicts.proofs.Asking.{asked_again, asked_first}
use Rattle.asked_verdicts.proofs.Storing.{key_eq, decided}

not_first : (a b : Bool) → a ≡ true → (a || b) ≡ false → ⊥
not_first true b is none = absurd cc
not_first false b is none = absurd cc

not_later : (a b : Bool) → (a || b) ≡ false → b ≡ false
not_later true b none = absurd cc
not_later false b none = none

-- a key that the set does not hold is of a pair that has no row
absent_at : (x : Key) (keys : List Key) (i : ℕ) → list_any (key_eq x) keys ≡ false → slice_get (map pair_of_key keys) i ≡ Some (pair_of_key x) → ⊥
absent_at x [] i none at = absurd cc
absent_at x (key ∷ keys) zero none at = not_first (key_eq x key) (list_any (key_eq x) keys) ((decided (pair_of_key x) key).1 (sym (same_Some (pair_of_key key) (pair_of_key x) at))) none
absent_at x (key ∷ keys) (suc i) none at = absent_at x keys i (not_later (key_eq x key) (list_any (key_eq x) keys) none) at

absent : (x : Key) (keys : List Key) → list_any (key_eq x) keys ≡ false → ¬ Contains (map pair_of_key keys) (pair_of_key x)
absent x keys none has = (let at = place_in (map pair_of_key keys) (pair_of_key x) has in absent_at x keys at.0 none at.1)

-- a key that it holds is of a pair that has one
present : (x : Key) (keys : List Key) → list_any (key_eq x) keys ≡ true → Contains (map pair_of_key keys) (pair_of_key x)
present x keys found =
    let (k, key, within, at, is) = Any-from_list_any (key_eq x) keys found in
    contains_at (map pair_of_key keys) k (pair_of_key x)
    (slice_get-map pair_of_key keys k ∙ ap (option_map pair_of_key) (slice_get_read keys (length keys) k key refl within (sym at)) ∙ ap Some (sym ((decided (pair_of_key x) key).0 is)))

-- the row at the place of a key is on its pair
pub stored : (x : Key) (keys : List Key) (table : List Row) (place : ℕ) → map pair_of_key keys ≡ map pair_in table
    → ((key : Key) × (slice_get keys place ≡ Some key) × (key_eq x key ≡ true)) → slice_get (map pair_in table) place ≡ Some (pair_of_key x)
stored x keys table place same (key, at, is) =
    subst (λ l. slice_get l place ≡ Some (pair_of_key x)) same (slice_get-map pair_of_key keys place ∙ ap (option_map pair_of_key) at ∙ ap Some (sym ((decided (pair_of_key x) key).0 is)))

-- whether `insert` said that the key was new says whether the set did not hold it
pub lacked : (found new : Bool) → new ≡ not found → new ≡ true → found ≡ false
lacked true new is h = absurd cc
lacked false new is h = refl

pub had : (found new : Bool) → new ≡ not found → new ≡ false → found ≡ true
had true new is h = refl
had false new is h = absurd cc

-- what holds where memory is refused
pub on_err : {T E : Type 0} (r : Result T E) (P : Type 0) → P → OnErr r P
on_err (Ok x) P p = tt
on_err (Err e) P p = p

-- the key that was inserted last, for a row that there is not, is removed again
pub taken_out : (table : List Row) (old : List Key) (key : Key) (new : List Key) → map pair_of_key old ≡ map pair_in table → list_any (key_eq key) old ≡ false
    → new ≡ insert_key key_eq old key → take (length table) new ≡ old
taken_out table old key new same none is =
    let counts : length old ≡ length table = sym (length-map old pair_of_key) ∙ ap length same ∙ length-map table pair_in in
    let added : new ≡ old ++ key ∷ [] = is ∙ ap (λ (b : Bool). if b then old else old ++ key ∷ []) none in
    ap (λ (n : ℕ). take n new) (sym counts) ∙ ap (take (length old)) added ∙ take-append-le (length old) old (key ∷ []) (omega arith) ∙ take_all (length old) old (omega arith)

module _ (rules : List Rule) (conflicts : ℕ) (old new : Verdicts) (key : Key) where
  -- a pair that has a row: nothing changes
  pub asked_found : new.table ≡ old.table → new.logs ≡ old.logs → new.pairs.keys ≡ insert_key key_eq old.pairs.keys key → list_any (key_eq key) old.pairs.keys ≡ true
      → Asks rules conflicts (pair_of_key key ∷ []) old new
  asked_found table logs keys found =
      let x = pair_of_key key in
      let rows = map pair_in old.table in
      let kept : new.pairs.keys ≡ old.pairs.keys = keys ∙ ap (λ (b : Bool). if b then old.pairs.keys else old.pairs.keys ++ key ∷ []) found in
      record {
        more = [];
        rows = table ∙ sym (append-nil old.table);
        logs = logs;
        asked = λ before h. record {
          rows = subst (λ t. AreFirstAsked (before ++ x ∷ []) (map pair_in t)) (sym table) (asked_again before rows x h.rows ((h.rows.same x).0 (subst (λ l. Contains l x) h.pairs (present key old.pairs.keys found))));
          honest = subst (IsHonestTable rules conflicts) (sym table) h.honest;
          unrefuted = subst (λ (l : StoredLogs). All (IsUnrefutedIn l) new.table) (sym logs) (subst (All (IsUnrefutedIn old.logs)) (sym table) h.unrefuted);
          pairs = ap (map pair_of_key) kept ∙ h.pairs ∙ ap (map pair_in) (sym table);
        };
      }

  -- a pair that has none: its row is appended
  pub asked_new : (row : Row) → new.table ≡ old.table ++ row ∷ [] → new.logs ≡ old.logs → new.pairs.keys ≡ insert_key key_eq old.pairs.keys key
      → list_any (key_eq key) old.pairs.keys ≡ false → pair_in row ≡ pair_of_key key → IsHonestRow rules conflicts row → IsUnrefutedIn old.logs row → Asks rules conflicts (pair_of_key key ∷ []) old new
  asked_new row table logs keys none is honest unrefuted =
      let x = pair_of_key key in
      let rows = map pair_in old.table in
      let added : new.pairs.keys ≡ old.pairs.keys ++ key ∷ [] = keys ∙ ap (λ (b : Bool). if b then old.pairs.keys else old.pairs.keys ++ key ∷ []) none in
      let more : map pair_in new.table ≡ rows ++ x ∷ [] = ap (map pair_in) table ∙ map-append pair_in old.table (row ∷ []) ∙ ap (λ (p : Pair). rows ++ p ∷ []) is in
      record {
        more = row ∷ [];
        rows = table;
        logs = logs;
        asked = λ before h. record {
          rows = subst (AreFirstAsked (before ++ x ∷ [])) (sym more) (asked_first before rows x h.rows (λ has. absent key old.pairs.keys none (subst (λ l. Contains l x) (sym h.pairs) ((h.rows.same x).1 has))));
          honest = subst (IsHonestTable rules conflicts) (sym table) (All-append (IsHonestRow rules conflicts) old.table (row ∷ []) h.honest (All-cons (IsHonestRow rules conflicts) row [] honest (All-nil (IsHonestRow rules conflicts))));
          unrefuted =
              subst (λ (l : StoredLogs). All (IsUnrefutedIn l) new.table) (sym logs)
              (subst (All (IsUnrefutedIn old.logs)) (sym table) (All-append (IsUnrefutedIn old.logs) old.table (row ∷ []) h.unrefuted (All-cons (IsUnrefutedIn old.logs) row [] unrefuted (All-nil (IsUnrefutedIn old.logs)))));
          pairs = ap (map pair_of_key) added ∙ map-append pair_of_key old.pairs.keys (key ∷ []) ∙ ap (λ (l : List Pair). l ++ x ∷ []) h.pairs ∙ sym more;
        };
      }

pair_at : (table : List Row) (place : ℕ) (row : Row) (pair : Pair) → slice_get (map pair_in table) place ≡ Some pair → slice_get table place ≡ Some row → pair_in row ≡ pair
pair_at table place row pair is at = same_Some (pair_in row) pair (sym (slice_get-map pair_in table place ∙ ap (option_map pair_in) at) ∙ is)

-- the row at the place of a pair answers for it
pub answered : (table : List Row) (place : ℕ) (row : Row) (pair : Pair) (admitted : Bool) → slice_get (map pair_in table) place ≡ Some pair → slice_get table place ≡ Some row
    → MatchBool admitted (row.verdict ≡ Admitted) (row.verdict ≢ Admitted) → MatchBool admitted (HasVerdict table (λ v. v ≡ Admitted) pair) (HasVerdict table (λ v. v ≢ Admitted) pair)
answered table place row pair true is at says = (row, contains_at table place row at, pair_at table place row pair is at, says)
answered table place row pair false is at says = (row, contains_at table place row at, pair_at table place row pair is at, says)
