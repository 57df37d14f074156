-- What entries as written mean, and what they do with one more entry behind them.
use Rattle.ir_reader.proofs.Common.{◌≡◌, ◌↔◌, ◌⊎◌, inl, inr, ℕ, ◌+◌, ◌<◌, ◌≤◌, Bool, List, [], ◌∷◌, ◌++◌, length, length-append, take, Some, Ok, IsTrue, refl, sym, subst, arith, slice_get, take-append-le, take-append_seam, slice_get_within, Fault, Entry, IrFaultKind, Placed, RawEntry, HasNameOf, entry_at, entry_at-is, Reading, HasLeft, IsReadingOf, functions_of, IsEntryOf, AreEntriesOf, IsFaultOfEntry, IsFaultOfEntries, MarksEntry, IsNameOf}
use Rattle.ir_reader.proofs.Advancing.{left_more}
use Rattle.ir_reader.proofs.Places.{at_push, append_left, append_right, there}
use Rattle.ir_reader.proofs.ReadEntries.{AreFirstEntries, first_entries_more, all_entries}
use Rattle.ir_reader.proofs.Repeats.{name_push, own_mark}

pub no_entries : AreEntriesOf [] []
no_entries = record { count = refl; each = λ k raw entry at at'. cc }

module _ (front : List RawEntry) (e : RawEntry) where
  last_at : slice_get (front ++ e ∷ []) (length front) ≡ Some e
  last_at = append_right front (e ∷ []) (length front) 0 e (omega arith) refl

  -- the entries in front mean the same with one more entry behind them
  in_front : (read : List Entry) → AreEntriesOf front read → AreFirstEntries (front ++ e ∷ []) (length front) read
  in_front read are = record {
    count = are.count;
    each = λ k raw entry at at'.
        let within : k < length read = slice_get_within read k entry at' in
        let le : k ≤ length front = omega (arith, are.count) in
        elim (at_push front e k raw at) [
          | inl old ↦ subst (λ l. IsEntryOf (functions_of l) raw entry) (sym (take-append-le k front (e ∷ []) le)) (are.each k raw entry old at')
          | inr (is, same) ↦ absurd (omega (arith, are.count, is))
        ];
  }

  pub entries_more : (entry : Entry) (read all : List Entry) → AreEntriesOf front read → IsEntryOf (functions_of front) e entry → all ≡ read ++ entry ∷ [] → AreEntriesOf (front ++ e ∷ []) all
  entries_more entry read all are own is =
      let meaning : IsEntryOf (functions_of (take (length front) (front ++ e ∷ []))) e entry = subst (λ l. IsEntryOf (functions_of l) e entry) (sym (take-append_seam front (e ∷ []))) own in
      all_entries (front ++ e ∷ []) (length front + 1) all (sym (length-append front (e ∷ [])))
      (first_entries_more (front ++ e ∷ []) (length front) e entry read all (in_front read are) last_at is meaning)

  -- a fault of the last entry is the first, if the entries before it have none
  pub fault_more : (read : List Entry) (fault : Fault IrFaultKind) → AreEntriesOf front read → IsFaultOfEntry (functions_of front) e fault → IsFaultOfEntries (front ++ e ∷ []) fault
  fault_more read fault are own = record {
    k = length front;
    raw = e;
    is_raw = last_at;
    before = λ j other lt at. let (entry, at') = there read j (omega (arith, are.count)) in let first = in_front read are in (entry, first.each j other entry at at');
    fault_there = subst (λ l. IsFaultOfEntry (functions_of l) e fault) (sym (take-append_seam front (e ∷ []))) own;
  }

  -- a first fault stays the first with more entries behind it
  pub fault_stays : (fault : Fault IrFaultKind) → IsFaultOfEntries front fault → IsFaultOfEntries (front ++ e ∷ []) fault
  fault_stays fault h =
      let within : h.k < length front = slice_get_within front h.k h.raw h.is_raw in
      let le : h.k ≤ length front = omega arith in
      record {
        k = h.k;
        raw = h.raw;
        is_raw = append_left front (e ∷ []) h.k h.raw h.is_raw;
        before = λ j other lt at.
            let le' : j ≤ length front = omega arith in
            elim (at_push front e j other at) [
              | inl old ↦ let (entry, is) = h.before j other lt old in (entry, subst (λ l. IsEntryOf (functions_of l) other entry) (sym (take-append-le j front (e ∷ []) le')) is)
              | inr (is, same) ↦ absurd (omega (arith, is))
            ];
        fault_there = subst (λ l. IsFaultOfEntry (functions_of l) h.raw fault) (sym (take-append-le h.k front (e ∷ []) le)) h.fault_there;
      }

  -- ---- names

  module _ (old new : List ℕ → Type 0) (known : (name : List ℕ) → old name ↔ HasNameOf (functions_of front) name) where
    pub marks_entry : (mark : Bool) → (IsTrue mark ↔ ((name : List ℕ) × IsNameOf e name × old name)) → MarksEntry mark (functions_of front) e
    marks_entry mark marked = own_mark mark (functions_of front) e (
      λ t. let (name, n, o) = marked.0 t in (name, n, (known name).0 o),
      λ (name, n, has). marked.1 (name, n, (known name).1 has),
    )

    pub names_more : ((name : List ℕ) → new name ↔ (old name ⊎ IsNameOf e name)) → (name : List ℕ) → new name ↔ HasNameOf (functions_of (front ++ e ∷ [])) name
    names_more named name =
        let names = name_push front e name in (
          λ t. names.1 (elim ((named name).0 t) [ inl o ↦ inl ((known name).0 o) | inr n ↦ inr n ]),
          λ t. (named name).1 (elim (names.0 t) [ inl has ↦ inl ((known name).1 has) | inr n ↦ inr n ]),
        )

-- ---- tokens that are left

-- one more entry is read of the tokens that are left, behind the entries in front of the text
pub left_step : (tokens left rest : List Placed) (e : RawEntry) (was now next : Reading) → entry_at left ≡ Ok (e, rest)
    → ((text : List ℕ) (front : List RawEntry) → HasLeft text front tokens → (read : List RawEntry) × HasLeft text read left × (IsReadingOf front was → IsReadingOf read now))
    → ((front : List RawEntry) → IsReadingOf front now → IsReadingOf (front ++ e ∷ []) next)
    → (text : List ℕ) (front : List RawEntry) → HasLeft text front tokens → (read : List RawEntry) × HasLeft text read rest × (IsReadingOf front was → IsReadingOf read next)
left_step tokens left rest e was now next read before step text front h =
    let (entries, has_left, is) = before text front h in
    (entries ++ e ∷ [], left_more text entries left has_left e rest (entry_at-is left (e, rest) read), λ r. step entries (is r))
