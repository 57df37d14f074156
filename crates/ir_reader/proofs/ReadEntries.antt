-- The entries of a module, one by one.
use Rattle.ir_reader.proofs.Common.{◌≡◌, inl, inr, ℕ, zero, suc, ◌+◌, ◌<◌, Bool, List, [], ◌∷◌, ◌++◌, length, length-append, take, Some, refl, sym, ap, subst, ◌∙◌, arith, slice_get, Entry, Function, Placed, RawEntry, RawFunction, RawBlock, Fault, IrFaultKind, SpellsBlocks, Part, Each, IsTextFault, Refusal, IfRefused, functions_of, IsEntryOf, AreEntriesOf, IsFunctionOf, IsFault, of_text, MarksEntry}
use Rattle.ir_core.specs.declared.module.Entry.TheVariants as entries
use Rattle.ir_tokens.specs.declared.raw.RawEntry.TheVariants as raw_entries
use Rattle.refusal.specs.declared.refusal.Refusal.TheVariants as errors
use Rattle.ir_reader.proofs.Places.{same_at, at_push}

-- ---- each function has a block

pub each_spelled : {X : Type 0} (P : X → Part) (xs : List X) (k : ℕ) (x : X) (tokens rest : List Placed) → Each P xs tokens rest → slice_get xs k ≡ Some x → (t : List Placed) × ((r : List Placed) × P x t r)
each_spelled P [] k x tokens rest each at = cc
each_spelled P (y ∷ xs) zero x tokens rest each at = let same : y ≡ x = cc in (tokens, (each.0, subst (λ z. P z tokens each.0) same each.1))
each_spelled P (y ∷ xs) (suc k) x tokens rest each at = each_spelled P xs k x each.0 rest each.2 at

pub some_block : (blocks : List RawBlock) (tokens rest : List Placed) → SpellsBlocks blocks tokens rest → 0 < length blocks
some_block [] tokens rest spelled = absurd spelled
some_block (first ∷ others) tokens rest spelled = omega arith

-- ---- the first entries

-- these are what the first entries as written mean
pub record AreFirstEntries (written : List RawEntry) (place : ℕ) (read : List Entry) : Type 0 where
  pub count : length read ≡ place
  pub each : (k : ℕ) (raw : RawEntry) (entry : Entry) → slice_get written k ≡ Some raw → slice_get read k ≡ Some entry → IsEntryOf (functions_of (take k written)) raw entry

pub first_entries_none : (written : List RawEntry) → AreFirstEntries written 0 []
first_entries_none written = record { count = refl; each = λ k raw entry at at'. cc }

pub first_entries_more : (written : List RawEntry) (place : ℕ) (raw : RawEntry) (entry : Entry) (read new : List Entry) → AreFirstEntries written place read → slice_get written place ≡ Some raw → new ≡ read ++ entry ∷ []
    → IsEntryOf (functions_of (take place written)) raw entry → AreFirstEntries written (place + 1) new
first_entries_more written place raw entry read new first here more own =
    record {
      count = ap length more ∙ length-append read (entry ∷ []) ∙ omega (arith, first.count);
      each = λ k raw' entry' at at'. elim (at_push read entry k entry' (subst (λ l. slice_get l k ≡ Some entry') more at')) [
        | inl old ↦ first.each k raw' entry' at old
        | inr (e, same) ↦
            let k_is : place ≡ k = sym first.count ∙ sym e in
            let one : raw ≡ raw' = same_at written place raw raw' here (subst (λ n. slice_get written n ≡ Some raw') (sym k_is) at) in
            subst (λ n. IsEntryOf (functions_of (take n written)) raw' entry') k_is
            (subst (λ r. IsEntryOf (functions_of (take place written)) r entry') one (subst (IsEntryOf (functions_of (take place written)) raw) same own))
      ];
    }

pub all_entries : (written : List RawEntry) (place : ℕ) (read : List Entry) → place ≡ length written → AreFirstEntries written place read → AreEntriesOf written read
all_entries written place read end first = record { count = first.count ∙ end; each = first.each }

-- ---- the text

pub text_fault : (text : List ℕ) (e : Refusal (Fault IrFaultKind)) → IfRefused e (IsTextFault text) → IfRefused e (IsFault text)
text_fault text (errors.Refused fault) h = of_text h
text_fault text errors.NoMemory h = tt

-- an entry that is a function
pub function_entry : (raw : RawEntry) (f : RawFunction) (entry : Entry) (g : Function) (mark : Bool) → raw ≡ raw_entries.Function f → entry ≡ entries.Function g
    → ((earlier : List RawFunction) → MarksEntry mark earlier (raw_entries.Function f) → IsFunctionOf earlier f g) → (earlier : List RawFunction) → MarksEntry mark earlier raw → IsEntryOf earlier raw entry
function_entry raw f entry g mark is entry_is h = rw (is, entry_is) h
