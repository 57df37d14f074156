-- Which text spells which module, and which is the first fault of one that spells none.
use Rattle.std.specs.Prelude.{◌≡◌, ℕ, ◌<◌, ◌≤◌, List, [], ◌∷◌, length, take, Some, slice_get}
use Rattle.ir_core.specs.declared.module.Module.{Module}
use Rattle.ir_core.specs.declared.module.Entry.{Entry}
use Rattle.ir_core.specs.declared.module.Entry.TheVariants as entries
use Rattle.ir_core.specs.declared.function.Function.{Function}
use Rattle.ir_core.specs.Checks.{MeetsChecks}
use Rattle.ir_tokens.specs.declared.raw.RawModule.{RawModule}
use Rattle.ir_tokens.specs.declared.raw.RawEntry.{RawEntry}
use Rattle.ir_tokens.specs.declared.raw.RawEntry.TheVariants as raw_entries
use Rattle.ir_tokens.specs.declared.raw.RawFunction.{RawFunction}
use Rattle.refusal.specs.declared.fault.Fault.{Fault}
use Rattle.ir_tokens.specs.declared.fault.IrFaultKind.{IrFaultKind}
use Rattle.ir_parse.specs.Text.{most_bytes, IsRaw, IsTextFault}
use Rattle.ir_resolve.specs.Faults.{HasNoFault, IsFirstNameFault}
use Rattle.ir_resolve.specs.FirstLines.{IsFirstLine}
use Rattle.ir_resolve.specs.Means.{Means}
use Rattle.ir_tokens.specs.declared.fault.IrFaultKind.TheVariants as kinds
use Rattle.ir_reader.specs.FlowFaults.{BadPhiAt, EntryPredAt, IsUnassignedFault}

-- ---- functions

-- a function as written has no fault of names or types behind these functions, and means this function
abbrev pub ResolvesTo : List RawFunction → RawFunction → Function → Type 0
ResolvesTo earlier raw f = HasNoFault earlier raw × Means raw f

-- it means this function, which meets the checks
pub record IsFunctionOf (earlier : List RawFunction) (raw : RawFunction) (f : Function) : Type 0 where
  pub resolved : ResolvesTo earlier raw f
  pub checks : MeetsChecks f

-- there is no such line
abbrev pub NoLineHas : (ℕ → Type 0) → Type 0
NoLineHas At = (line : ℕ) → ¬ At line

-- The first fault of a function as written: of names or types; else, in the function that is meant, a phi that doesn't
-- fit; else a terminator that names the first block; else the first register that isn't assigned where it is read, as
-- it is written there.
pub data IsFaultOfFunction (earlier : List RawFunction) (raw : RawFunction) : Fault IrFaultKind → Type 0 where
  of_names : {fault : Fault IrFaultKind} → IsFirstNameFault earlier raw fault → IsFaultOfFunction earlier raw fault
  bad_phi : {line : ℕ} (f : Function) → ResolvesTo earlier raw f
      → IsFirstLine (BadPhiAt raw f) line → IsFaultOfFunction earlier raw (record { line = line; kind = kinds.BadPhi })
  entry_pred : {line : ℕ} (f : Function) → ResolvesTo earlier raw f → NoLineHas (BadPhiAt raw f)
      → IsFirstLine (EntryPredAt raw f) line → IsFaultOfFunction earlier raw (record { line = line; kind = kinds.EntryPred })
  unassigned : {fault : Fault IrFaultKind} (f : Function) → ResolvesTo earlier raw f → NoLineHas (BadPhiAt raw f) → NoLineHas (EntryPredAt raw f)
      → IsUnassignedFault raw f fault → IsFaultOfFunction earlier raw fault

-- ---- modules

-- the functions among entries
abbrev pub functions_of : List RawEntry → List RawFunction
functions_of [] = []
functions_of (raw_entries.Kept text ∷ others) = functions_of others
functions_of (raw_entries.Function raw ∷ others) = raw ∷ functions_of others

-- the entry as written, behind these functions, means this entry
abbrev pub IsEntryOf : List RawFunction → RawEntry → Entry → Type 0
IsEntryOf earlier (raw_entries.Kept written) (entries.Kept text) = text ≡ written
IsEntryOf earlier (raw_entries.Function raw) (entries.Function f) = IsFunctionOf earlier raw f
IsEntryOf earlier (raw_entries.Kept written) (entries.Function f) = ⊥
IsEntryOf earlier (raw_entries.Function raw) (entries.Kept text) = ⊥

-- the entries as written mean these entries, in order
pub record AreEntriesOf (written : List RawEntry) (read : List Entry) : Type 0 where
  pub count : length read ≡ length written
  pub each : (k : ℕ) (raw : RawEntry) (entry : Entry) → slice_get written k ≡ Some raw → slice_get read k ≡ Some entry → IsEntryOf (functions_of (take k written)) raw entry

-- the text, however long, spells this module
pub record IsModuleText (text : List ℕ) (m : Module) : Type 0 where
  pub raw : RawModule
  pub is_raw : IsRaw text raw
  pub entries : AreEntriesOf raw.entries m.entries

-- the entry as written, behind these functions, has this as its first fault
abbrev pub IsFaultOfEntry : List RawFunction → RawEntry → Fault IrFaultKind → Type 0
IsFaultOfEntry earlier (raw_entries.Kept written) fault = ⊥
IsFaultOfEntry earlier (raw_entries.Function raw) fault = IsFaultOfFunction earlier raw fault

-- the first fault of entries: that of the first entry that has one
pub record IsFaultOfEntries (written : List RawEntry) (fault : Fault IrFaultKind) : Type 0 where
  pub k : ℕ
  pub raw : RawEntry
  pub is_raw : slice_get written k ≡ Some raw
  pub before : (j : ℕ) (other : RawEntry) → j < k → slice_get written j ≡ Some other → (entry : Entry) × IsEntryOf (functions_of (take j written)) other entry
  pub fault_there : IsFaultOfEntry (functions_of (take k written)) raw fault

-- The first fault of a text: that of the text as written, which may be its length, or else that of its entries.
pub data IsFault (text : List ℕ) : Fault IrFaultKind → Type 0 where
  of_text : {fault : Fault IrFaultKind} → IsTextFault text fault → IsFault text fault
  of_entries : {fault : Fault IrFaultKind} (m : RawModule) → length text ≤ most_bytes → IsRaw text m → IsFaultOfEntries m.entries fault → IsFault text fault
