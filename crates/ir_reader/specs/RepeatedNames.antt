-- Which entries are functions with the name of an earlier one.
use Rattle.std.specs.Prelude.{◌≡◌, ℕ, Bool, List, IsTrue, Vec}
use Rattle.std.specs.Str.{bytes_eq}
use Rattle.indexmap.specs.IndexSet.{IndexSet, contains_by}
use Rattle.ir_tokens.specs.declared.raw.RawEntry.{RawEntry}
use Rattle.ir_tokens.specs.declared.raw.RawEntry.TheVariants as raw_entries
use Rattle.ir_tokens.specs.declared.raw.RawFunction.{RawFunction}
use Rattle.ir_resolve.specs.Faults.{MarksFunction}

-- if the entry is a function, the mark says whether one of the earlier functions has its name
abbrev pub MarksEntry : Bool → List RawFunction → RawEntry → Type 0
MarksEntry is_repeated earlier (raw_entries.Kept text) = Unit {0}
MarksEntry is_repeated earlier (raw_entries.Function raw) = MarksFunction is_repeated earlier raw

-- the entry is a function of this name
abbrev pub IsNameOf : RawEntry → List ℕ → Type 0
IsNameOf (raw_entries.Kept text) name = ⊥
IsNameOf (raw_entries.Function raw) name = raw.name ≡ name

-- the set has the text
abbrev pub HasText : {A S : Type 0} → IndexSet (Vec ℕ A) S → List ℕ → Type 0
HasText texts text = IsTrue (contains_by (λ t. bytes_eq text t.items) texts)
