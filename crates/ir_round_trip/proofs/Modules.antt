-- The canonical form of a module that meets its checks is read as the module.
use Rattle.ir_round_trip.proofs.Common.{◌≡◌, ℕ, zero, suc, List, [], ◌∷◌, take, Some, refl, sym, ap, subst, ◌∙◌, arith, slice_get, AllZip-long, Module, Entry, ModuleMeetsChecks, RawModule, RawEntry, RawFunction, HasNameOf, contained_at, place_before, some_same, pair_of_first, functions_of, IsEntryOf, PrintedTextsSpell, WritesEntry, WritesModule, CanonicalModulesRead, PrintedTextsRead}
use Rattle.ir_core.specs.declared.module.Entry.TheVariants as entries
use Rattle.ir_core.specs.declared.function.Function.{Function}
use Rattle.ir_tokens.specs.declared.raw.RawEntry.TheVariants as raw_entries
use Rattle.ir_round_trip.proofs.Functions.{functions_mean}

-- a function of the entries is one of the entries
entry_of : (xs : List RawEntry) (i : ℕ) (g : RawFunction) → slice_get (functions_of xs) i ≡ Some g → (j : ℕ) × (slice_get xs j ≡ Some (raw_entries.Function g))
entry_of [] i g at = cc
entry_of (raw_entries.Kept text ∷ xs) i g at = let (j, there) = entry_of xs i g at in (suc j, there)
entry_of (raw_entries.Function h ∷ xs) zero g at = (0, ap (λ r. Some (raw_entries.Function r)) (some_same at))
entry_of (raw_entries.Function h ∷ xs) (suc i) g at = let (j, there) = entry_of xs i g at in (suc j, there)

-- an entry for which a function is written is a function of its name
function_of : (g : RawFunction) (e : Entry) → WritesEntry (raw_entries.Function g) e → (f : Function) × (e ≡ entries.Function f) × (f.name ≡ g.name)
function_of g (entries.Kept line) h = absurd h
function_of g (entries.Function f) h = (f, refl, h.means.name)

module _ (raw : RawModule) (m : Module) (writes : WritesModule raw m) (meets : ModuleMeetsChecks m) where
  -- no function before a function has its name
  first_of_name : (k : ℕ) (f : Function) → slice_get m.entries k ≡ Some (entries.Function f) → ¬ HasNameOf (functions_of (take k raw.entries)) f.name
  first_of_name k f at (i, g, there, named) =
      let (j, in_front) = entry_of (take k raw.entries) i g there in
      let (l, lt, g_at) = place_before k raw.entries (raw_entries.Function g) (contained_at (take k raw.entries) j (raw_entries.Function g) in_front) in
      let (e, e_at, written) = pair_of_first WritesEntry raw.entries m.entries l (raw_entries.Function g) writes g_at in
      let (other, is, name) = function_of g e written in
      let one : l ≡ k = meets.names l k other f (e_at ∙ ap Some is) at (name ∙ named) in
      omega arith

  entry_read : (k : ℕ) (r : RawEntry) (e : Entry) → slice_get m.entries k ≡ Some e → WritesEntry r e → IsEntryOf (functions_of (take k raw.entries)) r e
  entry_read k (raw_entries.Kept written) (entries.Kept line) at h = h
  entry_read k (raw_entries.Function r) (entries.Function f) at h = functions_mean (functions_of (take k raw.entries)) r f h (meets.functions k f at) (first_of_name k f at)
  entry_read k r e at h = absurd h

pub modules_read : CanonicalModulesRead
modules_read raw m writes meets = record {
  count = AllZip-long WritesEntry raw.entries m.entries writes;
  each = λ k r e r_at e_at.
      let (d, d_at, written) = pair_of_first WritesEntry raw.entries m.entries k r writes r_at in
      let same : d ≡ e = some_same (sym d_at ∙ e_at) in
      entry_read raw m writes meets k r e e_at (subst (WritesEntry r) same written);
}

pub texts_read : PrintedTextsSpell → PrintedTextsRead
texts_read spell m forms meets few =
    let (raw, is_raw, writes) = spell m forms meets few in
    record { raw = raw; is_raw = is_raw; entries = modules_read raw m writes meets }
