-- A module that is read of a text of bytes has the forms of a module.
use Rattle.ir_round_trip.proofs.Common.{ℕ, ◌≤◌, List, take, get_or, sym, subst, arith, All, AllByRecursion, slice_get-get_or, Module, Entry, RawEntry, RawFunction, IsEntryOf, IsModuleText, functions_of, there, LexemesAreTokens, EntryHasForms, ModuleHasForms, IsKeptText}
use Rattle.ir_core.specs.declared.module.Entry.TheVariants as entries
use Rattle.ir_tokens.specs.declared.raw.RawEntry.TheVariants as raw_entries
use Rattle.ir_round_trip.proofs.Every.{all_every, every_at}
use Rattle.ir_round_trip.proofs.MeantForms.{function_has_forms}
use Rattle.ir_round_trip.proofs.ModuleForms.{EntryFormed, entries_formed}
use Rattle.ir_round_trip.proofs.TextForms.{tokens_formed}

entry_has_forms : (earlier : List RawFunction) (raw : RawEntry) (entry : Entry) → IsEntryOf earlier raw entry → EntryFormed raw → EntryHasForms entry
entry_has_forms earlier (raw_entries.Kept written) (entries.Kept text) is formed = subst IsKeptText (sym is) formed
entry_has_forms earlier (raw_entries.Function raw) (entries.Function f) is formed = function_has_forms raw f is.resolved.1 formed
entry_has_forms earlier (raw_entries.Kept written) (entries.Function f) is formed = absurd is
entry_has_forms earlier (raw_entries.Function raw) (entries.Kept text) is formed = absurd is

pub modules_have_forms : LexemesAreTokens → (text : List ℕ) (m : Module) → All (λ b. b ≤ 255) text → IsModuleText text m → ModuleHasForms m
modules_have_forms law text m bytes is k d within =
    let formed = tokens_formed (all_every (λ b. b ≤ 255) text bytes) is.is_raw.are_tokens in
    let all : AllByRecursion EntryFormed is.raw.entries = (entries_formed law is.raw.entries is.is_raw.tokens is.is_raw.spelled.1.0 is.is_raw.spelled.1.1 formed).1 in
    let entry : Entry = get_or m.entries k d in
    let (raw, here) = there is.raw.entries k (omega (arith, is.entries.count)) in
    entry_has_forms (functions_of (take k is.raw.entries)) raw entry (is.entries.each k raw entry here (slice_get-get_or m.entries k d within)) (every_at EntryFormed is.raw.entries k raw all here)
