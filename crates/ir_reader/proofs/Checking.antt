-- The checks of a function one by one: what holds if none has failed so far, and which fault is the first.
use Rattle.ir_reader.proofs.Common.{◌≡◌, ℕ, Bool, List, refl, Function, ReadsAreAssigned, Names, RawFunction, Fault, IrFaultKind, HasNoFault, MarksFunction, IsFirstNameFault, IsFirstLine, Means, InstMeans, Calls, Refusal, IfRefused, BadPhiAt, EntryPredAt, IsUnassignedFault, ResolvesTo, NoLineHas, IsFunctionOf, IsFaultOfFunction, of_names, bad_phi, entry_pred, unassigned, IsWellWritten, stable}
use Rattle.ir_tokens.specs.declared.fault.IrFaultKind.TheVariants as kinds
use Rattle.refusal.specs.declared.refusal.Refusal.TheVariants as errors
use Rattle.ir_reader.proofs.CheckLemmas.{meets}
use Rattle.ir_reader.proofs.Formed.{PhisFit}
use Rattle.ir_reader.proofs.Meaning.{block_written}
use Rattle.ir_reader.proofs.Places.{zip_right}
use Rattle.ir_reader.proofs.Fitting.{dec_fits}

-- P holds of all lists of earlier functions for which the mark is right
abbrev pub ForEarlier : Bool → RawFunction → (List RawFunction → Type 0) → Type 0
ForEarlier is_repeated raw P = (earlier : List RawFunction) → MarksFunction is_repeated earlier raw → P earlier

-- P holds of all lists of earlier functions behind which this one has no fault of names or types
abbrev pub WhereFaultless : RawFunction → (List RawFunction → Type 0) → Type 0
WhereFaultless raw P = (earlier : List RawFunction) → HasNoFault earlier raw → P earlier

module _ (is_repeated : Bool) (raw : RawFunction) where
  pub names_fault : (e : Refusal (Fault IrFaultKind)) → IfRefused e (λ fault. ForEarlier is_repeated raw (λ earlier. IsFirstNameFault earlier raw fault)) → IfRefused e (λ fault. ForEarlier is_repeated raw (λ earlier. IsFaultOfFunction earlier raw fault))
  names_fault (errors.Refused fault) first = λ earlier marks. of_names (first earlier marks)
  names_fault errors.NoMemory first = tt

  pub checked_fault : (e : Refusal (Fault IrFaultKind)) → ForEarlier is_repeated raw (λ earlier. HasNoFault earlier raw)
      → IfRefused e (λ fault. WhereFaultless raw (λ earlier. IsFaultOfFunction earlier raw fault)) → IfRefused e (λ fault. ForEarlier is_repeated raw (λ earlier. IsFaultOfFunction earlier raw fault))
  checked_fault (errors.Refused fault) faultless is = λ earlier marks. is earlier (faultless earlier marks)
  checked_fault errors.NoMemory faultless is = tt

module _ (raw : RawFunction) (f : Function) (means : Means raw f) where
  pub phis_fit : NoLineHas (BadPhiAt raw f) → PhisFit f
  phis_fit none b k inst is =
      let (w, w_at, block_is) = block_written raw f means b is.block is.is_block in
      let (written, there, all) = zip_right (InstMeans (Calls raw)) w.insts is.block.insts k inst block_is.1 is.is_inst in
      stable (dec_fits f b k inst.op) (λ bad. none written.result.line (b, k, ((inst, is, bad), (written, (w, w_at, there), refl))))

  pub entry_free : NoLineHas (EntryPredAt raw f) → (b : ℕ) → ¬ Names f b 0
  entry_free none b names =
      let (w, w_at, block_is) = block_written raw f means b names.0 names.1 in
      none w.end_line (b, (names, (w, w_at, refl)))

module _ (raw : RawFunction) (f : Function) (means : Means raw f) where
  pub bad_phi_fault : (line : ℕ) (e : Refusal (Fault IrFaultKind)) → e ≡ errors.Refused (record { line = line; kind = kinds.BadPhi }) → IsFirstLine (BadPhiAt raw f) line → IfRefused e (λ fault. WhereFaultless raw (λ earlier. IsFaultOfFunction earlier raw fault))
  bad_phi_fault line e is first = rw is (λ earlier faultless. bad_phi f (faultless, means) first)

  pub entry_fault : (line : ℕ) (e : Refusal (Fault IrFaultKind)) → e ≡ errors.Refused (record { line = line; kind = kinds.EntryPred }) → NoLineHas (BadPhiAt raw f) → IsFirstLine (EntryPredAt raw f) line
      → IfRefused e (λ fault. WhereFaultless raw (λ earlier. IsFaultOfFunction earlier raw fault))
  entry_fault line e is no_phi first = rw is (λ earlier faultless. entry_pred f (faultless, means) no_phi first)

  pub reads_fault : (e : Refusal (Fault IrFaultKind)) → NoLineHas (BadPhiAt raw f) → NoLineHas (EntryPredAt raw f) → IfRefused e (IsUnassignedFault raw f) → IfRefused e (λ fault. WhereFaultless raw (λ earlier. IsFaultOfFunction earlier raw fault))
  reads_fault (errors.Refused fault) no_phi no_entry first = λ earlier faultless. unassigned f (faultless, means) no_phi no_entry first
  reads_fault errors.NoMemory no_phi no_entry first = tt

  pub function_of : IsWellWritten raw → NoLineHas (BadPhiAt raw f) → NoLineHas (EntryPredAt raw f) → ReadsAreAssigned f → WhereFaultless raw (λ earlier. IsFunctionOf earlier raw f)
  function_of well no_phi no_entry assigned earlier faultless =
      let resolved : ResolvesTo earlier raw f = (faultless, means) in
      record { resolved = resolved; checks = meets earlier raw f well resolved (phis_fit raw f means no_phi) (entry_free raw f means no_entry) assigned }
