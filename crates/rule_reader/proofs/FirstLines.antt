-- The first line on which a check of a rule as written fails exists, or the check passes.
use Rattle.rule_reader.proofs.Common.{◌≡◌, ◌⊎◌, inl, inr, ℕ, zero, suc, ◌+◌, ◌≤◌, List, length, Option, None, Some, refl, sym, ◌∙◌, arith, cases_lt, RawRule, RawStatement, dec_both, dec_either, dec_not, dec_number, dec_place, AreInLineOrder, IsWellFormed, FormulaIsBound, TermIsBound, StandsAt, HasNameOf, AssignsAgain, DuplicateAt, StatementUnbound, PreconditionUnbound, WitnessUnbound, UnboundAt, MissesRoot, RootMissingAt, RedefinesAt, IsUnused, UnusedTempAt, HasUndefInside, ReadsUndefAlone, UndefInsideAt, WitnessCountAt, witness_line, IsFirst, RawPrecondition, RawWitness, expressions_of, in_half}
use Rattle.rule_reader.specs.declared.place.UseSite.TheVariants as places
use Rattle.rule_reader.specs.FaultKinds.{Redefines}
use Rattle.rule_reader.proofs.Stable.{same_number}
use Rattle.rule_reader.proofs.Places.{there}
use Rattle.rule_reader.proofs.Firsts.{NoneBefore, first_here, first_none, none_more, first_left, first_right, first_none_of, lines_before}
use Rattle.rule_reader.proofs.Assignments.{Again, name_line_first}
use Rattle.rule_reader.proofs.NameDecisions.{dec_name, dec_assigned_before, dec_temporary, dec_root, dec_input, dec_each, dec_op, dec_formula, dec_term, dec_unused, dec_undef_inside, dec_undef_alone}
use Rattle.rule_reader.proofs.Unbound.{InSource, InTarget, in_precondition, in_witness, in_source, in_target, one_precondition, bound_precondition, one_witness, bound_witness}

-- there is a first line, or none at all
abbrev pub FirstOf : (ℕ → Type 0) → Type 0
FirstOf Holds = (found : Option ℕ) × IsFirst Holds found

module _ (statements : List RawStatement) (Q : ℕ → RawStatement → Type 0) (ordered : AreInLineOrder statements) (each : (k : ℕ) (s : RawStatement) → Dec (Q k s)) where
  from : (left place : ℕ) → NoneBefore statements Q place → length statements ≤ place + left → FirstOf (StandsAt statements Q)
  from zero place none past = (None, first_none statements Q (λ k s lt at. none k s (omega arith) at))
  from (suc left) place none past = elim (cases_lt place (length statements)) [
    | inr behind ↦ (None, first_none statements Q (λ k s lt at. none k s (omega arith) at))
    | inl within ↦
        let (s, at) = there statements place within in
        elim (each place s) [
          | yes here ↦ (Some s.line, first_here statements Q place s ordered none at here)
          | no not_here ↦ from left (place + 1) (none_more statements Q place s none at not_here) (omega arith)
        ]
  ]

  first_of : FirstOf (StandsAt statements Q)
  first_of = from (length statements) 0 (λ k s lt at. absurd (omega arith)) (omega arith)

-- the first line of two kinds, where those of the one come before those of the other
first_of_two : (P R : ℕ → Type 0) → FirstOf P → FirstOf R → ((l m : ℕ) → P l → R m → l ≤ m) → FirstOf (λ l. P l ⊎ R l)
first_of_two P R (Some line, first) second before = (Some line, first_left P R line first before)
first_of_two P R (None, none) (Some line, first) before = (Some line, first_right P R line none first)
first_of_two P R (None, none) (None, none') before = (None, first_none_of P R none none')

-- ---- checks

module _ (raw : RawRule) (well : IsWellFormed raw) where
  dec_named : (earlier : List RawRule) → FirstOf (λ l. HasNameOf earlier raw.name × (raw.line ≡ l))
  dec_named earlier = elim (dec_place (λ k other. other.name ≡ raw.name) earlier (λ k other. dec_name other.name raw.name)) [
    | yes named ↦ (Some raw.line, ((named, refl), λ other h. omega (arith, h.1)))
    | no unnamed ↦ (None, λ line h. unnamed h.0)
  ]

  pub first_duplicate : (earlier : List RawRule) → FirstOf (DuplicateAt earlier raw)
  first_duplicate earlier =
      let again : (statements : List RawStatement) → AreInLineOrder statements → FirstOf (StandsAt statements (AssignsAgain statements)) =
      λ statements ordered. first_of statements (AssignsAgain statements) ordered (λ k s. dec_assigned_before statements k s.name) in
      first_of_two (λ l. HasNameOf earlier raw.name × (raw.line ≡ l)) (Again earlier raw well) (dec_named earlier)
      (first_of_two (StandsAt raw.source (AssignsAgain raw.source)) (StandsAt raw.target (AssignsAgain raw.target)) (again raw.source well.source.in_order) (again raw.target well.target.in_order)
      (lines_before raw.source raw.target (AssignsAgain raw.source) (AssignsAgain raw.target) well.source_first))
      (name_line_first earlier raw well)

  first_precondition : (p : Option RawPrecondition) → raw.precondition ≡ p → FirstOf (PreconditionUnbound raw)
  first_precondition None is = (None, λ line (p, is', not, e). absurd (let e : None ≡ Some p = sym is ∙ is' in cc))
  first_precondition (Some p) is = elim (dec_each (FormulaIsBound raw) (dec_formula raw) p.formula) [
    | yes each ↦ (None, bound_precondition raw p is each)
    | no not ↦ (Some p.line, one_precondition raw p is not)
  ]

  first_witness : (w : Option RawWitness) → raw.witness ≡ w → FirstOf (WitnessUnbound raw)
  first_witness None is = (None, λ line (w, is', not, e). absurd (let e : None ≡ Some w = sym is ∙ is' in cc))
  first_witness (Some w) is = elim (dec_each (TermIsBound raw places.Heading) (dec_term raw places.Heading) w.expressions) [
    | yes each ↦ (None, bound_witness raw w is each)
    | no not ↦ (Some w.line, one_witness raw w is not)
  ]

  unbound_of : FirstOf (PreconditionUnbound raw) → FirstOf (WitnessUnbound raw) → FirstOf (InSource raw well) → FirstOf (InTarget raw well) → FirstOf (UnboundAt raw)
  unbound_of (Some line, first) w s t = (Some line, in_precondition raw well line first)
  unbound_of (None, none) (Some line, first) s t = (Some line, in_witness raw well line none first)
  unbound_of (None, none) (None, none') (Some line, first) t = (Some line, in_source raw well line none none' first)
  unbound_of (None, none) (None, none') (None, none'') (found, first) = (found, in_target raw well found none none' none'' first)

  pub first_unbound : FirstOf (UnboundAt raw)
  first_unbound =
      unbound_of (first_precondition raw.precondition refl) (first_witness raw.witness refl)
      (first_of raw.source (StatementUnbound raw (λ k. places.Source k)) well.source.in_order (λ k s. dec_not (dec_op raw (places.Source k) s.op)))
      (first_of raw.target (StatementUnbound raw (λ k. places.Target k)) well.target.in_order (λ k s. dec_not (dec_op raw (places.Target k) s.op)))

  pub first_undef_inside : FirstOf (UndefInsideAt raw)
  first_undef_inside =
      first_of_two (StandsAt raw.source (HasUndefInside raw.source)) (StandsAt raw.target (λ k s. ReadsUndefAlone s.op))
      (first_of raw.source (HasUndefInside raw.source) well.source.in_order (dec_undef_inside raw.source))
      (first_of raw.target (λ k s. ReadsUndefAlone s.op) well.target.in_order (λ k s. dec_undef_alone s.op))
      (lines_before raw.source raw.target (HasUndefInside raw.source) (λ k s. ReadsUndefAlone s.op) well.source_first)

  pub first_witness_count : FirstOf (WitnessCountAt raw)
  first_witness_count = elim (same_number (length (expressions_of raw)) (in_half raw.source).choices) [
    | inl same ↦ (None, λ line h. h.0 same)
    | inr differ ↦ (Some (witness_line raw), ((differ, refl), λ other h. omega (arith, h.1)))
  ]

  pub first_missing_root : FirstOf (RootMissingAt raw)
  first_missing_root =
      first_of raw.target (MissesRoot raw) well.target.in_order (λ k s. dec_both (dec_number (suc k) (length raw.target)) (dec_not (dec_root raw.source s.name)))

  pub first_redefined : FirstOf (RedefinesAt raw)
  first_redefined = first_of raw.target (Redefines raw.source) well.target.in_order (λ k s. dec_either (dec_input raw.source s.name) (dec_temporary raw.source s.name))

  pub first_unused : FirstOf (UnusedTempAt raw.source)
  first_unused = first_of raw.source (IsUnused raw.source) well.source.in_order (dec_unused raw.source)
