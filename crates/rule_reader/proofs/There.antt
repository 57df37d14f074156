-- Where the check of unbound names passes, all names may be used where they are.
use Rattle.rule_reader.proofs.Common.{◌≡◌, ◌⊎◌, inl, inr, ℕ, zero, suc, ◌<◌, List, [], ◌∷◌, length, Option, Some, None, refl, subst, arith, slice_get, Contains, flat_map, slice_get_within, same_Some, option_map_or, RawRule, RawStatement, RawArgument, RawNode, RawFormula, RawPrecondition, RawWitness, stable, Contains-from_get, arguments_of, arguments_among, formula_of, target_terms, terms_of, terms_of_argument, terms_of_formula, Each, NodeIsBound, ArgumentIsBound, FormulaIsBound, TermIsBound, UnboundAt, NamesAreThere}
use Rattle.rule_parse.specs.declared.raw.RawArgument.TheVariants as raw_arguments
use Rattle.rule_terms.specs.declared.raw.RawFormula.TheVariants as raw_formulas
use Rattle.rule_reader.specs.declared.place.UseSite.TheVariants as places
use Rattle.rule_reader.proofs.Places.{at_append, somewhere}
use Rattle.rule_reader.proofs.Members.{each_in, each_at, flat_at}
use Rattle.rule_reader.proofs.NameDecisions.{dec_each, dec_formula, dec_term, dec_op}

module _ (raw : RawRule) (none : (line : ℕ) → ¬ UnboundAt raw line) where
  formula_there : (p : Option RawPrecondition) → raw.precondition ≡ p → Each (FormulaIsBound raw) (option_map_or (λ p. p.formula) p [])
  formula_there None is = tt
  formula_there (Some p) is = stable (dec_each (FormulaIsBound raw) (dec_formula raw) p.formula) (λ not. none p.line (inl (p, is, not, refl)))

  expressions_there : (w : Option RawWitness) → raw.witness ≡ w → Each (TermIsBound raw places.Heading) (option_map_or (λ w. w.expressions) w [])
  expressions_there None is = tt
  expressions_there (Some w) is = stable (dec_each (TermIsBound raw places.Heading) (dec_term raw places.Heading) w.expressions) (λ not. none w.line (inr (inl (w, is, not, refl))))

  pub names_there : NamesAreThere raw
  names_there =
      record {
        precondition = formula_there raw.precondition refl;
        witness = expressions_there raw.witness refl;
        source = λ k s at. stable (dec_op raw (places.Source k) s.op) (λ not. none s.line (inr (inr (inl (k, s, at, not, refl)))));
        target = λ k s at. stable (dec_op raw (places.Target k) s.op) (λ not. none s.line (inr (inr (inr (k, s, at, not, refl)))));
      }

-- what a node of a constant term names may be used, in some target statement or in `Pre:`
abbrev pub IsThere : RawRule → RawNode → Type 0
IsThere raw node = ((j : ℕ) × (j < length raw.target) × NodeIsBound raw (places.Target j) node) ⊎ NodeIsBound raw places.Heading node

module _ (raw : RawRule) (there : NamesAreThere raw) where
  target_term : (t : List RawNode) (node : RawNode) → Contains (target_terms raw) t → Contains t node → IsThere raw node
  target_term t node among inside =
      let (q, at) = somewhere (target_terms raw) t among in
      let (p, a, at', here) = flat_at terms_of_argument (arguments_among raw.target) q t at in
      let (k, w, at'', among') = flat_at (λ (s : RawStatement). arguments_of s.op) raw.target p a at' in
      inl (k, slice_get_within raw.target k w at'', each_in (NodeIsBound raw (places.Target k)) t node (term_bound k a t here (each_in (ArgumentIsBound raw (places.Target k)) (arguments_of w.op) a (there.target k w at'') among')) inside)
    where
      term_bound : (k : ℕ) (a : RawArgument) (t : List RawNode) → Contains (terms_of_argument a) t → ArgumentIsBound raw (places.Target k) a → TermIsBound raw (places.Target k) t
      term_bound k (raw_arguments.Term u) t among is = let (i, at) = somewhere (u ∷ []) t among in elim i as (λ n. slice_get (u ∷ []) n ≡ Some t → TermIsBound raw (places.Target k) t) [ zero ↦ λ e. subst (TermIsBound raw (places.Target k)) (same_Some u t e) is | suc zero ↦ λ e. absurd (cc) | suc (suc n) ↦ λ e. absurd (cc) ] at
      term_bound k a t (i, within, e) is = absurd (omega arith)

  pub term_there : (t : List RawNode) (node : RawNode) → Contains (terms_of raw) t → Contains t node → IsThere raw node
  term_there t node among inside =
      let (q, at) = somewhere (terms_of raw) t among in
      elim (at_append (target_terms raw) (flat_map terms_of_formula (formula_of raw)) q t at) [
        | inl here ↦ target_term t node (Contains-from_get (target_terms raw) q t here) inside
        | inr (j, is, here) ↦
            let (k, f, at', among') = flat_at terms_of_formula (formula_of raw) j t here in
            inr (each_in (NodeIsBound raw places.Heading) t node (formula_term f t among' (each_at (FormulaIsBound raw) (formula_of raw) k f there.precondition at')) inside)
      ]
    where
      one_of : (u v t : List RawNode) → Contains (u ∷ v ∷ []) t → (u ≡ t) ⊎ (v ≡ t)
      one_of u v t (zero, within, e) = inl e
      one_of u v t (suc zero, within, e) = inr e
      one_of u v t (suc (suc n), within, e) = absurd (omega arith)

      only : (u t : List RawNode) → Contains (u ∷ []) t → u ≡ t
      only u t (zero, within, e) = e
      only u t (suc n, within, e) = absurd (omega arith)

      formula_term : (f : RawFormula) (t : List RawNode) → Contains (terms_of_formula f) t → FormulaIsBound raw f → TermIsBound raw places.Heading t
      formula_term (raw_formulas.Compare pred u v) t among is = elim (one_of u v t among) [ inl e ↦ subst (TermIsBound raw places.Heading) e is.0 | inr e ↦ subst (TermIsBound raw places.Heading) e is.1 ]
      formula_term (raw_formulas.IsPowerOfTwo u) t among is = subst (TermIsBound raw places.Heading) (only u t among) is
      formula_term (raw_formulas.IsSignBit u) t among is = subst (TermIsBound raw places.Heading) (only u t among) is
      formula_term (raw_formulas.MaskedValueIsZero name u) t among is = subst (TermIsBound raw places.Heading) (only u t among) is.1
      formula_term f t (i, within, e) is = absurd (omega arith)
