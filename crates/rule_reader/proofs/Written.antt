-- Rules as the parser gives them are well formed.
use Rattle.rule_reader.proofs.Common.{◌≡◌, inl, inr, ℕ, zero, suc, ◌≤◌, List, [], ◌∷◌, ◌++◌, length, append_assoc, Some, subst, arith, slice_get, Contains, flat_map, codes, same_Some, line_of, RawNode, RawRule, RawPrecondition, RawWitness, RawStatement, Copy, RawOperand, SpellsArgument, SpellsOperand, SpellsOp, SpellsStatement, SpellsStatements, SpellsHalf, SpellsPrecondition, SpellsWitness, SpellsRule, SpellsRules, SpellsVersion, IsWritten, raw_weight, small_rules, at_start, Token, Line, Head, Arrow, AtToken, Each, arguments_of, terms_of_formula, formula_of, target_terms, terms_of, expressions_of, AreInLineOrder, MayStandInSource, IsHalf, IsTerm, IsWellFormed, Version, rule_limits}
use Rattle.rule_parse.specs.declared.raw.RawArgument.TheVariants as raw_arguments
use Rattle.rule_reader.proofs.Members.{each_in, each_append, each_flat}
use Rattle.rule_reader.proofs.LineOrder.{Ascend, skip, up_from, none_at, ordered, headed}
use Rattle.rule_reader.proofs.SpelledTerms.{IsConstantNode, may_stand, IsConstantTerm, formula_behind, formula_terms, expression_terms}
use Rattle.rule_reader.proofs.OneUses.{precondition_outer, formula_weighs}
use Rattle.rule_reader.proofs.Spelled.{argument_spelled, short_alone, term_operand, spelled_terms, written_flags, no_copies}

-- the grammar spells each statement of a half
spelled_at : (version : Version) (half : _) (ss : List RawStatement) (tokens : List Token) (k : ℕ) (s : RawStatement) → SpellsStatements rule_limits version half ss tokens → slice_get ss k ≡ Some s → (own : List Token) × SpellsStatement rule_limits version half s own
spelled_at version half [] tokens k s is at = absurd (none_at k s at)
spelled_at version half (s ∷ ss) tokens zero t (own, rest, spelled, others, is) at = (own, subst (λ x. SpellsStatement rule_limits version half x own) (same_Some s t at) spelled)
spelled_at version half (s ∷ ss) tokens (suc k) t (own, rest, spelled, others, is) at = spelled_at version half ss rest k t others at

is_half : (version : Version) (half : _) → ((a : RawOperand) (tokens : List Token) → SpellsOp rule_limits version half (Copy a) tokens → SpellsOperand rule_limits half a tokens) → ((name : List ℕ) (tokens : List Token) → SpellsArgument rule_limits half (raw_arguments.Constant name) tokens → length name ≤ 200) → (ss : List RawStatement) (tokens : List Token) → SpellsHalf rule_limits version half ss tokens → AreInLineOrder ss → IsHalf ss
is_half version half copies constants ss tokens spelled in_order =
    record {
      some = spelled.some;
      few = spelled.most;
      in_order = in_order;
      short_names = λ k s at. (spelled_at version half ss tokens k s spelled.spelled at).1.name;
      short_uses = λ k s name at uses. let own = (spelled_at version half ss tokens k s spelled.spelled at).1 in (argument_spelled version half copies s.op own.op (raw_arguments.Register name) own.is_op uses).1.0;
      short_constants = λ k s name at names. let own = (spelled_at version half ss tokens k s spelled.spelled at).1 in
          let named = argument_spelled version half copies s.op own.op (raw_arguments.Constant name) own.is_op names in
          constants name named.0 named.1;
      flags_fit = λ k s at. let own = (spelled_at version half ss tokens k s spelled.spelled at).1 in written_flags version half s.op own.op own.is_op;
    }

source_ops : (version : Version) (half : _) → ((a : RawOperand) (tokens : List Token) → ¬ (SpellsOp rule_limits version) half (Copy a) tokens) → (ss : List RawStatement) (tokens : List Token) → SpellsHalf rule_limits version half ss tokens → (k : ℕ) (s : RawStatement) → slice_get ss k ≡ Some s → MayStandInSource s.op
source_ops version half none ss tokens spelled k s at = let own = (spelled_at version half ss tokens k s spelled.spelled at).1 in no_copies version half none s.op own.op own.is_op

source_arguments : (version : Version) (half : _) → ((a : RawOperand) (tokens : List Token) → ¬ (SpellsOp rule_limits version) half (Copy a) tokens) → ((t : List RawNode) (tokens : List Token) → ¬ (SpellsArgument rule_limits) half (raw_arguments.Term t) tokens) → (ss : List RawStatement) (tokens : List Token) → SpellsHalf rule_limits version half ss tokens → (k : ℕ) (s : RawStatement) (t : List RawNode) → slice_get ss k ≡ Some s → ¬ Contains (arguments_of s.op) (raw_arguments.Term t)
source_arguments version half none never ss tokens spelled k s t at among =
    let own = (spelled_at version half ss tokens k s spelled.spelled at).1 in
    let term = argument_spelled version half (λ a own' copy. absurd (none a own' copy)) s.op own.op (raw_arguments.Term t) own.is_op among in
    never t term.0 term.1

-- the constant terms of a rule
all_terms : (version : Version) (raw : RawRule) (tokens : List Token) → SpellsRule rule_limits version raw tokens → Each IsConstantTerm (terms_of raw)
all_terms version raw tokens spelled =
    each_append IsConstantTerm (target_terms raw) (flat_map terms_of_formula (formula_of raw))
    (spelled_terms version _ (λ a own copy. copy) term_operand raw.target spelled.target spelled.is_target)
    (each_flat IsConstantTerm terms_of_formula (formula_of raw) (formula_terms raw.precondition spelled.precondition spelled.is_precondition))

-- the order of lines over parts one behind the other
behind_part : (low : ℕ) (xs ys zs : List Token) → Ascend low ((xs ++ ys) ++ zs) → Ascend low (xs ++ (ys ++ zs))
behind_part low xs ys zs up = subst (λ l. Ascend low l) (append_assoc xs ys zs) up

well_formed : (version : Version) (low : ℕ) (raw : RawRule) (tokens behind : List Token) → SpellsRule rule_limits version raw tokens → raw_weight raw ≤ 256 → Ascend low (tokens ++ behind) → IsWellFormed raw
unfolding Ascend
well_formed version low raw tokens behind spelled small up =
    let halves = spelled.source ++ Line spelled.arrow_line ∷ Arrow ∷ spelled.target in
    let start = subst (λ l. Ascend low (l ++ behind)) spelled.spelled up in
    let pre = headed (λ (p : RawPrecondition). p.line) (SpellsPrecondition rule_limits) raw.line raw.precondition spelled.precondition ((spelled.witness ++ halves) ++ behind) (λ p own s. (Head (codes "Pre:") ∷ s.0, s.2)) spelled.is_precondition
    (behind_part raw.line spelled.precondition (spelled.witness ++ halves) behind start.1) in
    let wit = headed (λ (w : RawWitness). w.line) (SpellsWitness rule_limits) pre.last raw.witness spelled.witness (halves ++ behind) (λ w own s. (Head (codes "Wit:") ∷ s.0, s.2)) spelled.is_witness
    (behind_part pre.last spelled.witness halves behind pre.goes_on) in
    let source = ordered version _ wit.last raw.source spelled.source (Line spelled.arrow_line ∷ Arrow ∷ (spelled.target ++ behind)) spelled.is_source.spelled
    (behind_part wit.last spelled.source (Line spelled.arrow_line ∷ Arrow ∷ spelled.target) behind wit.goes_on) in
    let target = ordered version _ spelled.arrow_line raw.target spelled.target behind spelled.is_target.spelled source.goes_on.1 in
    let constant_terms = all_terms version raw tokens spelled in
    let expressions = expression_terms raw.witness spelled.witness spelled.is_witness in
    record {
      short_name = spelled.name.1;
      source = is_half version _ (λ a own never. absurd never) (λ name own s. s.1) raw.source spelled.source spelled.is_source source.in_order;
      target = is_half version _ (λ a own copy. copy) short_alone raw.target spelled.target spelled.is_target target.in_order;
      name_first = λ k s at. let le : wit.last ≤ s.line = source.not_before k s at in omega (arith, pre.reaches, wit.reaches);
      precondition_first = λ p k s is at. let le : wit.last ≤ s.line = source.not_before k s at in let le' : p.line ≤ pre.last = pre.not_behind p is in omega (arith, wit.reaches);
      precondition_before = λ p w is is'. let le : p.line ≤ pre.last = pre.not_behind p is in let le' : pre.last ≤ w.line = wit.not_before w is' in omega arith;
      witness_first = λ w k s is at. let le : wit.last ≤ s.line = source.not_before k s at in let le' : w.line ≤ wit.last = wit.not_behind w is in omega arith;
      source_first = λ j k s t at at'. let le : s.line ≤ source.last = source.not_behind j s at in let le' : spelled.arrow_line ≤ t.line = target.not_before k t at' in omega (arith, source.goes_on.0);
      source_ops = source_ops version _ (λ a own never. never) raw.source spelled.source spelled.is_source;
      source_arguments = source_arguments version _ (λ a own never. never) (λ t own never. never) raw.source spelled.source spelled.is_source;
      terms = λ t among. (each_in IsConstantTerm (terms_of raw) t constant_terms among).0;
      constant_terms = λ t node among within. may_stand node (each_in IsConstantNode t node (each_in IsConstantTerm (terms_of raw) t constant_terms among).1 within);
      expressions = λ t among. each_in IsTerm (expressions_of raw) t expressions among;
      formula = formula_behind raw.precondition spelled.precondition spelled.is_precondition;
      outer = precondition_outer raw.precondition spelled.precondition spelled.is_precondition (omega (arith, small, formula_weighs (formula_of raw)));
      weight = small;
    }

rules_well_formed : (version : Version) (low : ℕ) (raws : List RawRule) (tokens : List Token) → SpellsRules rule_limits version raws tokens → Ascend low tokens → (k : ℕ) (raw : RawRule) → slice_get raws k ≡ Some raw → raw_weight raw ≤ 256 → IsWellFormed raw
rules_well_formed version low [] tokens spelled up k raw at small = absurd (none_at k raw at)
rules_well_formed version low (rule ∷ rules) tokens (own, rest, spelled, others, is) up zero raw at small =
    well_formed version low raw own rest (subst (λ r. SpellsRule rule_limits version r own) (same_Some rule raw at) spelled) small (subst (Ascend low) is up)
rules_well_formed version low (rule ∷ rules) tokens (own, rest, spelled, others, is) up (suc k) raw at small =
    let (m, le, later) = skip low own rest (subst (Ascend low) is up) in
    rules_well_formed version m rules rest others later k raw at small

-- the order of lines of the rules behind the version's line
behind_version : (version : Version) (front back : List Token) (low : ℕ) → SpellsVersion version front → Ascend low (front ++ back) → (m : ℕ) × (low ≤ m) × Ascend m back
behind_version version front back low (inl line) up = skip low front back up
behind_version version front back low (inr (one, none)) up = (low, omega arith, subst (λ l. Ascend low (l ++ back)) none up)

-- each rule of a text as written is well formed
pub written_well_formed : (text : List ℕ) (raws : List RawRule) → IsWritten text raws → (k : ℕ) (raw : RawRule) → slice_get raws k ≡ Some raw → IsWellFormed raw
written_well_formed text raws written k raw at =
    let up = up_from text (AtToken at_start) 0 0 written.last written.tokens written.are_tokens in
    let (version, (front, back, is_version, spelled, whole)) = written.spelled in
    let (low, le, later) = behind_version version front back (line_of text 0) is_version (subst (Ascend (line_of text 0)) whole up) in
    rules_well_formed version low raws back spelled later k raw at (small_rules text raws written k raw at)
