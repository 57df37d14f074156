-- Resolving a rule as written whose names may all be used where they are.
use Rattle.rule_reader.proofs.Common.{◌≡◌, ℕ, ◌+◌, ◌<◌, ◌≤◌, List, [], ◌∷◌, ◌++◌, length, Some, refl, sym, ap, subst, ◌∙◌, arith, take, drop, get_or, slice_get, Contains, flat_map, take-append-drop, take_all, flat_map-append, Contains-append_left, Contains-append_right, RawRule, RawStatement, RawArgument, Literal, Truth, Constant, Undef, RawNode, RawFormula, Contains-from_get, Contains-flat_map, Names, Counts, UseSite, Half, arguments_of, arguments_among, terms_of_argument, terms_of_formula, formula_of, target_terms, terms_of, nodes_in, past_all, counted_of, counted_among, no_counts, in_half, TermsMean, IsBehindOperands, AreInLineOrder, IsTerm, IsWellFormed, Each, ArgumentIsBound, TermIsBound, NodeIsBound, half_of, place_in, IsPlaceOf, HalfIsBound, AreFew, IsWhole, AreReady, NodeFits, HasReadyTerm, AddsTerms}
use Rattle.std.proofs.Common.{sum_by}
use Rattle.rule_parse.specs.declared.raw.RawArgument.TheVariants.{Register, Term}
use Rattle.rule_terms.specs.declared.raw.RawNode.TheVariants as raw_nodes
use Rattle.rule_core.specs.declared.rule.Term.{Term as Meant}
use Rattle.rule_reader.specs.declared.place.UseSite.TheVariants as places
use Rattle.rule_reader.specs.declared.place.Half.TheVariants as halves
use Rattle.rule_reader.proofs.Places.{read_at}
use Rattle.rule_reader.proofs.Members.{each_at, each_of}
use Rattle.rule_reader.proofs.Counting.{few_at, few_read, ready, arguments_more}
use Rattle.rule_reader.proofs.Nodes.{nodes_append, terms_length}
use Rattle.rule_reader.proofs.Weighing.{sum_cons, few_terms, few_in_target, few_in_source}

pub place_within : (raw : RawRule) (half : Half) (k : ℕ) → k < length (half_of half raw) → IsPlaceOf raw (place_in half k)
place_within raw halves.Source k within = omega arith
place_within raw halves.Target k within = omega arith

is_whole : (a : RawArgument) → ((t : List RawNode) → a ≡ Term t → IsTerm t) → IsWhole a
is_whole (Register name) all = tt
is_whole (Literal z) all = tt
is_whole (Truth b) all = tt
is_whole (Constant name) all = tt
is_whole Undef all = tt
is_whole (Term t) all = all t refl

-- a term that a target statement reads is one of the rule's
pub term_among : (raw : RawRule) (k : ℕ) (s : RawStatement) (t : List RawNode) → slice_get raw.target k ≡ Some s → Contains (arguments_of s.op) (Term t) → Contains (target_terms raw) t
term_among raw k s t at among =
    Contains-flat_map terms_of_argument (arguments_among raw.target) (Term t) t
    (Contains-flat_map (λ (s : RawStatement). arguments_of s.op) raw.target s (Term t) (Contains-from_get raw.target k s at) among) (Contains-from_get (t ∷ []) 0 t refl)

pub target_term : (raw : RawRule) (t : List RawNode) → Contains (target_terms raw) t → Contains (terms_of raw) t
target_term raw t among = Contains-append_left (target_terms raw) (flat_map terms_of_formula (formula_of raw)) t among

pub formula_term : (raw : RawRule) (k : ℕ) (f : RawFormula) (t : List RawNode) → slice_get (formula_of raw) k ≡ Some f → Contains (terms_of_formula f) t → Contains (terms_of raw) t
formula_term raw k f t at among =
    Contains-append_right (target_terms raw) (flat_map terms_of_formula (formula_of raw)) t (Contains-flat_map terms_of_formula (formula_of raw) f t (Contains-from_get (formula_of raw) k f at) among)

module _ (raw : RawRule) (well : IsWellFormed raw) where
  pub few_half : (half : Half) → AreFew (in_half (half_of half raw))
  few_half halves.Source = few_in_source raw well
  few_half halves.Target = few_in_target raw well

  pub whole_half : (half : Half) (k : ℕ) (s : RawStatement) → slice_get (half_of half raw) k ≡ Some s → Each IsWhole (arguments_of s.op)
  whole_half halves.Source k s at = each_of IsWhole (arguments_of s.op) (λ a among. is_whole a (λ t is. absurd (well.source_arguments k s t at (subst (Contains (arguments_of s.op)) is among))))
  whole_half halves.Target k s at =
      each_of IsWhole (arguments_of s.op) (λ a among. is_whole a (λ t is. well.terms t (target_term raw t (term_among raw k s t at (subst (Contains (arguments_of s.op)) is among)))))

  -- the operands of a statement can be resolved
  pub ready_at : (half : Half) (ws : List RawStatement) (k : ℕ) (s : RawStatement) (c : Counts) → HalfIsBound raw half → ws ≡ half_of half raw → k < length ws → s ≡ get_or ws k s → c ≡ past_all no_counts (counted_among (take k ws)) → AreReady raw (place_in half k) c (arguments_of s.op)
  ready_at half ws k s c bound is within item before =
      let at : slice_get (half_of half raw) k ≡ Some s = subst (λ l. slice_get l k ≡ Some s) is (read_at ws k s within item) in
      ready raw (place_in half k) c (arguments_of s.op) (bound k s at) (whole_half half k s at) (few_read c s.op (few_at ws k s c (subst (λ l. AreFew (in_half l)) (sym is) (few_half half)) within item before))

  pub few_past : (half : Half) (ws : List RawStatement) (k : ℕ) (s : RawStatement) (c : Counts) → ws ≡ half_of half raw → k < length ws → s ≡ get_or ws k s → c ≡ past_all no_counts (counted_among (take k ws)) → AreFew (past_all c (counted_of s.op))
  few_past half ws k s c is within item before = few_at ws k s c (subst (λ l. AreFew (in_half l)) (sym is) (few_half half)) within item before

  ready_term : (place : UseSite) (a : RawArgument) → ArgumentIsBound raw place a → IsWhole a → HasReadyTerm raw place a
  ready_term place (Register name) bound whole = tt
  ready_term place (Literal z) bound whole = tt
  ready_term place (Truth b) bound whole = tt
  ready_term place (Constant name) bound whole = tt
  ready_term place Undef bound whole = tt
  ready_term place (Term t) bound whole = (bound, whole)

  ready_terms : (place : UseSite) (xs : List RawArgument) → Each (ArgumentIsBound raw place) xs → Each IsWhole xs → Each (HasReadyTerm raw place) xs
  ready_terms place [] bound whole = tt
  ready_terms place (a ∷ xs) bound whole = (ready_term place a bound.0 whole.0, ready_terms place xs bound.1 whole.1)

  -- the terms of a target statement can be added
  pub terms_ready : (ws : List RawStatement) (k : ℕ) (s : RawStatement) → HalfIsBound raw halves.Target → ws ≡ raw.target → k < length ws → s ≡ get_or ws k s → Each (HasReadyTerm raw (places.Target k)) (arguments_of s.op)
  terms_ready ws k s bound is within item =
      let at : slice_get raw.target k ≡ Some s = subst (λ l. slice_get l k ≡ Some s) is (read_at ws k s within item) in
      ready_terms (places.Target k) (arguments_of s.op) (bound k s at) (whole_half halves.Target k s at)

-- the terms of the statements up to and with number k
abbrev pub terms_upto : List RawStatement → ℕ → List (List RawNode)
terms_upto ws k = flat_map terms_of_argument (arguments_among (take k ws))

pub terms_more : (ws : List RawStatement) (k : ℕ) (s : RawStatement) → k < length ws → s ≡ get_or ws k s → terms_upto ws (k + 1) ≡ terms_upto ws k ++ flat_map terms_of_argument (arguments_of s.op)
terms_more ws k s within item = ap (flat_map terms_of_argument) (arguments_more ws k s within item) ∙ flat_map-append terms_of_argument (arguments_among (take k ws)) (arguments_of s.op)

sum_nodes : (xs : List RawArgument) → sum_by (λ a. nodes_in (terms_of_argument a)) xs ≡ nodes_in (flat_map terms_of_argument xs)
sum_nodes [] = refl
sum_nodes (a ∷ xs) =
    sum_cons (λ (a : RawArgument). nodes_in (terms_of_argument a)) a xs ∙ ap (λ n. nodes_in (terms_of_argument a) + n) (sum_nodes xs) ∙ sym (nodes_append (terms_of_argument a) (flat_map terms_of_argument xs))

pub few_of_terms : (raw : RawRule) (names : Names) (ws : List RawStatement) (k : ℕ) (s : RawStatement) (terms : List Meant) → IsWellFormed raw → ws ≡ raw.target → k < length ws → s ≡ get_or ws k s → TermsMean raw names (terms_upto ws k) terms
    → length terms + sum_by (λ a. nodes_in (terms_of_argument a)) (arguments_of s.op) ≤ 256
few_of_terms raw names ws k s terms well is within item means =
    let f : RawStatement → List RawArgument = λ s. arguments_of s.op in
    let long = terms_length raw names (terms_upto ws k) terms means in
    let more = ap nodes_in (terms_more ws k s within item) ∙ nodes_append (terms_upto ws k) (flat_map terms_of_argument (arguments_of s.op)) in
    let parts : arguments_among ws ≡ arguments_among (take (k + 1) ws) ++ arguments_among (drop (k + 1) ws) = ap arguments_among (sym (take-append-drop (k + 1) ws)) ∙ flat_map-append f (take (k + 1) ws) (drop (k + 1) ws) in
    let rest : flat_map terms_of_argument (arguments_among ws) ≡ terms_upto ws (k + 1) ++ flat_map terms_of_argument (arguments_among (drop (k + 1) ws)) =
    ap (flat_map terms_of_argument) parts ∙ flat_map-append terms_of_argument (arguments_among (take (k + 1) ws)) (arguments_among (drop (k + 1) ws)) in
    let whole = ap nodes_in rest ∙ nodes_append (terms_upto ws (k + 1)) (flat_map terms_of_argument (arguments_among (drop (k + 1) ws))) in
    let target : nodes_in (flat_map terms_of_argument (arguments_among ws)) ≡ nodes_in (target_terms raw) = ap (λ l. nodes_in (flat_map terms_of_argument (arguments_among l))) is in
    let all = nodes_append (target_terms raw) (flat_map terms_of_formula (formula_of raw)) in
    let few : nodes_in (terms_of raw) ≤ 256 = few_terms raw well in
    omega (arith, long, more, whole, target, all, few, sum_nodes (arguments_of s.op))

pub more_terms : (raw : RawRule) (names : Names) (ws : List RawStatement) (k : ℕ) (s : RawStatement) (terms new : List Meant) → k < length ws → s ≡ get_or ws k s → TermsMean raw names (terms_upto ws k) terms → AddsTerms raw names terms (flat_map terms_of_argument (arguments_of s.op)) new → TermsMean raw names (terms_upto ws (k + 1)) new
more_terms raw names ws k s terms new within item means adds = subst (λ l. TermsMean raw names l new) (sym (terms_more ws k s within item)) (adds (terms_upto ws k) means)

pub all_terms : (raw : RawRule) (names : Names) (ws : List RawStatement) (k : ℕ) (terms : List Meant) → ws ≡ raw.target → length ws ≤ k → TermsMean raw names (terms_upto ws k) terms → TermsMean raw names (target_terms raw) terms
all_terms raw names ws k terms is past means = subst (λ l. TermsMean raw names (flat_map terms_of_argument (arguments_among l)) terms) is (subst (λ l. TermsMean raw names (flat_map terms_of_argument (arguments_among l)) terms) (take_all k ws past) means)

-- a node of a term keeps small operands when the term is appended
pub node_fits : (before k : ℕ) (t : List RawNode) (node : RawNode) → IsTerm t → before + length t ≤ 256 → k < length t → node ≡ get_or t k node → NodeFits before node
node_fits before k t node is few within item = fits node (is.each k node (read_at t k node within item))
  where
    fits : (node : RawNode) → IsBehindOperands k node → NodeFits before node
    fits (raw_nodes.Literal z) behind = tt
    fits (raw_nodes.Constant name) behind = tt
    fits (raw_nodes.Register name) behind = tt
    fits (raw_nodes.Choice j) behind = tt
    fits (raw_nodes.Width name) behind = tt
    fits (raw_nodes.Unary f a) behind = omega arith
    fits (raw_nodes.Binary op a b) behind = (omega (arith, behind.0), omega (arith, behind.1))

pub node_bound : (raw : RawRule) (place : UseSite) (k : ℕ) (t : List RawNode) (node : RawNode) → TermIsBound raw place t → k < length t → node ≡ get_or t k node → NodeIsBound raw place node
node_bound raw place k t node bound within item = each_at (NodeIsBound raw place) t k node bound (read_at t k node within item)

-- a half is in the order of its lines
pub half_in_order : (raw : RawRule) (half : Half) → IsWellFormed raw → AreInLineOrder (half_of half raw)
half_in_order raw halves.Source well = well.source.in_order
half_in_order raw halves.Target well = well.target.in_order

-- the statement that the loop reads at k is statement k of the half
pub item_at : (raw : RawRule) (half : Half) (ws : List RawStatement) (k : ℕ) (s : RawStatement) → ws ≡ half_of half raw → k < length ws → s ≡ get_or ws k s → slice_get (half_of half raw) k ≡ Some s
item_at raw half ws k s is within item = subst (λ l. slice_get l k ≡ Some s) is (read_at ws k s within item)
