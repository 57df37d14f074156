-- The matches at an instruction, rule by rule.
use Rattle.rule_matches.proofs.Common.{◌≡◌, ◌⊎◌, inl, inr, ℕ, ◌+◌, ◌<◌, ◌≤◌, Bool, List, [], ◌∷◌, ◌++◌, length, get_or, take, Some, refl, sym, ap, subst, ◌∙◌, arith, AllPairs, Contains, slice_get, get_or-take, length-take-le, take_all, take_more, Contains-append_left, Contains-push, Contains-push_cases, get_or_from_slice_get, same_Some, slice_get-get_or, IsInst, Function, Inst, Rule, Knowledge, MatchesInAnyOrder, Binding, one_in_any_order, same_inst, Match, IsOf, AreMatchesInAnyOrder, ComesBefore, IsAt, IsMatchInAnyOrder, AreReady, AreCandidates, kind_of_inst}
use Rattle.rule_matches.proofs.Joining.{joined, none_where, one_where, same_where}
use Rattle.rule_matches.proofs.Rooting.{root_stands}

-- it is the match of one of these rules at the instruction
abbrev pub IsAtAmong : ℕ → ℕ → List ℕ → Match → Type 0
IsAtAmong b k places m = (m.binding.block ≡ b) × (m.binding.place ≡ k) × Contains places m.rule

same_match : (m n : Match) → m.rule ≡ n.rule → m.binding ≡ n.binding → m ≡ n
same_match m n rule binding =
    let put : ℕ → Binding → Match = λ r x. record { rule = r; binding = x } in
    ap (λ (r : ℕ). put r m.binding) rule ∙ ap (put n.rule) binding

module _ (across : Bool) (known : Knowledge) (rules : List Rule) (f : Function) where
  -- the match of one rule
  module _ (b k r : ℕ) (tried : Rule) (at : slice_get rules r ≡ Some tried) (ready : AreReady rules) where
    here : (m : Match) → IsMatchInAnyOrder across known rules f m → IsOf b k r m → MatchesInAnyOrder across known f b k tried m.binding
    here m is (block, place, rule) =
        let same : is.rule ≡ tried = same_Some is.rule tried (sym is.is_rule ∙ ap (slice_get rules) rule ∙ at) in
        subst (λ (x : Rule). MatchesInAnyOrder across known f b k x m.binding) same
        (subst (λ (p : ℕ). MatchesInAnyOrder across known f b p is.rule m.binding) place (subst (λ (d : ℕ). MatchesInAnyOrder across known f d m.binding.place is.rule m.binding) block is.matches))

    pub no_match : ((binding : Binding) → ¬ MatchesInAnyOrder across known f b k tried binding) → AreMatchesInAnyOrder across known rules f (IsOf b k r) []
    no_match never =
        let none : (m : Match) → IsMatchInAnyOrder across known rules f m → ¬ IsOf b k r m = λ m is of. never m.binding (here m is of) in
        none_where rules f (IsOf b k r) none

    pub one_match : (binding : Binding) → MatchesInAnyOrder across known f b k tried binding → AreMatchesInAnyOrder across known rules f (IsOf b k r) (record { rule = r; binding = binding } ∷ [])
    one_match binding is =
        let m : Match = record { rule = r; binding = binding } in
        let there : MatchesInAnyOrder across known f binding.block binding.place tried binding =
        subst (λ (p : ℕ). MatchesInAnyOrder across known f binding.block p tried binding) (sym is.place) (subst (λ (d : ℕ). MatchesInAnyOrder across known f d k tried binding) (sym is.block) is) in
        let is_m : IsMatchInAnyOrder across known rules f m = record { rule = tried; is_rule = at; matches = there } in
        let only : (n : Match) → IsMatchInAnyOrder across known rules f n → IsOf b k r n → m ≡ n = λ n is_n of.
        same_match m n (sym of.2) (one_in_any_order f b k tried binding n.binding (ready r tried at).checks (ready r tried at).typed is (here n is_n of)) in
        one_where rules f (IsOf b k r) m is_m (is.block, is.place, refl) only

  -- and of the next one
  pub next_rule : (b k : ℕ) (places : List ℕ) (i r : ℕ) (old new more : List Match) → i < length places → r ≡ get_or places i 0 → AllPairs (λ q s. q < s) places
      → AreMatchesInAnyOrder across known rules f (IsAtAmong b k (take i places)) old → new ≡ old ++ more → AreMatchesInAnyOrder across known rules f (IsOf b k r) more
      → AreMatchesInAnyOrder across known rules f (IsAtAmong b k (take (i + 1) places)) new
  next_rule b k places i r old new more within is ordered found then later =
      subst (AreMatchesInAnyOrder across known rules f (IsAtAmong b k (take (i + 1) places))) (sym then)
      (joined rules f (IsAtAmong b k (take i places)) (IsOf b k r) (IsAtAmong b k (take (i + 1) places)) old more found later before split
      (λ m of. (of.0, of.1, subst (λ (l : List ℕ). Contains l m.rule) (sym grown) (Contains-append_left (take i places) (r ∷ []) m.rule of.2)))
      (λ m of. (of.0, of.1, subst (λ (l : List ℕ). Contains l m.rule) (sym grown) (subst (Contains (take i places ++ r ∷ [])) (sym of.2) (Contains-push (take i places) r)))))
    where
      grown : take (i + 1) places ≡ take i places ++ r ∷ []
      grown = take_more places i 0 within ∙ ap (λ (s : ℕ). take i places ++ s ∷ []) (sym is)

      below : (q : ℕ) → Contains (take i places) q → q < r
      below q (j, less, at) =
          let early : j < i = omega (arith, length-take-le i places (omega arith)) in
          let pair : get_or places j q < get_or places i q = ordered j i q early within in
          let first : get_or places j q ≡ q = sym (get_or-take i places j q early) ∙ at in
          let last : get_or places i q ≡ r = get_or_from_slice_get places i (get_or places i 0) q (slice_get-get_or places i 0 within) ∙ sym is in
          omega (arith, pair, first, last)

      before : (m n : Match) → IsAtAmong b k (take i places) m → IsOf b k r n → ComesBefore m n
      before m n of_m of_n =
          inr (of_m.0 ∙ sym of_n.0, inr (of_m.1 ∙ sym of_n.1, subst (λ (s : ℕ). m.rule < s) (sym of_n.2) (below m.rule of_m.2)))

      split : (m : Match) → IsMatchInAnyOrder across known rules f m → IsAtAmong b k (take (i + 1) places) m → IsAtAmong b k (take i places) m ⊎ IsOf b k r m
      split m is_m of = elim (Contains-push_cases (take i places) r m.rule (subst (λ (l : List ℕ). Contains l m.rule) grown of.2)) [
        | inl early ↦ inl (of.0, of.1, early)
        | inr last ↦ inr (of.0, of.1, sym last)
      ]

  -- all rules that may match were tried
  pub each_rule : (b k : ℕ) (inst : Inst) (places : List ℕ) (i : ℕ) (found : List Match) → AreReady rules → IsInst f b k inst → AreCandidates rules inst.op places → length places ≤ i
      → AreMatchesInAnyOrder across known rules f (IsAtAmong b k (take i places)) found → AreMatchesInAnyOrder across known rules f (IsAt b k) found
  each_rule b k inst places i found ready at candidates past are =
      same_where rules f (IsAtAmong b k (take i places)) (IsAt b k) found are back (λ m of. (of.0, of.1))
    where
      back : (m : Match) → IsMatchInAnyOrder across known rules f m → IsAt b k m → IsAtAmong b k (take i places) m
      back m is of =
          let root = root_stands rules f m ready is in
          let there : IsInst f b k root.inst = subst (λ (p : ℕ). IsInst f b p root.inst) of.1 (subst (λ (d : ℕ). IsInst f d m.binding.place root.inst) of.0 root.is_inst) in
          let same : root.inst ≡ inst = same_inst f b k root.inst inst there at in
          let among : Contains places m.rule = (candidates.same m.rule).1 (root.kind, subst (λ (x : Inst). kind_of_inst x.op ≡ Some root.kind) same root.of_inst, root.of_rule) in
          (of.0, of.1, subst (λ (l : List ℕ). Contains l m.rule) (sym (take_all i places past)) among)
