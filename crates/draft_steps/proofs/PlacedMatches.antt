-- The matches at an instruction of an arena, as matches in its function.
use Rattle.draft_steps.proofs.Common.{◌≡◌, inl, inr, ℕ, ◌<◌, Bool, List, [], ◌∷◌, get_or, map, Some, refl, sym, ap, subst, ◌∙◌, arith, All, AllPairs, Contains, slice_get, All-contains, Contains-get_or, AllPairs-cons, same_Some, MeetsChecks, Function, first_in, later_in, Rule, Contains-map, from_map, IsMatch, Binding, TemporariesStandBefore, moved_binding, matches_have_one_binding, Match, AreMatchesInAnyOrder, AreMatchesWhere, IsAt, IsMatchAmong, IsMatchInAnyOrder, AreReady, pairs_first, pairs_later, placed, AreArranged, arranged, row_of, IsReached, AskBits, AsksBitsOf, Knowledge, KnowsTheFunction}
use Rattle.rule_core.specs.declared.rule.Register.{Register as Name}
use Rattle.bindings.specs.Matches.{ComesBefore}
use Rattle.places.specs.Orders.{place_in}
use Rattle.draft_steps.proofs.Arena.{numbered_match, placed_match}
use Rattle.draft_steps.proofs.Back.{numbered}
use Rattle.draft_steps.proofs.Places.{reached_back}
use Rattle.draft_steps.proofs.Rows.{number_there}

-- the match with positions in place of numbers
abbrev pub put_in_place : List (List ℕ) → Match → Match
put_in_place rows m = record { rule = m.rule; binding = moved_binding (placed rows) (place_in (row_of rows m.binding.block) m.binding.place) m.binding }

-- matches at one instruction are in the order of their rules
rule_less : (b n : ℕ) (x y : Match) → IsAt b n x → IsAt b n y → ComesBefore x y → x.rule < y.rule
rule_less b n x y at_x at_y before = elim before [
  | inl p ↦ absurd (omega (arith, p, at_x.0, at_y.0))
  | inr p ↦ elim p.1 [ inl q ↦ absurd (omega (arith, q, at_x.1, at_y.1)) | inr q ↦ q.1 ]
]

same_match : (m n : Match) → m.rule ≡ n.rule → m.binding ≡ n.binding → m ≡ n
same_match m n rule binding =
    let put : ℕ → Binding → Match = λ r x. record { rule = r; binding = x } in
    ap (λ (r : ℕ). put r m.binding) rule ∙ ap (put n.rule) binding

module _ (across : Bool) (stand_before : TemporariesStandBefore) (known : Knowledge) (rules : List Rule) (ready : AreReady rules) (arena : Function) (rows : List (List ℕ)) (are : AreArranged arena rows)
    (checks : MeetsChecks (arranged arena rows)) (b n : ℕ) (has : Contains (row_of rows b) n) (knows : AskBits rules → IsReached arena b → KnowsTheFunction arena rows known b n) where
  abbrev F : Function
  F = arranged arena rows

  abbrev k : ℕ
  k = place_in (row_of rows b) n

  abbrev put : Match → Match
  put m = put_in_place rows m

  put_at : (m : Match) → IsAt b n m → IsAt b k (put m)
  put_at m of = (of.0, ap (λ (c : ℕ). place_in (row_of rows c) m.binding.place) of.0 ∙ ap (place_in (row_of rows b)) of.1)

  -- what a rule of these asks of bits is known at the instruction
  knows_at : (m : Match) (rule : Rule) → slice_get rules m.rule ≡ Some rule → IsReached arena m.binding.block → (p : ℕ) → m.binding.block ≡ b → p ≡ n
      → (name : Name) → AsksBitsOf rule name → KnowsTheFunction arena rows known m.binding.block p
  knows_at m rule at reached p block place name asks =
      subst (λ (c : ℕ). KnowsTheFunction arena rows known c p) (sym block)
      (subst (KnowsTheFunction arena rows known b) (sym place) (knows (m.rule, rule, name, at, asks) (subst (IsReached arena) block reached)))

  put_is : (m : Match) → IsMatchInAnyOrder across known rules arena m → IsAt b n m → IsMatchAmong across rules F (put m)
  put_is m is of =
      let stands : Contains (row_of rows m.binding.block) m.binding.place =
      subst (λ (c : ℕ). Contains (row_of rows c) m.binding.place) (sym of.0) (subst (Contains (row_of rows b)) (sym of.1) has) in
      let good = (ready m.rule is.rule is.is_rule).checks in
      record {
        rule = is.rule;
        is_rule = is.is_rule;
        matches = stand_before across F m.binding.block (place_in (row_of rows m.binding.block) m.binding.place) is.rule (put m).binding checks good
            (placed_match across known arena rows are checks is.rule m.binding good is.matches stands (knows_at m is.rule is.is_rule is.matches.reached m.binding.place of.0 of.1));
      }

  here : (m : Match) (rule : Rule) → slice_get rules m.rule ≡ Some rule → IsMatchAmong across rules F m → IsAt b k m → IsMatch across F b k rule m.binding
  here m rule at is of =
      let same : is.rule ≡ rule = same_Some is.rule rule (sym is.is_rule ∙ at) in
      subst (λ (x : Rule). IsMatch across F b k x m.binding) same
      (subst (λ (p : ℕ). IsMatch across F b p is.rule m.binding) of.1 (subst (λ (d : ℕ). IsMatch across F d m.binding.place is.rule m.binding) of.0 is.matches))

  -- a match in the function is one of the arena with positions in place of numbers
  was_put : (ms : List Match) → AreMatchesInAnyOrder across known rules arena (IsAt b n) ms → (m : Match) → IsMatchAmong across rules F m → IsAt b k m → Contains (map put ms) m
  was_put ms found m is of =
      let good = (ready m.rule is.rule is.is_rule).checks in
      let at_root : slice_get (row_of rows m.binding.block) m.binding.place ≡ Some n =
      subst (λ (c : ℕ). slice_get (row_of rows c) m.binding.place ≡ Some n) (sym of.0) (subst (λ (q : ℕ). slice_get (row_of rows b) q ≡ Some n) (sym of.1) (number_there (row_of rows b) n has)) in
      let old : Match = record { rule = m.rule; binding = moved_binding (numbered rows) n m.binding } in
      let is_old : IsMatchInAnyOrder across known rules arena old = record {
        rule = is.rule;
        is_rule = is.is_rule;
        matches = numbered_match across known arena rows are checks is.rule m.binding good n is.matches at_root
            (knows_at m is.rule is.is_rule (reached_back arena rows are m.binding.block is.matches.reached) n of.0 refl);
      } in
      let there : Contains ms old = found.all old is_old (of.0, refl) in
      let one : (put old).binding ≡ m.binding =
      matches_have_one_binding across F b k is.rule (put old).binding m.binding good (ready m.rule is.rule is.is_rule).typed
      (here (put old) is.rule is.is_rule (put_is old is_old (of.0, refl)) (put_at old (of.0, refl))) (here m is.rule is.is_rule is of) in
      subst (Contains (map put ms)) (same_match (put old) m refl one) (Contains-map put ms old there)

  each_put : (ms : List Match) (P Q : Match → Type 0) → All P ms → ((m : Match) → P m → Q (put m)) → All Q (map put ms)
  each_put ms P Q all on i d lt =
      let (m, among, is) = from_map put ms (get_or (map put ms) i d) (Contains-get_or (map put ms) i d lt) in
      subst Q (sym is) (on m (All-contains P ms m all among))

  in_order : (ms : List Match) → All (IsAt b n) ms → AllPairs ComesBefore ms → AllPairs ComesBefore (map put ms)
  in_order [] at pairs = λ i j d less within. absurd (omega arith)
  in_order (x ∷ ms) at pairs =
      let first : IsAt b n x = All-contains (IsAt b n) (x ∷ ms) x at (first_in x ms) in
      let later : All (IsAt b n) ms = λ i d lt. All-contains (IsAt b n) (x ∷ ms) (get_or ms i d) at (later_in x ms (get_or ms i d) (Contains-get_or ms i d lt)) in
      let both : All (λ m. ComesBefore x m × IsAt b n m) ms = λ i d lt. (pairs_first ComesBefore x ms pairs i d lt, later i d lt) in
      AllPairs-cons ComesBefore (put x) (map put ms)
      (each_put ms (λ m. ComesBefore x m × IsAt b n m) (ComesBefore (put x)) both (λ m h.
      let of_x = put_at x first in
      let of_m = put_at m h.1 in
      inr (of_x.0 ∙ sym of_m.0, inr (of_x.1 ∙ sym of_m.1, rule_less b n x m first h.1 h.0))))
      (in_order ms later (pairs_later ComesBefore x ms pairs))

  pub placed_matches : (ms : List Match) → AreMatchesInAnyOrder across known rules arena (IsAt b n) ms → AreMatchesWhere across rules F (IsAt b k) (map put ms)
  placed_matches ms found = record {
    each = each_put ms (λ m. IsMatchInAnyOrder across known rules arena m × IsAt b n m) (λ m. IsMatchAmong across rules F m × IsAt b k m) found.each (λ m h. (put_is m h.0 h.1, put_at m h.1));
    all = was_put ms found;
    in_order = in_order ms (λ i d lt. (found.each i d lt).1) found.in_order;
  }
