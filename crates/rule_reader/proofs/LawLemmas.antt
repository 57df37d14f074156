-- A text has one list of rules or one fault.
use Rattle.rule_reader.proofs.Common.{◌≡◌, inl, inr, ℕ, suc, ◌<◌, ◌≤◌, List, [], ◌∷◌, length, take, Some, refl, sym, ap, subst, ◌∙◌, arith, slice_get, slice_get_within, RawRule, RuleFault, TextsHaveOneReadingOrFault, Rule, RulesHaveClasses, most_bytes, rank, kind_of, FailsAt, Passes, IsFirstRuleFault, AreRulesOf, IsRuleFile, IsFault, too_long, of_text, of_rule, TextsHaveOneListOrFault}
use Rattle.rule_reader.proofs.Places.{order, same_at, there}
use Rattle.rule_reader.proofs.Checking.{same_check, bound_of}
use Rattle.rule_reader.proofs.Once.{one_rule}
use Rattle.rule_reader.proofs.Existence.{some_list_or_fault}

same_lists : (xs ys : List Rule) → length xs ≡ length ys → ((k : ℕ) (x y : Rule) → slice_get xs k ≡ Some x → slice_get ys k ≡ Some y → x ≡ y) → xs ≡ ys
same_lists [] [] long same = refl
same_lists [] (y ∷ ys) long same = absurd (omega arith)
same_lists (x ∷ xs) [] long same = absurd (omega arith)
same_lists (x ∷ xs) (y ∷ ys) long same =
    let first : x ≡ y = same 0 x y refl refl in
    let rest : xs ≡ ys = same_lists xs ys (omega arith) (λ k v w at at'. same (suc k) v w at at') in
    cc

one_rules : (raws : List RawRule) (a b : List Rule) → AreRulesOf raws a → AreRulesOf raws b → a ≡ b
one_rules raws a b p q = same_lists a b (p.count ∙ sym q.count) (λ k x y at at'.
    let (raw, here) = there raws k (let within : k < length a = slice_get_within a k x at in omega (arith, p.count)) in
    let one = p.each k raw x here at in
    let two = q.each k raw y here at' in
    one_rule raw x y (bound_of (take k raws) raw (λ check line lt. one.passes check line)) one.means one.classes two.means two.classes)

same_fault : (f g : RuleFault) → f.line ≡ g.line → f.kind ≡ g.kind → f ≡ g
same_fault f g p q =
    let e : ◌≡◌ {A = RuleFault} (record { line = f.line; kind = f.kind }) (record { line = g.line; kind = g.kind }) = cc in e

-- a rule has at most one first fault
one_first : (earlier : List RawRule) (raw : RawRule) (f g : RuleFault) → IsFirstRuleFault earlier raw f → IsFirstRuleFault earlier raw g → f ≡ g
one_first earlier raw f g p q = elim (order (rank p.check) (rank q.check)) [
  | inl lt ↦ absurd (q.first p.check f.line lt p.line.0)
  | inr (inl e) ↦
      let same : p.check ≡ q.check = same_check p.check q.check e in
      let fails : FailsAt earlier raw q.check f.line = subst (λ c. FailsAt earlier raw c f.line) same p.line.0 in
      let fails' : FailsAt earlier raw p.check g.line = subst (λ c. FailsAt earlier raw c g.line) (sym same) q.line.0 in
      let le : g.line ≤ f.line = q.line.1 f.line fails in
      let ge : f.line ≤ g.line = p.line.1 g.line fails' in
      same_fault f g (omega arith) (p.kind ∙ ap kind_of same ∙ sym q.kind)
  | inr (inr gt) ↦ absurd (p.first q.check g.line gt q.line.0)
]

-- a rule with a fault doesn't pass all checks
not_passed : (earlier : List RawRule) (raw : RawRule) (f : RuleFault) → IsFirstRuleFault earlier raw f → Passes earlier raw → ⊥
not_passed earlier raw f first passes = passes first.check f.line first.line.0

-- all rules before this place pass
abbrev PassBefore : List RawRule → ℕ → Type 0
PassBefore raws k = (j : ℕ) (earlier : RawRule) → j < k → slice_get raws j ≡ Some earlier → Passes (take j raws) earlier

one_of_rules : (raws : List RawRule) (j k : ℕ) (v w : RawRule) (f g : RuleFault) → slice_get raws j ≡ Some v → slice_get raws k ≡ Some w → PassBefore raws j → PassBefore raws k → IsFirstRuleFault (take j raws) v f → IsFirstRuleFault (take k raws) w g → f ≡ g
one_of_rules raws j k v w f g at at' pass pass' first first' = elim (order j k) [
  | inl lt ↦ absurd (not_passed (take j raws) v f first (pass' j v lt at))
  | inr (inl e) ↦
      let same : v ≡ w = same_at raws k v w (subst (λ n. slice_get raws n ≡ Some v) e at) at' in
      one_first (take k raws) w f g (subst (λ n. IsFirstRuleFault (take n raws) w f) e (subst (λ r. IsFirstRuleFault (take j raws) r f) same first)) first'
  | inr (inr gt) ↦ absurd (not_passed (take k raws) w g first' (pass k w gt at'))
]

module _ (law : TextsHaveOneReadingOrFault) where
  one_list : (text : List ℕ) (a b : List Rule) → IsRuleFile text a → IsRuleFile text b → a ≡ b
  one_list text a b p q = one_rules q.raws a b (subst (λ raws. AreRulesOf raws a) (law.one_reading text p.raws q.raws p.written q.written) p.read) q.read

  one_fault : (text : List ℕ) (f g : RuleFault) → IsFault text f → IsFault text g → f ≡ g
  one_fault text _ _ (too_long long) (too_long long') = refl
  one_fault text _ _ (too_long long) (of_text short is) = absurd (omega arith)
  one_fault text _ g (too_long long) (of_rule raws k raw short written at pass first) = absurd (omega arith)
  one_fault text _ _ (of_text short is) (too_long long) = absurd (omega arith)
  one_fault text f g (of_text short is) (of_text short' is') = law.one_fault text f g is is'
  one_fault text _ g (of_text {fault = f} short is) (of_rule raws k raw short' written at pass first) = absurd (law.not_both text raws f written is)
  one_fault text f _ (of_rule raws k raw short written at pass first) (too_long long) = absurd (omega arith)
  one_fault text f _ (of_rule raws k raw short written at pass first) (of_text {fault = g} short' is) = absurd (law.not_both text raws g written is)
  one_fault text f g (of_rule raws j v short written at pass first) (of_rule raws' k w short' written' at' pass' first') =
      let same : raws' ≡ raws = law.one_reading text raws' raws written' written in
      one_of_rules raws j k v w f g at (subst (λ l. slice_get l k ≡ Some w) same at') pass (subst (λ l. PassBefore l k) same pass') first (subst (λ l. IsFirstRuleFault (take k l) w g) same first')

  not_both : (text : List ℕ) (rules : List Rule) (f : RuleFault) → length text ≤ most_bytes → IsRuleFile text rules → IsFault text f → ⊥
  not_both text rules _ short file (too_long long) = absurd (omega arith)
  not_both text rules _ short file (of_text {fault = f} short' is) = law.not_both text file.raws f file.written is
  not_both text rules f short file (of_rule raws k raw short' written at pass first) =
      let same : raws ≡ file.raws = law.one_reading text raws file.raws written file.written in
      let here : slice_get file.raws k ≡ Some raw = subst (λ l. slice_get l k ≡ Some raw) same at in
      let (rule, at') = there rules k (let within : k < length file.raws = slice_get_within file.raws k raw here in omega (arith, file.read.count)) in
      not_passed (take k raws) raw f first (subst (λ l. Passes (take k l) raw) (sym same) (file.read.each k raw rule here at').passes)

pub one_list_or_fault : TextsHaveOneReadingOrFault → RulesHaveClasses → TextsHaveOneListOrFault
one_list_or_fault law classes = record { some = some_list_or_fault law classes; one_list = one_list law; one_fault = one_fault law; not_both = not_both law }
