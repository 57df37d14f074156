-- The effects of both halves, put together from those of their parts.
use Rattle.blast_rule.proofs.Common.{◌≡◌, ℕ, ◌↔◌, Bool, true, false, ◌&&◌, ◌||◌, if◌then◌else◌, List, [], ◌∷◌, ◌++◌, map, refl, sym, ap, subst, ◌∙◌, IsTrue, slice_index, All, unwrap_or, Number, Poison, Effect, Ghosts, number_of, Keeps, Keeps-trans, Rule, Statement, IsRule, facts_hold, KeepsFacts, Ending, Holds, given_by, at_start, temporaries_of, holding_source, StatementGives, Follows, SourceGives, TargetGives, TargetGoesOn, TemporariesEnd, value_of, Meanings, constant_values, number_or_zero, Setting, Chooses, meanings_at, witness_number, witness_values, witness_width, follows_once, Blasted, held_value, effect_of, IsOwn, IsOwnEffect, Scope, AreTerms, number_held, holds, seen, ending, IsGiven, MeansNames, numbers_chosen, number_chosen, term_widths, AllOwn-kept, values-kept, numbers_held-kept, numbers_of-kept, effect_of-kept, temporaries_same}
use Rattle.ops.specs.declared.value.Effect.TheVariants as effects
use Rattle.rule_core.specs.Run.{Held as Registry}
use Rattle.blast_value.specs.declared.held.Held.{Held}
use Rattle.blast_rule.proofs.Scopes.{Reads, seen_of, given_of}
use Rattle.blast_rule.proofs.Shapes.{width_at_place}
use Rattle.blast_rule.proofs.Runs.{held_after}
use Rattle.blast_rule.proofs.Steps.{source-gives, target-gives}

-- where statements end without undefined behaviour, the registers hold these values
ended : (undefined : Bool) (now held : Registry) → ending undefined now ≡ Holds held → now ≡ held
ended true now held is = cc
ended false now held is = cc

-- nothing holds where one had undefined behaviour
not_ended : (undefined : Bool) (now held : Registry) → undefined ≡ true → ending undefined now ≡ Holds held → ⊥
not_ended true now held is end = cc
not_ended false now held is end = cc

-- a literal that is true where another is and, but where that is excused, something holds
said_where : (excused met kept said : Bool) (P : Type 0) → kept ≡ (met && (excused || said)) → (excused ≡ true → P) → (excused ≡ false → IsTrue said ↔ P) → IsTrue kept ↔ (IsTrue met × P)
said_where true true kept said P is without told = (λ h. (refl, without refl), λ h. is)
said_where false true kept said P is without told = (λ h. (refl, (told refl).0 (sym is ∙ h)), λ h. is ∙ (told refl).1 h.1)
said_where true false kept said P is without told = (λ h. let none = sym is ∙ h in absurd cc, λ h. let none = h.0 in absurd cc)
said_where false false kept said P is without told = (λ h. let none = sym is ∙ h in absurd cc, λ h. let none = h.0 in absurd cc)

-- both definitions of the numbers that `Wit:` chooses agree
choices_same : (rule : Rule) (typing : List ℕ) (setting : Setting) (held : Registry) (places : List ℕ)
    → map (number_chosen (term_widths typing rule.witness_terms) (witness_values rule typing setting held)) places ≡ map (witness_number rule typing setting held) places
choices_same rule typing setting held [] = refl
choices_same rule typing setting held (n ∷ places) =
    let rest = choices_same rule typing setting held places in
    let width : slice_index (term_widths typing rule.witness_terms) n ≡ witness_width rule typing n = width_at_place typing rule.witness_terms n in
    rw (width, rest) refl

module _ {C L : Type 0} {state : Ghosts C L} {a b : C} (keeps : Keeps state a b) (read : List Bool) (admitted : state.admits a read)
    (rule : Rule) (typing : List ℕ) (checked : IsRule rule) (inputs source : List (Held L)) (constants left_open terms : List (List L)) (u : L)
    (own_inputs : All (IsOwn (state.has_literal a)) inputs) (own_constants : All (All (state.has_literal a)) constants) (own_left_open : All (All (state.has_literal a)) left_open) where
  abbrev at : Setting
  at = record { inputs = map (held_value (state.value a read)) inputs; constants = map (number_held (state.value a read)) constants; target_choices = map (number_held (state.value a read)) left_open }

  -- the run of the temporaries, as the literals tell it
  abbrev Ran : Type 0
  Ran = Follows typing (given_by typing at.constants [] rule) holding_source (temporaries_of rule) (holds (state.value b read) inputs [] []) (ending (state.value b read u) (holds (state.value b read) inputs source []))

  pub temporaries_end : Ran → TemporariesEnd typing at.constants rule at.inputs (ending (state.value b read u) (holds (state.value b read) inputs source []))
  temporaries_end ran = subst (λ vs. Follows typing (given_by typing at.constants [] rule) holding_source (temporaries_of rule) (at_start vs) (ending (state.value b read u) (holds (state.value b read) inputs source [])))
      (values-kept keeps read admitted inputs own_inputs) ran

  -- what the temporaries keep of what the precondition says of bits
  pub keeps_facts : Ran → (words : List (List L)) → AreTerms (state.value b read) rule typing at.constants words → (met kept : Bool)
      → kept ≡ (met && (state.value b read u || facts_hold (holds (state.value b read) inputs source []) (map (number_of (state.value b read)) words) rule.precondition))
      → IsTrue kept ↔ (IsTrue met × KeepsFacts rule typing at.constants at.inputs)
  keeps_facts ran words terms_are met kept is =
      let now : Registry = holds (state.value b read) inputs source [] in
      let numbers = map number_or_zero (constant_values typing at.constants rule) in
      let end = temporaries_end ran in
      let once : (held : Registry) → TemporariesEnd typing at.constants rule at.inputs (Holds held) → ending (state.value b read u) now ≡ Holds held =
      λ held ends. follows_once typing (given_by typing at.constants [] rule) holding_source (temporaries_of rule) (at_start at.inputs) (ending (state.value b read u) now) (Holds held) end ends in
      said_where (state.value b read u) met kept (facts_hold now numbers rule.precondition) (KeepsFacts rule typing at.constants at.inputs)
      (is ∙ ap (λ ns. met && (state.value b read u || facts_hold now ns rule.precondition)) terms_are)
      (λ undefined held ends. absurd (not_ended (state.value b read u) now held undefined (once held ends)))
      (λ defined. (
        λ said held ends. subst (λ (h : Registry). IsTrue (facts_hold h numbers rule.precondition)) (ended (state.value b read u) now held (once held ends)) said,
        λ keeps_them. keeps_them now (subst (λ (x : Ending). TemporariesEnd typing at.constants rule at.inputs x) (ap (λ (q : Bool). ending q now) defined) end),
      ))

  -- the numbers that `Wit:` chooses after the temporaries
  pub chooses : Ran → (before : Scope L) → Reads before inputs source [] constants left_open terms → (words : List Number) → ((names : Meanings) → MeansNames (state.value b read) before names → words ≡ numbers_chosen typing names rule) → Chooses rule typing at words
  chooses ran before reads words numbers held ends =
      let once = follows_once typing (given_by typing at.constants [] rule) holding_source (temporaries_of rule) (at_start at.inputs) (ending (state.value b read u) (holds (state.value b read) inputs source [])) (Holds held) (temporaries_end ran) ends in
      let is : holds (state.value b read) inputs source [] ≡ held = ended (state.value b read u) (holds (state.value b read) inputs source []) held once in
      let same : seen (state.value b read) before ≡ held = seen_of before inputs source [] constants left_open terms reads (state.value b read) ∙ is in
      numbers (meanings_at at held) (record {
        constants = sym (ap (map (number_held (state.value b read))) reads.constants_are ∙ numbers_held-kept keeps read admitted constants own_constants);
        choices = sym (ap (map (number_held (state.value b read))) reads.choices_are ∙ numbers_held-kept keeps read admitted left_open own_left_open);
        registers = λ r. ap (λ (h : Registry). unwrap_or (value_of h r) Poison) (sym same);
      }) ∙ choices_same rule typing at held rule.witnesses

  -- the constants, choices and terms that statements are given have the values that the literals say
  pub is_given : (s : Scope L) (held_inputs held_source held_target : List (Held L)) (words : List (List L)) → Reads s held_inputs held_source held_target constants words terms → (choices : List Number) → choices ≡ map (number_held (state.value b read)) words
      → AreTerms (state.value a read) rule typing at.constants terms → All (All (state.has_literal a)) terms → IsGiven (state.value b read) s (given_by typing at.constants choices rule)
  is_given s held_inputs held_source held_target words reads choices is terms_are own_terms =
      given_of s held_inputs held_source held_target constants words terms reads (state.value b read) (given_by typing at.constants choices rule)
      (sym (numbers_held-kept keeps read admitted constants own_constants)) is (sym terms_are ∙ sym (numbers_of-kept keeps read admitted terms own_terms))

  module _ {m d e : C} (second : Keeps state b m) (third : Keeps state m d) (fourth : Keeps state d e) (own_source : All (IsOwn (state.has_literal b)) source) (own_u : state.has_literal b u) (ran : Ran) where
    b_admitted : state.admits b read
    b_admitted = keeps.admitted read admitted

    d_admitted : state.admits d read
    d_admitted = third.admitted read (second.admitted read b_admitted)

    -- the source's effect is that of its root, after its temporaries
    pub source_effect : (choices : List Number) (root : Statement) (made : Blasted L) → rule.source ≡ temporaries_of rule ++ root ∷ [] → IsOwnEffect (state.has_literal d) made → (state.value m read u ≡ true → state.value d read made.undefined ≡ true)
        → (state.value m read u ≡ false → StatementGives typing (given_by typing at.constants choices rule) (holds (state.value d read) inputs source []) root (effect_of (state.value d read) made))
        → SourceGives typing at.constants choices rule at.inputs (effect_of (state.value e read) made)
    source_effect choices root made parts own stays gives =
        let next = Keeps-trans second third in
        let u_same : state.value m read u ≡ state.value b read u = second.values read u b_admitted own_u in
        let inputs_same = values-kept next read b_admitted inputs (AllOwn-kept keeps inputs own_inputs) in
        let source_same = values-kept next read b_admitted source own_source in
        let whole = values-kept (Keeps-trans keeps next) read admitted inputs own_inputs in
        let now : Registry = holds (state.value d read) inputs source [] in
        let ran_now : Follows typing (given_by typing at.constants [] rule) holding_source (temporaries_of rule) (at_start (map (held_value (state.value d read)) inputs)) (ending (state.value b read u) now) = rw (inputs_same, source_same) ran in
        let effect_now = source-gives typing at.constants choices rule (map (held_value (state.value d read)) inputs) (map (held_value (state.value d read)) source) root (state.value b read u) (state.value d read made.undefined) (held_value (state.value d read) (held_after made)) parts
        (temporaries_same rule typing at.constants choices checked (at_start (map (held_value (state.value d read)) inputs)) (ending (state.value b read u) now) ran_now)
        (λ is. stays (u_same ∙ is)) (λ is. gives (u_same ∙ is)) in
        subst (λ e'. SourceGives typing at.constants choices rule at.inputs e') (sym (effect_of-kept fourth read d_admitted made own))
        (subst (λ vs. SourceGives typing at.constants choices rule vs (effect_of (state.value d read) made)) whole effect_now)

    -- the target's effect is that of its statements, after the source's temporaries
    pub target_effect : (after : Effect) (made : Blasted L) → TargetGoesOn typing at.constants at.target_choices rule (holds (state.value m read) inputs source []) after → effect_of (state.value e read) made ≡ (if state.value d read u then effects.Undefined else after)
        → TargetGives typing at.constants at.target_choices rule at.inputs (effect_of (state.value e read) made)
    target_effect after made goes is =
        let u_same : state.value d read u ≡ state.value b read u = (Keeps-trans second third).values read u b_admitted own_u in
        let inputs_same = values-kept second read b_admitted inputs (AllOwn-kept keeps inputs own_inputs) in
        let source_same = values-kept second read b_admitted source own_source in
        let goes_on : TargetGoesOn typing at.constants at.target_choices rule (holds (state.value b read) inputs source []) after = rw (inputs_same, source_same) at goes in
        target-gives typing at.constants at.target_choices rule at.inputs (holds (state.value b read) inputs source []) (state.value b read u) after (effect_of (state.value e read) made) (temporaries_end ran) goes_on
        (is ∙ ap (λ x. if x then effects.Undefined else after) u_same)
