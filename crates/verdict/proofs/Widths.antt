-- The words of a rule's circuit have from 1 to 64 bits.
use Rattle.verdict.proofs.Common.{◌≡◌, ℕ, zero, suc, ◌-◌, ◌<◌, ◌≤◌, Bool, List, [], ◌∷◌, length, get_or, Some, refl, sym, ap, ◌∙◌, arith, slice_get, slice_index, Contains, map, All, get_or-map, length-map, Contains-get_or, slice_get-map, get_or_from_slice_get, Number, Effect, Rule, IsRule, classes_of, Held, Undefines, Holds, TemporariesEnd, IsTyping, Setting, IsCounterexample, witness_width, witness_number, class_stands, term_class_stands, source_statement, witness_term, undefined_source, root_width, number_held, IsWide}

-- the number is the width of an integer type
abbrev IsWidth : ℕ → Type 0
IsWidth N = (1 ≤ N) × (N ≤ 64)

-- a place within a list has an element
at : {X : Type 0} (xs : List X) (k : ℕ) → k < length xs → (x : X) × (slice_get xs k ≡ Some x)
at [] k lt = absurd (omega arith)
at (x ∷ xs) zero lt = (x, refl)
at (x ∷ xs) (suc k) lt = at xs k (omega arith)

module _ (rule : Rule) (typing : List ℕ) (checked : IsRule rule) (typed : IsTyping rule typing) where
  class_width : (c : ℕ) → Contains (classes_of rule) c → IsWidth (slice_index typing c)
  class_width c among = typed.widths (get_or typing c 0) (Contains-get_or typing c 0 (typed.classes c among))

  pub root_width_fits : IsWidth (root_width rule typing)
  root_width_fits =
      let place = length rule.source - 1 in
      let last = at rule.source place (omega (arith, checked.source_root)) in
      rw last.1 (class_width last.0.class (class_stands rule last.0 (source_statement rule place last.0 last.1)))

  witness_width_fits : (n : ℕ) → n < length rule.witness_terms → IsWidth (witness_width rule typing n)
  witness_width_fits n lt =
      let found = at rule.witness_terms n lt in
      rw found.1 (class_width found.0.class (term_class_stands rule found.0 (witness_term rule n found.0 found.1)))

  module _ {L : Type 0} (value : L → Bool) (words : List (List L)) (setting : Setting) where
    -- words that hold the numbers that `Wit:` chooses have those widths
    chosen_wide : (held : Held) → map (number_held value) words ≡ map (witness_number rule typing setting held) rule.witnesses → All IsWide words
    chosen_wide held same = λ k d lt.
        let number = witness_number rule typing setting held in
        let count : length words ≡ length rule.witnesses = sym (length-map words (number_held value)) ∙ ap length same ∙ length-map rule.witnesses number in
        let found = at rule.witnesses k (omega (arith, count, lt)) in
        let there : slice_get (map number rule.witnesses) k ≡ Some (number found.0) = slice_get-map number rule.witnesses k ∙ rw found.1 refl in
        let is : number_held value (get_or words k d) ≡ number found.0 =
        sym (get_or-map (number_held value) words k d) ∙ ap (λ (l : List Number). get_or l k (number_held value d)) same
        ∙ get_or_from_slice_get (map number rule.witnesses) k (number found.0) (number_held value d) there in
        let width : length (get_or words k d) ≡ witness_width rule typing found.0 = ap (λ (n : Number). n.width) is in
        rw width (witness_width_fits found.0 (checked.witnesses_there k found.0 found.1))

    -- so it is at a counterexample, where no temporary is undefined behaviour
    pub choices_wide : (source target : Effect) → IsCounterexample rule typing setting (map (number_held value) words) source target → All IsWide words
    choices_wide source target bad =
        elim bad.effects.of_target.0 as (λ end. TemporariesEnd typing setting.constants rule setting.inputs end → All IsWide words) [
          | Undefines ↦ λ ends.
              let none = undefined_source rule typing setting.constants (map (number_held value) words) checked setting.inputs source ends bad.effects.of_source in
              absurd ((rw none at bad.refused) tt)
          | Holds held ↦ λ ends. chosen_wide held (bad.effects.chosen held ends)
        ] bad.effects.of_target.1
