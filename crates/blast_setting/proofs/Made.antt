-- A setting as literals, which is made in three steps: inputs, constants, choices.
use Rattle.blast_setting.proofs.Common.{◌≡◌, ℕ, ◌+◌, Bool, List, map, drop, sum_by, refl, ap, ◌∙◌, All, drop-drop, Ghosts, Keeps, Keeps-trans, Rule, Held, held_value, IsOwn, SettingBits, setting_held, SettingIsOwn, input_widths, constant_widths, choice_widths, value_bits, number_bits, input_bits, values_read, numbers_read, behind_inputs, behind_constants, setting_of, number_held, values-kept, numbers_held-kept, AllAll-kept, AllOwn-kept}
use Rattle.blast_setting.proofs.Settings.{same_setting}

module _ {C L : Type 0} {state : Ghosts C L} (rule : Rule) (typing : List ℕ) (start first second third : C)
    (k1 : Keeps state start first) (k2 : Keeps state first second) (k3 : Keeps state second third) (none : state.inputs_made start ≡ 0) where
  -- how many of the circuit's inputs come before those of each step
  module _ (iw cw : List ℕ) (is_iw : iw ≡ input_widths rule typing) (is_cw : cw ≡ constant_widths rule typing)
      (behind1 : (read : List Bool) → state.admits start read → drop (state.inputs_made first) read ≡ drop (sum_by value_bits iw) (drop (state.inputs_made start) read))
      (behind2 : (read : List Bool) → state.admits first read → drop (state.inputs_made second) read ≡ drop (sum_by number_bits cw) (drop (state.inputs_made first) read)) where
    pub at_start : (read : List Bool) → drop (state.inputs_made start) read ≡ read
    at_start read = ap (λ n. drop n read) none

    pub at_constants : (read : List Bool) → state.admits start read → drop (state.inputs_made first) read ≡ behind_inputs rule typing read
    at_constants read a = behind1 read a ∙ ap (λ xs. drop (sum_by value_bits iw) xs) (at_start read) ∙ ap (λ (ws : List ℕ). drop (sum_by value_bits ws) read) is_iw

    pub at_choices : (read : List Bool) → state.admits start read → drop (state.inputs_made second) read ≡ behind_constants rule typing read
    at_choices read a =
        behind2 read (k1.admitted read a) ∙ ap (λ xs. drop (sum_by number_bits cw) xs) (at_constants read a)
        ∙ ap (λ (ws : List ℕ). drop (sum_by number_bits ws) (behind_inputs rule typing read)) is_cw

    -- how many of the circuit's inputs come before what follows the setting
    pub at_end : (uw : List ℕ) → uw ≡ choice_widths rule typing
        → ((read : List Bool) → state.admits second read → drop (state.inputs_made third) read ≡ drop (sum_by number_bits uw) (drop (state.inputs_made second) read))
        → (read : List Bool) → state.admits start read → drop (state.inputs_made third) read ≡ drop (input_bits rule typing) read
    at_end uw is_uw behind3 read a =
        let i = sum_by value_bits (input_widths rule typing) in
        let k = sum_by number_bits (constant_widths rule typing) in
        let u = sum_by number_bits (choice_widths rule typing) in
        behind3 read (k2.admitted read (k1.admitted read a)) ∙ ap (λ xs. drop (sum_by number_bits uw) xs) (at_choices read a)
        ∙ ap (λ (ws : List ℕ). drop (sum_by number_bits ws) (behind_constants rule typing read)) is_uw
        ∙ ap (λ (xs : List Bool). drop u xs) (drop-drop k i read) ∙ drop-drop u (i + k) read

    -- the literals stand for the setting that is read from the truth values of the circuit's inputs
    pub setting_made : (uw : List ℕ) → uw ≡ choice_widths rule typing → (inputs : List (Held L)) (constants choices : List (List L))
        → All (IsOwn (state.has_literal first)) inputs → All (All (state.has_literal second)) constants
        → ((read : List Bool) → state.admits start read → map (held_value (state.value first read)) inputs ≡ values_read iw (drop (state.inputs_made start) read))
        → ((read : List Bool) → state.admits first read → map (number_held (state.value second read)) constants ≡ numbers_read cw (drop (state.inputs_made first) read))
        → ((read : List Bool) → state.admits second read → map (number_held (state.value third read)) choices ≡ numbers_read uw (drop (state.inputs_made second) read))
        → (made : SettingBits L) → made.inputs ≡ inputs → made.constants ≡ constants → made.target_choices ≡ choices
        → (read : List Bool) → state.admits start read → setting_held (state.value third read) made ≡ setting_of rule typing read
    setting_made uw is_uw inputs constants choices own1 own2 are1 are2 are3 made is1 is2 is3 read a =
        let a1 = k1.admitted read a in
        let a2 = k2.admitted read a1 in
        same_setting (setting_of rule typing read) _ _ _
        (ap (λ xs. map (held_value (state.value third read)) xs) is1 ∙ values-kept (Keeps-trans k2 k3) read a1 inputs own1 ∙ are1 read a ∙ ap (λ xs. values_read iw xs) (at_start read) ∙ ap (λ (ws : List ℕ). values_read ws read) is_iw)
        (ap (λ xs. map (number_held (state.value third read)) xs) is2 ∙ numbers_held-kept k3 read a2 constants own2 ∙ are2 read a1 ∙ ap (λ xs. numbers_read cw xs) (at_constants read a) ∙ ap (λ (ws : List ℕ). numbers_read ws (behind_inputs rule typing read)) is_cw)
        (ap (λ xs. map (number_held (state.value third read)) xs) is3 ∙ are3 read a2 ∙ ap (λ xs. numbers_read uw xs) (at_choices read a) ∙ ap (λ (ws : List ℕ). numbers_read ws (behind_constants rule typing read)) is_uw)

module _ {C L : Type 0} {state : Ghosts C L} {old new : C} (keeps : Keeps state old new) where
  -- the literals stand for the same setting when the circuit grows
  pub setting-kept : (read : List Bool) → state.admits old read → (made : SettingBits L) → SettingIsOwn (state.has_literal old) made → setting_held (state.value new read) made ≡ setting_held (state.value old read) made
  setting-kept read admitted made own =
      rw (values-kept keeps read admitted made.inputs own.inputs, numbers_held-kept keeps read admitted made.constants own.constants, numbers_held-kept keeps read admitted made.target_choices own.target_choices) refl

  pub setting_own-kept : (made : SettingBits L) → SettingIsOwn (state.has_literal old) made → SettingIsOwn (state.has_literal new) made
  setting_own-kept made own = record {
    inputs = AllOwn-kept keeps made.inputs own.inputs;
    constants = AllAll-kept keeps made.constants own.constants;
    target_choices = AllAll-kept keeps made.target_choices own.target_choices;
  }
