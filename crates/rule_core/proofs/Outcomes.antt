-- At each setting that fits, a rule's halves have one effect each.
use Rattle.rule_core.proofs.Common.{◌≡◌, ℕ, suc, ◌+◌, ◌-◌, ◌<◌, ◌≤◌, true, false, ◌⊎◌, inl, inr, List, [], ◌∷◌, length, take, length-take, length-append, add-zero, add-suc, suc-add, zero-add, Some, refl, sym, ap, subst, ◌∙◌, arith, get_or, slice_get, map, take_all, slice_get-get_or, get_or_from_slice_get, same_Some, Number, IsValueOf, IsEffectOf, IsEffectOf-instruction, IsValueOf-comparison, IsValueOf-conversion, IsValueOf-selection, IsValueOf-unary, instruction, selection, conversion, residue, bits, Value, Poison, Bits, Effect, Rule, Statement, Op, Binary, Compare, Unary, Select, Convert, Freeze, Copy, Argument, IsTyping, IsRule, Held, Given, given_by, frozen, TemporariesEnd, Ending, Undefines, Holds, GivesLast, at_start, temporaries_of, holding_source, holding_target, ArgumentGives, OpGives, StatementGives, Follows, SourceGives, TargetGoesOn, TargetGives, number_or_zero, value_at, InputsFit, ConstantsFit, SourceChoicesFit, TargetChoicesFit, Setting, SettingFits, witness_number, HaveEffects, RulesHaveOneOutcome, GivenFits, ArgumentIsReady, OpIsReady, StatementIsReady, HeldFits}
use Rattle.ops.specs.Comparison.{comparison}
use Rattle.ops.specs.Unary.{unary}
use Rattle.ops.specs.declared.value.Effect.TheVariants as effects
use Rattle.rule_core.specs.declared.rule.Argument.TheVariants as arguments
use Rattle.rule_core.proofs.Members.{Contains-from_get}
use Rattle.rule_core.proofs.Fits.{residue_lt, number_or_zero_fits}
use Rattle.rule_core.proofs.Givens.{get_taken, source_given, given_before_root, target_given}
use Rattle.rule_core.proofs.Once.{follows_once, source_once, target_once}
use Rattle.rule_core.proofs.Unchosen.{undefined_source}
use Rattle.rule_core.proofs.Witnesses.{choices_fit}
use Rattle.rule_core.proofs.Ready.{source_ready, target_ready, ValuesFit-push, ValuesFit-none}

frozen_fits : (N : ℕ) (v : Value) (n : Number) → IsValueOf N v → IsValueOf N (Bits n) → IsValueOf N (frozen v n)
frozen_fits N Poison n is fit = fit
frozen_fits N (Bits a) n is fit = is

-- an operand that can be read, and a statement whose operands can, gives a value of its width
module _ (typing : List ℕ) (given : Given) (held : Held) where
  argument_gives : (N : ℕ) (x : Argument) → ArgumentIsReady given held N x → (v : Value) × ArgumentGives typing given held N x v × IsValueOf N v
  argument_gives N (arguments.Register r) ready = ready
  argument_gives N (arguments.Literal z) ready = (bits N (residue N z), refl, (refl, residue_lt N z))
  argument_gives N (arguments.Truth true) ready = (bits N 1, refl, (refl, rw ready (omega arith)))
  argument_gives N (arguments.Truth false) ready = (bits N 0, refl, (refl, rw ready (omega arith)))
  argument_gives N (arguments.Constant k) (n, at, is) = (Bits n, (n, at, refl), is)
  argument_gives N (arguments.Undef k) (n, at, is) = (Bits n, (n, at, refl), is)
  argument_gives N (arguments.Term n) (v, at, is) =
      (bits N (number_or_zero (value_at given.terms n)), refl, (refl, rw (get_or_from_slice_get given.terms n v Poison at) (number_or_zero_fits N v is)))

  op_gives : (N : ℕ) (op : Op) → OpIsReady typing given held N op → (e : Effect) × OpGives typing given held N op e × IsEffectOf N e
  op_gives N (Binary op flags a b) (fit, (a_width, a_ready), (b_width, b_ready)) =
      let x = argument_gives N a.value a_ready in
      let y = argument_gives N b.value b_ready in
      (instruction op flags N x.0 y.0, (x.0, y.0, (N, a_width, x.1), (N, b_width, y.1), refl), IsEffectOf-instruction op flags N x.0 y.0 x.2 y.2)
  op_gives N (Compare pred samesign a b) (M, (a_width, a_ready), (b_width, b_ready), one) =
      let x = argument_gives M a.value a_ready in
      let y = argument_gives M b.value b_ready in
      let value = comparison pred samesign M x.0 y.0 in
      (effects.Gives value, (M, x.0, y.0, a_width, (M, a_width, x.1), (M, b_width, y.1), refl), rw one (IsValueOf-comparison pred samesign M x.0 y.0))
  op_gives N (Unary op truth a) (a_width, a_ready) =
      let x = argument_gives N a.value a_ready in
      (effects.Gives (unary op truth N x.0), (x.0, (N, a_width, x.1), refl), IsValueOf-unary op truth N x.0 x.2)
  op_gives N (Select c a b) ((c_width, c_ready), (a_width, a_ready), (b_width, b_ready)) =
      let z = argument_gives 1 c.value c_ready in
      let x = argument_gives N a.value a_ready in
      let y = argument_gives N b.value b_ready in
      let value = selection z.0 x.0 y.0 in
      (effects.Gives value, (z.0, x.0, y.0, (1, c_width, z.1), (N, a_width, x.1), (N, b_width, y.1), refl), IsValueOf-selection N z.0 x.0 y.0 x.2 y.2)
  op_gives N (Convert cast flags a to) (M, (a_width, a_ready), fit) =
      let x = argument_gives M a.value a_ready in
      let value = conversion cast flags M N x.0 in
      (effects.Gives value, (M, x.0, a_width, (M, a_width, x.1), refl), IsValueOf-conversion cast flags M N x.0 fit x.2)
  op_gives N (Freeze a k) ((a_width, a_ready), (n, at, fit)) =
      let x = argument_gives N a.value a_ready in
      (effects.Gives (frozen x.0 n), (x.0, n, (N, a_width, x.1), at, refl), frozen_fits N x.0 n x.2 fit)
  op_gives N (Copy a) (a_width, a_ready) =
      let x = argument_gives N a.value a_ready in
      (effects.Gives x.0, (x.0, (N, a_width, x.1), refl), x.2)

  statement_gives : (s : Statement) → StatementIsReady typing given held s → (e : Effect) × StatementGives typing given held s e × ((N : ℕ) → slice_get typing s.class ≡ Some N → IsEffectOf N e)
  statement_gives s (N, width, ready) =
      let given = op_gives N s.op ready in
      (given.0, (N, width, given.1), λ M width'. let same : N ≡ M = same_Some N M (sym width ∙ width') in rw (← same) given.2)

-- A run whose every statement is ready in the states that the ones before it lead to comes to an end.
GoodEnd : (ℕ → Held → Type 0) → ℕ → Ending → Type 0
GoodEnd Good n Undefines = Unit {0}
GoodEnd Good n (Holds held) = Good n held

module _ (typing : List ℕ) (given : Given) (holding : Held → Value → Held) (statements : List Statement) (Good : ℕ → Held → Type 0)
    (ready : (k : ℕ) (s : Statement) (held : Held) → Good k held → slice_get statements k ≡ Some s → StatementIsReady typing given held s)
    (more : (k : ℕ) (s : Statement) (held : Held) (v : Value) → Good k held → slice_get statements k ≡ Some s → ((N : ℕ) → slice_get typing s.class ≡ Some N → IsValueOf N v) → Good (suc k) (holding held v)) where
  follows_on : (rest : List Statement) (k : ℕ) (held : Held) → ((j : ℕ) (s : Statement) → slice_get rest j ≡ Some s → slice_get statements (k + j) ≡ Some s) → Good k held
      → (end : Ending) × Follows typing given holding rest held end × GoodEnd Good (k + length rest) end
  unfolding GoodEnd
  follows_on [] k held align good = (Holds held, refl, rw add-zero good)
  follows_on (s ∷ rest) k held align good =
      let at : slice_get statements k ≡ Some s = rw add-zero at (align 0 s refl) in
      let step = statement_gives typing given held s (ready k s held good at) in
      let align' : (j : ℕ) (t : Statement) → slice_get rest j ≡ Some t → slice_get statements (suc k + j) ≡ Some t = λ j t h. rw (suc-add k j) (rw add-suc at (align (suc j) t h)) in
      elim step.0
      as (λ e. StatementGives typing given held s e → ((N : ℕ) → slice_get typing s.class ≡ Some N → IsEffectOf N e)
      → (end : Ending) × Follows typing given holding (s ∷ rest) held end × GoodEnd Good (k + suc (length rest)) end) [
        | effects.Undefined ↦ λ gives width. (Undefines, (effects.Undefined, gives, refl), tt)
        | effects.Gives v ↦ λ gives width.
            let tail = follows_on rest (suc k) (holding held v) align' (more k s held v good at width) in
            let count : suc k + length rest ≡ k + suc (length rest) = suc-add k (length rest) ∙ sym (add-suc k (length rest)) in
            (tail.0, (effects.Gives v, gives, tail.1), subst (λ n. GoodEnd Good n tail.0) count tail.2)
      ] step.1 step.2

-- k source statements have run, and all registers hold values of their widths
record SourceHeld (rule : Rule) (typing : List ℕ) (k : ℕ) (held : Held) : Type 0 where
  fits : HeldFits rule typing held
  count : length held.source ≡ k
  none : length held.target ≡ 0

-- the source's temporaries and k target statements have run, and likewise
record TargetHeld (rule : Rule) (typing : List ℕ) (k : ℕ) (held : Held) : Type 0 where
  fits : HeldFits rule typing held
  before : length held.source + 1 ≡ length rule.source
  count : length held.target ≡ k

module _ (rule : Rule) (typing : List ℕ) (checked : IsRule rule) (typed : IsTyping rule typing) (constants : List Number) (known : ConstantsFit rule typing constants) where
  -- the first `count` statements of the source come to an end
  source_ends : (given : Given) (count : ℕ) → GivenFits rule typing (take count rule.source) given → count ≤ length rule.source → (inputs : List Value) → InputsFit rule typing inputs
      → (end : Ending) × Follows typing given holding_source (take count rule.source) (at_start inputs) end × GoodEnd (SourceHeld rule typing) count end
  source_ends given count given_fits within inputs fit =
      let whole : (k : ℕ) (s : Statement) → slice_get (take count rule.source) k ≡ Some s → slice_get rule.source k ≡ Some s = λ k s at. (get_taken rule.source count k s at).0 in
      let run = follows_on typing given holding_source (take count rule.source) (SourceHeld rule typing)
      (λ k s held good at. source_ready rule typing (take count rule.source) given held k s checked typed given_fits good.fits (whole k s at) (Contains-from_get (take count rule.source) k s at) good.count)
      (λ k s held v good at width.
      let here : slice_get rule.source (length held.source) ≡ Some s = rw good.count (whole k s at) in
      record {
        fits = record { inputs = good.fits.inputs; source = ValuesFit-push typing rule.source held.source s v good.fits.source here width; target = good.fits.target };
        count = length-append held.source (v ∷ []) ∙ omega (arith, good.count);
        none = good.none;
      })
      (take count rule.source) 0 (at_start inputs) (λ j s at. rw zero-add at)
      (record { fits = record { inputs = fit; source = ValuesFit-none typing rule.source; target = ValuesFit-none typing rule.target }; count = refl; none = refl }) in
      let count_is : 0 + length (take count rule.source) ≡ count = simp length-take (omega arith) in
      (run.0, run.1, subst (λ n. GoodEnd (SourceHeld rule typing) n run.0) count_is run.2)

  -- and so do those of the target
  target_ends : (given : Given) (held : Held) → GivenFits rule typing rule.target given → TargetHeld rule typing 0 held
      → (end : Ending) × Follows typing given holding_target rule.target held end × GoodEnd (TargetHeld rule typing) (length rule.target) end
  target_ends given held given_fits good =
      let run = follows_on typing given holding_target rule.target (TargetHeld rule typing)
      (λ k s h g at. target_ready rule typing given h k s checked typed given_fits g.fits at g.before g.count)
      (λ k s h v g at width.
      let here : slice_get rule.target (length h.target) ≡ Some s = rw g.count at in
      record {
        fits = record { inputs = g.fits.inputs; source = g.fits.source; target = ValuesFit-push typing rule.target h.target s v g.fits.target here width };
        before = g.before;
        count = length-append h.target (v ∷ []) ∙ omega (arith, g.count);
      })
      rule.target 0 held (λ j s at. rw zero-add at) good in
      (run.0, run.1, subst (λ n. GoodEnd (TargetHeld rule typing) n run.0) (zero-add (length rule.target)) run.2)

  last_given : (values : List Value) → 0 < length values → (e : Effect) × GivesLast values e
  last_given values some =
      let v : Value = get_or values (length values - 1) Poison in
      (effects.Gives v, (v, slice_get-get_or values (length values - 1) Poison (omega arith), refl))

  -- the source has an effect
  source_gives : (choices : List Number) (inputs : List Value) → SourceChoicesFit rule typing choices → InputsFit rule typing inputs → (e : Effect) × SourceGives typing constants choices rule inputs e
  unfolding GoodEnd
  source_gives choices inputs chosen fit =
      let run = source_ends (given_by typing constants choices rule) (length rule.source) (source_given rule typing constants checked typed known choices (length rule.source) chosen) (omega arith) inputs fit in
      let whole : take (length rule.source) rule.source ≡ rule.source = take_all (length rule.source) rule.source (omega arith) in
      let all = rw whole at run.1 in
      elim run.0 as (λ end. Follows typing (given_by typing constants choices rule) holding_source rule.source (at_start inputs) end → GoodEnd (SourceHeld rule typing) (length rule.source) end → (e : Effect) × SourceGives typing constants choices rule inputs e) [
        | Undefines ↦ λ follows good. (effects.Undefined, (Undefines, follows, refl))
        | Holds held ↦ λ follows good.
            let last = last_given held.source (omega (arith, good.count, checked.source_root)) in
            (last.0, (Holds held, follows, last.1))
      ] all run.2

  -- the target has one, from what the source's temporaries hold
  target_goes_on : (choices : List Number) (held : Held) → TargetChoicesFit rule typing choices → TargetHeld rule typing 0 held → (e : Effect) × TargetGoesOn typing constants choices rule held e
  unfolding GoodEnd
  target_goes_on choices held chosen good =
      let run = target_ends (given_by typing constants choices rule) held (target_given rule typing constants checked typed known choices chosen) good in
      elim run.0 as (λ end. Follows typing (given_by typing constants choices rule) holding_target rule.target held end → GoodEnd (TargetHeld rule typing) (length rule.target) end → (e : Effect) × TargetGoesOn typing constants choices rule held e) [
        | Undefines ↦ λ follows ends. (effects.Undefined, (Undefines, follows, refl))
        | Holds after ↦ λ follows ends.
            let last = last_given after.target (omega (arith, ends.count, checked.target_root)) in
            (last.0, (Holds after, follows, last.1))
      ] run.1 run.2

  -- how the source's temporaries end
  temporaries_end : (inputs : List Value) → InputsFit rule typing inputs
      → (end : Ending) × TemporariesEnd typing constants rule inputs end × GoodEnd (SourceHeld rule typing) (length rule.source - 1) end
  temporaries_end inputs fit = source_ends (given_by typing constants [] rule) (length rule.source - 1) (given_before_root rule typing constants checked typed known) (omega arith) inputs fit

  -- the values that they hold then are of their widths
  pub temporaries_fit : (inputs : List Value) → InputsFit rule typing inputs → (held : Held) → TemporariesEnd typing constants rule inputs (Holds held) → HeldFits rule typing held
  unfolding GoodEnd
  temporaries_fit inputs fit held ends =
      let run = temporaries_end inputs fit in
      let same : run.0 ≡ Holds held = follows_once typing (given_by typing constants [] rule) holding_source (temporaries_of rule) (at_start inputs) run.0 (Holds held) run.1 ends in
      let good = rw same at run.2 in
      good.fits

  target_gives : (choices : List Number) (inputs : List Value) → TargetChoicesFit rule typing choices → InputsFit rule typing inputs → (e : Effect) × TargetGives typing constants choices rule inputs e
  unfolding GoodEnd
  target_gives choices inputs chosen fit =
      let run = temporaries_end inputs fit in
      elim run.0 as (λ end. TemporariesEnd typing constants rule inputs end → GoodEnd (SourceHeld rule typing) (length rule.source - 1) end → (e : Effect) × TargetGives typing constants choices rule inputs e) [
        | Undefines ↦ λ follows good. (effects.Undefined, (Undefines, follows, refl))
        | Holds held ↦ λ follows good.
            let start : TargetHeld rule typing 0 held = record { fits = good.fits; before = omega (arith, good.count, checked.source_root); count = good.none } in
            let rest = target_goes_on choices held chosen start in
            (rest.0, (Holds held, follows, rest.1))
      ] run.1 run.2

-- registers that hold the inputs alone fit
start_fits : (rule : Rule) (typing : List ℕ) (inputs : List Value) → InputsFit rule typing inputs → HeldFits rule typing (at_start inputs)
start_fits rule typing inputs fit = record { inputs = fit; source = ValuesFit-none typing rule.source; target = ValuesFit-none typing rule.target }

module _ (rule : Rule) (typing : List ℕ) (setting : Setting) (checked : IsRule rule) (typed : IsTyping rule typing) (fits : SettingFits rule typing setting) where
  -- the numbers that `Wit:` chooses where registers hold these values
  abbrev chosen_at : Held → List Number
  chosen_at held = map (witness_number rule typing setting held) rule.witnesses

  -- there is one outcome: `held` is what the temporaries hold, or, where they end in undefined behaviour, any values
  -- that fit
  outcome : (end : Ending) (held : Held) → TemporariesEnd typing setting.constants rule setting.inputs end → HeldFits rule typing held
      → ((other : Held) → end ≡ Holds other → held ≡ other) → ((end ≡ Undefines) ⊎ (end ≡ Holds held))
      → (choices : List Number) × (source : Effect) × (target : Effect) × HaveEffects rule typing setting choices source target
      × ((choices' : List Number) (source' target' : Effect) → HaveEffects rule typing setting choices' source' target' →
      (source' ≡ source) × (target' ≡ target) × (¬ (source ≡ effects.Undefined) → choices' ≡ choices))
  outcome end held ends held_fits holds cases =
      let choices : List Number = chosen_at held in
      let source = source_gives rule typing checked typed setting.constants fits.constants choices setting.inputs (choices_fit rule typing setting held checked typed fits held_fits) fits.inputs in
      let target = target_gives rule typing checked typed setting.constants fits.constants setting.target_choices setting.inputs fits.target_choices fits.inputs in
      let same_end : (other : Ending) → TemporariesEnd typing setting.constants rule setting.inputs other → end ≡ other = λ other.
      follows_once typing (given_by typing setting.constants [] rule) holding_source (temporaries_of rule) (at_start setting.inputs) end other ends in (
        choices,
        source.0,
        target.0,
        record {
          chosen = λ other runs. ap chosen_at (holds other (same_end (Holds other) runs));
          of_source = source.1;
          of_target = target.1;
        },
        λ choices' source' target' have.
            let same_target : target' ≡ target.0 = target_once typing setting.constants setting.target_choices rule setting.inputs target' target.0 have.of_target target.1 in
            elim cases [
              | inl undefined ↦
                  let undefines = rw undefined at ends in
                  let old : source.0 ≡ effects.Undefined = undefined_source rule typing setting.constants choices checked setting.inputs source.0 undefines source.1 in
                  let new : source' ≡ effects.Undefined = undefined_source rule typing setting.constants choices' checked setting.inputs source' undefines have.of_source in
                  (new ∙ sym old, same_target, λ defined. absurd (defined old))
              | inr held_is ↦
                  let runs = rw held_is at ends in
                  let same : choices' ≡ choices = have.chosen held runs in
                  let of_source = rw same at have.of_source in
                  (source_once typing setting.constants choices rule setting.inputs source' source.0 of_source source.1, same_target, λ defined. same)
            ],
      )

-- a rule has one outcome at each setting that fits
pub one_outcome : RulesHaveOneOutcome
unfolding GoodEnd
one_outcome rule typing setting checked typed fits =
    let ending = temporaries_end rule typing checked typed setting.constants fits.constants setting.inputs fits.inputs in
    let inputs : List Value = setting.inputs in
    elim ending.0 as (λ end. TemporariesEnd typing setting.constants rule setting.inputs end → GoodEnd (SourceHeld rule typing) (length rule.source - 1) end
    → (choices : List Number) × (source : Effect) × (target : Effect) × HaveEffects rule typing setting choices source target
    × ((choices' : List Number) (source' target' : Effect) → HaveEffects rule typing setting choices' source' target' →
    (source' ≡ source) × (target' ≡ target) × (¬ (source ≡ effects.Undefined) → choices' ≡ choices))) [
      | Undefines ↦ λ ends good. outcome rule typing setting checked typed fits Undefines (at_start inputs) ends (start_fits rule typing inputs fits.inputs) (λ other is. cc) (inl refl)
      | Holds held ↦ λ ends good. outcome rule typing setting checked typed fits (Holds held) held ends good.fits (λ other is. cc) (inr refl)
    ] ending.1 ending.2
