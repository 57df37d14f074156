-- Statements that run one after the other.
use Rattle.blast_rule.proofs.Common.{◌≡◌, ℕ, ◌-◌, Bool, true, false, if◌then◌else◌, List, [], ◌∷◌, ◌++◌, length, length-append, Some, refl, sym, ap, subst, arith, slice_get, Number, Value, Effect, Rule, Statement, Undefines, Holds, GoesOn, Leads, GivesLast, Given, given_by, at_start, temporaries_of, holding_source, holding_target, StatementGives, Follows, TemporariesEnd, SourceGives, TargetGoesOn, TargetGives, Ending, follows-stops, ending}
use Rattle.ops.specs.declared.value.Effect.TheVariants as effects
use Rattle.rule_core.specs.Run.{Held}

-- undefined behaviour where the bit is true, and else the value
abbrev pub effect : Bool → Value → Effect
effect undefined v = if undefined then effects.Undefined else effects.Gives v

slice_get-last : (values : List Value) (v : Value) → slice_get (values ++ v ∷ []) (length values) ≡ Some v
slice_get-last [] v = refl
slice_get-last (w ∷ values) v = slice_get-last values v

pub gives_last : (values : List Value) (v : Value) → GivesLast (values ++ v ∷ []) (effects.Gives v)
gives_last values v =
    let last : length (values ++ v ∷ []) - 1 ≡ length values = omega (arith, length-append values (v ∷ [])) in
    (v, rw last (slice_get-last values v), refl)

module _ (typing : List ℕ) (given : Given) where
  follows-append : (holding : Held → Value → Held) (first more : List Statement) (start mid : Held) (end : Ending)
      → Follows typing given holding first start (Holds mid) → Follows typing given holding more mid end → Follows typing given holding (first ++ more) start end
  follows-append holding [] more start mid end ran later = let same : mid ≡ start = cc in subst (λ h. Follows typing given holding more h end) same later
  follows-append holding (s ∷ first) more start mid end (e, gives, goes) later = (
    e,
    gives,
    elim e as (λ d. GoesOn (λ v. Follows typing given holding first (holding start v) (Holds mid)) d (Holds mid) → GoesOn (λ v. Follows typing given holding (first ++ more) (holding start v) end) d end) [
      | effects.Undefined ↦ λ stop. cc
      | effects.Gives v ↦ λ next. follows-append holding first more (holding start v) mid end next later
    ] goes,
  )

  -- one more statement runs
  pub follows-push : (holding : Held → Value → Held) (first : List Statement) (s : Statement) (start now after : Held) (before undefined : Bool) (v : Value)
      → Follows typing given holding first start (ending before now) → (before ≡ true → undefined ≡ true) → (before ≡ false → StatementGives typing given now s (effect undefined v)) → after ≡ holding now v
      → Follows typing given holding (first ++ s ∷ []) start (ending undefined after)
  follows-push holding first s start now after true undefined v ran stays gives is = rw (stays refl) (follows-stops typing given holding first (s ∷ []) start ran)
  follows-push holding first s start now after false true v ran stays gives is = follows-append holding first (s ∷ []) start now Undefines ran (effects.Undefined, gives refl, refl)
  follows-push holding first s start now after false false v ran stays gives is = follows-append holding first (s ∷ []) start now (Holds after) ran (effects.Gives v, gives refl, ap Holds is)

-- the source's effect is that of its last statement, after the temporaries
source_leads : (undefined : Bool) (inputs values target : List Value) (v : Value) → Leads (λ held. GivesLast held.source) (ending undefined (record { inputs = inputs; source = values ++ v ∷ []; target = target })) (effect undefined v)
source_leads true inputs values target v = refl
source_leads false inputs values target v = gives_last values v

pub source-gives : (typing : List ℕ) (constants choices : List Number) (rule : Rule) (inputs source : List Value) (root : Statement) (before undefined : Bool) (v : Value) → rule.source ≡ temporaries_of rule ++ root ∷ []
    → Follows typing (given_by typing constants choices rule) holding_source (temporaries_of rule) (at_start inputs) (ending before (record { inputs = inputs; source = source; target = [] }))
    → (before ≡ true → undefined ≡ true) → (before ≡ false → StatementGives typing (given_by typing constants choices rule) (record { inputs = inputs; source = source; target = [] }) root (effect undefined v))
    → SourceGives typing constants choices rule inputs (effect undefined v)
source-gives typing constants choices rule inputs source root before undefined v parts ran stays gives =
    let given = given_by typing constants choices rule in
    let now : Held = record { inputs = inputs; source = source; target = [] } in
    let whole = follows-push typing given holding_source (temporaries_of rule) root (at_start inputs) now (holding_source now v) before undefined v ran stays gives refl in
    (ending undefined (holding_source now v), subst (λ statements. Follows typing given holding_source statements (at_start inputs) (ending undefined (holding_source now v))) (sym parts) whole, source_leads undefined inputs source [] v)

-- the target goes on from what registers hold after the temporaries, and its effect is that of its last statement
target_leads : (undefined : Bool) (held : Held) (v : Value) → GivesLast held.target (effects.Gives v) → Leads (λ after. GivesLast after.target) (ending undefined held) (effect undefined v)
target_leads true held v last = refl
target_leads false held v last = last

pub target-goes-on : (typing : List ℕ) (constants choices : List Number) (rule : Rule) (mid after : Held) (here : Bool) (v : Value)
    → Follows typing (given_by typing constants choices rule) holding_target rule.target mid (ending here after)
    → GivesLast after.target (effects.Gives v) → TargetGoesOn typing constants choices rule mid (effect here v)
target-goes-on typing constants choices rule mid after here v later last = (ending here after, later, target_leads here after v last)

-- the target's effect after the temporaries, or undefined behaviour where these have that
pub target-gives : (typing : List ℕ) (constants choices : List Number) (rule : Rule) (inputs : List Value) (mid : Held) (before : Bool) (e e' : Effect)
    → TemporariesEnd typing constants rule inputs (ending before mid) → TargetGoesOn typing constants choices rule mid e → e' ≡ (if before then effects.Undefined else e)
    → TargetGives typing constants choices rule inputs e'
target-gives typing constants choices rule inputs mid true e e' ran goes is = (Undefines, ran, is)
target-gives typing constants choices rule inputs mid false e e' ran goes is = (Holds mid, ran, subst (TargetGoesOn typing constants choices rule mid) (sym is) goes)
