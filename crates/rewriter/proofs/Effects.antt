-- Effects of the halves of a rule, from how their statements end.
use Rattle.rewriter.proofs.Common.{◌≡◌, ℕ, suc, ◌-◌, ◌<◌, List, [], ◌∷◌, ◌++◌, length, take, length-append, Some, refl, sym, ap, subst, ◌∙◌, arith, slice_get, take-suc, take_all, slice_get_within, get_or_from_slice_get, Number, Value, Effect, Held, Given, Ending, Undefines, Holds, GoesOn, given_by, at_start, temporaries_of, holding_source, StatementGives, Follows, SourceGives, GivesLast, Rule, Statement, get_right}
use Rattle.ops.specs.declared.value.Effect.TheVariants as effects

-- statements run from where others before them end
follows_append : (typing : List ℕ) (given : Given) (holding : Held → Value → Held) (first more : List Statement) (start mid : Held) (end : Ending)
    → Follows typing given holding first start (Holds mid) → Follows typing given holding more mid end → Follows typing given holding (first ++ more) start end
follows_append typing given holding [] more start mid end ran then = let same : mid ≡ start = cc in subst (λ h. Follows typing given holding more h end) same then
follows_append typing given holding (s ∷ first) more start mid end (e, gives, goes) then = (
  e,
  gives,
  elim e as (λ d. GoesOn (λ v. Follows typing given holding first (holding start v) (Holds mid)) d (Holds mid) → GoesOn (λ v. Follows typing given holding (first ++ more) (holding start v) end) d end) [
    | effects.Undefined ↦ λ stop. absurd cc
    | effects.Gives v ↦ λ next. follows_append typing given holding first more (holding start v) mid end next then
  ] goes,
)

-- the temporaries and the root's statement are the source
source_apart : (rule : Rule) (s : Statement) → slice_get rule.source (length rule.source - 1) ≡ Some s → temporaries_of rule ++ s ∷ [] ≡ rule.source
source_apart rule s at =
    let n : ℕ = length rule.source - 1 in
    let inside : n < length rule.source = slice_get_within rule.source n s at in
    let parts : take (suc n) rule.source ≡ take n rule.source ++ s ∷ [] = take-suc rule.source n s inside ∙ ap (λ y. take n rule.source ++ y ∷ []) (get_or_from_slice_get rule.source n s s at) in
    sym parts ∙ take_all (suc n) rule.source (omega arith)

last_of_push : (values : List Value) (v : Value) → GivesLast (values ++ v ∷ []) (effects.Gives v)
last_of_push values v = (v, get_right values (v ∷ []) 0 (length (values ++ v ∷ []) - 1) v refl (omega (arith, length-append values (v ∷ []))), refl)

-- the source has the effect of the root's statement, behind its temporaries
pub source_gives : (typing : List ℕ) (constants choices : List Number) (rule : Rule) (inputs : List Value) (H : Held) (s : Statement) (e : Effect)
    → Follows typing (given_by typing constants choices rule) holding_source (temporaries_of rule) (at_start inputs) (Holds H)
    → slice_get rule.source (length rule.source - 1) ≡ Some s → StatementGives typing (given_by typing constants choices rule) H s e → SourceGives typing constants choices rule inputs e
source_gives typing constants choices rule inputs H s effects.Undefined ran at gives =
    let given : Given = given_by typing constants choices rule in
    (Undefines, subst (λ (l : List Statement). Follows typing given holding_source l (at_start inputs) Undefines) (source_apart rule s at) (follows_append typing given holding_source (temporaries_of rule) (s ∷ []) (at_start inputs) H Undefines ran (effects.Undefined, gives, refl)), refl)
source_gives typing constants choices rule inputs H s (effects.Gives v) ran at gives =
    let given : Given = given_by typing constants choices rule in
    let end : Ending = Holds (holding_source H v) in
    (end, subst (λ (l : List Statement). Follows typing given holding_source l (at_start inputs) end) (source_apart rule s at) (follows_append typing given holding_source (temporaries_of rule) (s ∷ []) (at_start inputs) H end ran (effects.Gives v, gives, refl)), last_of_push H.source v)
