-- A search asks for the verdict of one match more.
use Rattle.asked_verdicts.proofs.Common.{◌≡◌, ℕ, ◌+◌, ◌<◌, Bool, true, false, List, [], ◌∷◌, ◌++◌, length, get_or, take, map, Some, sym, ap, subst, ◌∙◌, ◌||◌, All, Any, MatchBool, slice_get, take_more, map-append, All-append, All-cons, All-nil, Contains-append_left, Any-push, same_Some, slice_get_within, Function, Rule, IsRule, IsTyping, Match, MatchesAmong, AreReady, Verdicts, Pair, pair_of, IsTurnedDown, Asks, Knowledge}
use Rattle.strategy_core.specs.Asked.{IsAdmitted}
use Rattle.asked_verdicts.proofs.Growing.{all_turned_down_stay, any_admitted_stays}
use Rattle.asked_verdicts.proofs.Sequence.{asks_both, row_stays}

pub next_match : (ms : List Match) (k : ℕ) (m : Match) → k < length ms → m ≡ get_or ms k m → take (k + 1) ms ≡ take k ms ++ m ∷ []
next_match ms k m within is = take_more ms k m within ∙ ap (λ (n : Match). take k ms ++ n ∷ []) (sym is)

pub any_left : {X : Type 0} (P : X → Type 0) (xs ys : List X) → Any P xs → Any P (xs ++ ys)
any_left P xs ys (k, x, within, at, h) = (let has = Contains-append_left xs ys x (k, within, at) in (has.0, x, has.1, has.2, h))

all_more : {X : Type 0} (P : X → Type 0) (xs : List X) (x : X) → All P xs → P x → All P (xs ++ x ∷ [])
all_more P xs x all one = All-append P xs (x ∷ []) all (All-cons P x [] one (All-nil P))

-- a match is of a rule that the reader gave, at a typing of it
pub match_at : {Before : ℕ → ℕ → ℕ → ℕ → Type 0} {known : Knowledge} (rules : List Rule) (f : Function) (ms : List Match) (k : ℕ) (m : Match) → All (MatchesAmong Before known rules f) ms → k < length ms → m ≡ get_or ms k m → MatchesAmong Before known rules f m
match_at {Before} {known} rules f ms k m all within is = subst (MatchesAmong Before known rules f) (sym is) (all k m within)

pub rule_within : {Before : ℕ → ℕ → ℕ → ℕ → Type 0} {known : Knowledge} (rules : List Rule) (f : Function) (m : Match) → MatchesAmong Before known rules f m → m.rule < length rules
rule_within rules f m is = slice_get_within rules m.rule is.rule is.is_rule

pub rule_of : {Before : ℕ → ℕ → ℕ → ℕ → Type 0} {known : Knowledge} (rules : List Rule) (f : Function) (m : Match) → AreReady rules → MatchesAmong Before known rules f m → (rule : Rule) → slice_get rules m.rule ≡ Some rule → IsRule rule × IsTyping rule m.binding.typing
rule_of rules f m ready is rule at = ((ready m.rule rule at).checks, subst (λ (r : Rule). IsTyping r m.binding.typing) (same_Some is.rule rule (sym is.is_rule ∙ at)) is.matches.typing)

-- one more match is asked behind others
module _ (rules : List Rule) (conflicts : ℕ) (first : List Match) (m : Match) (a b c : Verdicts) (one : Asks rules conflicts (pair_of m ∷ []) b c) where
  pub asks_more : Asks rules conflicts (map pair_of first) a b → Asks rules conflicts (map pair_of (first ++ m ∷ [])) a c
  asks_more before = subst (λ (l : List Pair). Asks rules conflicts l a c) (sym (map-append pair_of first (m ∷ []))) (asks_both rules conflicts (map pair_of first) (pair_of m ∷ []) a b c before one)

  pub still_turned_down : All (IsTurnedDown b.table) first → All (IsTurnedDown c.table) first
  still_turned_down all = all_turned_down_stay rules b.table c.table (row_stays rules conflicts (pair_of m ∷ []) b c one) first all

  pub turned_down_more : All (IsTurnedDown b.table) first → IsTurnedDown c.table m → All (IsTurnedDown c.table) (first ++ m ∷ [])
  turned_down_more all here = all_more (IsTurnedDown c.table) first m (still_turned_down all) here

  still_any : Any (IsAdmitted b.table) first → Any (IsAdmitted c.table) (first ++ m ∷ [])
  still_any some = any_left (IsAdmitted c.table) first (m ∷ []) (any_admitted_stays rules b.table c.table (row_stays rules conflicts (pair_of m ∷ []) b c one) first some)

  pub any_more : (any here : Bool) → MatchBool any (Any (IsAdmitted b.table) first) (All (IsTurnedDown b.table) first) → MatchBool here (IsAdmitted c.table m) (IsTurnedDown c.table m)
      → MatchBool (any || here) (Any (IsAdmitted c.table) (first ++ m ∷ [])) (All (IsTurnedDown c.table) (first ++ m ∷ []))
  any_more true here some says = still_any some
  any_more false true all says = Any-push (IsAdmitted c.table) first m says
  any_more false false all says = turned_down_more all says
