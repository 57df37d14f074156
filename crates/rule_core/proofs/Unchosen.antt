-- Statements without choices run the same whatever numbers the choices have.
use Rattle.rule_core.proofs.Common.{◌≡◌, ℕ, suc, ◌-◌, ◌<◌, List, [], ◌∷◌, ◌++◌, length, drop, Some, refl, arith, slice_get, Contains, take-append-drop, Number, Value, Effect, Rule, Statement, Op, Binary, Compare, Unary, Select, Convert, Freeze, Copy, Operand, Argument, Choice, operands_of, choices_of, IsRule, Held, Ending, Undefines, GoesOn, Given, given_by, at_start, temporaries_of, holding_source, ArgumentGives, OperandGives, OpGives, Follows, TemporariesEnd, SourceGives}
use Rattle.ops.specs.declared.value.Effect.TheVariants as effects
use Rattle.rule_core.specs.declared.rule.Argument.TheVariants as arguments
use Rattle.rule_core.proofs.Members.{Contains-from_get, undef_chosen, freeze_chosen}
use Rattle.rule_core.proofs.Givens.{get_taken, opens_root}
use Rattle.rule_core.proofs.Once.{follows_once}

-- a run that ends in undefined behaviour does so with more statements behind
pub follows-stops : (typing : List ℕ) (given : Given) (holding : Held → Value → Held) (first more : List Statement) (start : Held) → Follows typing given holding first start Undefines
    → Follows typing given holding (first ++ more) start Undefines
follows-stops typing given holding [] more start ran = cc
follows-stops typing given holding (s ∷ first) more start (e, gives, goes) = (
  e,
  gives,
  elim e as (λ d. GoesOn (λ v. Follows typing given holding first (holding start v) Undefines) d Undefines → GoesOn (λ v. Follows typing given holding (first ++ more) (holding start v) Undefines) d Undefines) [
    | effects.Undefined ↦ λ stop. stop
    | effects.Gives v ↦ λ next. follows-stops typing given holding first more (holding start v) next
  ] goes,
)

-- the operand isn't `undef`
NoUndef : Argument → Type 0
NoUndef argument = (k : ℕ) → argument ≡ arguments.Undef k → ⊥

module _ (rule : Rule) (typing : List ℕ) (constants choices : List Number) where
  argument_same : (held : Held) (N : ℕ) (x : Argument) (v : Value) → NoUndef x → ArgumentGives typing (given_by typing constants [] rule) held N x v → ArgumentGives typing (given_by typing constants choices rule) held N x v
  unfolding NoUndef
  argument_same held N (arguments.Undef k) v none gives = absurd (none k refl)
  argument_same held N x v none gives = gives

  operand_same : (held : Held) (o : Operand) (v : Value) → NoUndef o.value → OperandGives typing (given_by typing constants [] rule) held o v → OperandGives typing (given_by typing constants choices rule) held o v
  operand_same held o v none (N, width, gives) = (N, width, argument_same held N o.value v none gives)

  op_same : (held : Held) (N : ℕ) (op : Op) (e : Effect) → ((o : Operand) → Contains (operands_of op) o → NoUndef o.value) → ((a : Operand) (k : ℕ) → op ≡ Freeze a k → ⊥) → OpGives typing (given_by typing constants [] rule) held N op e → OpGives typing (given_by typing constants choices rule) held N op e
  op_same held N (Binary op flags a b) e none thawed (x, y, p, q, is) =
      let among = a ∷ b ∷ [] in
      (x, y, operand_same held a x (none a (Contains-from_get among 0 a refl)) p, operand_same held b y (none b (Contains-from_get among 1 b refl)) q, is)
  op_same held N (Compare pred samesign a b) e none thawed (M, x, y, at, p, q, is) =
      let among = a ∷ b ∷ [] in
      (M, x, y, at, operand_same held a x (none a (Contains-from_get among 0 a refl)) p, operand_same held b y (none b (Contains-from_get among 1 b refl)) q, is)
  op_same held N (Unary op truth a) e none thawed (x, p, is) = (x, operand_same held a x (none a (Contains-from_get (a ∷ []) 0 a refl)) p, is)
  op_same held N (Select c a b) e none thawed (z, x, y, o, p, q, is) =
      let among = c ∷ a ∷ b ∷ [] in (
        z,
        x,
        y,
        operand_same held c z (none c (Contains-from_get among 0 c refl)) o,
        operand_same held a x (none a (Contains-from_get among 1 a refl)) p,
        operand_same held b y (none b (Contains-from_get among 2 b refl)) q,
        is,
      )
  op_same held N (Convert cast flags a to) e none thawed (M, x, at, p, is) = (M, x, at, operand_same held a x (none a (Contains-from_get (a ∷ []) 0 a refl)) p, is)
  op_same held N (Freeze a k) e none thawed gives = absurd (thawed a k refl)
  op_same held N (Copy a) e none thawed (x, p, is) = (x, operand_same held a x (none a (Contains-from_get (a ∷ []) 0 a refl)) p, is)

  follows_same : (statements : List Statement) (held : Held) (end : Ending) → ((k : ℕ) (s : Statement) (choice : Choice) → slice_get statements k ≡ Some s → Contains (choices_of s) choice → ⊥)
      → Follows typing (given_by typing constants [] rule) holding_source statements held end → Follows typing (given_by typing constants choices rule) holding_source statements held end
  unfolding NoUndef
  follows_same [] held end none is = is
  follows_same (s ∷ statements) held end none (e, (N, width, gives), goes) =
      let same = op_same held N s.op e
      (λ o among k is. none 0 s (record { place = k; class = o.class }) refl (undef_chosen s o k among is))
      (λ a k is. none 0 s (record { place = k; class = s.class }) refl (freeze_chosen s a k is)) gives in
      elim e as (λ e. OpGives typing (given_by typing constants choices rule) held N s.op e → GoesOn (λ v. Follows typing (given_by typing constants [] rule) holding_source statements (holding_source held v) end) e end
      → Follows typing (given_by typing constants choices rule) holding_source (s ∷ statements) held end) [
        | effects.Undefined ↦ λ gives goes. (effects.Undefined, (N, width, gives), goes)
        | effects.Gives v ↦ λ gives goes. (effects.Gives v, (N, width, gives), follows_same statements (holding_source held v) end (λ k. none (suc k)) goes)
      ] same goes

  -- the source's temporaries have no choices, so they run the same
  pub temporaries_same : IsRule rule → (held : Held) (end : Ending) → Follows typing (given_by typing constants [] rule) holding_source (temporaries_of rule) held end
      → Follows typing (given_by typing constants choices rule) holding_source (temporaries_of rule) held end
  temporaries_same checked held end ran =
      follows_same (temporaries_of rule) held end (λ k s choice at among.
      let whole = get_taken rule.source (length rule.source - 1) k s at in
      let root : suc k ≡ length rule.source = opens_root rule checked k s choice whole.0 among in
      let before : k < length rule.source - 1 = whole.1 in
      absurd (omega arith)) ran

  -- where they have undefined behaviour, the source does
  pub undefined_source : IsRule rule → (inputs : List Value) (e : Effect) → TemporariesEnd typing constants rule inputs Undefines → SourceGives typing constants choices rule inputs e → e ≡ effects.Undefined
  undefined_source checked inputs e ends (end, follows, leads) =
      let count : ℕ = length rule.source - 1 in
      let given = given_by typing constants choices rule in
      let runs = follows-stops typing given holding_source (temporaries_of rule) (drop count rule.source) (at_start inputs) (temporaries_same checked (at_start inputs) Undefines ends) in
      let all : Follows typing given holding_source rule.source (at_start inputs) Undefines = rw (take-append-drop count rule.source) at runs in
      let same : end ≡ Undefines = follows_once typing given holding_source rule.source (at_start inputs) end Undefines follows all in
      rw same at leads
