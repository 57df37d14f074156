-- A run is a function: each operand, operation and list of statements comes to one end.
use Rattle.rule_core.proofs.Common.{◌≡◌, ℕ, List, [], ◌∷◌, sym, ◌∙◌, same_Some, Number, Value, Effect, Rule, Statement, Op, Binary, Compare, Unary, Select, Convert, Freeze, Copy, Operand, Argument, Held, Ending, Undefines, Holds, GoesOn, Leads, GivesLast, Given, given_by, at_start, temporaries_of, holding_source, holding_target, ArgumentGives, OperandGives, OpGives, StatementGives, Follows, SourceGives, TargetGoesOn, TargetGives}
use Rattle.ops.specs.declared.value.Effect.TheVariants as effects
use Rattle.rule_core.specs.declared.rule.Argument.TheVariants as arguments

module _ (typing : List ℕ) (given : Given) where
  argument_once : (held : Held) (N : ℕ) (x : Argument) (v w : Value) → ArgumentGives typing given held N x v → ArgumentGives typing given held N x w → v ≡ w
  argument_once held N (arguments.Register r) v w p q = same_Some v w (sym p ∙ q)
  argument_once held N (arguments.Literal z) v w p q = p ∙ sym q
  argument_once held N (arguments.Truth b) v w p q = p ∙ sym q
  argument_once held N (arguments.Constant k) v w (n, at, is) (m, at', is') = let same : n ≡ m = same_Some n m (sym at ∙ at') in cc
  argument_once held N (arguments.Undef k) v w (n, at, is) (m, at', is') = let same : n ≡ m = same_Some n m (sym at ∙ at') in cc
  argument_once held N (arguments.Term n) v w p q = p ∙ sym q

  operand_once : (held : Held) (o : Operand) (v w : Value) → OperandGives typing given held o v → OperandGives typing given held o w → v ≡ w
  operand_once held o v w (N, width, p) (M, width', q) =
      let same : M ≡ N = same_Some M N (sym width' ∙ width) in
      argument_once held N o.value v w p (rw same at q)

  op_once : (held : Held) (N : ℕ) (op : Op) (d e : Effect) → OpGives typing given held N op d → OpGives typing given held N op e → d ≡ e
  op_once held N (Binary op flags a b) d e (x, y, px, py, is) (x', y', qx, qy, is') =
      let left : x ≡ x' = operand_once held a x x' px qx in
      let right : y ≡ y' = operand_once held b y y' py qy in
      cc
  op_once held N (Compare pred samesign a b) d e (M, x, y, at, px, py, is) (M', x', y', at', qx, qy, is') =
      let from : M ≡ M' = same_Some M M' (sym at ∙ at') in
      let left : x ≡ x' = operand_once held a x x' px qx in
      let right : y ≡ y' = operand_once held b y y' py qy in
      cc
  op_once held N (Unary op truth a) d e (x, px, is) (x', qx, is') = let operand : x ≡ x' = operand_once held a x x' px qx in cc
  op_once held N (Select c a b) d e (z, x, y, pz, px, py, is) (z', x', y', qz, qx, qy, is') =
      let condition : z ≡ z' = operand_once held c z z' pz qz in
      let yes : x ≡ x' = operand_once held a x x' px qx in
      let no : y ≡ y' = operand_once held b y y' py qy in
      cc
  op_once held N (Convert cast flags a to) d e (M, x, at, px, is) (M', x', at', qx, is') =
      let from : M ≡ M' = same_Some M M' (sym at ∙ at') in
      let operand : x ≡ x' = operand_once held a x x' px qx in
      cc
  op_once held N (Freeze a k) d e (x, n, px, at, is) (x', n', qx, at', is') =
      let operand : x ≡ x' = operand_once held a x x' px qx in
      let number : n ≡ n' = same_Some n n' (sym at ∙ at') in
      cc
  op_once held N (Copy a) d e (x, px, is) (x', qx, is') = let same : x ≡ x' = operand_once held a x x' px qx in cc

  statement_once : (held : Held) (s : Statement) (d e : Effect) → StatementGives typing given held s d → StatementGives typing given held s e → d ≡ e
  statement_once held s d e (N, width, p) (M, width', q) =
      let same : M ≡ N = same_Some M N (sym width' ∙ width) in
      op_once held N s.op d e p (rw same at q)

  pub follows_once : (holding : Held → Value → Held) (statements : List Statement) (held : Held) (a b : Ending)
      → Follows typing given holding statements held a → Follows typing given holding statements held b → a ≡ b
  follows_once holding [] held a b p q = p ∙ sym q
  follows_once holding (s ∷ rest) held a b (d, gives, p) (e, gives', q) =
      let same : e ≡ d = statement_once held s e d gives' gives in
      let q' = rw same at q in
      elim d as (λ e. GoesOn (λ v. Follows typing given holding rest (holding held v) a) e a → GoesOn (λ v. Follows typing given holding rest (holding held v) b) e b → a ≡ b) [
        | effects.Undefined ↦ λ l r. l ∙ sym r
        | effects.Gives v ↦ λ l r. follows_once holding rest (holding held v) a b l r
      ] p q'

last_once : (values : List Value) (d e : Effect) → GivesLast values d → GivesLast values e → d ≡ e
last_once values d e (v, at, is) (w, at', is') = let same : v ≡ w = same_Some v w (sym at ∙ at') in cc

leads_once : (next : Held → Effect → Type 0) → ((held : Held) (d e : Effect) → next held d → next held e → d ≡ e) → (a b : Ending) → a ≡ b → (d e : Effect) → Leads next a d → Leads next b e → d ≡ e
leads_once next once a b same d e p q =
    let q' = rw (sym same) at q in
    elim a as (λ end. Leads next end d → Leads next end e → d ≡ e) [
      | Undefines ↦ λ l r. l ∙ sym r
      | Holds held ↦ λ l r. once held d e l r
    ] p q'

module _ (typing : List ℕ) (constants choices : List Number) where
  pub source_once : (rule : Rule) (inputs : List Value) (d e : Effect) → SourceGives typing constants choices rule inputs d → SourceGives typing constants choices rule inputs e → d ≡ e
  source_once rule inputs d e (a, follows, leads) (b, follows', leads') =
      leads_once (λ held. GivesLast held.source) (λ held. last_once held.source) a b (follows_once typing (given_by typing constants choices rule) holding_source rule.source (at_start inputs) a b follows follows') d e leads leads'

  target_goes_once : (rule : Rule) (held : Held) (d e : Effect) → TargetGoesOn typing constants choices rule held d → TargetGoesOn typing constants choices rule held e → d ≡ e
  target_goes_once rule held d e (a, follows, leads) (b, follows', leads') =
      leads_once (λ after. GivesLast after.target) (λ after. last_once after.target) a b (follows_once typing (given_by typing constants choices rule) holding_target rule.target held a b follows follows') d e leads leads'

  pub target_once : (rule : Rule) (inputs : List Value) (d e : Effect) → TargetGives typing constants choices rule inputs d → TargetGives typing constants choices rule inputs e → d ≡ e
  target_once rule inputs d e (a, follows, leads) (b, follows', leads') =
      leads_once (TargetGoesOn typing constants choices rule) (target_goes_once rule) a b (follows_once typing (given_by typing constants [] rule) holding_source (temporaries_of rule) (at_start inputs) a b follows follows') d e leads leads'
