-- The operands for what the target reads, where its names are bound.
use Rattle.rewriter.proofs.Common.{◌≡◌, ℕ, suc, ◌<◌, ◌≤◌, List, length, Some, sym, ap, subst, ◌∙◌, arith, get_or, slice_get, slice_index, option_map_or, slice_get-get_or, get_or_from_slice_get, Number, Register, TargetMayRead, Argument, Rule, Binding, argument_put, IsBound}
use Rattle.ir_core.specs.declared.operand.Operand.{Operand}
use Rattle.ir_core.specs.declared.operand.Operand.TheVariants as operands
use Rattle.rule_core.specs.declared.rule.Argument.TheVariants as arguments
use Rattle.rule_core.specs.declared.rule.Register.{Register as RuleRegister}
use Rattle.rule_core.specs.declared.rule.Register.TheVariants as names

-- an item of a list that is there, with a function applied
map_or_at : {A B : Type 0} (f : A → B) (xs : List A) (i : ℕ) (d : A) (e : B) → i < length xs → f (get_or xs i d) ≡ option_map_or f (slice_get xs i) e
map_or_at f xs i d e lt = sym (ap (λ o. option_map_or f o e) (slice_get-get_or xs i d lt))

pub source_put : (rule : Rule) (binding : Binding) (results : List Operand) (n : ℕ) (register : RuleRegister) (j : ℕ) (bound : List Register) (d : Register) → IsBound rule binding → TargetMayRead rule n (arguments.Register register)
    → register ≡ names.Source j → bound ≡ binding.statements → (N : ℕ) → operands.Register (get_or bound j d) ≡ argument_put rule binding results N (arguments.Register register)
source_put rule binding results n register j bound d is_bound may is same N =
    let early : suc j < length rule.source = subst (λ r. TargetMayRead rule n (arguments.Register r)) is may in
    let count = is_bound.statements in
    ap (λ l. operands.Register (get_or l j d)) same ∙ map_or_at operands.Register binding.statements j d operands.Poison (omega arith) ∙ ap (λ r. argument_put rule binding results N (arguments.Register r)) (sym is)

module _ (rule : Rule) (binding : Binding) (results : List Operand) (N n : ℕ) (argument : Argument) where
  pub constant_put : (k : ℕ) (bound : List Number) (x : Number) → IsBound rule binding → TargetMayRead rule n argument → argument ≡ arguments.Constant k → bound ≡ binding.constants → x ≡ get_or bound k x
      → operands.Number x ≡ argument_put rule binding results N argument
  constant_put k bound x is_bound may is same read =
      let inside : k < length rule.constants = subst (TargetMayRead rule n) is may in
      let count = is_bound.constants.count in
      ap operands.Number read ∙ ap (λ l. operands.Number (get_or l k x)) same ∙ map_or_at operands.Number binding.constants k x operands.Poison (omega arith) ∙ ap (argument_put rule binding results N) (sym is)

-- the width of a class
pub width_positive : (rule : Rule) (binding : Binding) (c N : ℕ) → IsBound rule binding → c < length binding.typing → N ≡ slice_index binding.typing c → 1 ≤ N
width_positive rule binding c N is_bound inside is = (is_bound.typing.widths N (c, inside, get_or_from_slice_get binding.typing c N N (slice_get-get_or binding.typing c 0 inside ∙ ap (λ w. Some w) (sym is)))).0
