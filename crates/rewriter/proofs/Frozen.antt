-- An argument of a rule that is ready gives a value of its width.
use Rattle.rewriter.proofs.Common.{◌≡◌, ℕ, true, false, List, refl, sym, subst, ◌∙◌, arith, same_Some, get_or_from_slice_get, Number, IsValueOf, Value, ArgumentIsReady, Held, Given, ArgumentGives, Argument, residue_lt, number_or_zero_fits}
use Rattle.ops.specs.declared.value.Value.TheVariants as values
use Rattle.rule_core.specs.declared.rule.Argument.TheVariants as arguments

-- a number that is equal to one of this width is of this width
number_fits : (N : ℕ) (n m : Number) (v : Value) → n ≡ m → v ≡ values.Bits m → IsValueOf N (values.Bits n) → IsValueOf N v
number_fits N n m v same is fits = subst (IsValueOf N) (sym is) (subst (λ (x : Number). IsValueOf N (values.Bits x)) same fits)

module _ (typing : List ℕ) (given : Given) (held : Held) where
  pub argument_fits : (N : ℕ) (x : Argument) (v : Value) → ArgumentIsReady given held N x → ArgumentGives typing given held N x v → IsValueOf N v
  argument_fits N (arguments.Register r) v (u, at, fits) gives = subst (IsValueOf N) (same_Some u v (sym at ∙ gives)) fits
  argument_fits N (arguments.Literal z) v ready gives = subst (IsValueOf N) (sym gives) (refl, residue_lt N z)
  argument_fits N (arguments.Truth true) v ready gives = subst (IsValueOf N) (sym gives) (refl, rw ready (omega arith))
  argument_fits N (arguments.Truth false) v ready gives = subst (IsValueOf N) (sym gives) (refl, rw ready (omega arith))
  argument_fits N (arguments.Constant k) v (n, at, fits) (m, here, is) = number_fits N n m v (same_Some n m (sym at ∙ here)) is fits
  argument_fits N (arguments.Undef k) v (n, at, fits) (m, here, is) = number_fits N n m v (same_Some n m (sym at ∙ here)) is fits
  argument_fits N (arguments.Term n) v (u, at, fits) gives =
      subst (IsValueOf N) (sym gives) (refl, rw (get_or_from_slice_get given.terms n u values.Poison at) (number_or_zero_fits N u fits))
