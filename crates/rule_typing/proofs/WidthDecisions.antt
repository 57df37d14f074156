-- Whether a class may have a width by itself, and whether its width is fixed, is decided.
use Rattle.rule_typing.proofs.Common.{◌≡◌, inl, inr, ℕ, ◌-◌, ◌^◌, ◌++◌, Option, None, Some, Bool, refl, sym, ap, subst, ℤ, pos, neg_ℤ, map_dec, dec_le, by_lt_z, clash_ℤ, same_Some, Rule, Statement, Operand, Argument, Term, Node, operands_of, operands_in, terms_in, Fixed, FitsLiteral, fixed_line, FixesWidth, StatementFixes, FitsIn, TermFits, MayHaveWidth}
use Rattle.rule_core.specs.declared.rule.Argument.TheVariants as arguments
use Rattle.rule_core.specs.declared.rule.Node.TheVariants as nodes
use Rattle.rule_typing.proofs.Deciding.{dec_both, dec_either, dec_not, stable, dec_number, dec_one, dec_each}
use Rattle.rule_typing.proofs.FixedLines.{of_fixed, fixed_of}

-- ---- fixed widths of which Q holds, too

module _ (Q : ℕ → Type 0) (each : (M : ℕ) → Dec (Q M)) where
  dec_line : (c : ℕ) (line : Option (ℕ × ℕ)) → Dec ((M : ℕ) × (line ≡ Some (c, M)) × Q M)
  dec_line c None = no (λ (M, e, q). cc)
  dec_line c (Some (d, K)) =
      map_dec (λ (same, q). (K, ap (λ x. Some (x, K)) same, q))
      (λ (M, e, q). let pair = same_Some (d, K) (c, M) e in (ap (λ (p : ℕ × ℕ). p.0) pair, subst Q (sym (ap (λ (p : ℕ × ℕ). p.1) pair)) q))
      (dec_both (dec_number d c) (each K))

  dec_written : (written : Option ℕ) → Dec ((M : ℕ) × (written ≡ Some M) × Q M)
  dec_written None = no (λ (M, e, q). cc)
  dec_written (Some K) = map_dec (λ q. (K, refl, q)) (λ (M, e, q). subst Q (sym (same_Some K M e)) q) (each K)

  dec_value : (value : Argument) → Dec ((M : ℕ) × (((b : Bool) × (value ≡ arguments.Truth b)) × (M ≡ 1)) × Q M)
  dec_value (arguments.Truth b) = map_dec (λ q. (1, ((b, refl), refl), q)) (λ (M, (is, one), q). subst Q one q) (each 1)
  dec_value (arguments.Register r) = no (λ (M, ((b, e), one), q). cc)
  dec_value (arguments.Literal z) = no (λ (M, ((b, e), one), q). cc)
  dec_value (arguments.Constant k) = no (λ (M, ((b, e), one), q). cc)
  dec_value (arguments.Undef k) = no (λ (M, ((b, e), one), q). cc)
  dec_value (arguments.Term n) = no (λ (M, ((b, e), one), q). cc)

  dec_operand : (c : ℕ) (o : Operand) → Dec ((M : ℕ) × FixesWidth c M o × Q M)
  dec_operand c o =
      map_dec (λ (is, why). elim why [ inl (M, e, q) ↦ (M, (is, inl e), q) | inr (M, e, q) ↦ (M, (is, inr e), q) ])
      (λ (M, (is, why), q). (is, elim why [ inl e ↦ inl (M, e, q) | inr e ↦ inr (M, e, q) ]))
      (dec_both (dec_number o.class c) (dec_either (dec_written o.written) (dec_value o.value)))

  dec_statement : (c : ℕ) (s : Statement) → Dec ((M : ℕ) × StatementFixes c M s × Q M)
  dec_statement c s =
      map_dec (λ one. elim one [ inl (M, e, q) ↦ (M, inl e, q) | inr (o, among, (M, fixes, q)) ↦ (M, inr (o, among, fixes), q) ])
      (λ (M, how, q). elim how [ inl e ↦ inl (M, e, q) | inr (o, among, fixes) ↦ inr (o, among, (M, fixes, q)) ])
      (dec_either (dec_line c (fixed_line s.class s.op)) (dec_one (λ o. (M : ℕ) × FixesWidth c M o × Q M) (operands_of s.op) (dec_operand c)))

  dec_fixed_where : (rule : Rule) (c : ℕ) → Dec ((M : ℕ) × Fixed rule c M × Q M)
  dec_fixed_where rule c =
      map_dec (λ (s, stands, (M, how, q)). (M, fixed_of rule s c M stands how, q)) (λ (M, h, q). let (s, stands, how) = of_fixed rule c M h in (s, stands, (M, how, q)))
      (dec_one (λ s. (M : ℕ) × StatementFixes c M s × Q M) (rule.source ++ rule.target) (dec_statement c))

pub dec_fixed : (rule : Rule) (c : ℕ) → Dec ((N : ℕ) × Fixed rule c N)
dec_fixed rule c = map_dec (λ (N, h, t). (N, h)) (λ (N, h). (N, h, tt)) (dec_fixed_where (λ N. Unit {0}) (λ N. yes tt) rule c)

dec_only : (rule : Rule) (c N : ℕ) → Dec ((M : ℕ) → Fixed rule c M → M ≡ N)
dec_only rule c N = elim (dec_fixed_where (λ M. ¬ (M ≡ N)) (λ M. dec_not (dec_number M N)) rule c) [
  | yes (M, h, other) ↦ no (λ only. other (only M h))
  | no none ↦ yes (λ M h. stable (dec_number M N) (λ other. none (M, h, other)))
]

-- ---- literals

dec_literal : (N : ℕ) (z : ℤ) → Dec (FitsLiteral N z)
dec_literal N z =
    dec_both (by_lt_z z (neg_ℤ (pos (2 ^ (N - 1)))) (λ less. no (λ most. clash_ℤ less most)) (λ most. yes most))
    (by_lt_z z (pos (2 ^ N)) (λ less. yes less) (λ most. no (λ less. clash_ℤ less most)))

dec_argument : (N : ℕ) (value : Argument) → Dec ((z : ℤ) → value ≡ arguments.Literal z → FitsLiteral N z)
dec_argument N (arguments.Register r) = yes (λ z e. cc)
dec_argument N (arguments.Literal y) = map_dec (λ fits z e. let same : y ≡ z = cc in subst (FitsLiteral N) same fits) (λ each. each y refl) (dec_literal N y)
dec_argument N (arguments.Truth b) = yes (λ z e. cc)
dec_argument N (arguments.Constant k) = yes (λ z e. cc)
dec_argument N (arguments.Undef k) = yes (λ z e. cc)
dec_argument N (arguments.Term n) = yes (λ z e. cc)

dec_node : (N : ℕ) (node : Node) → Dec ((z : ℤ) → node ≡ nodes.Literal z → FitsLiteral N z)
dec_node N (nodes.Literal y) = map_dec (λ fits z e. let same : y ≡ z = cc in subst (FitsLiteral N) same fits) (λ each. each y refl) (dec_literal N y)
dec_node N (nodes.Constant k) = yes (λ z e. cc)
dec_node N (nodes.Register r) = yes (λ z e. cc)
dec_node N (nodes.Choice k) = yes (λ z e. cc)
dec_node N (nodes.Width r c) = yes (λ z e. cc)
dec_node N (nodes.Unary function a) = yes (λ z e. cc)
dec_node N (nodes.Binary op a b) = yes (λ z e. cc)

dec_implied : {P Q : Type 0} → Dec P → Dec Q → Dec (P → Q)
dec_implied (no h) d = yes (λ p. absurd (h p))
dec_implied (yes p) (yes q) = yes (λ _. q)
dec_implied (yes p) (no h) = no (λ f. h (f p))

dec_fits : (c N : ℕ) (o : Operand) → Dec (FitsIn c N o)
dec_fits c N o = map_dec (λ h z is e. h is z e) (λ h is z e. h z is e) (dec_implied (dec_number o.class c) (dec_argument N o.value))

dec_term : (c N : ℕ) (t : Term) → Dec (TermFits c N t)
dec_term c N t = map_dec (λ h z is e. h is z e) (λ h is z e. h z is e) (dec_implied (dec_number t.class c) (dec_node N t.node))

pub dec_width : (rule : Rule) (c N : ℕ) → Dec (MayHaveWidth rule c N)
dec_width rule c N =
    map_dec (λ (within, (fixed, (fits, terms))). record { within = within; fixed = fixed; literals = λ o z among is e. fits o among z is e; term_literals = λ t z among is e. terms t among z is e })
    (λ may. (may.within, (may.fixed, (λ o among z is e. may.literals o z among is e, λ t among z is e. may.term_literals t z among is e))))
    (dec_both (dec_both (dec_le 1 N) (dec_le N 64)) (dec_both (dec_only rule c N) (dec_both (dec_each (FitsIn c N) (operands_in rule) (dec_fits c N)) (dec_each (TermFits c N) (terms_in rule) (dec_term c N)))))
