-- Substitutions that agree on some operands, and the operands after a substitution.
use Rattle.draft.proofs.Common.{◌≡◌, ℕ, List, [], ◌∷◌, map, refl, ap, ◌∙◌, Contains, Inst, Op, Binary, Compare, Unary, Select, Convert, Freeze, Phi, Operand, Terminator, operands_of, operands_at_end, contains_first, Substitution, substituted_end, substituted_entries, substituted_inst, substituted_op, substituted_operand}
use Rattle.ir_core.specs.declared.operand.Operand.TheVariants as operands
use Rattle.ir_core.specs.declared.terminator.Terminator.TheVariants as terminators
use Rattle.needed.proofs.Counting.{contains_later}

-- both substitutions give the same for each of these operands
abbrev pub Agree : Substitution → Substitution → List Operand → Type 0
Agree to to' reads = (a : Operand) → Contains reads a → substituted_operand to a ≡ substituted_operand to' a

module _ (to to' : Substitution) where
  first : (x : Operand) (xs : List Operand) → Agree to to' (x ∷ xs) → substituted_operand to x ≡ substituted_operand to' x
  first x xs agree = agree x (contains_first x xs)

  second : (x y : Operand) (xs : List Operand) → Agree to to' (x ∷ y ∷ xs) → substituted_operand to y ≡ substituted_operand to' y
  second x y xs agree = agree y (contains_later x (y ∷ xs) y (contains_first y xs))

  third : (x y z : Operand) (xs : List Operand) → Agree to to' (x ∷ y ∷ z ∷ xs) → substituted_operand to z ≡ substituted_operand to' z
  third x y z xs agree = agree z (contains_later x (y ∷ z ∷ xs) z (contains_later y (z ∷ xs) z (contains_first z xs)))

  pub entries_agree : (entries : List (Operand × ℕ)) → Agree to to' (map (λ e. e.0) entries) → substituted_entries to entries ≡ substituted_entries to' entries
  entries_agree [] agree = refl
  entries_agree (e ∷ entries) agree =
      let now : substituted_operand to e.0 ≡ substituted_operand to' e.0 = first e.0 (map (λ (e : Operand × ℕ). e.0) entries) agree in
      let later : substituted_entries to entries ≡ substituted_entries to' entries = entries_agree entries (λ a there. agree a (contains_later e.0 (map (λ (e : Operand × ℕ). e.0) entries) a there)) in
      ap (λ (a : Operand). (a, e.1) ∷ substituted_entries to entries) now ∙ ap (λ (l : List (Operand × ℕ)). (substituted_operand to' e.0, e.1) ∷ l) later

  pub op_agrees : (op : Op) → Agree to to' (operands_of op) → substituted_op to op ≡ substituted_op to' op
  op_agrees (Binary op flags x y) agree =
      ap (λ (a : Operand). Binary op flags a (substituted_operand to y)) (first x (y ∷ []) agree)
      ∙ ap (λ (a : Operand). Binary op flags (substituted_operand to' x) a) (second x y [] agree)
  op_agrees (Compare pred samesign width x y) agree =
      ap (λ (a : Operand). Compare pred samesign width a (substituted_operand to y)) (first x (y ∷ []) agree)
      ∙ ap (λ (a : Operand). Compare pred samesign width (substituted_operand to' x) a) (second x y [] agree)
  op_agrees (Unary op truth x) agree = ap (λ (a : Operand). Unary op truth a) (first x [] agree)
  op_agrees (Select c x y) agree =
      ap (λ (a : Operand). Select a (substituted_operand to x) (substituted_operand to y)) (first c (x ∷ y ∷ []) agree)
      ∙ ap (λ (a : Operand). Select (substituted_operand to' c) a (substituted_operand to y)) (second c x (y ∷ []) agree)
      ∙ ap (λ (a : Operand). Select (substituted_operand to' c) (substituted_operand to' x) a) (third c x y [] agree)
  op_agrees (Convert cast flags from x) agree = ap (λ (a : Operand). Convert cast flags from a) (first x [] agree)
  op_agrees (Freeze x) agree = ap (λ (a : Operand). Freeze a) (first x [] agree)
  op_agrees (Phi entries) agree = ap (λ (l : List (Operand × ℕ)). Phi l) (entries_agree entries agree)

  pub inst_agrees : (inst : Inst) → Agree to to' (operands_of inst.op) → substituted_inst to inst ≡ substituted_inst to' inst
  inst_agrees inst agree = ap (λ (op : Op). let i : Inst = record { name = inst.name; width = inst.width; op = op } in i) (op_agrees inst.op agree)

  pub end_agrees : (end : Terminator) → Agree to to' (operands_at_end end) → substituted_end to end ≡ substituted_end to' end
  end_agrees (terminators.Return a) agree = ap (λ (x : Operand). terminators.Return x) (first a [] agree)
  end_agrees (terminators.Jump b) agree = refl
  end_agrees (terminators.Branch c b other) agree = ap (λ (x : Operand). terminators.Branch x b other) (first c [] agree)
  end_agrees (terminators.Switch a width other cases) agree = ap (λ (x : Operand). terminators.Switch x width other cases) (first a [] agree)
  end_agrees terminators.Unreachable agree = refl

-- ---- each register for itself

abbrev pub itself : Substitution
itself r = operands.Register r

pub operand_itself : (a : Operand) → substituted_operand itself a ≡ a
operand_itself (operands.Register r) = refl
operand_itself (operands.Number n) = refl
operand_itself operands.Undef = refl
operand_itself operands.Poison = refl

entries_itself : (entries : List (Operand × ℕ)) → substituted_entries itself entries ≡ entries
entries_itself [] = refl
entries_itself (e ∷ entries) =
    ap (λ (a : Operand). (a, e.1) ∷ substituted_entries itself entries) (operand_itself e.0) ∙ ap (λ (l : List (Operand × ℕ)). e ∷ l) (entries_itself entries)

pub op_itself : (op : Op) → substituted_op itself op ≡ op
op_itself (Binary op flags x y) = ap (λ (a : Operand). Binary op flags a (substituted_operand itself y)) (operand_itself x) ∙ ap (λ (a : Operand). Binary op flags x a) (operand_itself y)
op_itself (Compare pred samesign width x y) = ap (λ (a : Operand). Compare pred samesign width a (substituted_operand itself y)) (operand_itself x) ∙ ap (λ (a : Operand). Compare pred samesign width x a) (operand_itself y)
op_itself (Unary op truth x) = ap (λ (a : Operand). Unary op truth a) (operand_itself x)
op_itself (Select c x y) =
    ap (λ (a : Operand). Select a (substituted_operand itself x) (substituted_operand itself y)) (operand_itself c)
    ∙ ap (λ (a : Operand). Select c a (substituted_operand itself y)) (operand_itself x)
    ∙ ap (λ (a : Operand). Select c x a) (operand_itself y)
op_itself (Convert cast flags from x) = ap (λ (a : Operand). Convert cast flags from a) (operand_itself x)
op_itself (Freeze x) = ap (λ (a : Operand). Freeze a) (operand_itself x)
op_itself (Phi entries) = ap (λ (l : List (Operand × ℕ)). Phi l) (entries_itself entries)

pub end_itself : (end : Terminator) → substituted_end itself end ≡ end
end_itself (terminators.Return a) = ap (λ (x : Operand). terminators.Return x) (operand_itself a)
end_itself (terminators.Jump b) = refl
end_itself (terminators.Branch c b other) = ap (λ (x : Operand). terminators.Branch x b other) (operand_itself c)
end_itself (terminators.Switch a width other cases) = ap (λ (x : Operand). terminators.Switch x width other cases) (operand_itself a)
end_itself terminators.Unreachable = refl

-- ---- operands after a substitution

entries_read : (to : Substitution) (entries : List (Operand × ℕ)) → map (λ (e : Operand × ℕ). e.0) (substituted_entries to entries) ≡ map (substituted_operand to) (map (λ (e : Operand × ℕ). e.0) entries)
entries_read to [] = refl
entries_read to (e ∷ entries) = ap (λ (l : List Operand). substituted_operand to e.0 ∷ l) (entries_read to entries)

pub substituted_reads : (to : Substitution) (op : Op) → operands_of (substituted_op to op) ≡ map (substituted_operand to) (operands_of op)
substituted_reads to (Binary op flags x y) = refl
substituted_reads to (Compare pred samesign width x y) = refl
substituted_reads to (Unary op truth x) = refl
substituted_reads to (Select c x y) = refl
substituted_reads to (Convert cast flags from x) = refl
substituted_reads to (Freeze x) = refl
substituted_reads to (Phi entries) = entries_read to entries

pub substituted_end_reads : (to : Substitution) (end : Terminator) → operands_at_end (substituted_end to end) ≡ map (substituted_operand to) (operands_at_end end)
substituted_end_reads to (terminators.Return a) = refl
substituted_end_reads to (terminators.Jump b) = refl
substituted_end_reads to (terminators.Branch c b other) = refl
substituted_end_reads to (terminators.Switch a width other cases) = refl
substituted_end_reads to terminators.Unreachable = refl
