-- The operands of a rewritten function have widths of integer types.
use Rattle.optimised_forms.proofs.Common.{◌≡◌, ℕ, zero, suc, ◌==◌, Bool, true, false, cond, inl, inr, List, [], ◌∷◌, length, Option, None, Some, refl, sym, ap, subst, ◌∙◌, map, arith, slice_get, Contains, Contains-get_or, same_Some, IsBlock, IsInst, Read, read, IsRead, end_of, reads_of, reads_at_end, reads_by, reads_in, Function, Block, Inst, Op, Operand, Terminator, operands_of, classes_of, IsTyping, Rule, Statement, Contains-from_get, target_statement, class_stands, operand_class_stands, stands_for, rewritten_function, Substitution, substituted_entries, substituted_op, substituted_end, Rewrite, inst_reads, end_reads, InstPut, block_back, inst_back, Binding, class_width, rewrite_of, PutFor, put_from, all_aligned, IsNoCopy, put_op, IsWidth, ReadHasForms, FunctionHasForms}
use Rattle.ir_core.specs.declared.instruction.Op.TheVariants as ops
use Rattle.ir_core.specs.declared.terminator.Terminator.TheVariants as terminators
use Rattle.rule_core.specs.declared.rule.Op.{Op as RuleOp}
use Rattle.rule_core.specs.declared.rule.Op.TheVariants as rule_ops
use Rattle.rule_core.specs.declared.rule.Operand.{Operand as RuleOperand}

abbrev HaveWidths : List Read → Type 0
HaveWidths [] = Unit {0}
HaveWidths (r ∷ reads) = IsWidth r.width × HaveWidths reads

width_there : (reads : List Read) (i : ℕ) (r : Read) → HaveWidths reads → slice_get reads i ≡ Some r → IsWidth r.width
width_there [] i r have at = absurd cc
width_there (x ∷ reads) zero r have at = subst (λ (y : Read). IsWidth y.width) (same_Some x r at) have.0
width_there (x ∷ reads) (suc i) r have at = width_there reads i r have.1 at

-- the width of a condition, 1, is one
one : IsWidth 1
one = (omega arith, omega arith)

-- all operands of an instruction or a terminator have their forms
abbrev AllHaveForms : List Read → Type 0
AllHaveForms reads = (i : ℕ) (r : Read) → slice_get reads i ≡ Some r → ReadHasForms r

module _ (to : Substitution) (f g : Function) (b k n : ℕ) where
  entries_have : (width : ℕ) → IsWidth width → (entries : List (Operand × ℕ)) → HaveWidths (map (λ (e : Operand × ℕ). read e.1 (end_of g e.1) width e.0) entries)
  entries_have width own [] = tt
  entries_have width own (e ∷ entries) = (own, entries_have width own entries)

  stayed_op : (width : ℕ) (op : Op) → IsWidth width → AllHaveForms (reads_of f b k width op) → HaveWidths (reads_of g b n width (substituted_op to op))
  stayed_op width (ops.Binary op flags x y) own forms = (own, (own, tt))
  stayed_op width (ops.Compare pred samesign compared x y) own forms = let w : IsWidth compared = (forms 0 (read b k compared x) refl).width in (w, (w, tt))
  stayed_op width (ops.Select c x y) own forms = (one, (own, (own, tt)))
  stayed_op width (ops.Convert cast flags from x) own forms = ((forms 0 (read b k from x) refl).width, tt)
  stayed_op width (ops.Unary op truth x) own forms = (own, tt)
  stayed_op width (ops.Freeze x) own forms = (own, tt)
  stayed_op width (ops.Phi entries) own forms = entries_have width own (substituted_entries to entries)

  stayed_end : (t : Terminator) → IsWidth g.width → AllHaveForms (reads_at_end f b k t) → HaveWidths (reads_at_end g b n (substituted_end to t))
  stayed_end (terminators.Return a) returned forms = (returned, tt)
  stayed_end (terminators.Jump next) returned forms = tt
  stayed_end (terminators.Branch c next other) returned forms = (one, tt)
  stayed_end (terminators.Switch a width other cases) returned forms = ((forms 0 (read b k width a) refl).width, tt)
  stayed_end terminators.Unreachable returned forms = tt

-- ---- the instructions that are inserted

module _ (rule : Rule) (binding : Binding) (typed : IsTyping rule binding.typing) where
  class_has : (c : ℕ) → Contains (classes_of rule) c → IsWidth (class_width rule binding c)
  class_has c stands = typed.widths (class_width rule binding c) (Contains-get_or binding.typing c 0 (typed.classes c stands))

  own_class : (t : ℕ) (s : Statement) → slice_get rule.target t ≡ Some s → IsWidth (class_width rule binding s.class)
  own_class t s at = class_has s.class (class_stands rule s (target_statement rule t s at))

  module _ (g : Function) (b n t : ℕ) (s : Statement) (at : slice_get rule.target t ≡ Some s) where
    abbrev N : ℕ
    N = class_width rule binding s.class

    operand_has : (o : RuleOperand) → Contains (operands_of s.op) o → IsWidth (class_width rule binding o.class)
    operand_has o among = class_has o.class (operand_class_stands rule s o (target_statement rule t s at) among)

    put_reads : (op : RuleOp) → s.op ≡ op → IsNoCopy op → HaveWidths (reads_of g b n N (put_op rule binding N op))
    put_reads (rule_ops.Binary opcode flags x y) is kept = let own : IsWidth N = own_class t s at in (own, (own, tt))
    put_reads (rule_ops.Compare pred samesign x y) is kept =
        let w : IsWidth (class_width rule binding x.class) = operand_has x (subst (λ (op : RuleOp). Contains (operands_of op) x) (sym is) (Contains-from_get (x ∷ y ∷ []) 0 x refl)) in
        (w, (w, tt))
    put_reads (rule_ops.Unary op truth x) is kept = let own : IsWidth N = own_class t s at in (own, tt)
    put_reads (rule_ops.Select c x y) is kept = let own : IsWidth N = own_class t s at in (one, (own, (own, tt)))
    put_reads (rule_ops.Convert cast flags x to) is kept = (operand_has x (subst (λ (op : RuleOp). Contains (operands_of op) x) (sym is) (Contains-from_get (x ∷ []) 0 x refl)), tt)
    put_reads (rule_ops.Freeze x j) is kept = let own : IsWidth N = own_class t s at in (own, tt)
    put_reads (rule_ops.Copy x) is kept = absurd cc

-- ---- the new function

module _ (f : Function) (forms : FunctionHasForms f) (rule : Rule) (binding : Binding) (typed : IsTyping rule binding.typing) (root : Inst) where
  abbrev w : Rewrite
  w = rewrite_of rule binding root.name

  abbrev new : Function
  new = rewritten_function w f

  -- an inserted instruction is that of a statement of the target
  put_for : (b n : ℕ) (inst : Inst) (p : InstPut w b n inst) → PutFor rule binding root.name 0 p.place inst
  put_for b n inst p = put_from rule binding root.name rule.target 0 (all_aligned rule binding) p.place inst p.is_put

  pub inst_width : (b n : ℕ) (inst : Inst) → IsInst new b n inst → IsWidth inst.width
  inst_width b n inst is =
      elim (inst_back w f b n inst is) [
        | inl s ↦ subst (λ (x : Inst). IsWidth x.width) s.is (forms.insts b s.place s.inst s.is_inst)
        | inr p ↦ let q = put_for b n inst p in subst (λ (x : Inst). IsWidth x.width) (sym q.is) (own_class rule binding typed q.place q.statement q.is_statement)
      ]

  inst_have : (b n : ℕ) (inst : Inst) → IsInst new b n inst → HaveWidths (reads_of new b n inst.width inst.op)
  inst_have b n inst is =
      elim (inst_back w f b n inst is) [
        | inl s ↦
            let were : AllHaveForms (reads_of f b s.place s.inst.width s.inst.op) = λ i r at. forms.reads b s.place i r (ap (λ l. slice_get l i) (inst_reads f b s.place s.inst s.is_inst) ∙ at) in
            subst (λ (x : Inst). HaveWidths (reads_of new b n x.width x.op)) s.is (stayed_op (stands_for w) f new b s.place n s.inst.width s.inst.op (forms.insts b s.place s.inst s.is_inst) were)
        | inr p ↦
            let q = put_for b n inst p in
            subst (λ (x : Inst). HaveWidths (reads_of new b n x.width x.op)) (sym q.is) (put_reads rule binding typed new b n q.place q.statement q.is_statement q.statement.op refl q.kept)
      ]

  end_have : (b n : ℕ) (block : Block) → IsBlock new b block → HaveWidths (reads_at_end new b n block.end)
  end_have b n block is =
      let (old, at, same) = block_back w f b block is in
      let k : ℕ = length old.insts in
      let were : AllHaveForms (reads_at_end f b k old.end) = λ i r h. forms.reads b k i r (ap (λ l. slice_get l i) (end_reads f b old at) ∙ h) in
      subst (λ (x : Block). HaveWidths (reads_at_end new b n x.end)) same (stayed_end (stands_for w) f new b k n old.end forms.width were)

  block_have : (b n : ℕ) (block : Block) → IsBlock new b block → (o : Option Inst) → slice_get block.insts n ≡ o → HaveWidths (reads_by new b n block o)
  block_have b n block is (Some inst) at = inst_have b n inst (record { block = block; is_block = is; is_inst = at })
  block_have b n block is None at = by (n == length block.insts)
    where
      by : (at_end : Bool) → HaveWidths (cond at_end (reads_at_end new b n block.end) [])
      by true = end_have b n block is
      by false = tt

  all_have : (b n : ℕ) (o : Option Block) → slice_get new.blocks b ≡ o → HaveWidths (reads_in new b n o)
  all_have b n None at = tt
  all_have b n (Some block) at = block_have b n block at (slice_get block.insts n) refl

  pub read_width : (b n i : ℕ) (r : Read) → IsRead new b n i r → IsWidth r.width
  read_width b n i r is = width_there (reads_in new b n (slice_get new.blocks b)) i r (all_have b n (slice_get new.blocks b) refl) is
