-- Instructions and terminators in which each operand is changed.
use Rattle.draft_steps.proofs.Common.{◌≡◌, ℕ, List, [], ◌∷◌, refl, ap, ◌∙◌, map, sym, Contains, Inst, Op, Binary, Compare, Unary, Select, Convert, Freeze, Phi, Operand, Terminator, first_in, later_in, KeptMarks, moved_end, moved_inst, moved_op, moved_operand, operands_at_end, Substitution, substituted_end, substituted_inst, substituted_op, substituted_operand}
use Rattle.ir_core.specs.declared.terminator.Terminator.TheVariants as terminators
use Rattle.needed.specs.Operands.{operands_of}

abbrev pub Change : Type 0
Change = Operand → Operand

abbrev pub changed_entries : Change → List (Operand × ℕ) → List (Operand × ℕ)
changed_entries to entries = map (λ e. (to e.0, e.1)) entries

abbrev pub changed_op : Change → Op → Op
changed_op to (Binary op flags x y) = Binary op flags (to x) (to y)
changed_op to (Compare pred samesign width x y) = Compare pred samesign width (to x) (to y)
changed_op to (Unary op truth x) = Unary op truth (to x)
changed_op to (Select c x y) = Select (to c) (to x) (to y)
changed_op to (Convert cast flags from x) = Convert cast flags from (to x)
changed_op to (Freeze x) = Freeze (to x)
changed_op to (Phi entries) = Phi (changed_entries to entries)

abbrev pub changed_inst : Change → Inst → Inst
changed_inst to inst = record { name = inst.name; width = inst.width; op = changed_op to inst.op }

abbrev pub changed_end : Change → Terminator → Terminator
changed_end to (terminators.Return a) = terminators.Return (to a)
changed_end to (terminators.Jump b) = terminators.Jump b
changed_end to (terminators.Branch c b other) = terminators.Branch (to c) b other
changed_end to (terminators.Switch a width other cases) = terminators.Switch (to a) width other cases
changed_end to terminators.Unreachable = terminators.Unreachable

-- ---- substitutions and moves are such changes

substituted_is : (to : Substitution) (op : Op) → substituted_op to op ≡ changed_op (substituted_operand to) op
substituted_is to (Binary op flags x y) = refl
substituted_is to (Compare pred samesign width x y) = refl
substituted_is to (Unary op truth x) = refl
substituted_is to (Select c x y) = refl
substituted_is to (Convert cast flags from x) = refl
substituted_is to (Freeze x) = refl
substituted_is to (Phi entries) = refl

moved_is : (kept : KeptMarks) (op : Op) → moved_op kept op ≡ changed_op (moved_operand kept) op
moved_is kept (Binary op flags x y) = refl
moved_is kept (Compare pred samesign width x y) = refl
moved_is kept (Unary op truth x) = refl
moved_is kept (Select c x y) = refl
moved_is kept (Convert cast flags from x) = refl
moved_is kept (Freeze x) = refl
moved_is kept (Phi entries) = refl

abbrev with_op : Inst → Op → Inst
with_op inst op = record { name = inst.name; width = inst.width; op = op }

pub substituted_inst_is : (to : Substitution) (inst : Inst) → substituted_inst to inst ≡ changed_inst (substituted_operand to) inst
substituted_inst_is to inst = ap (with_op inst) (substituted_is to inst.op)

pub moved_inst_is : (kept : KeptMarks) (inst : Inst) → moved_inst kept inst ≡ changed_inst (moved_operand kept) inst
moved_inst_is kept inst = ap (with_op inst) (moved_is kept inst.op)

pub substituted_end_is : (to : Substitution) (end : Terminator) → substituted_end to end ≡ changed_end (substituted_operand to) end
substituted_end_is to (terminators.Return a) = refl
substituted_end_is to (terminators.Jump b) = refl
substituted_end_is to (terminators.Branch c b other) = refl
substituted_end_is to (terminators.Switch a width other cases) = refl
substituted_end_is to terminators.Unreachable = refl

pub moved_end_is : (kept : KeptMarks) (end : Terminator) → moved_end kept end ≡ changed_end (moved_operand kept) end
moved_end_is kept (terminators.Return a) = refl
moved_end_is kept (terminators.Jump b) = refl
moved_end_is kept (terminators.Branch c b other) = refl
moved_end_is kept (terminators.Switch a width other cases) = refl
moved_end_is kept terminators.Unreachable = refl

-- ---- two changes that agree on the operands

abbrev pub Agree : Change → Change → List Operand → Type 0
Agree f g reads = (a : Operand) → Contains reads a → f a ≡ g a

abbrev operands_in : List (Operand × ℕ) → List Operand
operands_in entries = map (λ e. e.0) entries

entries_agree : (f g : Change) (entries : List (Operand × ℕ)) → Agree f g (operands_in entries) → changed_entries f entries ≡ changed_entries g entries
entries_agree f g [] same = refl
entries_agree f g (e ∷ entries) same =
    let here : f e.0 ≡ g e.0 = same e.0 (first_in e.0 (operands_in entries)) in
    let rest : changed_entries f entries ≡ changed_entries g entries = entries_agree f g entries (λ a has. same a (later_in e.0 (operands_in entries) a has)) in
    ap (λ (a : Operand). (a, e.1) ∷ changed_entries f entries) here ∙ ap (λ (l : List (Operand × ℕ)). (g e.0, e.1) ∷ l) rest

pub op_agree : (f g : Change) (op : Op) → Agree f g (operands_of op) → changed_op f op ≡ changed_op g op
op_agree f g (Binary op flags x y) same = let p = same x (first_in x (y ∷ [])) in let q = same y (later_in x (y ∷ []) y (first_in y [])) in cc
op_agree f g (Compare pred samesign width x y) same = let p = same x (first_in x (y ∷ [])) in let q = same y (later_in x (y ∷ []) y (first_in y [])) in cc
op_agree f g (Unary op truth x) same = let p = same x (first_in x []) in cc
op_agree f g (Select c x y) same =
    let p = same c (first_in c (x ∷ y ∷ [])) in
    let q = same x (later_in c (x ∷ y ∷ []) x (first_in x (y ∷ []))) in
    let r = same y (later_in c (x ∷ y ∷ []) y (later_in x (y ∷ []) y (first_in y []))) in
    cc
op_agree f g (Convert cast flags from x) same = let p = same x (first_in x []) in cc
op_agree f g (Freeze x) same = let p = same x (first_in x []) in cc
op_agree f g (Phi entries) same = ap Phi (entries_agree f g entries same)

pub inst_agree : (f g : Change) (inst : Inst) → Agree f g (operands_of inst.op) → changed_inst f inst ≡ changed_inst g inst
inst_agree f g inst same = ap (with_op inst) (op_agree f g inst.op same)

pub end_agree : (f g : Change) (end : Terminator) → Agree f g (operands_at_end end) → changed_end f end ≡ changed_end g end
end_agree f g (terminators.Return a) same = let p = same a (first_in a []) in cc
end_agree f g (terminators.Jump b) same = refl
end_agree f g (terminators.Branch c b other) same = let p = same c (first_in c []) in cc
end_agree f g (terminators.Switch a width other cases) same = let p = same a (first_in a []) in cc
end_agree f g terminators.Unreachable same = refl

-- ---- one change after another

entries_twice : (f g : Change) (entries : List (Operand × ℕ)) → changed_entries f (changed_entries g entries) ≡ changed_entries (λ a. f (g a)) entries
entries_twice f g [] = refl
entries_twice f g (e ∷ entries) = ap (λ (l : List (Operand × ℕ)). (f (g e.0), e.1) ∷ l) (entries_twice f g entries)

op_twice : (f g : Change) (op : Op) → changed_op f (changed_op g op) ≡ changed_op (λ a. f (g a)) op
op_twice f g (Binary op flags x y) = refl
op_twice f g (Compare pred samesign width x y) = refl
op_twice f g (Unary op truth x) = refl
op_twice f g (Select c x y) = refl
op_twice f g (Convert cast flags from x) = refl
op_twice f g (Freeze x) = refl
op_twice f g (Phi entries) = ap Phi (entries_twice f g entries)

inst_twice : (f g : Change) (inst : Inst) → changed_inst f (changed_inst g inst) ≡ changed_inst (λ a. f (g a)) inst
inst_twice f g inst = ap (with_op inst) (op_twice f g inst.op)

end_twice : (f g : Change) (end : Terminator) → changed_end f (changed_end g end) ≡ changed_end (λ a. f (g a)) end
end_twice f g (terminators.Return a) = refl
end_twice f g (terminators.Jump b) = refl
end_twice f g (terminators.Branch c b other) = refl
end_twice f g (terminators.Switch a width other cases) = refl
end_twice f g terminators.Unreachable = refl

-- ---- substitutions one after another

-- two ways in two steps, which lead from each operand to the same one
pub insts_meet : (f f' : Change) (to to' : Substitution) (inst : Inst)
    → Agree (λ a. f (substituted_operand to a)) (λ a. f' (substituted_operand to' a)) (operands_of inst.op)
    → changed_inst f (substituted_inst to inst) ≡ changed_inst f' (substituted_inst to' inst)
insts_meet f f' to to' inst same =
    ap (changed_inst f) (substituted_inst_is to inst) ∙ (inst_twice f (substituted_operand to) inst
    ∙ (inst_agree (λ a. f (substituted_operand to a)) (λ a. f' (substituted_operand to' a)) inst same
    ∙ (sym (inst_twice f' (substituted_operand to') inst) ∙ ap (changed_inst f') (sym (substituted_inst_is to' inst)))))

pub ends_meet : (f f' : Change) (to to' : Substitution) (end : Terminator)
    → Agree (λ a. f (substituted_operand to a)) (λ a. f' (substituted_operand to' a)) (operands_at_end end)
    → changed_end f (substituted_end to end) ≡ changed_end f' (substituted_end to' end)
ends_meet f f' to to' end same =
    ap (changed_end f) (substituted_end_is to end) ∙ (end_twice f (substituted_operand to) end
    ∙ (end_agree (λ a. f (substituted_operand to a)) (λ a. f' (substituted_operand to' a)) end same
    ∙ (sym (end_twice f' (substituted_operand to') end) ∙ ap (changed_end f') (sym (substituted_end_is to' end)))))

-- an instruction whose results are renamed to positions, and then moved, is that with results renamed to the new ones
pub moved_inst_is_at : (kept : KeptMarks) (to to' : Substitution) (inst : Inst) → Agree (λ a. moved_operand kept (substituted_operand to a)) (substituted_operand to') (operands_of inst.op)
    → moved_inst kept (substituted_inst to inst) ≡ substituted_inst to' inst
moved_inst_is_at kept to to' inst same =
    moved_inst_is kept (substituted_inst to inst) ∙ (ap (changed_inst (moved_operand kept)) (substituted_inst_is to inst)
    ∙ (inst_twice (moved_operand kept) (substituted_operand to) inst ∙ (inst_agree (λ a. moved_operand kept (substituted_operand to a)) (substituted_operand to') inst same ∙ sym (substituted_inst_is to' inst))))

pub moved_end_is_at : (kept : KeptMarks) (to to' : Substitution) (end : Terminator) → Agree (λ a. moved_operand kept (substituted_operand to a)) (substituted_operand to') (operands_at_end end)
    → moved_end kept (substituted_end to end) ≡ substituted_end to' end
moved_end_is_at kept to to' end same =
    moved_end_is kept (substituted_end to end) ∙ (ap (changed_end (moved_operand kept)) (substituted_end_is to end)
    ∙ (end_twice (moved_operand kept) (substituted_operand to) end ∙ (end_agree (λ a. moved_operand kept (substituted_operand to a)) (substituted_operand to') end same ∙ sym (substituted_end_is to' end))))

-- the operands after a substitution are those before it, each substituted
pub operands_substituted : (to : Substitution) (op : Op) → operands_of (substituted_op to op) ≡ map (substituted_operand to) (operands_of op)
operands_substituted to (Binary op flags x y) = refl
operands_substituted to (Compare pred samesign width x y) = refl
operands_substituted to (Unary op truth x) = refl
operands_substituted to (Select c x y) = refl
operands_substituted to (Convert cast flags from x) = refl
operands_substituted to (Freeze x) = refl
operands_substituted to (Phi entries) = by entries
  where
    by : (entries : List (Operand × ℕ)) → operands_in (changed_entries (substituted_operand to) entries) ≡ map (substituted_operand to) (operands_in entries)
    by [] = refl
    by (e ∷ entries) = ap (λ (l : List Operand). substituted_operand to e.0 ∷ l) (by entries)

pub end_substituted : (to : Substitution) (end : Terminator) → operands_at_end (substituted_end to end) ≡ map (substituted_operand to) (operands_at_end end)
end_substituted to (terminators.Return a) = refl
end_substituted to (terminators.Jump b) = refl
end_substituted to (terminators.Branch c b other) = refl
end_substituted to (terminators.Switch a width other cases) = refl
end_substituted to terminators.Unreachable = refl

-- two substitutions, one after the other, are two others where they agree on the operands
pub insts_follow : (a b c d : Substitution) (inst : Inst) → Agree (λ x. substituted_operand a (substituted_operand b x)) (λ x. substituted_operand c (substituted_operand d x)) (operands_of inst.op)
    → substituted_inst a (substituted_inst b inst) ≡ substituted_inst c (substituted_inst d inst)
insts_follow a b c d inst same = substituted_inst_is a (substituted_inst b inst) ∙ (insts_meet (substituted_operand a) (substituted_operand c) b d inst same ∙ sym (substituted_inst_is c (substituted_inst d inst)))

pub ends_follow : (a b c d : Substitution) (end : Terminator) → Agree (λ x. substituted_operand a (substituted_operand b x)) (λ x. substituted_operand c (substituted_operand d x)) (operands_at_end end)
    → substituted_end a (substituted_end b end) ≡ substituted_end c (substituted_end d end)
ends_follow a b c d end same = substituted_end_is a (substituted_end b end) ∙ (ends_meet (substituted_operand a) (substituted_operand c) b d end same ∙ sym (substituted_end_is c (substituted_end d end)))

pub changed_twice : (a b : Substitution) (inst : Inst) → substituted_inst a (substituted_inst b inst) ≡ changed_inst (λ x. substituted_operand a (substituted_operand b x)) inst
changed_twice a b inst =
    substituted_inst_is a (substituted_inst b inst) ∙ (ap (changed_inst (substituted_operand a)) (substituted_inst_is b inst) ∙ inst_twice (substituted_operand a) (substituted_operand b) inst)
