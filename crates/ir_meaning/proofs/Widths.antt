-- Values that registers hold keep their widths.
use Rattle.ir_meaning.proofs.Common.{◌≡◌, ℕ, zero, suc, ◌<◌, ◌^◌, ◌⊎◌, inl, inr, List, [], ◌∷◌, Option, None, Some, refl, sym, subst, ◌∙◌, slice_get, option_map, cases_eq, none-some, same_Some, Number, IsValueOf, IsEffectOf, instruction, comparison, selection, conversion, unary, Value, Effect, IsEffectOf-instruction, IsValueOf-comparison, IsValueOf-conversion, IsValueOf-unary, IsValueOf-selection, Function, Parameter, Inst, Op, Binary, Compare, Unary, Select, Convert, Freeze, Phi, Operand, IsFormed, IsInst, IsPhi, IsTyped, OperandHasWidth, width_of, Read, read, end_of, reads_of, AreArguments, Registers, arguments, holding, AnyNumber, OperandGives, Freezes, OpGives, PhiGives, Goes, HoldWidths, OperandsHaveWidths, Moment, entering, once_held, InstGives, IsStep, IsHistory, NumbersFit, HeldHaveWidths}
use Rattle.ops.specs.declared.value.Value.TheVariants as values
use Rattle.ops.specs.declared.value.Effect.TheVariants as effects
use Rattle.ir_core.specs.declared.operand.Operand.TheVariants as operands
use Rattle.ir_core.specs.declared.operand.Register.TheVariants as registers
use Rattle.ir_meaning.proofs.Restricting.{reads_inst, phi_read}
use Rattle.ir_meaning.proofs.Steps.{held_here, held_elsewhere, end_among}
use Rattle.ir_meaning.proofs.HistoryOutcomes.{phi_cases}
use Rattle.ir_meaning.proofs.Following.{width_known}

-- ---- reads, one by one

one_read : (P : Read → Type 0) (x : Read) → P x → (i : ℕ) (r : Read) → slice_get (x ∷ []) i ≡ Some r → P r
one_read P x p zero r e = subst P (same_Some x r e) p
one_read P x p (suc i) r e = absurd (none-some r e)

two_reads : (P : Read → Type 0) (x y : Read) → P x → P y → (i : ℕ) (r : Read) → slice_get (x ∷ y ∷ []) i ≡ Some r → P r
two_reads P x y p q zero r e = subst P (same_Some x r e) p
two_reads P x y p q (suc i) r e = one_read P y q i r e

three_reads : (P : Read → Type 0) (x y z : Read) → P x → P y → P z → (i : ℕ) (r : Read) → slice_get (x ∷ y ∷ z ∷ []) i ≡ Some r → P r
three_reads P x y z p q s zero r e = subst P (same_Some x r e) p
three_reads P x y z p q s (suc i) r e = two_reads P y z q s i r e

-- the operand of the read has the width at which it is read
abbrev ReadHasWidth : Function → Read → Type 0
ReadHasWidth f r = OperandHasWidth f r.width r.operand

-- the widths of an instruction's operands don't depend on its place
widths_anywhere : (f : Function) (b k w : ℕ) (op : Op) → ¬ IsPhi op → ((i : ℕ) (r : Read) → slice_get (reads_of f b k w op) i ≡ Some r → ReadHasWidth f r) → OperandsHaveWidths f w op
widths_anywhere f b k w (Binary op flags x y) other h = λ c j. two_reads (ReadHasWidth f) (read c j w x) (read c j w y) (h 0 (read b k w x) refl) (h 1 (read b k w y) refl)
widths_anywhere f b k w (Compare pred samesign compared x y) other h = λ c j. two_reads (ReadHasWidth f) (read c j compared x) (read c j compared y) (h 0 (read b k compared x) refl) (h 1 (read b k compared y) refl)
widths_anywhere f b k w (Select c x y) other h =
    λ d j. three_reads (ReadHasWidth f) (read d j 1 c) (read d j w x) (read d j w y) (h 0 (read b k 1 c) refl) (h 1 (read b k w x) refl) (h 2 (read b k w y) refl)
widths_anywhere f b k w (Convert cast flags from x) other h = λ c j. one_read (ReadHasWidth f) (read c j from x) (h 0 (read b k from x) refl)
widths_anywhere f b k w (Unary op truth x) other h = λ c j. one_read (ReadHasWidth f) (read c j w x) (h 0 (read b k w x) refl)
widths_anywhere f b k w (Freeze x) other h = λ c j. one_read (ReadHasWidth f) (read c j w x) (h 0 (read b k w x) refl)
widths_anywhere f b k w (Phi entries) other h = absurd (other tt)

pub inst_widths : (f : Function) → IsFormed f → (b k : ℕ) (inst : Inst) → IsInst f b k inst → ¬ IsPhi inst.op → OperandsHaveWidths f inst.width inst.op
inst_widths f formed b k inst is other =
    widths_anywhere f b k inst.width inst.op other (λ i r e. formed.operands b k i r (reads_inst f b k is.block inst is.is_block is.is_inst i r e))

-- ---- what is given

-- if the operand is a literal number, it is one of its width
abbrev NumberFits : Operand → Type 0
NumberFits a = (n : Number) → a ≡ operands.Number n → n.number < 2 ^ n.width

operand_width : (f : Function) (held : Registers) → HoldWidths f held → (w : ℕ) (a : Operand) (v : Value) → OperandHasWidth f w a → NumberFits a → OperandGives AnyNumber held w a v → IsValueOf w v
operand_width f held widths w (operands.Register r) v has fits h = widths r w v has h
operand_width f held widths w (operands.Number n) v has fits h =
    subst (IsValueOf w) (sym h) (has, subst (λ u. n.number < 2 ^ u) has (fits n refl))
operand_width f held widths w operands.Undef v has fits h = subst (IsValueOf w) (sym h.2) (refl, h.1)
operand_width f held widths w operands.Poison v has fits h = subst (IsValueOf w) (sym h) tt

freeze_width : (w : ℕ) (x v : Value) → IsValueOf w x → Freezes AnyNumber w x v → IsValueOf w v
freeze_width w values.Poison v is h = subst (IsValueOf w) (sym h.2) (refl, h.1)
freeze_width w (values.Bits n) v is h = subst (IsValueOf w) (sym h) is

effect_width : (w : ℕ) (e : Effect) (v : Value) → effects.Gives v ≡ e → IsEffectOf w e → IsValueOf w v
effect_width w e v is h = subst (IsEffectOf w) (sym is) h

given_width : (w : ℕ) (u v : Value) → effects.Gives v ≡ effects.Gives u → IsValueOf w u → IsValueOf w v
given_width w u v is h = effect_width w (effects.Gives u) v is h

-- the operand of the read has the width, and its number is one of its width
abbrev ReadFits : Function → Read → Type 0
ReadFits f r = ReadHasWidth f r × NumberFits r.operand

op_width : (f : Function) (held : Registers) → HoldWidths f held → (b k w : ℕ) (op : Op) (v : Value) → ((i : ℕ) (r : Read) → slice_get (reads_of f b k w op) i ≡ Some r → ReadFits f r) → IsTyped w op → OpGives AnyNumber held w op (effects.Gives v) → IsValueOf w v
op_width f held widths b k w (Binary op flags x y) v fits typed h =
    let p = fits 0 (read b k w x) refl in
    let q = fits 1 (read b k w y) refl in
    effect_width w (instruction op flags w h.0 h.1) v h.4
    (IsEffectOf-instruction op flags w h.0 h.1 (operand_width f held widths w x h.0 p.0 p.1 h.2) (operand_width f held widths w y h.1 q.0 q.1 h.3))
op_width f held widths b k w (Compare pred samesign compared x y) v fits typed h =
    given_width w (comparison pred samesign compared h.0 h.1) v h.4 (subst (λ n. IsValueOf n (comparison pred samesign compared h.0 h.1)) (sym typed) (IsValueOf-comparison pred samesign compared h.0 h.1))
op_width f held widths b k w (Select c x y) v fits typed h =
    let p = fits 1 (read b k w x) refl in
    let q = fits 2 (read b k w y) refl in
    given_width w (selection h.0 h.1 h.2) v h.6 (IsValueOf-selection w h.0 h.1 h.2 (operand_width f held widths w x h.1 p.0 p.1 h.4) (operand_width f held widths w y h.2 q.0 q.1 h.5))
op_width f held widths b k w (Convert cast flags from x) v fits typed h =
    let p = fits 0 (read b k from x) refl in
    given_width w (conversion cast flags from w h.0) v h.2 (IsValueOf-conversion cast flags from w h.0 typed.1 (operand_width f held widths from x h.0 p.0 p.1 h.1))
op_width f held widths b k w (Unary op truth x) v fits typed h =
    let p = fits 0 (read b k w x) refl in
    given_width w (unary op truth w h.0) v h.2 (IsValueOf-unary op truth w h.0 (operand_width f held widths w x h.0 p.0 p.1 h.1))
op_width f held widths b k w (Freeze x) v fits typed h =
    let p = fits 0 (read b k w x) refl in
    given_width w h.1 v h.4 (freeze_width w h.0 h.1 (operand_width f held widths w x h.0 p.0 p.1 h.2) h.3)
op_width f held widths b k w (Phi entries) v fits typed h = absurd h

module _ (f : Function) (formed : IsFormed f) (fit : NumbersFit f) where
  pub inst_width : (b k : ℕ) (inst : Inst) (held : Registers) (v : Value) → IsInst f b k inst → HoldWidths f held → OpGives AnyNumber held inst.width inst.op (effects.Gives v) → IsValueOf inst.width v
  inst_width b k inst held v is widths h =
      op_width f held widths b k inst.width inst.op v
      (λ i r e. let is_read = reads_inst f b k is.block inst is.is_block is.is_inst i r e in (formed.operands b k i r is_read, λ n number. fit b k i r n is_read number))
      (formed.insts b k inst is) h

  pub phi_width : (b k : ℕ) (inst : Inst) (entries : List (Operand × ℕ)) (held : Registers) (from : Option ℕ) (v : Value) → IsInst f b k inst → inst.op ≡ Phi entries → HoldWidths f held → PhiGives AnyNumber held from inst.width entries v → IsValueOf inst.width v
  phi_width b k inst entries held from v is phi widths h =
      let found = phi_read f b k is.block inst entries h.1 h.0 is.is_block is.is_inst phi h.3 in
      let r : Read = read h.0 (end_of f h.0) inst.width h.1 in
      operand_width f held widths inst.width h.1 v (formed.operands b k found.0 r found.1) (λ n number. fit b k found.0 r n found.1 number) h.4

-- ---- what is held

pub holding_widths : (f : Function) (held : Registers) (b k w : ℕ) (v : Value) → width_of f (registers.Result b k) ≡ Some w → IsValueOf w v → HoldWidths f held → HoldWidths f (holding held b k v)
holding_widths f held b k w v known fits widths (registers.Parameter p) u x at h = widths (registers.Parameter p) u x at h
holding_widths f held b k w v known fits widths (registers.Result c j) u x at h = by (cases_eq c b) (cases_eq j k)
  where
    here : c ≡ b → j ≡ k → IsValueOf u x
    here same_block same =
        let is_v : v ≡ x = same_Some v x (sym (held_here held b k v c j same_block same) ∙ h) in
        let at_here : width_of f (registers.Result b k) ≡ Some u = subst (λ n. width_of f (registers.Result b n) ≡ Some u) same (subst (λ n. width_of f (registers.Result n j) ≡ Some u) same_block at) in
        let is_w : w ≡ u = same_Some w u (sym known ∙ at_here) in
        subst (IsValueOf u) is_v (subst (λ n. IsValueOf n v) is_w fits)

    elsewhere : ((c ≡ b) × (j ≡ k) → ⊥) → IsValueOf u x
    elsewhere other = widths (registers.Result c j) u x at (sym (held_elsewhere held b k v c j other) ∙ h)

    by : (c ≡ b) ⊎ (c ≡ b → ⊥) → (j ≡ k) ⊎ (j ≡ k → ⊥) → IsValueOf u x
    by (inl same_block) (inl same) = here same_block same
    by (inl same_block) (inr ne) = elsewhere (λ both. ne both.1)
    by (inr ne) j_is = elsewhere (λ both. ne both.0)

argument_width : (ps : List Parameter) (args : List Value) (i w : ℕ) (v : Value) → AreArguments ps args → option_map (λ (p : Parameter). p.width) (slice_get ps i) ≡ Some w → slice_get args i ≡ Some v → IsValueOf w v
argument_width [] args i w v are known h = absurd (none-some w known)
argument_width (p ∷ ps) [] i w v are known h = absurd are
argument_width (p ∷ ps) (u ∷ args) zero w v are known h = subst (λ n. IsValueOf n v) (same_Some p.width w known) (subst (IsValueOf p.width) (same_Some u v h) are.0)
argument_width (p ∷ ps) (u ∷ args) (suc i) w v are known h = argument_width ps args i w v are.1 known h

pub argument_widths : (f : Function) (args : List Value) → AreArguments f.parameters args → HoldWidths f (arguments args)
argument_widths f args are (registers.Parameter p) w v known h = argument_width f.parameters args p w v are known h
argument_widths f args are (registers.Result b k) w v known h = absurd (none-some v h)

-- ---- at each moment

module _ (f : Function) (args : List Value) (formed : IsFormed f) (fit : NumbersFit f) (are : AreArguments f.parameters args) where
  abbrev BothHaveWidths : Moment → Type 0
  BothHaveWidths m = HoldWidths f m.held × HoldWidths f m.entered

  value_width : (m : Moment) (inst : Inst) (v : Value) → IsInst f m.block m.place inst → BothHaveWidths m → InstGives m inst (effects.Gives v) → IsValueOf inst.width v
  value_width m inst v is widths g =
      phi_cases inst.op
      (λ entries. (u : Value) × PhiGives AnyNumber m.entered m.from inst.width entries u × (effects.Gives v ≡ effects.Gives u))
      (OpGives AnyNumber m.held inst.width inst.op (effects.Gives v)) (IsValueOf inst.width v)
      (λ entries phi taken. given_width inst.width taken.0 v taken.2 (phi_width f formed fit m.block m.place inst entries m.entered m.from taken.0 is phi widths.1 taken.1))
      (λ gives. inst_width f formed fit m.block m.place inst m.held v is widths.0 gives)
      g

  step_widths : (m n : Moment) → IsStep f m n → BothHaveWidths m → BothHaveWidths n
  step_widths m n (inl r) widths =
      let known : width_of f (registers.Result m.block m.place) ≡ Some r.inst.width = width_known f m.block m.place r.is_inst.block r.inst r.is_inst.is_block r.is_inst.is_inst in
      let next : BothHaveWidths (once_held m r.value) = (holding_widths f m.held m.block m.place r.inst.width r.value known (value_width m r.inst r.value r.is_inst widths r.gives) widths.0, widths.1) in
      subst BothHaveWidths (sym r.next) next
  step_widths m n (inr l) widths =
      let kept : HoldWidths f l.held = subst (HoldWidths f) (sym (end_among m.held f l.gives.block.end (Goes l.to l.held) l.gives.gives).1) widths.0 in
      let next : BothHaveWidths (entering (Some m.block) l.to l.held) = (kept, kept) in
      subst BothHaveWidths (sym l.next) next

  moment_widths : (m : Moment) (before : List Moment) → IsHistory f args (m ∷ before) → BothHaveWidths m
  moment_widths m [] h =
      let first : BothHaveWidths (entering None 0 (arguments args)) = (argument_widths f args are, argument_widths f args are) in
      subst BothHaveWidths (sym h) first
  moment_widths n (m ∷ before) h = step_widths m n h.0 (moment_widths m before h.1)

pub held_widths : HeldHaveWidths
held_widths f args m before formed fit are h = moment_widths f args formed fit are m before h
