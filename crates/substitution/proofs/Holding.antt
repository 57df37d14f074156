-- What registers hold where a run comes to, and what follows for those of the old function.
use Rattle.substitution.proofs.Common.{◌≡◌, ℕ, zero, suc, ◌<◌, List, [], ◌∷◌, length, Some, refl, ap, subst, ◌∙◌, arith, slice_get, Value, IsAssigned, IsInst, IsPhi, MeetsChecks, AreArguments, Registers, AnyNumber, OpGives, Function, Parameter, Inst, Register, substituted_inst, value_of, pulled_back, Rewrite, moved_place, root_of, stands_for, rewritten_function, Fits, MayHold, RunsHoldWhatIsAssigned, Moment, InstGives, IsHistory, LastRan, NumbersFit, not_both_assigned, equations, assigned_ran, results_held, step_keeps_parameter, held_widths}
use Rattle.ops.specs.declared.value.Effect.TheVariants as effects
use Rattle.ir_core.specs.declared.operand.Operand.TheVariants as operands
use Rattle.ir_core.specs.declared.operand.Register.TheVariants as registers
use Rattle.substitution.proofs.Going.{no_phi_substituted}
use Rattle.substitution.proofs.Passing.{assigned_on}
use Rattle.substitution.proofs.Placing.{IsTheRoot, moved_root, stands_other, inst_on}
use Rattle.substitution.proofs.Standing.{definite, widths_back}
use Rattle.substitution.proofs.Substituting.{op_back}

-- ---- what runs hold

argument_held : (ps : List Parameter) (args : List Value) (p : ℕ) → AreArguments ps args → p < length ps → (v : Value) × (slice_get args p ≡ Some v)
argument_held [] args p a lt = absurd (omega arith)
argument_held (q ∷ ps) [] p a lt = absurd a
argument_held (q ∷ ps) (v ∷ args) zero a lt = (v, refl)
argument_held (q ∷ ps) (v ∷ args) (suc p) a lt = argument_held ps args p a.1 (omega arith)

-- parameters hold the arguments
parameter_held : (f : Function) (args : List Value) (m : Moment) (before : List Moment) (p : ℕ) → IsHistory f args (m ∷ before) → m.held (registers.Parameter p) ≡ slice_get args p
parameter_held f args m [] p h = ap (λ (x : Moment). x.held (registers.Parameter p)) h
parameter_held f args m (n ∷ before) p h = step_keeps_parameter f n m p h.0 ∙ parameter_held f args n before p h.1

assigned_held : (f : Function) (args : List Value) (m : Moment) (before : List Moment) (r : Register) → AreArguments f.parameters args → IsHistory f args (m ∷ before) → IsAssigned f r m.block m.place → (v : Value) × (m.held r ≡ Some v)
assigned_held f args m before (registers.Parameter p) are h a =
    let v : (v : Value) × (slice_get args p ≡ Some v) = argument_held f.parameters args p are a in
    (v.0, parameter_held f args m before p h ∙ v.1)
assigned_held f args m before (registers.Result d j) are h a =
    let ran : (later : List Moment) × (last : Moment) × (earlier : List Moment) × LastRan d j before later last earlier = assigned_ran f args d j m before h a in
    let held : (inst : Inst) × (v : Value) × IsInst f d j inst × InstGives ran.1 inst (effects.Gives v) × (m.held (registers.Result d j) ≡ Some v) = results_held f args d j m before ran.0 ran.1 ran.2 a.0 h ran.3 in
    (held.1, held.4)

hold_at : (f : Function) (args : List Value) (m : Moment) (before : List Moment) → MeetsChecks f → NumbersFit f → AreArguments f.parameters args → IsHistory f args (m ∷ before) → MayHold f m.block m.place m.held
hold_at f args m before checks numbers are h = record {
  widths = (held_widths f args m before checks.formed numbers are h).0;
  assigned = λ r a. assigned_held f args m before r are h a;
  equations = equations f args m before checks.assigned h;
}

pub runs_hold : RunsHoldWhatIsAssigned
runs_hold f args b k held checks numbers are run =
    let m : Moment = run.0 in
    subst (λ (x : Registers). MayHold f b k x) run.4
    (subst (λ (p : ℕ × ℕ). MayHold f p.0 p.1 m.held) run.3 (hold_at f args m run.1 checks numbers are run.2))

-- ---- the old function's registers by the new function's

module _ (f : Function) (w : Rewrite) (root : Inst) (fits : Fits f w root) (held : Registers) (h : MayHold (rewritten_function w f) w.block w.place held) where
  abbrev new : Function
  new = rewritten_function w f

  abbrev Pulled : Registers
  Pulled = pulled_back (stands_for w) held

  -- the root isn't assigned at its own place
  not_the_root : (d j : ℕ) → IsAssigned f (registers.Result d j) w.block w.place → ¬ IsTheRoot w d j
  not_the_root d j a here =
      let is : registers.Result d j ≡ root_of w = (let p = here.0 in let q = here.1 in cc) in
      let there : IsAssigned f (root_of w) w.block w.place = subst (λ (r : Register). IsAssigned f r w.block w.place) is a in
      not_both_assigned f w.block w.place w.block w.place fits.reached there there

  stand_assigned : (r s : Register) → IsAssigned f r w.block w.place → stands_for w r ≡ operands.Register s → IsAssigned new s w.block w.place
  stand_assigned r s a e =
      let there : IsAssigned new s w.block (moved_place w w.block w.place) = assigned_on f w root fits (operands.Register r) s w.block w.place e (λ x is. subst (λ (y : Register). IsAssigned f y w.block w.place) (same x is) a) in
      subst (λ (n : ℕ). IsAssigned new s w.block n) (moved_root w w.block w.place (refl, refl)) there
    where
      same : (x : Register) → operands.Register r ≡ operands.Register x → r ≡ x
      same x e = cc

  assigned_back : (r : Register) → IsAssigned f r w.block w.place → (v : Value) × (Pulled r ≡ Some v)
  assigned_back (registers.Parameter p) a = h.assigned (registers.Parameter p) (stand_assigned (registers.Parameter p) (registers.Parameter p) a refl)
  assigned_back (registers.Result d j) a =
      let stands : stands_for w (registers.Result d j) ≡ operands.Register (registers.Result d (moved_place w d j)) = stands_other w d j (not_the_root d j a) in
      let v : (v : Value) × (held (registers.Result d (moved_place w d j)) ≡ Some v) = h.assigned (registers.Result d (moved_place w d j)) (stand_assigned (registers.Result d j) (registers.Result d (moved_place w d j)) a stands) in
      (v.0, ap (value_of held) stands ∙ v.1)

  equations_back : (d j : ℕ) (inst : Inst) → IsInst f d j inst → ¬ IsPhi inst.op → IsAssigned f (registers.Result d j) w.block w.place
      → (v : Value) × (Pulled (registers.Result d j) ≡ Some v) × OpGives AnyNumber Pulled inst.width inst.op (effects.Gives v)
  equations_back d j inst is other a =
      let not_root : ¬ IsTheRoot w d j = not_the_root d j a in
      let stands : stands_for w (registers.Result d j) ≡ operands.Register (registers.Result d (moved_place w d j)) = stands_other w d j not_root in
      let e : (v : Value) × (held (registers.Result d (moved_place w d j)) ≡ Some v) × OpGives AnyNumber held inst.width (substituted_inst (stands_for w) inst).op (effects.Gives v) =
      h.equations d (moved_place w d j) (substituted_inst (stands_for w) inst) (inst_on w f d j inst is not_root) (no_phi_substituted w inst.op other) (stand_assigned (registers.Result d j) (registers.Result d (moved_place w d j)) a stands) in
      (e.0, ap (value_of held) stands ∙ e.1, op_back (stands_for w) held (definite f w root fits) inst.width inst.op (effects.Gives e.0) e.2)

  pub held_back : MayHold f w.block w.place Pulled
  held_back = record { widths = widths_back f w root fits held h.widths; assigned = assigned_back; equations = equations_back }
