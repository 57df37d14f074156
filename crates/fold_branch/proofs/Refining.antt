-- A run of the folded function is one of the old function.
use Rattle.fold_branch.proofs.Common.{◌≡◌, ℕ, zero, suc, ◌&&◌, Bool, true, false, cond, List, [], ◌∷◌, map, Option, None, Some, Contains, refl, sym, ap, subst, slice_index_or, AllowsValue-refl, Value, Effect, targets_of, IsBlock, AllowsOutcome, Refines, Registers, arguments, breaks_noundef, has_noundef, is_indefinite, Ending, Undefines, Returns, Goes, returning, going_by, branch_target, switch_target, GoesOn, Leads, OpGives, PhiGives, EndGives, Follows, Enters, Passes, RunsFrom, Starts, holding, AnyNumber, IsReached, Block, Function, Inst, Op, Binary, Compare, Unary, Select, Convert, Freeze, Phi, Operand, Outcome, Terminator, first_in, branch_among, switch_among_all, decided_end, decided, staying, folded_op, folded_inst, folded_as, folded_block, folded_blocks, choices_of, AreReached, FoldedFunctionsRefine, IsMarked}
use Rattle.ops.specs.declared.value.Value.TheVariants as values
use Rattle.ops.specs.declared.value.Effect.TheVariants as effects
use Rattle.ir_core.specs.declared.operand.Operand.TheVariants as operands
use Rattle.ir_core.specs.declared.outcome.Outcome.TheVariants as outcomes
use Rattle.ir_core.specs.declared.terminator.Terminator.TheVariants as terminators
use Rattle.fold_branch.proofs.Decided.{leads}
use Rattle.fold_branch.proofs.FoldedBlocks.{folded, block_back, if_phi_back}
use Rattle.fold_branch.proofs.Staying.{staying_among}

outcome_allows_itself : (o : Outcome) → AllowsOutcome o o
outcome_allows_itself outcomes.Undefined = tt
outcome_allows_itself (outcomes.Return v) = AllowsValue-refl v
outcome_allows_itself (outcomes.Running b) = refl

names_stay : (choices : List (Option ℕ)) (reached : List Bool) (b : ℕ) (blocks : List Block) → map (λ (x : Block). x.name) (folded_blocks choices reached b blocks) ≡ map (λ (x : Block). x.name) blocks
names_stay choices reached b [] = refl
names_stay choices reached b (x ∷ blocks) = by (slice_index_or reached b false) (names_stay choices reached (suc b) blocks)
  where
    by : (mark : Bool) → map (λ (x : Block). x.name) (folded_blocks choices reached (suc b) blocks) ≡ map (λ (x : Block). x.name) blocks
        → map (λ (x : Block). x.name) (folded_as choices reached b mark x ∷ folded_blocks choices reached (suc b) blocks) ≡ x.name ∷ map (λ (x : Block). x.name) blocks
    by true h = ap (λ names. x.name ∷ names) h
    by false h = ap (λ names. x.name ∷ names) h

-- the pass goes on at one of these blocks, if it goes on
abbrev GoesAmong : List ℕ → Ending → Type 0
GoesAmong targets Undefines = Unit {0}
GoesAmong targets (Returns v) = Unit {0}
GoesAmong targets (Goes c held) = Contains targets c

among_by : (targets : List ℕ) (end other : Ending) → end ≡ other → GoesAmong targets other → GoesAmong targets end
among_by targets end other is h = subst (GoesAmong targets) (sym is) h

among_returning : (targets : List ℕ) (undefines : Bool) (a : Operand) (v : Value) → GoesAmong targets (returning undefines a v)
among_returning targets undefines a v = by (undefines && is_indefinite a v)
  where
    by : (t : Bool) → GoesAmong targets (cond t Undefines (Returns v))
    by true = tt
    by false = tt

among_going : (targets : List ℕ) (to : ℕ → ℕ) (held : Registers) (a : Operand) (v : Value) → ((n : ℕ) → Contains targets (to n)) → GoesAmong targets (going_by to held a v)
among_going targets to held operands.Undef v among = tt
among_going targets to held operands.Poison values.Poison among = tt
among_going targets to held operands.Poison (values.Bits n) among = among n.number
among_going targets to held (operands.Register r) values.Poison among = tt
among_going targets to held (operands.Register r) (values.Bits n) among = among n.number
among_going targets to held (operands.Number x) values.Poison among = tt
among_going targets to held (operands.Number x) (values.Bits n) among = among n.number

-- what comes behind an effect
goes_on : (P Q : Value → Type 0) (R : Type 0) (e : Effect) (end : Ending) → ((v : Value) → P v → Q v × R) → (end ≡ Undefines → R) → GoesOn P e end → GoesOn Q e end × R
goes_on P Q R effects.Undefined end next none g = (g, none g)
goes_on P Q R (effects.Gives v) end next none g = next v g

module _ (f : Function) (reached : List Bool) (r : AreReached (decided f) reached) where
  abbrev g : Function
  g = folded f reached

  abbrev choices : List (Option ℕ)
  choices = choices_of f

  -- ---- terminators

  end_as : (t : Terminator) (held : Registers) (end : Ending) → EndGives AnyNumber held g t end → EndGives AnyNumber held f t end × GoesAmong (targets_of t) end
  end_as (terminators.Return a) held end h = (h, among_by [] end _ h.2 (among_returning [] (has_noundef f.before) a h.0))
  end_as (terminators.Jump to) held end h = (h, among_by (to ∷ []) end (Goes to held) h (first_in to []))
  end_as (terminators.Branch a to other) held end h = (h, among_by (to ∷ other ∷ []) end _ h.2 (among_going (to ∷ other ∷ []) (branch_target to other) held a h.0 (branch_among to other)))
  end_as (terminators.Switch a width other cases) held end h = (h, among_by (other ∷ map (λ c. c.1) cases) end _ h.2 (among_going (other ∷ map (λ c. c.1) cases) (switch_target cases other) held a h.0 (switch_among_all cases other)))
  end_as terminators.Unreachable held end h = (h, among_by [] end Undefines h tt)

  end_back : (t : Terminator) (held : Registers) (end : Ending) → EndGives AnyNumber held g (decided_end t) end → EndGives AnyNumber held f t end × GoesAmong (targets_of (decided_end t)) end
  end_back (terminators.Return a) held end h = end_as (terminators.Return a) held end h
  end_back (terminators.Jump to) held end h = end_as (terminators.Jump to) held end h
  end_back (terminators.Branch (operands.Register r') to other) held end h = end_as (terminators.Branch (operands.Register r') to other) held end h
  end_back (terminators.Branch (operands.Number n) to other) held end h =
      ((values.Bits n, refl, h), (end_as (terminators.Jump (branch_target to other n.number)) held end h).1)
  end_back (terminators.Branch operands.Undef to other) held end h = end_as (terminators.Branch operands.Undef to other) held end h
  end_back (terminators.Branch operands.Poison to other) held end h = end_as (terminators.Branch operands.Poison to other) held end h
  end_back (terminators.Switch (operands.Register r') width other cases) held end h = end_as (terminators.Switch (operands.Register r') width other cases) held end h
  end_back (terminators.Switch (operands.Number n) width other cases) held end h =
      ((values.Bits n, refl, h), (end_as (terminators.Jump (switch_target cases other n.number)) held end h).1)
  end_back (terminators.Switch operands.Undef width other cases) held end h = end_as (terminators.Switch operands.Undef width other cases) held end h
  end_back (terminators.Switch operands.Poison width other cases) held end h = end_as (terminators.Switch operands.Poison width other cases) held end h
  end_back terminators.Unreachable held end h = end_as terminators.Unreachable held end h

  -- ---- a block

  gives_back : (b : ℕ) (op : Op) (held : Registers) (width : ℕ) (e : Effect) → OpGives AnyNumber held width (folded_op choices reached b op) e → OpGives AnyNumber held width op e
  gives_back b (Phi entries) held width e h = h
  gives_back b (Binary op flags x y) held width e h = h
  gives_back b (Compare pred samesign compared x y) held width e h = h
  gives_back b (Unary op truth x) held width e h = h
  gives_back b (Select c x y) held width e h = h
  gives_back b (Convert cast flags from x) held width e h = h
  gives_back b (Freeze x) held width e h = h

  phi_back : (b : ℕ) (held : Registers) (from : Option ℕ) (width : ℕ) (entries : List (Operand × ℕ)) (v : Value) → PhiGives AnyNumber held from width (staying choices reached b [] entries) v → PhiGives AnyNumber held from width entries v
  phi_back b held from width entries v h = (h.0, h.1, h.2, staying_among choices reached b [] entries (h.1, h.0) h.3, h.4)

  follows_back : (b k : ℕ) (insts : List Inst) (t : Terminator) (held : Registers) (end : Ending)
      → Follows AnyNumber g b k (map (folded_inst choices reached b) insts) (decided_end t) held end
      → Follows AnyNumber f b k insts t held end × GoesAmong (targets_of (decided_end t)) end
  follows_back b k [] t held end h = end_back t held end h
  follows_back b k (i ∷ insts) t held end h =
      let rest : GoesOn (λ v. Follows AnyNumber f b (suc k) insts t (holding held b k v) end) h.0 end × GoesAmong (targets_of (decided_end t)) end =
      goes_on (λ v. Follows AnyNumber g b (suc k) (map (folded_inst choices reached b) insts) (decided_end t) (holding held b k v) end)
      (λ v. Follows AnyNumber f b (suc k) insts t (holding held b k v) end) (GoesAmong (targets_of (decided_end t)) end) h.0 end
      (λ v. follows_back b (suc k) insts t (holding held b k v) end)
      (λ is. among_by (targets_of (decided_end t)) end Undefines is tt) h.2 in
      ((h.0, gives_back b i.op held i.width h.0 h.1, rest.0), rest.1)

  enters_back : (b k : ℕ) (insts : List Inst) (t : Terminator) (from : Option ℕ) (old held : Registers) (end : Ending)
      → Enters AnyNumber g from old b k (map (folded_inst choices reached b) insts) (decided_end t) held end
      → Enters AnyNumber f from old b k insts t held end × GoesAmong (targets_of (decided_end t)) end
  enters_back b k [] t from old held end h = end_back t held end h
  enters_back b k (i ∷ insts) t from old held end h =
      if_phi_back choices reached b i.op
      (λ entries. (v : Value) × PhiGives AnyNumber old from i.width entries v × Enters AnyNumber g from old b (suc k) (map (folded_inst choices reached b) insts) (decided_end t) (holding held b k v) end)
      (λ entries. (v : Value) × PhiGives AnyNumber old from i.width entries v × Enters AnyNumber f from old b (suc k) insts t (holding held b k v) end)
      (Follows AnyNumber g b k (map (folded_inst choices reached b) (i ∷ insts)) (decided_end t) held end)
      (Follows AnyNumber f b k (i ∷ insts) t held end)
      (GoesAmong (targets_of (decided_end t)) end)
      (λ entries taken.
      let rest : Enters AnyNumber f from old b (suc k) insts t (holding held b k taken.0) end × GoesAmong (targets_of (decided_end t)) end = enters_back b (suc k) insts t from old (holding held b k taken.0) end taken.2 in
      ((taken.0, phi_back b old from i.width entries taken.0 taken.1, rest.0), rest.1))
      (follows_back b k (i ∷ insts) t held end)
      h

  -- ---- a run

  -- the pass goes on at a block that is reached, if it goes on
  abbrev GoesReached : Ending → Type 0
  GoesReached Undefines = Unit {0}
  GoesReached (Returns v) = Unit {0}
  GoesReached (Goes c held) = IsMarked reached c

  goes_reached : (b : ℕ) (block : Block) (end : Ending) → IsBlock f b block → IsMarked reached b → GoesAmong (targets_of (decided_end block.end)) end → GoesReached end
  goes_reached b block Undefines at mark h = tt
  goes_reached b block (Returns v) at mark h = tt
  goes_reached b block (Goes c held) at mark h =
      let before : IsReached (decided f) b = (r.exact b).0 mark in
      (r.exact c).1 (b ∷ before.0, (leads f b c block at h, before.1))

  passes_as : (b : ℕ) (block new : Block) (mark : Bool) (from : Option ℕ) (held : Registers) (end : Ending) → mark ≡ true → folded_as choices reached b mark block ≡ new
      → Enters AnyNumber g from held b 0 new.insts new.end held end → Enters AnyNumber g from held b 0 (map (folded_inst choices reached b) block.insts) (decided_end block.end) held end
  passes_as b block new true from held end marked is h = subst (λ (x : Block). Enters AnyNumber g from held b 0 x.insts x.end held end) (sym is) h
  passes_as b block new false from held end unmarked is h = absurd cc

  passes_back : (b : ℕ) (from : Option ℕ) (held : Registers) (end : Ending) → IsMarked reached b → Passes AnyNumber g from b held end → Passes AnyNumber f from b held end × GoesReached end
  passes_back b from held end mark h =
      let was : (block : Block) × IsBlock f b block × (folded_block choices reached b block ≡ h.0) = block_back f reached b h.0 h.1 in
      let entered : Enters AnyNumber f from held b 0 was.0.insts was.0.end held end × GoesAmong (targets_of (decided_end was.0.end)) end =
      enters_back b 0 was.0.insts was.0.end from held held end (passes_as b was.0 h.0 (slice_index_or reached b false) from held end mark was.2 h.2) in
      ((was.0, was.1, entered.0), goes_reached b was.0 end was.1 mark entered.1)

  leads_back : (n b : ℕ) (o : Outcome) → ((c : ℕ) (next : Registers) → IsMarked reached c → RunsFrom AnyNumber g n (Some b) c next o → RunsFrom AnyNumber f n (Some b) c next o)
      → (end : Ending) → GoesReached end → Leads (RunsFrom AnyNumber g n (Some b)) end o → Leads (RunsFrom AnyNumber f n (Some b)) end o
  leads_back n b o rest Undefines mark h = h
  leads_back n b o rest (Returns v) mark h = h
  leads_back n b o rest (Goes c next) mark h = rest c next mark h

  runs_back : (n : ℕ) (from : Option ℕ) (b : ℕ) (held : Registers) (o : Outcome) → IsMarked reached b → RunsFrom AnyNumber g n from b held o → RunsFrom AnyNumber f n from b held o
  runs_back zero from b held o mark h = h
  runs_back (suc n) from b held o mark h =
      let pass : Passes AnyNumber f from b held h.0 × GoesReached h.0 = passes_back b from held h.0 mark h.1 in
      (h.0, pass.0, leads_back n b o (λ c next. runs_back n (Some b) c next o) h.0 pass.1 h.2)

  starts_back : (args : List Value) (n : ℕ) (o : Outcome) (breaks : Bool) → Starts AnyNumber breaks g args n o → Starts AnyNumber breaks f args n o
  starts_back args n o true h = h
  starts_back args n o false h = runs_back n None 0 (arguments args) o ((r.exact 0).1 ([], refl)) h

  pub refined : Refines f g
  refined = record {
    name = refl;
    before = refl;
    width = refl;
    parameters = refl;
    after = refl;
    blocks = names_stay choices reached 0 f.blocks;
    outcomes = λ args n o are h. (o, starts_back args n o (breaks_noundef f.parameters args) h, outcome_allows_itself o);
  }

pub folded_refines : FoldedFunctionsRefine
folded_refines f new is = subst (Refines f) (sym is.2) (refined f is.0 is.1)
