-- Each run through the inserted instructions is allowed by an effect of the root, where the rule is valid.
use Rattle.rewriter.proofs.Common.{◌≡◌, ℕ, suc, ◌+◌, ◌-◌, ◌<◌, inl, inr, List, [], ◌∷◌, length, map, take, Option, Some, refl, sym, ap, subst, ◌∙◌, arith, slice_get, Contains, range_with_len, option_map, cases_eq, length-map, take_all, same_Some, slice_get-map, slice_get-get_or, slice_get_within, assignment_transitive, before_in_block, named_assigned, Number, AllowsValue, AllowsEffect, IsValueOf, Value, Effect, AllowsEffect-trans, IsAssigned, HasInst, IsInst, MeetsChecks, Read, reads_of, Registers, AnyNumber, OperandGives, OpGives, IsWalk, IsReached, Function, Inst, Register, some_at, contains_at, IsRule, Choice, choices_among, LeavesOpen, Held, Given, Ending, Undefines, Holds, given_by, at_start, temporaries_of, holding_source, holding_target, StatementGives, ArgumentGives, Follows, TemporariesEnd, SourceGives, TargetGives, GivesLast, KeepsFacts, Setting, SettingFits, SourceChoicesFit, witness_number, HaveEffects, IsValid, Rule, Statement, HeldFits, GivenFits, ChoiceIsReady, ArgumentIsReady, source_given, Contains-from_get, source_ready, follows_once, temporaries_fit, temporaries_same, choices_fit, EquationHolds, not_both_assigned, one_inst, has_inst, NumbersFit, PutIsAllowed, AllowsPut, MayHold, stands_for, RunsThrough, Rewrite, value_of, pulled_back, inst_reads, IsTheRoot, stands_root, stands_other, moved_unmoved, is_moved, MatchesWhere, known_in, StatementMatches, Binding, rewrite_of}
use Rattle.ops.specs.declared.value.Value.TheVariants as values
use Rattle.ops.specs.declared.value.Effect.TheVariants as effects
use Rattle.ir_core.specs.declared.operand.Operand.{Operand}
use Rattle.ir_core.specs.declared.operand.Operand.TheVariants as operands
use Rattle.ir_core.specs.declared.operand.Register.TheVariants as registers
use Rattle.rule_core.specs.declared.rule.Register.TheVariants as names
use Rattle.rule_core.specs.declared.rule.Op.TheVariants as rule_ops
use Rattle.rule_core.specs.declared.rule.Operand.{Operand as RuleOperand}
use Rattle.rule_core.specs.Readiness.{OpIsReady, StatementIsReady}
use Rattle.rewriter.proofs.Computing.{IsComputed}
use Rattle.rewriter.proofs.Effects.{source_gives}
use Rattle.rewriter.proofs.Matched.{computed_no_phi, reads_here, same_is_computed}
use Rattle.rewriter.proofs.Frozen.{argument_fits}
use Rattle.rewriter.proofs.Picks.{places, in_order}
use Rattle.rewriter.proofs.Putting.{IsSettled, results, results_length}
use Rattle.rewriter.proofs.Root.{root_allows}
use Rattle.rewriter.proofs.Said.{facts_held}
use Rattle.rewriter.proofs.Setting.{setting_fits, terms_fit}
use Rattle.rewriter.proofs.Source.{input_value, input_values, input_is, Standing, temporaries_stand}
use Rattle.rewriter.proofs.Target.{GivesOnly, Ready, Done, Ends, target_runs}

module _ {Before : ℕ → ℕ → ℕ → ℕ → Type 0} (f : Function) (b k : ℕ) (rule : Rule) (binding : Binding) (checked : IsRule rule) (meets : MeetsChecks f) (numbers : NumbersFit f) (match : MatchesWhere Before (known_in f) f b k rule binding)
    (root : Inst) (root_is : IsInst f binding.block binding.place root) where
  abbrev pub w : Rewrite
  w = rewrite_of rule binding root.name

  pub reached : (before : List ℕ) × IsWalk f (binding.block ∷ before)
  reached = subst (IsReached f) (sym match.block) match.reached

  -- a result that is assigned at an instruction of its block is of an instruction before that one
  pub stands_before : (p q : ℕ) → HasInst f binding.block q → IsAssigned f (registers.Result binding.block p) binding.block q → p < q
  stands_before p q has a = before_in_block not_both_assigned f binding.block p q reached has a

  pub root_has : HasInst f binding.block binding.place
  root_has = has_inst f binding.block binding.place root root_is

  -- ---- inputs and temporaries are assigned at the root

  pub input_assigned : (i : ℕ) (reg : Register) → slice_get binding.inputs i ≡ Some (operands.Register reg) → IsAssigned f reg binding.block binding.place
  input_assigned i reg at =
      let count : length binding.inputs ≡ length rule.inputs = match.input_count in
      named_assigned assignment_transitive f b k rule binding meets checked match (names.Input i) reg (omega (arith, slice_get_within binding.inputs i (operands.Register reg) at)) at

  pub inputs_settled : (i : ℕ) (a : Operand) → slice_get binding.inputs i ≡ Some a → IsSettled rule binding 0 a
  inputs_settled i a at p is =
      let assigned : IsAssigned f (registers.Result binding.block p) binding.block binding.place = input_assigned i (registers.Result binding.block p) (at ∙ ap (λ (x : Operand). Some x) is) in
      let lt : p < binding.place = stands_before p binding.place root_has assigned in
      omega arith

  statement_at : (j : ℕ) → j < length rule.source → (s : Statement) × (slice_get rule.source j ≡ Some s)
  statement_at j lt = some_at rule.source j lt

  pub temporary_assigned : (j : ℕ) (reg : Register) → suc j < length rule.source → slice_get binding.statements j ≡ Some reg → IsAssigned f reg binding.block binding.place
  temporary_assigned j reg lt at = named_assigned assignment_transitive f b k rule binding meets checked match (names.Source j) reg lt (ap (option_map operands.Register) at)

  settled_temporary : (j : ℕ) (reg : Register) → suc j < length rule.source → slice_get binding.statements j ≡ Some reg → IsSettled rule binding 0 (operands.Register reg)
  settled_temporary j reg lt at p is =
      let same : reg ≡ registers.Result binding.block p = cc in
      let assigned : IsAssigned f (registers.Result binding.block p) binding.block binding.place = subst (λ r. IsAssigned f r binding.block binding.place) same (temporary_assigned j reg lt at) in
      let less : p < binding.place = stands_before p binding.place root_has assigned in
      omega arith

  -- a temporary of the root's block stands before the root
  temporary_before : (j p : ℕ) → suc j < length rule.source → slice_get binding.statements j ≡ Some (registers.Result binding.block p) → p < binding.place
  temporary_before j p lt at = stands_before p binding.place root_has (temporary_assigned j (registers.Result binding.block p) lt at)

  -- a register that is assigned at the root isn't renamed
  pub stands_itself : (reg : Register) → IsAssigned f reg binding.block binding.place → stands_for w reg ≡ operands.Register reg
  stands_itself (registers.Parameter p) a = refl
  stands_itself (registers.Result d j) a =
      elim (cases_eq d binding.block) [
        | inl same ↦
            let here : IsAssigned f (registers.Result binding.block j) binding.block binding.place = subst (λ n. IsAssigned f (registers.Result n j) binding.block binding.place) same a in
            let lt : j < binding.place = stands_before j binding.place root_has here in
            let other : ¬ IsTheRoot w d j = λ is. let e : j ≡ binding.place = is.1 in omega arith in
            stands_other w d j other ∙ ap (λ n. operands.Register (registers.Result d n)) (moved_unmoved w d j same (omega arith))
        | inr ne ↦
            let other : ¬ IsTheRoot w d j = λ is. ne is.0 in
            stands_other w d j other ∙ ap (λ n. operands.Register (registers.Result d n)) ((is_moved w d j).elsewhere ne)
      ]

  -- ---- where the inserted instructions begin, with what registers hold in the new function

  module _ (held' : Registers) (after : Option Registers) (may : MayHold f binding.block binding.place (pulled_back (stands_for w) held')) (runs : RunsThrough binding.block binding.place w.put held' after) where
    abbrev typing : List ℕ
    typing = binding.typing

    -- what the same registers hold in the old function
    abbrev held : Registers
    held = pulled_back (stands_for w) held'

    -- the equation of each temporary holds at the root, in whatever block it stands
    equations : (j d p : ℕ) (inst : Inst) → suc j < length rule.source → slice_get binding.statements j ≡ Some (registers.Result d p) → IsInst f d p inst → IsComputed inst.op → EquationHolds held d p inst
    equations j d p inst lt at is computed = may.equations d p inst is (computed_no_phi inst.op computed) (temporary_assigned j (registers.Result d p) lt at)

    abbrev inputs : List Value
    inputs = input_values held binding

    temporaries : (end : Held) × TemporariesEnd typing binding.constants rule inputs (Holds end) × Standing f rule binding held (length rule.source - 1) end
    temporaries = temporaries_stand f rule binding held checked match.typing match.no_undef match.statements equations

    H : Held
    H = temporaries.0

    ends : TemporariesEnd typing binding.constants rule inputs (Holds H)
    unfolding H
    ends = temporaries.1

    standing : Standing f rule binding held (length rule.source - 1) H
    unfolding H
    standing = temporaries.2

    -- ---- where the target begins

    -- a register that is assigned at the root holds the same in the new function as in the old one
    held_there : (reg : Register) (v : Value) → IsAssigned f reg binding.block binding.place → held' reg ≡ Some v → held reg ≡ Some v
    held_there reg v assigned is = ap (value_of held') (stands_itself reg assigned) ∙ is

    input_only : (i : ℕ) (a : Operand) → slice_get binding.inputs i ≡ Some a → GivesOnly held' (input_value held a) a
    input_only i (operands.Register reg) at width v' gives = sym (input_is held 0 (operands.Register reg) v' (λ e. cc) (held_there reg v' (input_assigned i reg at) gives))
    input_only i (operands.Number n) at width v' gives = gives
    input_only i operands.Undef at width v' gives = absurd (match.no_undef (contains_at binding.inputs i operands.Undef at))
    input_only i operands.Poison at width v' gives = gives

    ready_start : Ready rule binding 0 H held'
    ready_start =
        record {
          inputs = λ i a at. (input_value held a, ap (λ (vs : List Value). slice_get vs i) standing.inputs ∙ (slice_get-map (input_value held) binding.inputs i ∙ ap (option_map (input_value held)) at), input_only i a at);
          source = λ reads j reg lt at.
              let old = standing.each j reg (omega arith) at in
              let stays : GivesOnly held' old.1 (operands.Register reg) = λ width v' gives. same_Some v' old.0 (sym (held_there reg v' (temporary_assigned j reg lt at) gives) ∙ old.2) ∙ old.4.1 reads in
              (old.1, old.3, stays);
          target = λ j a lt. absurd (omega arith);
          count = ap length standing.none;
        }

    done : Done rule binding checked match.typing match.input_count match.statement_count match.constant_count inputs_settled settled_temporary (terms_fit f b k rule binding checked meets numbers match) rule.target 0 [] H after
    done =
        target_runs rule binding checked match.typing match.input_count match.statement_count match.constant_count inputs_settled settled_temporary (terms_fit f b k rule binding checked meets numbers match) f root.name rule.target 0 [] H held' after
        (λ i s at. subst (λ n. slice_get rule.target n ≡ Some s) (omega arith) at) (in_order (places (choices_among rule.target)) (checked.target_choices ∙ ap (range_with_len 0) (sym (length-map (choices_among rule.target) (λ (c : Choice). c.place))))) ready_start
        (subst (λ n. RunsThrough binding.block n w.put held' after) (omega arith) runs)

    -- ---- the setting

    abbrev setting : Setting
    setting = record { inputs = inputs; constants = binding.constants; target_choices = done.numbers }

    setting_fit : SettingFits rule typing setting
    setting_fit =
        setting_fits f b k rule binding checked meets numbers match held done.numbers may.widths done.count
        (λ q n at. let r = done.fit q n at in (r.0, subst (λ k. LeavesOpen rule.target k r.0) (omega arith) r.1, r.2))

    held_fit : HeldFits rule typing H
    held_fit = temporaries_fit rule typing checked match.typing binding.constants setting_fit.constants inputs setting_fit.inputs H ends

    abbrev choices : List Number
    choices = map (witness_number rule typing setting H) rule.witnesses

    choices_are_fit : SourceChoicesFit rule typing choices
    choices_are_fit = choices_fit rule typing setting H checked match.typing setting_fit held_fit

    -- the source's temporaries keep what the rule says of bits
    facts_kept : KeepsFacts rule typing binding.constants inputs
    facts_kept then runs =
        facts_held f b k rule binding checked meets numbers match temporary_before held may.widths
        (λ p inst lt is other. may.equations binding.block p inst is other (has_inst f binding.block p inst is, λ passed walk. inr (refl, lt)))
        then (temporaries_fit rule typing checked match.typing binding.constants setting_fit.constants inputs setting_fit.inputs then runs) runs

    -- ---- the root

    last : (s : Statement) × (slice_get rule.source (length rule.source - 1) ≡ Some s)
    last = statement_at (length rule.source - 1) (let some = checked.source_root in omega arith)

    m : StatementMatches f rule binding (length rule.source - 1) last.0
    m = match.statements (length rule.source - 1) last.0 last.1

    m_root : (m.block ≡ binding.block) × (m.place ≡ binding.place)
    m_root = m.matches.root (let some = checked.source_root in omega arith)

    m_inst : m.inst ≡ root
    m_inst = one_inst f binding.block binding.place m.inst root (subst (λ n. IsInst f binding.block n m.inst) m_root.1 (subst (λ d. IsInst f d m.place m.inst) m_root.0 m.is_inst)) root_is

    root_holds : (n : ℕ) (r : Read) (reg : Register) → slice_get (reads_of f m.block m.place m.inst.width m.inst.op) n ≡ Some r → r.operand ≡ operands.Register reg → (v : Value) × (held reg ≡ Some v)
    root_holds n r reg at is =
        let there = ap (λ (l : List Read). slice_get l n) (inst_reads f m.block m.place m.inst m.is_inst) ∙ at in
        let a : IsAssigned f reg r.block r.place = meets.assigned m.block m.place n r there reg is in
        let here = reads_here f m.block m.place m.inst.width m.inst.op (same_is_computed last.0.op m.inst.op m.matches.operation) n r at in
        may.assigned reg (subst (λ p. IsAssigned f reg binding.block p) (here.1 ∙ m_root.1) (subst (λ c. IsAssigned f reg c r.place) (here.0 ∙ m_root.0) a))

    abbrev given : Given
    given = given_by typing binding.constants choices rule

    whole : take (length rule.source) rule.source ≡ rule.source
    whole = take_all (length rule.source) rule.source (omega arith)

    source_fits : GivenFits rule typing (take (length rule.source) rule.source) given
    source_fits = source_given rule typing binding.constants checked match.typing setting_fit.constants choices (length rule.source) choices_are_fit

    root_chosen : (k c N : ℕ) → LeavesOpen rule.source k c → slice_get typing c ≡ Some N → ChoiceIsReady given N k
    root_chosen k c N left_open width = source_fits.choices k c N (subst (λ (l : List Statement). LeavesOpen l k c) (sym whole) left_open) width

    -- the value that the root freezes has its width
    root_ready : StatementIsReady typing given H last.0
    root_ready =
        let among : Contains (take (length rule.source) rule.source) last.0 = subst (λ (l : List Statement). Contains l last.0) (sym whole) (Contains-from_get rule.source (length rule.source - 1) last.0 last.1) in
        source_ready rule typing (take (length rule.source) rule.source) given H (length rule.source - 1) last.0 checked match.typing source_fits held_fit last.1 among standing.count

    root_frozen : (a : RuleOperand) (k N : ℕ) (u : Value) → last.0.op ≡ rule_ops.Freeze a k → slice_get typing a.class ≡ Some N → ArgumentGives typing given H N a.value u → IsValueOf N u
    root_frozen a k N u is class gives =
        let ready : OpIsReady typing given H root_ready.0 (rule_ops.Freeze a k) = subst (OpIsReady typing given H root_ready.0) is root_ready.2 in
        let width : root_ready.0 ≡ N = same_Some root_ready.0 N (sym ready.0.0 ∙ class) in
        argument_fits typing given H N a.value u (subst (λ n. ArgumentIsReady given H n a.value) width ready.0.1) gives

    at_root : (source : Effect) × StatementGives typing given H last.0 source × ((e : Effect) × OpGives AnyNumber held m.inst.width m.inst.op e × AllowsEffect e source)
    at_root = root_allows f rule binding held match.no_undef given refl (length rule.source - 1) H standing checked match.typing last.0 last.1 m root_holds root_chosen root_frozen

    of_source : SourceGives typing binding.constants choices rule inputs at_root.0
    of_source = source_gives typing binding.constants choices rule inputs H last.0 at_root.0 (temporaries_same rule typing binding.constants choices checked (at_start inputs) (Holds H) ends) last.1 at_root.1

    -- ---- the target

    value_gives : (new : Registers) (a : Operand) (v : Value) → value_of new a ≡ Some v → OperandGives AnyNumber new 0 a v
    value_gives new (operands.Register r) v is = is
    value_gives new (operands.Number n) v is = sym (same_Some (values.Bits n) v is)
    value_gives new operands.Undef v is = absurd cc
    value_gives new operands.Poison v is = sym (same_Some values.Poison v is)

    -- an effect of the target: what allows it allows what the inserted instructions come to
    abbrev OfTarget : Type 0
    OfTarget = (target : Effect) × TargetGives typing binding.constants done.numbers rule inputs target × ((e : Effect) → AllowsEffect e target → AllowsPut w e after)

    none_allowed : (e : Effect) → AllowsEffect e effects.Undefined → AllowsPut w e after
    none_allowed effects.Undefined allows = tt
    none_allowed (effects.Gives v) allows = absurd allows

    some_allowed : (new : Registers) (u : Value) → GivesOnly new u w.result → (e : Effect) → AllowsEffect e (effects.Gives u) → AllowsPut w e (Some new)
    some_allowed new u gives effects.Undefined allows = tt
    some_allowed new u gives (effects.Gives x) allows = λ v' is.
        subst (λ y. AllowsValue x y) (sym (gives 0 v' (value_gives new w.result v' (ap (value_of new) (sym (stands_root w binding.block binding.place (refl, refl))) ∙ is)))) allows

    of_target_end : (end : Ending) → Follows typing (given_by typing binding.constants done.numbers rule) holding_target rule.target H end
        → Ends rule binding checked match.typing match.input_count match.statement_count match.constant_count inputs_settled settled_temporary (terms_fit f b k rule binding checked meets numbers match) (0 + length rule.target) end after → OfTarget
    of_target_end Undefines follows is = (effects.Undefined, (Holds H, ends, (Undefines, follows, refl)), none_allowed)
    of_target_end (Holds end) follows (new, is, ready) =
        let j : ℕ = length rule.target - 1 in
        let some : 0 < length rule.target = checked.target_root in
        let there : slice_get (results rule binding) j ≡ Some w.result = slice_get-get_or (results rule binding) j operands.Poison (omega (arith, results_length rule binding)) in
        let r = ready.target j w.result (omega arith) there in
        let count : length end.target - 1 ≡ j = let all : length end.target ≡ 0 + length rule.target = ready.count in omega arith in
        let gives : GivesLast end.target (effects.Gives r.0) = (r.0, subst (λ n. slice_get end.target n ≡ Some r.0) (sym count) r.1, refl) in
        (effects.Gives r.0, (Holds H, ends, (Holds end, follows, gives)), λ e allows. subst (λ o. AllowsPut w e o) (sym is) (some_allowed new r.0 r.2 e allows))

    of_target : OfTarget
    of_target = of_target_end done.end done.follows done.ends

    -- ---- both

    pub root_effect : IsValid rule typing → (e : Effect) × OpGives AnyNumber held root.width root.op e × AllowsPut w e after
    root_effect valid =
        let have : HaveEffects rule typing setting choices at_root.0 of_target.0 = record {
          chosen = λ other runs.
              let same : Holds H ≡ Holds other = follows_once typing (given_by typing binding.constants [] rule) holding_source (temporaries_of rule) (at_start inputs) (Holds H) (Holds other) ends runs in
              let is : H ≡ other = cc in
              ap (λ h. map (witness_number rule typing setting h) rule.witnesses) is;
          of_source = of_source;
          of_target = of_target.1;
        } in
        let allows : AllowsEffect at_root.0 of_target.0 = valid setting choices at_root.0 of_target.0 (record { fits = setting_fit; precondition = match.precondition; facts = facts_kept }) have in
        let e : Effect = at_root.2.0 in
        let op : OpGives AnyNumber held root.width root.op e = subst (λ (i : Inst). OpGives AnyNumber held i.width i.op e) m_inst at_root.2.1 in
        (e, op, of_target.2 e (AllowsEffect-trans e at_root.0 of_target.0 at_root.2.2 allows))

  -- Whatever registers may hold at the root, each run through the inserted instructions is allowed by the root.
  pub put_is_allowed : IsValid rule binding.typing → PutIsAllowed f w root
  put_is_allowed valid held' after may runs = root_effect held' after may runs valid
