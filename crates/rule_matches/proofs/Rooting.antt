-- A rule matches only at instructions of its root's kind.
use Rattle.rule_matches.proofs.Common.{◌≡◌, ℕ, suc, ◌-◌, ◌<◌, List, Option, Some, length, refl, sym, ap, subst, ◌∙◌, arith, slice_get_within, slice_get, option_and_then, option_map, unwrap_or, end_of, Block, Function, Inst, IsInst, Rule, Statement, IsSameOperation, StatementMatches, Match, RootKind, Binary, Compare, Unary, Select, Convert, Freeze, AreReady, Knowledge, MatchesAmong, kind_of_statement, kind_of_inst, kind_of_root, HasRootKind}
use Rattle.ir_core.specs.declared.instruction.Op.{Op as InstOp}
use Rattle.ir_core.specs.declared.instruction.Op.TheVariants as ops
use Rattle.rule_matches.proofs.Places.{some_at}
use Rattle.rule_core.specs.declared.rule.Op.{Op as RuleOp}
use Rattle.rule_core.specs.declared.rule.Op.TheVariants as rule_ops

-- statements and instructions with the same operation are of one kind
kind_same : (s : RuleOp) (i : InstOp) → IsSameOperation s i → (kind : RootKind) × (kind_of_statement s ≡ Some kind) × (kind_of_inst i ≡ Some kind)
kind_same (rule_ops.Binary opcode flags a b) (ops.Binary opcode' flags' x y) same = (Binary opcode, refl, ap (λ o. Some (Binary o)) (sym same))
kind_same (rule_ops.Compare pred samesign a b) (ops.Compare pred' samesign' width x y) same = (Compare pred, refl, ap (λ o. Some (Compare o)) (sym same))
kind_same (rule_ops.Unary op truth a) (ops.Unary op' truth' x) same = (Unary op, refl, ap (λ o. Some (Unary o)) (sym same))
kind_same (rule_ops.Select c a b) (ops.Select z x y) same = (Select, refl, refl)
kind_same (rule_ops.Convert cast flags a to) (ops.Convert cast' flags' from x) same = (Convert cast, refl, ap (λ o. Some (Convert o)) (sym same))
kind_same (rule_ops.Freeze a k) (ops.Freeze x) same = (Freeze, refl, refl)
kind_same s i same = absurd same

-- the root of a match: its rule's statement, and the instruction
pub record RootStands (rules : List Rule) (f : Function) (m : Match) : Type 0 where
  pub inst : Inst
  pub is_inst : IsInst f m.binding.block m.binding.place inst
  pub kind : RootKind
  pub of_inst : kind_of_inst inst.op ≡ Some kind
  pub of_rule : HasRootKind rules kind m.rule

pub root_stands : {Before : ℕ → ℕ → ℕ → ℕ → Type 0} {known : Knowledge} (rules : List Rule) (f : Function) (m : Match) → AreReady rules → MatchesAmong Before known rules f m → RootStands rules f m
root_stands rules f m ready is = by (length is.rule.source - 1) (let some : 0 < length is.rule.source = (ready m.rule is.rule is.is_rule).checks.source_root in omega (arith, some)) refl
  where
    by : (j : ℕ) → suc j ≡ length is.rule.source → j ≡ length is.rule.source - 1 → RootStands rules f m
    by j is_last same_place =
        let rule = is.rule in
        let last : (s : Statement) × (slice_get rule.source j ≡ Some s) = some_at rule.source j (omega (arith, is_last)) in
        let s = last.0 in
        let bound : StatementMatches f rule m.binding j s = is.matches.statements j s last.1 in
        let there = bound.matches.root is_last in
        let same : (kind : RootKind) × (kind_of_statement s.op ≡ Some kind) × (kind_of_inst bound.inst.op ≡ Some kind) = kind_same s.op bound.inst.op bound.matches.operation in
        let root : kind_of_root rule ≡ kind_of_statement s.op = ap (λ (k : ℕ). option_and_then (λ (x : Statement). kind_of_statement x.op) (slice_get rule.source k)) (sym same_place) ∙ ap (option_and_then (λ (x : Statement). kind_of_statement x.op)) last.1 in
        record {
          inst = bound.inst;
          is_inst = subst (λ (k : ℕ). IsInst f m.binding.block k bound.inst) there.1 (subst (λ (d : ℕ). IsInst f d bound.place bound.inst) there.0 bound.is_inst);
          kind = same.0;
          of_inst = same.2;
          of_rule = (rule, is.is_rule, root ∙ same.1);
        }

-- an instruction of a block is before the block's end
pub before_end : (f : Function) (b k : ℕ) (inst : Inst) → IsInst f b k inst → k < end_of f b
before_end f b k inst is =
    subst (λ (o : Option Block). k < unwrap_or (option_map (λ (block : Block). length block.insts) o) 0) (sym is.is_block) (slice_get_within is.block.insts k inst is.is_inst)
