-- A match stays where the instructions that it is bound to are the same, and the same is known of what it names.
use Rattle.draft_steps.proofs.Common.{◌≡◌, ℕ, List, Some, refl, sym, ap, ◌∙◌, Contains, slice_get, IsInst, Read, IsRead, reads_of, IsReached, Function, Inst, Op, Operand, Register, Rule, Statement, IsUsedOnce, AsksBitsOf, Knowledge, facts_follow, operand_for, MatchesWhere, IsSameOperation, StatementMatches, Binding, reads_at_inst}
use Rattle.rule_core.specs.declared.rule.Register.{Register as Name}
use Rattle.ir_core.specs.declared.instruction.Op.TheVariants as ops
use Rattle.ir_core.specs.declared.operand.Register.TheVariants as registers
use Rattle.rule_core.specs.declared.rule.Formula.TheVariants as formulas
use Rattle.rule_core.specs.declared.rule.Op.{Op as RuleOp}
use Rattle.rule_core.specs.declared.rule.Op.TheVariants as rule_ops

-- an operation that a statement matches reads the same in each function
pub same_reads : (f f' : Function) (b k w : ℕ) (s : RuleOp) (op : Op) → IsSameOperation s op → reads_of f b k w op ≡ reads_of f' b k w op
same_reads f f' b k w (rule_ops.Binary opcode flags a d) (ops.Binary opcode' flags' x y) same = refl
same_reads f f' b k w (rule_ops.Compare pred samesign a d) (ops.Compare pred' samesign' width x y) same = refl
same_reads f f' b k w (rule_ops.Unary op truth a) (ops.Unary op' truth' x) same = refl
same_reads f f' b k w (rule_ops.Select c a d) (ops.Select z x y) same = refl
same_reads f f' b k w (rule_ops.Convert cast flags a to) (ops.Convert cast' flags' from x) same = refl
same_reads f f' b k w (rule_ops.Freeze a j) (ops.Freeze x) same = refl
same_reads f f' b k w s op same = absurd same

module _ {Before : ℕ → ℕ → ℕ → ℕ → Type 0} (known known' : Knowledge) (f f' : Function) (b k : ℕ) (rule : Rule) (m : Binding) (is : MatchesWhere Before known f b k rule m)
    (same : (j d p : ℕ) (inst : Inst) → slice_get m.statements j ≡ Some (registers.Result d p) → IsInst f d p inst → IsInst f' d p inst) where
  statement_too : (j : ℕ) (s : Statement) → slice_get rule.source j ≡ Some s → StatementMatches f' rule m j s
  statement_too j s at =
      let h = is.statements j s at in
      let is_inst : IsInst f' h.block h.place h.inst = same j h.block h.place h.inst h.bound h.is_inst in
      let reads : reads_of f h.block h.place h.inst.width h.inst.op ≡ reads_of f' h.block h.place h.inst.width h.inst.op = same_reads f f' h.block h.place h.inst.width s.op h.inst.op h.matches.operation in
      record {
        block = h.block;
        place = h.place;
        inst = h.inst;
        bound = h.bound;
        is_inst = is_inst;
        matches = record {
          root = h.matches.root;
          operation = h.matches.operation;
          flags = h.matches.flags;
          no_more_flags = h.matches.no_more_flags;
          width = h.matches.width;
          operands = λ i o r at_i is_read.
              let was : IsRead f h.block h.place i r = ap (λ (l : List Read). slice_get l i) (reads_at_inst f h.block h.place h.inst h.is_inst ∙ reads ∙ sym (reads_at_inst f' h.block h.place h.inst is_inst)) ∙ is_read in
              h.matches.operands i o r at_i was;
        };
      }

  pub match_too : (IsReached f b → IsReached f' b)
      → ((j : ℕ) (r : Register) → Contains rule.precondition (formulas.HasOneUse j) → slice_get m.statements j ≡ Some r → IsUsedOnce f' r)
      → ((r : Name) (x : Operand) → AsksBitsOf rule r → operand_for m r ≡ Some x → known b k x ≡ known' b k x)
      → MatchesWhere Before known' f' b k rule m
  match_too reached one_use as_much = record {
    block = is.block;
    place = is.place;
    reached = reached is.reached;
    statement_count = is.statement_count;
    statements = statement_too;
    before = is.before;
    input_count = is.input_count;
    no_undef = is.no_undef;
    constant_count = is.constant_count;
    typing = is.typing;
    precondition = is.precondition;
    one_use = one_use;
    facts = λ formula among. facts_follow rule (known b k) (known' b k) m m (λ a. refl) (λ r x asks at. (x, at, as_much r x asks at)) formula among (is.facts formula among);
  }
