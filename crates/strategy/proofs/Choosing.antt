-- Which rewrites give no branch and no switch a number: those that put none in the place of the root, and those whose
-- root no terminator reads.
use Rattle.strategy.proofs.Common.{◌≡◌, ℕ, zero, suc, ◌-◌, ◌==◌, ◌&&◌, if◌then◌else◌, Bool, true, false, List, [], ◌∷◌, length, map, take, get_or, inr, Option, None, Some, option_map, option_map_or, refl, sym, ap, subst, ◌∙◌, arith, All, Contains, slice_get, All-contains, and_parts, eqb-true, same_Some, slice_get-get_or, get_or_from_slice_get, from_map, first_in, IsBlock, end_of, branch_target, switch_target, Block, Function, Operand, Register, Terminator, operands_at_end, end_reads, written, written_reads, arena_place, arena_place_end, Rule, Statement, at_place, Binding, Match, Substitution, substituted_end, substituted_operand, Rewrite, is_root, moved_place, stands_for, rewritten_blocks, rewritten_function, argument_put, operand_put, result_of_op, result_put, results_put, rewrite_of, IsRewritten, Draft, Place, Stands, blocks_of, function_of, numbers_in, numbers_of, placed, placed_binding, placed_match, IsSettled, ReadsRegister, listed_for, number_there, literal, chosen, choices_of, IsPutAsNoNumber, GivesNoNumber, PutsNoNumber, KeepsChoices, in_turn}
use Rattle.ir_core.specs.declared.operand.Operand.TheVariants as operands
use Rattle.ir_core.specs.declared.operand.Register.TheVariants as registers
use Rattle.ir_core.specs.declared.terminator.Terminator.TheVariants as terminators
use Rattle.places.specs.Orders.{none, place_in}
use Rattle.rule_core.specs.declared.rule.Argument.{Argument}
use Rattle.rule_core.specs.declared.rule.Argument.TheVariants as arguments
use Rattle.rule_core.specs.declared.rule.Op.{Op as RuleOp}
use Rattle.rule_core.specs.declared.rule.Op.TheVariants as rule_ops
use Rattle.rule_core.specs.declared.rule.Register.TheVariants as names

-- ---- substitutions that put no number for what a terminator reads

ends_alike : (to : Substitution) (t : Terminator) → ((r : Register) → Contains (operands_at_end t) (operands.Register r) → literal (to r) ≡ None) → chosen (substituted_end to t) ≡ chosen t
ends_alike to (terminators.Return a) unput = refl
ends_alike to (terminators.Jump b) unput = refl
ends_alike to (terminators.Branch (operands.Register r) b other) unput = ap (option_map (branch_target b other)) (unput r (first_in (operands.Register r) []))
ends_alike to (terminators.Branch (operands.Number n) b other) unput = refl
ends_alike to (terminators.Branch operands.Undef b other) unput = refl
ends_alike to (terminators.Branch operands.Poison b other) unput = refl
ends_alike to (terminators.Switch (operands.Register r) width other cases) unput = ap (option_map (switch_target cases other)) (unput r (first_in (operands.Register r) []))
ends_alike to (terminators.Switch (operands.Number n) width other cases) unput = refl
ends_alike to (terminators.Switch operands.Undef width other cases) unput = refl
ends_alike to (terminators.Switch operands.Poison width other cases) unput = refl
ends_alike to terminators.Unreachable unput = refl

blocks_alike : (w : Rewrite) (to : Substitution) (b : ℕ) (rows : List (List ℕ)) (blocks : List Block)
    → ((k : ℕ) (block : Block) → slice_get blocks k ≡ Some block → chosen (substituted_end (stands_for w) (substituted_end to block.end)) ≡ chosen (substituted_end to block.end))
    → map (λ (x : Block). chosen x.end) (rewritten_blocks w b (blocks_of to rows blocks)) ≡ map (λ (x : Block). chosen x.end) (blocks_of to rows blocks)
blocks_alike w to b [] blocks alike = refl
blocks_alike w to b (row ∷ rows) [] alike = refl
blocks_alike w to b (row ∷ rows) (x ∷ blocks) alike =
    ap (λ (choice : Option ℕ). choice ∷ map (λ (x : Block). chosen x.end) (rewritten_blocks w (suc b) (blocks_of to rows blocks))) (alike 0 x refl)
    ∙ ap (λ (l : List (Option ℕ)). chosen (substituted_end to x.end) ∷ l) (blocks_alike w to (suc b) rows blocks (λ k. alike (suc k)))

-- ---- the substitute for the root

root_alone : (w : Rewrite) (b k : ℕ) (root : Bool) → is_root w b k ≡ root → (root ≡ true → literal w.result ≡ None)
    → literal (if root then w.result else operands.Register (registers.Result b (moved_place w b k))) ≡ None
root_alone w b k true is put = put refl
root_alone w b k false is put = refl

-- what rewrites put for a register is no number, but perhaps for the root's
puts_none : (w : Rewrite) (r : Register) → (r ≡ registers.Result w.block w.place → literal w.result ≡ None) → literal (stands_for w r) ≡ None
puts_none w (registers.Parameter p) put = refl
puts_none w (registers.Result b k) put =
    root_alone w b k (is_root w b k) refl (λ is.
    let parts : ((b == w.block) ≡ true) × ((k == w.place) ≡ true) = and_parts (b == w.block) (k == w.place) is in
    put (ap (λ (x : ℕ). registers.Result x k) (eqb-true b w.block parts.0) ∙ ap (λ (x : ℕ). registers.Result w.block x) (eqb-true k w.place parts.1)))

-- ---- rules that put none

placed_literal : (rows : List (List ℕ)) (r : Register) → literal (placed rows r) ≡ None
placed_literal rows (registers.Parameter p) = refl
placed_literal rows (registers.Result b n) = refl

operand_literal : (rows : List (List ℕ)) (a : Operand) → literal a ≡ None → literal (substituted_operand (placed rows) a) ≡ None
operand_literal rows (operands.Register r) h = placed_literal rows r
operand_literal rows (operands.Number n) h = h
operand_literal rows operands.Undef h = refl
operand_literal rows operands.Poison h = refl

input_literal : (rows : List (List ℕ)) (inputs : List Operand) (i : ℕ) → literal (get_or inputs i operands.Poison) ≡ None → literal (get_or (map (substituted_operand (placed rows)) inputs) i operands.Poison) ≡ None
input_literal rows [] i h = refl
input_literal rows (a ∷ inputs) zero h = operand_literal rows a h
input_literal rows (a ∷ inputs) (suc i) h = input_literal rows inputs i h

register_literal : (found : Option Register) → literal (option_map_or operands.Register found operands.Poison) ≡ None
register_literal (Some r) = refl
register_literal None = refl

last_literal : (gives : List Operand → Statement → Operand) (target : List Statement) → ((results : List Operand) (last : Statement) → slice_get target (length target - 1) ≡ Some last → literal (gives results last) ≡ None)
    → literal (get_or (in_turn gives [] target) (length target - 1) operands.Poison) ≡ None
last_literal gives [] each = refl
last_literal gives (s ∷ target) each =
    let n : ℕ = length (s ∷ target) - 1 in
    let last : Statement = get_or (s ∷ target) n s in
    let at : slice_get (s ∷ target) n ≡ Some last = slice_get-get_or (s ∷ target) n s (omega arith) in
    let results : List Operand = in_turn gives [] (take n (s ∷ target)) in
    ap literal (get_or_from_slice_get (in_turn gives [] (s ∷ target)) n (gives results last) operands.Poison (at_place gives (s ∷ target) n last at)) ∙ each results last at

module _ (rule : Rule) (d : Draft) (m : Binding) where
  abbrev at : Binding
  at = placed_binding d m

  argument_literal : (results : List Operand) (N : ℕ) (a : Argument) → IsPutAsNoNumber m a → literal (argument_put rule at results N a) ≡ None
  argument_literal results N (arguments.Register (names.Input i)) h = input_literal (numbers_of d) m.inputs i h
  argument_literal results N (arguments.Register (names.Source j)) h = register_literal (slice_get at.statements j)
  argument_literal results N (arguments.Register (names.Target j)) h = absurd h
  argument_literal results N (arguments.Literal z) h = absurd h
  argument_literal results N (arguments.Truth b) h = absurd h
  argument_literal results N (arguments.Constant k) h = absurd h
  argument_literal results N (arguments.Undef k) h = refl
  argument_literal results N (arguments.Term n) h = absurd h

  op_literal : (results : List Operand) (op : RuleOp) → GivesNoNumber m op → literal (result_of_op rule at results op) ≡ None
  op_literal results (rule_ops.Binary opcode flags a b) h = refl
  op_literal results (rule_ops.Compare pred samesign a b) h = refl
  op_literal results (rule_ops.Unary op truth a) h = refl
  op_literal results (rule_ops.Select c a b) h = refl
  op_literal results (rule_ops.Convert cast flags a to) h = refl
  op_literal results (rule_ops.Freeze a k) h = refl
  op_literal results (rule_ops.Copy a) h = argument_literal results _ a.value h

  result_literal : PutsNoNumber rule m → literal (get_or (results_put rule at) (length rule.target - 1) operands.Poison) ≡ None
  result_literal none_put = last_literal (result_put rule at) rule.target (λ results last is. op_literal results last.op (none_put last is))

-- ---- roots that no terminator reads

end_operands : (to : Substitution) (t : Terminator) → operands_at_end (substituted_end to t) ≡ map (substituted_operand to) (operands_at_end t)
end_operands to (terminators.Return a) = refl
end_operands to (terminators.Jump b) = refl
end_operands to (terminators.Branch c b other) = refl
end_operands to (terminators.Switch a width other cases) = refl
end_operands to terminators.Unreachable = refl

module _ (d : Draft) (settled : IsSettled d) (b n : ℕ) (stands : Stands d b n) (unread : All (λ (p : Place). ¬ (p.number ≡ none)) (listed_for d.readers (registers.Result b n))) where
  abbrev to : Substitution
  to = placed (numbers_of d)

  abbrev root : Register
  root = registers.Result b (place_in (numbers_in d b) n)

  -- what the terminator of a block reads
  read_at_end : (c : ℕ) (block : Block) (r : Register) → IsBlock d.arena c block → Contains (operands_at_end block.end) (operands.Register r) → ReadsRegister d.arena c (arena_place d.arena (record { block = c; number = none })) r
  read_at_end c block r at has =
      let place : arena_place d.arena (record { block = c; number = none }) ≡ end_of d.arena c = arena_place_end d.arena (record { block = c; number = none }) refl in
      subst (λ (k : ℕ). ReadsRegister d.arena c k r) (sym place)
      (written_reads d.arena c (end_of d.arena c) r (subst (λ (l : List Operand). Contains l (operands.Register r)) (sym (end_reads d.arena c block at)) has))

  result_unread : (c : ℕ) (block : Block) (e m : ℕ) → IsBlock d.arena c block → Contains (operands_at_end block.end) (operands.Register (registers.Result e m))
      → e ≡ b → place_in (numbers_in d e) m ≡ place_in (numbers_in d b) n → ⊥
  result_unread c block e m at has same_block same_place =
      let p : Place = record { block = c; number = none } in
      let reads = read_at_end c block (registers.Result e m) at has in
      let stood : Stands d e m = settled.read_stands e m p (block, at, inr refl) reads in
      let there : slice_get (numbers_in d e) (place_in (numbers_in d e) m) ≡ Some m = number_there (numbers_in d e) m stood in
      let here : slice_get (numbers_in d b) (place_in (numbers_in d b) n) ≡ Some n = number_there (numbers_in d b) n stands in
      let moved : slice_get (numbers_in d b) (place_in (numbers_in d b) n) ≡ Some m =
      subst (λ (k : ℕ). slice_get (numbers_in d b) k ≡ Some m) same_place (subst (λ (x : ℕ). slice_get (numbers_in d x) (place_in (numbers_in d e) m) ≡ Some m) same_block there) in
      let same : m ≡ n = same_Some m n (sym moved ∙ here) in
      let is : registers.Result e m ≡ registers.Result b n = ap (λ (x : ℕ). registers.Result x m) same_block ∙ ap (λ (x : ℕ). registers.Result b x) same in
      let listed : Contains (listed_for d.readers (registers.Result b n)) p =
      settled.whole.readers.complete (registers.Result b n) p (block, at, inr refl) (subst (λ (r : Register). ReadsRegister d.arena c (arena_place d.arena p) r) is reads) in
      All-contains (λ (p : Place). ¬ (p.number ≡ none)) (listed_for d.readers (registers.Result b n)) p unread listed refl

  operand_unread : (c : ℕ) (block : Block) (a : Operand) → IsBlock d.arena c block → Contains (operands_at_end block.end) a → operands.Register root ≡ substituted_operand to a → ⊥
  operand_unread c block (operands.Register (registers.Parameter q)) at has is = absurd cc
  operand_unread c block (operands.Register (registers.Result e m)) at has is =
      let same_block : e ≡ b = cc in
      let same_place : place_in (numbers_in d e) m ≡ place_in (numbers_in d b) n = cc in
      result_unread c block e m at has same_block same_place
  operand_unread c block (operands.Number q) at has is = absurd cc
  operand_unread c block operands.Undef at has is = absurd cc
  operand_unread c block operands.Poison at has is = absurd cc

  -- no terminator of the draft's function reads the root
  root_unread : (c : ℕ) (block : Block) → IsBlock d.arena c block → Contains (operands_at_end (substituted_end to block.end)) (operands.Register root) → ⊥
  root_unread c block at has =
      let (a, among, is) = from_map (substituted_operand to) (operands_at_end block.end) (operands.Register root) (subst (λ (l : List Operand). Contains l (operands.Register root)) (end_operands to block.end) has) in
      operand_unread c block a at among is

-- ---- choices stay

module _ (rules : List Rule) (d : Draft) (m : Match) (read : Rule) (from : read ≡ get_or rules m.rule read) where
  same_rule : (rule : Rule) → slice_get rules m.rule ≡ Some rule → read ≡ rule
  same_rule rule at = from ∙ get_or_from_slice_get rules m.rule rule read at

  alike_by : (rule : Rule) (new : Function) → (is : IsRewritten (function_of d) (placed_match d m).binding rule new)
      → ((c : ℕ) (block : Block) → IsBlock d.arena c block → (r : Register) → Contains (operands_at_end (substituted_end (placed (numbers_of d)) block.end)) (operands.Register r)
      → literal (stands_for (rewrite_of rule (placed_match d m).binding is.root.name) r) ≡ None)
      → choices_of new ≡ choices_of (function_of d)
  alike_by rule new is unput =
      let w : Rewrite = rewrite_of rule (placed_match d m).binding is.root.name in
      ap choices_of is.is
      ∙ blocks_alike w (placed (numbers_of d)) 0 (numbers_of d) d.arena.blocks
      (λ k block at. ends_alike (stands_for w) (substituted_end (placed (numbers_of d)) block.end) (unput k block at))

  pub no_number_keeps : PutsNoNumber read m.binding → KeepsChoices rules d m
  no_number_keeps none_put rule new at is =
      let put : PutsNoNumber rule m.binding = subst (λ (x : Rule). PutsNoNumber x m.binding) (same_rule rule at) none_put in
      alike_by rule new is (λ c block there r has. puts_none (rewrite_of rule (placed_match d m).binding is.root.name) r (λ root. result_literal rule d m.binding put))

  pub unread_keeps : IsSettled d → Stands d m.binding.block m.binding.place
      → All (λ (p : Place). ¬ (p.number ≡ none)) (listed_for d.readers (registers.Result m.binding.block m.binding.place)) → KeepsChoices rules d m
  unread_keeps settled stands unread rule new _ is =
      alike_by rule new is (λ c block there r has. puts_none (rewrite_of rule (placed_match d m).binding is.root.name) r
      (λ root. absurd (root_unread d settled m.binding.block m.binding.place stands unread c block there
      (subst (λ (x : Register). Contains (operands_at_end (substituted_end (placed (numbers_of d)) block.end)) (operands.Register x)) root has))))
