-- How large functions become: a step adds fewer than 32 instructions to a block.
use Rattle.strategy.proofs.Common.{◌≡◌, inl, inr, ℕ, suc, ◌+◌, ◌-◌, ◌*◌, ◌<◌, ◌≤◌, Bool, true, false, List, [], ◌∷◌, length, get_or, Option, None, refl, sym, ap, subst, arith, All, All-cons, All-head, All-tail, length-map, ◌^◌, cases_eq, cases_lt, length-append, All-contains, slice_get-get_or, IsBlock, Name, Block, Function, Inst, contains_at, Rule, Statement, Binding, Rewrite, moved_place, rewritten_blocks, rewritten_function, IsMoved, is_moved, length-block, KeptMarks, kept_first, kept_insts, moved_inst, kept_block, kept_blocks, kept_function, IsCleaned, IsFolded, IsTidied, choices_of, folded_as, folded_block, folded_blocks, folded_inst, length-folded_blocks, IsRewritten, class_width, insts_of_op, insts_put, rewrite_of, IsCountable}
use Rattle.rule_core.specs.declared.rule.Op.{Op as RuleOp}
use Rattle.rule_core.specs.declared.rule.Op.TheVariants as rule_ops
use Rattle.substitution.proofs.Placing.{block_back as block_of_rewritten}
use Rattle.needed.proofs.Counting.{block_back as block_of_kept}

pub few_at : (P : Block → Type 0) (f : Function) (b : ℕ) (block : Block) → All P f.blocks → IsBlock f b block → P block
few_at P f b block all at = All-contains P f.blocks block all (contains_at f.blocks b block at)

few_from : (P : Block → Type 0) (f : Function) → ((b : ℕ) (block : Block) → IsBlock f b block → P block) → All P f.blocks
few_from P f each k d lt = each k (get_or f.blocks k d) (slice_get-get_or f.blocks k d lt)

-- sizes that leave room for some steps leave room for fewer
pub countable_less : (more steps : ℕ) (f : Function) → steps ≤ more → IsCountable more f → IsCountable steps f
countable_less more steps f within c = record { blocks = c.blocks; insts = λ k d lt. let few = c.insts k d lt in omega (arith, few) }

pub few_insts : (steps : ℕ) (f : Function) → IsCountable steps f → All (λ b. length b.insts < 2 ^ 32) f.blocks
few_insts steps f c k d lt = let few = c.insts k d lt in omega (arith, few)

-- ---- dead code elimination

fewer_kept : (kept : KeptMarks) (b k : ℕ) (insts : List Inst) → length (kept_insts kept b k insts) ≤ length insts
fewer_kept kept b k [] = omega arith
fewer_kept kept b k (i ∷ insts) = by (kept b k) (fewer_kept kept b (suc k) insts)
  where
    by : (keep : Bool) → length (kept_insts kept b (suc k) insts) ≤ length insts → length (kept_first keep (moved_inst kept i) (kept_insts kept b (suc k) insts)) ≤ suc (length insts)
    by true rest = omega (arith, rest)
    by false rest = omega (arith, rest)

as_many_kept : (kept : KeptMarks) (b : ℕ) (blocks : List Block) → length (kept_blocks kept b blocks) ≡ length blocks
as_many_kept kept b [] = refl
as_many_kept kept b (x ∷ blocks) = ap suc (as_many_kept kept (suc b) blocks)

kept_countable : (steps : ℕ) (f : Function) (kept : KeptMarks) → IsCountable steps f → IsCountable steps (kept_function kept f)
kept_countable steps f kept c = record {
  blocks = (let few = c.blocks in omega (arith, few, as_many_kept kept 0 f.blocks));
  insts = few_from (λ (b : Block). length b.insts + 32 * steps < 2 ^ 32) (kept_function kept f) (λ b new at.
      let was : (block : Block) × IsBlock f b block × (kept_block kept b block ≡ new) = block_of_kept kept f b new at in
      let few : length was.0.insts + 32 * steps < 2 ^ 32 = few_at (λ (b : Block). length b.insts + 32 * steps < 2 ^ 32) f b was.0 c.insts was.1 in
      let less : length (kept_insts kept b 0 was.0.insts) ≤ length was.0.insts = fewer_kept kept b 0 was.0.insts in
      subst (λ (x : Block). length x.insts + 32 * steps < 2 ^ 32) was.2 (omega (arith, few, less)));
}

pub cleaned_countable : (steps : ℕ) (f g : Function) → IsCountable steps f → IsCleaned f g → IsCountable steps g
cleaned_countable steps f g c cleaned = subst (IsCountable steps) (sym cleaned.2) (kept_countable steps f cleaned.0 c)

-- ---- folding

as_many_folded : (choices : List (Option ℕ)) (reached : List Bool) (b : ℕ) (block : Block) (mark : Bool) → length (folded_as choices reached b mark block).insts ≤ length block.insts
as_many_folded choices reached b block true = (let size = length-map block.insts (folded_inst choices reached b) in omega (arith, size))
as_many_folded choices reached b block false = omega arith

few_folded : (P : Block → Type 0) (choices : List (Option ℕ)) (reached : List Bool) → ((b : ℕ) (block : Block) (mark : Bool) → P block → P (folded_as choices reached b mark block))
    → (b : ℕ) (blocks : List Block) → All P blocks → All P (folded_blocks choices reached b blocks)
few_folded P choices reached each b [] all = all
few_folded P choices reached each b (x ∷ blocks) all =
    All-cons P (folded_block choices reached b x) (folded_blocks choices reached (suc b) blocks) (each b x (get_or reached b false) (All-head P x blocks all))
    (few_folded P choices reached each (suc b) blocks (All-tail P x blocks all))

pub folded_countable : (steps : ℕ) (f g : Function) → IsCountable steps f → IsFolded f g → IsCountable steps g
folded_countable steps f g c folded = subst (IsCountable steps) (sym folded.2) (record {
  blocks = (let few = c.blocks in omega (arith, few, length-folded_blocks (choices_of f) folded.0 0 f.blocks));
  insts = few_folded (λ (b : Block). length b.insts + 32 * steps < 2 ^ 32) (choices_of f) folded.0
      (λ b block mark few. let fewer = as_many_folded (choices_of f) folded.0 b block mark in omega (arith, few, fewer)) 0 f.blocks c.insts;
})

pub tidied_countable : (fold : Bool) (steps : ℕ) (f g : Function) → IsCountable steps f → IsTidied fold f g → IsCountable steps g
tidied_countable true steps f g c tidied = cleaned_countable steps tidied.0 g (folded_countable steps f tidied.0 c tidied.1) tidied.2
tidied_countable false steps f g c tidied = cleaned_countable steps f g c tidied

-- ---- rewriting

module _ (rule : Rule) (binding : Binding) where
  one_put : (name : Name) (N : ℕ) (op : RuleOp) → length (insts_of_op rule binding name N op) ≤ 1
  one_put name N (rule_ops.Binary opcode flags a b) = omega arith
  one_put name N (rule_ops.Compare pred samesign a b) = omega arith
  one_put name N (rule_ops.Unary op truth a) = omega arith
  one_put name N (rule_ops.Select c a b) = omega arith
  one_put name N (rule_ops.Convert cast flags a to) = omega arith
  one_put name N (rule_ops.Freeze a k) = omega arith
  one_put name N (rule_ops.Copy a) = omega arith

  few_put : (name : Name) (statements : List Statement) → length (insts_put rule binding name statements) ≤ length statements
  few_put name [] = omega arith
  few_put name (s ∷ []) = one_put name (class_width rule binding s.class) s.op
  few_put name (s ∷ t ∷ statements) =
      let one = one_put None (class_width rule binding s.class) s.op in
      let rest = few_put name (t ∷ statements) in
      omega (arith, one, rest, length-append (insts_of_op rule binding None (class_width rule binding s.class) s.op) (insts_put rule binding name (t ∷ statements)))

pub as_many_rewritten : (w : Rewrite) (b : ℕ) (blocks : List Block) → length (rewritten_blocks w b blocks) ≡ length blocks
as_many_rewritten w b [] = refl
as_many_rewritten w b (x ∷ blocks) = ap suc (as_many_rewritten w (suc b) blocks)

moved_within : (w : Rewrite) (b k m : ℕ) → IsMoved w b k m → m ≤ k + length w.put
moved_within w b k m moved = elim (cases_eq b w.block) [
  | inr ne ↦ (let e = moved.elsewhere ne in omega (arith, e))
  | inl same ↦ elim (cases_lt w.place k) [
    | inl lt ↦ (let e = moved.behind same lt in omega (arith, e, lt))
    | inr le ↦ (let e = moved.unmoved same le in omega (arith, e))
  ]
]

pub rewritten_countable : (steps : ℕ) (f g : Function) (rule : Rule) (binding : Binding) → length rule.target ≤ 32 → IsCountable (suc steps) f → IsRewritten f binding rule g → IsCountable steps g
rewritten_countable steps f g rule binding few_statements c r = subst (IsCountable steps) (sym r.is) (record {
  blocks = (let few = c.blocks in omega (arith, few, as_many_rewritten w 0 f.blocks));
  insts = few_from (λ (b : Block). length b.insts + 32 * steps < 2 ^ 32) (rewritten_function w f) (λ b new at.
      let was = block_of_rewritten w f b new at in
      let few : length was.0.insts + 32 * suc steps < 2 ^ 32 = few_at (λ (b : Block). length b.insts + 32 * suc steps < 2 ^ 32) f b was.0 c.insts was.1 in
      let put : length w.put ≤ length rule.target = few_put rule binding r.root.name rule.target in
      let within = moved_within w b (length was.0.insts) (moved_place w b (length was.0.insts)) (is_moved w b (length was.0.insts)) in
      subst (λ (x : Block). length x.insts + 32 * steps < 2 ^ 32) was.2 (omega (arith, few, put, within, few_statements, length-block w b was.0)));
})
  where
    w : Rewrite
    w = rewrite_of rule binding r.root.name
