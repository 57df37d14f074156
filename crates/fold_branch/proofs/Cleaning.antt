-- A folded function that is cleaned stays folded: cleaning goes along with folding.
use Rattle.fold_branch.proofs.Common.{◌≡◌, ℕ, suc, Bool, true, false, List, [], ◌∷◌, length, map, Option, Contains, refl, sym, ap, subst, ◌∙◌, slice_index_or, length-map, targets_of, IsBlock, Names, IsWalk, Block, Function, Inst, Op, Binary, Compare, Unary, Select, Convert, Freeze, Phi, Operand, Terminator, KeptMarks, moved_operand, moved_op, moved_inst, moved_end, kept_first, kept_insts, kept_block, kept_blocks, kept_function, block_at, chosen, decided_end, decided_block, decided, stays, stays_first, staying, folded_op, folded_inst, folded_as, folded_block, folded_blocks, choices_of, folded_function, AreReached, IsFolded, CleanedFunctionsStayFolded}
use Rattle.ir_core.specs.declared.operand.Operand.TheVariants as operands
use Rattle.ir_core.specs.declared.terminator.Terminator.TheVariants as terminators
use Rattle.needed.proofs.Counting.{block_back}
use Rattle.fold_branch.proofs.Decided.{leads, leads_back}

module _ (kept : KeptMarks) where
  -- ---- terminators

  chosen_moved : (t : Terminator) → chosen (moved_end kept t) ≡ chosen t
  chosen_moved (terminators.Return a) = refl
  chosen_moved (terminators.Jump to) = refl
  chosen_moved (terminators.Branch (operands.Register r) to other) = refl
  chosen_moved (terminators.Branch (operands.Number n) to other) = refl
  chosen_moved (terminators.Branch operands.Undef to other) = refl
  chosen_moved (terminators.Branch operands.Poison to other) = refl
  chosen_moved (terminators.Switch (operands.Register r) width other cases) = refl
  chosen_moved (terminators.Switch (operands.Number n) width other cases) = refl
  chosen_moved (terminators.Switch operands.Undef width other cases) = refl
  chosen_moved (terminators.Switch operands.Poison width other cases) = refl
  chosen_moved terminators.Unreachable = refl

  decided_moved : (t : Terminator) → decided_end (moved_end kept t) ≡ moved_end kept (decided_end t)
  decided_moved (terminators.Return a) = refl
  decided_moved (terminators.Jump to) = refl
  decided_moved (terminators.Branch (operands.Register r) to other) = refl
  decided_moved (terminators.Branch (operands.Number n) to other) = refl
  decided_moved (terminators.Branch operands.Undef to other) = refl
  decided_moved (terminators.Branch operands.Poison to other) = refl
  decided_moved (terminators.Switch (operands.Register r) width other cases) = refl
  decided_moved (terminators.Switch (operands.Number n) width other cases) = refl
  decided_moved (terminators.Switch operands.Undef width other cases) = refl
  decided_moved (terminators.Switch operands.Poison width other cases) = refl
  decided_moved terminators.Unreachable = refl

  targets_moved : (t : Terminator) → targets_of (moved_end kept t) ≡ targets_of t
  targets_moved (terminators.Return a) = refl
  targets_moved (terminators.Jump to) = refl
  targets_moved (terminators.Branch c to other) = refl
  targets_moved (terminators.Switch a width other cases) = refl
  targets_moved terminators.Unreachable = refl

  decided_targets_moved : (t : Terminator) → targets_of (decided_end (moved_end kept t)) ≡ targets_of (decided_end t)
  decided_targets_moved t = ap targets_of (decided_moved t) ∙ targets_moved (decided_end t)

  -- ---- blocks

  length-kept : (b : ℕ) (blocks : List Block) → length (kept_blocks kept b blocks) ≡ length blocks
  length-kept b [] = refl
  length-kept b (x ∷ blocks) = ap suc (length-kept (suc b) blocks)

  choices_kept : (b : ℕ) (blocks : List Block) → map (λ (x : Block). chosen x.end) (kept_blocks kept b blocks) ≡ map (λ (x : Block). chosen x.end) blocks
  choices_kept b [] = refl
  choices_kept b (x ∷ blocks) =
      ap (λ (choice : Option ℕ). choice ∷ map (λ (x : Block). chosen x.end) (kept_blocks kept (suc b) blocks)) (chosen_moved x.end)
      ∙ ap (λ (l : List (Option ℕ)). chosen x.end ∷ l) (choices_kept (suc b) blocks)

  abbrev moved_entries : List (Operand × ℕ) → List (Operand × ℕ)
  moved_entries entries = map (λ (e : Operand × ℕ). (moved_operand kept e.0, e.1)) entries

  module _ (choices : List (Option ℕ)) (reached : List Bool) where
    staying_moved : (b : ℕ) (before : List ℕ) (entries : List (Operand × ℕ))
        → staying choices reached b before (moved_entries entries) ≡ moved_entries (staying choices reached b before entries)
    staying_moved b before [] = refl
    staying_moved b before (e ∷ entries) = by (stays choices reached b before e.1) (staying_moved b (e.1 ∷ before) entries) (staying_moved b before entries)
      where
        by : (stay : Bool) → staying choices reached b (e.1 ∷ before) (moved_entries entries) ≡ moved_entries (staying choices reached b (e.1 ∷ before) entries) → staying choices reached b before (moved_entries entries) ≡ moved_entries (staying choices reached b before entries)
            → stays_first stay (moved_operand kept e.0, e.1) (staying choices reached b (e.1 ∷ before) (moved_entries entries)) (staying choices reached b before (moved_entries entries))
            ≡ moved_entries (stays_first stay e (staying choices reached b (e.1 ∷ before) entries) (staying choices reached b before entries))
        by true with_it without_it = ap (λ (l : List (Operand × ℕ)). (moved_operand kept e.0, e.1) ∷ l) with_it
        by false with_it without_it = without_it

    op_moved : (b : ℕ) (op : Op) → folded_op choices reached b (moved_op kept op) ≡ moved_op kept (folded_op choices reached b op)
    op_moved b (Phi entries) = ap (λ (l : List (Operand × ℕ)). Phi l) (staying_moved b [] entries)
    op_moved b (Binary op flags x y) = refl
    op_moved b (Compare pred samesign compared x y) = refl
    op_moved b (Unary op truth x) = refl
    op_moved b (Select c x y) = refl
    op_moved b (Convert cast flags from x) = refl
    op_moved b (Freeze x) = refl

    insts_moved : (b k : ℕ) (insts : List Inst) → map (folded_inst choices reached b) (kept_insts kept b k insts) ≡ kept_insts kept b k (map (folded_inst choices reached b) insts)
    insts_moved b k [] = refl
    insts_moved b k (i ∷ insts) = by (kept b k) (insts_moved b (suc k) insts)
      where
        own : folded_inst choices reached b (moved_inst kept i) ≡ moved_inst kept (folded_inst choices reached b i)
        own = ap (λ (op : Op). record { name = i.name; width = i.width; op = op }) (op_moved b i.op)

        by : (keep : Bool) → map (folded_inst choices reached b) (kept_insts kept b (suc k) insts) ≡ kept_insts kept b (suc k) (map (folded_inst choices reached b) insts)
            → map (folded_inst choices reached b) (kept_first keep (moved_inst kept i) (kept_insts kept b (suc k) insts))
            ≡ kept_first keep (moved_inst kept (folded_inst choices reached b i)) (kept_insts kept b (suc k) (map (folded_inst choices reached b) insts))
        by true rest =
            ap (λ (x : Inst). x ∷ map (folded_inst choices reached b) (kept_insts kept b (suc k) insts)) own
            ∙ ap (λ (l : List Inst). moved_inst kept (folded_inst choices reached b i) ∷ l) rest
        by false rest = rest

    block_moved : (b : ℕ) (block : Block) (mark : Bool) → folded_as choices reached b mark (kept_block kept b block) ≡ kept_block kept b (folded_as choices reached b mark block)
    block_moved b block true =
        let insts : List Inst → Block = λ l. record { name = block.name; insts = l; end = decided_end (moved_end kept block.end) } in
        let end : Terminator → Block = λ t. record { name = block.name; insts = kept_insts kept b 0 (map (folded_inst choices reached b) block.insts); end = t } in
        ap insts (insts_moved b 0 block.insts) ∙ ap end (decided_moved block.end)
    block_moved b block false = refl

    blocks_moved : (b : ℕ) (blocks : List Block) → folded_blocks choices reached b (kept_blocks kept b blocks) ≡ kept_blocks kept b (folded_blocks choices reached b blocks)
    blocks_moved b [] = refl
    blocks_moved b (x ∷ blocks) =
        ap (λ (y : Block). y ∷ folded_blocks choices reached (suc b) (kept_blocks kept (suc b) blocks)) (block_moved b x (slice_index_or reached b false))
        ∙ ap (λ (l : List Block). kept_block kept b (folded_block choices reached b x) ∷ l) (blocks_moved (suc b) blocks)

  -- ---- what is reached

  module _ (f : Function) where
    names_kept : (b c : ℕ) → Names (decided f) b c → Names (decided (kept_function kept f)) b c
    names_kept b c names =
        let was : (block : Block) × IsBlock f b block × Contains (targets_of (decided_end block.end)) c = leads_back f b c names in
        leads (kept_function kept f) b c (kept_block kept b was.0) (block_at kept f b was.0 was.1) (subst (λ (l : List ℕ). Contains l c) (sym (decided_targets_moved was.0.end)) was.2)

    names_were : (b c : ℕ) → Names (decided (kept_function kept f)) b c → Names (decided f) b c
    names_were b c names =
        let now : (block : Block) × IsBlock (kept_function kept f) b block × Contains (targets_of (decided_end block.end)) c = leads_back (kept_function kept f) b c names in
        let was : (block : Block) × IsBlock f b block × (kept_block kept b block ≡ now.0) = block_back kept f b now.0 now.1 in
        leads f b c was.0 was.1
        (subst (λ (l : List ℕ). Contains l c) (decided_targets_moved was.0.end) (subst (λ (x : Block). Contains (targets_of (decided_end x.end)) c) (sym was.2) now.2))

    walk_kept : (walk : List ℕ) → IsWalk (decided f) walk → IsWalk (decided (kept_function kept f)) walk
    walk_kept [] h = h
    walk_kept (b ∷ []) h = h
    walk_kept (c ∷ b ∷ before) h = (names_kept b c h.0, walk_kept (b ∷ before) h.1)

    walk_was : (walk : List ℕ) → IsWalk (decided (kept_function kept f)) walk → IsWalk (decided f) walk
    walk_was [] h = h
    walk_was (b ∷ []) h = h
    walk_was (c ∷ b ∷ before) h = (names_were b c h.0, walk_was (b ∷ before) h.1)

    reached_kept : (reached : List Bool) → AreReached (decided f) reached → AreReached (decided (kept_function kept f)) reached
    reached_kept reached r = record {
      count = r.count ∙ length-map f.blocks decided_block ∙ sym (length-kept 0 f.blocks) ∙ sym (length-map (kept_blocks kept 0 f.blocks) decided_block);
      exact = λ b. (
        λ mark. let walk = (r.exact b).0 mark in (walk.0, walk_kept (b ∷ walk.0) walk.1),
        λ walk. (r.exact b).1 (walk.0, walk_was (b ∷ walk.0) walk.1),
      );
    }

    stays_folded : (reached : List Bool) → f ≡ folded_function reached f → kept_function kept f ≡ folded_function reached (kept_function kept f)
    stays_folded reached is =
        let with_blocks : List Block → Function = λ blocks. record { name = f.name; before = f.before; width = f.width; parameters = f.parameters; after = f.after; blocks = blocks } in
        ap (λ (g : Function). with_blocks (kept_blocks kept 0 g.blocks)) is
        ∙ ap with_blocks (sym (blocks_moved (choices_of f) reached 0 f.blocks))
        ∙ ap (λ (choices : List (Option ℕ)). with_blocks (folded_blocks choices reached 0 (kept_blocks kept 0 f.blocks))) (sym (choices_kept 0 f.blocks))

pub cleaned_stays_folded : CleanedFunctionsStayFolded
cleaned_stays_folded f g folded cleaned =
    let kept : KeptMarks = cleaned.0 in
    subst (λ (x : Function). IsFolded x x) (sym cleaned.2) (folded.0, reached_kept kept f folded.0 folded.1, stays_folded kept f folded.0 folded.2)
