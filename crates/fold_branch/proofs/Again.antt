-- A folded function that is folded again is what it was.
use Rattle.fold_branch.proofs.Common.{◌≡◌, ℕ, zero, suc, Bool, true, false, inl, inr, List, [], ◌∷◌, length, map, get_or, Option, None, Contains, refl, sym, ap, subst, ◌∙◌, ext_get_or, and_from, cases_Bool, length-map, targets_of, IsBlock, Names, IsWalk, IsReached, Block, Function, Inst, Op, Binary, Compare, Unary, Select, Convert, Freeze, Phi, Operand, Terminator, first_in, later_in, chosen, jump_or, decided_end, decided_block, decided, is_among, stays_by, stays, stays_first, staying, folded_op, folded_inst, folded_as, folded_block, folded_blocks, choices_of, folded_function, AreReached, IsFolded, FoldedTwiceIsFoldedOnce, IsMarked}
use Rattle.fold_branch.proofs.Decided.{decided_again, leads, leads_back, walk_before}
use Rattle.fold_branch.proofs.FoldedBlocks.{length-folded_blocks, block_on, walk_decided}
use Rattle.fold_branch.proofs.Staying.{staying_reached}

end_again : (t : Terminator) → decided_end (decided_end t) ≡ decided_end t
end_again t = ap (λ choice. jump_or choice (decided_end t)) (decided_again t)

-- ---- blocks, where nothing is left to choose

module _ (choices : List (Option ℕ)) (reached : List Bool) where
  nothing_chosen : (b : ℕ) (block : Block) (mark : Bool) → chosen (folded_as choices reached b mark block).end ≡ None
  nothing_chosen b block true = decided_again block.end
  nothing_chosen b block false = refl

  pub none_chosen : (b : ℕ) (blocks : List Block) (c : ℕ) → get_or (map (λ (x : Block). chosen x.end) (folded_blocks choices reached b blocks)) c None ≡ None
  none_chosen b [] c = refl
  none_chosen b (x ∷ blocks) zero = nothing_chosen b x (get_or reached b false)
  none_chosen b (x ∷ blocks) (suc c) = none_chosen (suc b) blocks c

  module _ (left : List (Option ℕ)) (none : (c : ℕ) → get_or left c None ≡ None) where
    pub all_stay : (b : ℕ) (before : List ℕ) (entries : List (Operand × ℕ)) → ((x : Operand × ℕ) → Contains entries x → IsMarked reached x.1) → staying left reached b before entries ≡ entries
    all_stay b before [] marked = refl
    all_stay b before (e ∷ entries) marked =
        let own : stays left reached b before e.1 ≡ true = and_from (get_or reached e.1 false) (stays_by b (is_among e.1 before) (get_or left e.1 None)) (marked e (first_in e entries)) (ap (stays_by b (is_among e.1 before)) (none e.1)) in
        ap (λ t. stays_first t e (staying left reached b (e.1 ∷ before) entries) (staying left reached b before entries)) own
        ∙ ap (λ (l : List (Operand × ℕ)). e ∷ l) (all_stay b (e.1 ∷ before) entries (λ x h. marked x (later_in e entries x h)))

    op_again : (b : ℕ) (op : Op) → folded_op left reached b (folded_op choices reached b op) ≡ folded_op choices reached b op
    op_again b (Phi entries) = ap (λ (l : List (Operand × ℕ)). Phi l) (all_stay b [] (staying choices reached b [] entries) (λ x h. (staying_reached choices reached b [] entries x h).0))
    op_again b (Binary op flags x y) = refl
    op_again b (Compare pred samesign compared x y) = refl
    op_again b (Unary op truth x) = refl
    op_again b (Select c x y) = refl
    op_again b (Convert cast flags from x) = refl
    op_again b (Freeze x) = refl

    insts_again : (b : ℕ) (insts : List Inst) → map (folded_inst left reached b) (map (folded_inst choices reached b) insts) ≡ map (folded_inst choices reached b) insts
    insts_again b [] = refl
    insts_again b (i ∷ insts) =
        let own : folded_inst left reached b (folded_inst choices reached b i) ≡ folded_inst choices reached b i = ap (λ (op : Op). record { name = i.name; width = i.width; op = op }) (op_again b i.op) in
        ap (λ (x : Inst). x ∷ map (folded_inst left reached b) (map (folded_inst choices reached b) insts)) own ∙ ap (λ (l : List Inst). folded_inst choices reached b i ∷ l) (insts_again b insts)

    block_again : (b : ℕ) (block : Block) (mark : Bool) → folded_as left reached b mark (folded_as choices reached b mark block) ≡ folded_as choices reached b mark block
    block_again b block true =
        let insts : List Inst → Block = λ l. record { name = block.name; insts = l; end = decided_end (decided_end block.end) } in
        let end : Terminator → Block = λ t. record { name = block.name; insts = map (folded_inst choices reached b) block.insts; end = t } in
        ap insts (insts_again b block.insts) ∙ ap end (end_again block.end)
    block_again b block false = refl

    blocks_again : (b : ℕ) (blocks : List Block) → folded_blocks left reached b (folded_blocks choices reached b blocks) ≡ folded_blocks choices reached b blocks
    blocks_again b [] = refl
    blocks_again b (x ∷ blocks) =
        ap (λ (y : Block). y ∷ folded_blocks left reached (suc b) (folded_blocks choices reached (suc b) blocks)) (block_again b x (get_or reached b false))
        ∙ ap (λ (l : List Block). folded_block choices reached b x ∷ l) (blocks_again (suc b) blocks)

-- ---- the blocks that are reached stay so

module _ (f : Function) (reached : List Bool) (r : AreReached (decided f) reached) where
  abbrev g : Function
  g = folded_function reached f

  leads_again : (b c : ℕ) → IsMarked reached b → Names (decided f) b c → Names (decided g) b c
  leads_again b c mark names =
      let was : (block : Block) × IsBlock f b block × Contains (targets_of (decided_end block.end)) c = leads_back f b c names in
      leads g b c (folded_as (choices_of f) reached b true was.0) (block_on f reached b was.0 was.1 mark) (subst (λ (t : Terminator). Contains (targets_of t) c) (sym (end_again was.0.end)) was.2)

  walk_again : (walk : List ℕ) → IsWalk (decided f) walk → IsWalk (decided g) walk
  walk_again [] h = h
  walk_again (b ∷ []) h = h
  walk_again (c ∷ b ∷ before) h = (leads_again b c ((r.exact b).1 (before, h.1)) h.0, walk_again (b ∷ before) h.1)

  -- and so do those that are not
  pub reached_again : AreReached (decided g) reached
  reached_again = record {
    count = r.count ∙ length-map f.blocks decided_block ∙ sym (length-folded_blocks (choices_of f) reached 0 f.blocks) ∙ sym (length-map g.blocks decided_block);
    exact = λ b. (
      λ mark. let walk : IsReached (decided f) b = (r.exact b).0 mark in (walk.0, walk_again (b ∷ walk.0) walk.1),
      λ walk. (r.exact b).1 (walk.0, walk_decided f reached (b ∷ walk.0) (walk_before g (b ∷ walk.0) walk.1)),
    );
  }

  module _ (now : List Bool) (s : AreReached (decided g) now) where
    same_mark : (b : ℕ) → get_or now b false ≡ get_or reached b false
    same_mark b = elim (cases_Bool (get_or reached b false)) [
      | inl marked ↦ let walk : IsReached (decided f) b = (r.exact b).0 marked in (s.exact b).1 (walk.0, walk_again (b ∷ walk.0) walk.1) ∙ sym marked
      | inr unmarked ↦ by (get_or now b false) refl unmarked
    ]
      where
        by : (t : Bool) → get_or now b false ≡ t → get_or reached b false ≡ false → get_or now b false ≡ get_or reached b false
        by false is unmarked = is ∙ sym unmarked
        by true is unmarked =
            let walk : IsReached (decided g) b = (s.exact b).0 is in
            let was : IsMarked reached b = (r.exact b).1 (walk.0, walk_decided f reached (b ∷ walk.0) (walk_before g (b ∷ walk.0) walk.1)) in
            absurd (let clash : true ≡ false = sym was ∙ unmarked in cc)

    same_marks : now ≡ reached
    same_marks =
        let count : length now ≡ length reached = s.count ∙ length-map g.blocks decided_block ∙ length-folded_blocks (choices_of f) reached 0 f.blocks ∙ sym (length-map f.blocks decided_block) ∙ sym r.count in
        ext_get_or false now reached count (λ b lt. same_mark b)

    pub stays_folded : folded_function now g ≡ g
    stays_folded =
        ap (λ marks. folded_function marks g) same_marks
        ∙ ap (λ (blocks : List Block). record { name = f.name; before = f.before; width = f.width; parameters = f.parameters; after = f.after; blocks = blocks })
        (blocks_again (choices_of f) reached (choices_of g) (none_chosen (choices_of f) reached 0 f.blocks) 0 f.blocks)

pub folded_again : FoldedTwiceIsFoldedOnce
folded_again f g h p q =
    let now : AreReached (decided (folded_function p.0 f)) q.0 = subst (λ (x : Function). AreReached (decided x) q.0) p.2 q.1 in
    q.2 ∙ ap (folded_function q.0) p.2 ∙ stays_folded f p.0 p.1 q.0 now ∙ sym p.2

-- and it is one of itself
pub folded_is_folded : (f g : Function) → IsFolded f g → IsFolded g g
folded_is_folded f g p =
    let again : AreReached (decided (folded_function p.0 f)) p.0 = reached_again f p.0 p.1 in
    subst (λ (x : Function). IsFolded x x) (sym p.2) (p.0, again, sym (stays_folded f p.0 p.1 p.0 again))
