-- Functions whose branches and switches on numbers are jumps.
use Rattle.fold_branch.proofs.Common.{◌≡◌, ℕ, ◌<◌, List, [], ◌∷◌, length, get_or, Option, None, Some, All, Contains, inl, inr, refl, sym, ap, subst, ◌∙◌, option_map, arith, slice_get, Contains-get_or, slice_get-map, same_Some, targets_of, IsBlock, Names, branch_target, switch_target, IsWalk, IsReached, Block, Function, Terminator, cases_in, not_in_empty, branch_among, switch_among_all, mapped, literal, chosen, jump_or, decided_end, decided_block, decided}
use Rattle.ir_core.specs.declared.terminator.Terminator.TheVariants as terminators

-- ---- terminators

-- what a jump to one of these blocks names is one of these
one_target : (to c : ℕ) (all : List ℕ) → Contains all to → Contains (to ∷ []) c → Contains all c
one_target to c all has h =
    elim (cases_in to [] c h) [
      | inl is ↦ subst (Contains all) is has
      | inr none ↦ absurd (not_in_empty c none)
    ]

choice_target : (choice : Option ℕ) (go : ℕ → ℕ) (t : Terminator) (c : ℕ) → ((n : ℕ) → Contains (targets_of t) (go n)) → Contains (targets_of (jump_or (option_map go choice) t)) c → Contains (targets_of t) c
choice_target None go t c among h = h
choice_target (Some n) go t c among h = one_target (go n) c (targets_of t) (among n) h

-- a decided terminator leads to blocks that the terminator names
pub decided_targets : (t : Terminator) (c : ℕ) → Contains (targets_of (decided_end t)) c → Contains (targets_of t) c
decided_targets (terminators.Return a) c h = h
decided_targets (terminators.Jump to) c h = h
decided_targets (terminators.Branch a to other) c h = choice_target (literal a) (branch_target to other) (terminators.Branch a to other) c (branch_among to other) h
decided_targets (terminators.Switch a width other cases) c h = choice_target (literal a) (switch_target cases other) (terminators.Switch a width other cases) c (switch_among_all cases other) h
decided_targets terminators.Unreachable c h = h

settled_choice : (choice : Option ℕ) (t : Terminator) → chosen t ≡ choice → chosen (jump_or choice t) ≡ None
settled_choice None t is = is
settled_choice (Some to) t is = refl

-- nothing is left to decide of a decided terminator
pub decided_again : (t : Terminator) → chosen (decided_end t) ≡ None
decided_again t = settled_choice (chosen t) t refl

-- ---- blocks

pub decided_at : (f : Function) (b : ℕ) (block : Block) → IsBlock f b block → IsBlock (decided f) b (decided_block block)
decided_at f b block at = slice_get-map decided_block f.blocks b ∙ ap (option_map decided_block) at

pub decided_back : (f : Function) (b : ℕ) (new : Block) → IsBlock (decided f) b new → (block : Block) × IsBlock f b block × (decided_block block ≡ new)
decided_back f b new at = mapped decided_block (slice_get f.blocks b) new (sym (slice_get-map decided_block f.blocks b) ∙ at)

-- where a block leads once it is decided
pub leads : (f : Function) (b c : ℕ) (block : Block) → IsBlock f b block → Contains (targets_of (decided_end block.end)) c → Names (decided f) b c
leads f b c block at has = (decided_block block, decided_at f b block at, has)

pub leads_back : (f : Function) (b c : ℕ) → Names (decided f) b c → (block : Block) × IsBlock f b block × Contains (targets_of (decided_end block.end)) c
leads_back f b c h =
    let was : (block : Block) × IsBlock f b block × (decided_block block ≡ h.0) = decided_back f b h.0 h.1 in
    (was.0, was.1, subst (λ (x : Block). Contains (targets_of x.end) c) (sym was.2) h.2)

pub leads_here : (f : Function) (b c : ℕ) (block : Block) → IsBlock f b block → Names (decided f) b c → Contains (targets_of (decided_end block.end)) c
leads_here f b c block at h =
    let was : (x : Block) × IsBlock f b x × Contains (targets_of (decided_end x.end)) c = leads_back f b c h in
    subst (λ (x : Block). Contains (targets_of (decided_end x.end)) c) (same_Some was.0 block (sym was.1 ∙ at)) was.2

pub named_before : (f : Function) (b c : ℕ) → Names (decided f) b c → Names f b c
named_before f b c h =
    let was : (x : Block) × IsBlock f b x × Contains (targets_of (decided_end x.end)) c = leads_back f b c h in
    (was.0, was.1, decided_targets was.0.end c was.2)

-- ---- walks

pub walk_before : (f : Function) (walk : List ℕ) → IsWalk (decided f) walk → IsWalk f walk
walk_before f [] h = h
walk_before f (b ∷ []) h = h
walk_before f (c ∷ b ∷ before) h = (named_before f b c h.0, walk_before f (b ∷ before) h.1)

-- each block of a walk is reached
pub on_walk : (f : Function) (walk : List ℕ) (d : ℕ) → IsWalk f walk → Contains walk d → IsReached f d
on_walk f [] d walk has = absurd walk
on_walk f (b ∷ []) d walk has =
    elim (cases_in b [] d has) [
      | inl is ↦ subst (IsReached f) is ([], walk)
      | inr none ↦ absurd (not_in_empty d none)
    ]
on_walk f (c ∷ b ∷ before) d walk has =
    elim (cases_in c (b ∷ before) d has) [
      | inl is ↦ subst (IsReached f) is (b ∷ before, walk)
      | inr earlier ↦ on_walk f (b ∷ before) d walk.1 earlier
    ]

-- a decided terminator leads to blocks of the function
pub targets_within : (f : Function) (b : ℕ) (block : Block) (n : ℕ) → ((b c : ℕ) → Names f b c → c < length f.blocks) → IsBlock f b block → n ≡ length f.blocks → All (λ c. c < n) (targets_of (decided_end block.end))
targets_within f b block n within at same k d lt =
    let targets : List ℕ = targets_of (decided_end block.end) in
    let has : Contains targets (get_or targets k d) = Contains-get_or targets k d lt in
    let less : get_or targets k d < length f.blocks = within b (get_or targets k d) (block, at, decided_targets block.end (get_or targets k d) has) in
    omega (arith, less, same)
