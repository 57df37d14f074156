-- A step doesn't change which blocks are reached.
use Rattle.strategy.proofs.Common.{◌≡◌, ◌↔◌, ℕ, List, refl, sym, subst, Contains, IsBlock, Names, targets_of, IsReached, Block, Function, Terminator, Rule, IsCleaned, KeptMarks, kept_block, kept_function, moved_end, block_at, block_back, names_back, names_on, IsRewritten, rewrite_of, Binding, Draft, function_of, numbers_of, arena_of, IsSettled, reached_back, reached_on, reached_along, is_arranged}
use Rattle.ir_core.specs.declared.terminator.Terminator.TheVariants as terminators

targets_moved : (kept : KeptMarks) (end : Terminator) → targets_of (moved_end kept end) ≡ targets_of end
targets_moved kept (terminators.Return a) = refl
targets_moved kept (terminators.Jump to) = refl
targets_moved kept (terminators.Branch c to other) = refl
targets_moved kept (terminators.Switch a width other cases) = refl
targets_moved kept terminators.Unreachable = refl

kept_on : (f : Function) (kept : KeptMarks) (b c : ℕ) → Names f b c → Names (kept_function kept f) b c
kept_on f kept b c h = (kept_block kept b h.0, block_at kept f b h.0 h.1, subst (λ (l : List ℕ). Contains l c) (sym (targets_moved kept h.0.end)) h.2)

kept_back : (f : Function) (kept : KeptMarks) (b c : ℕ) → Names (kept_function kept f) b c → Names f b c
kept_back f kept b c h =
    let was : (block : Block) × IsBlock f b block × (kept_block kept b block ≡ h.0) = block_back kept f b h.0 h.1 in
    let named : Contains (targets_of (moved_end kept was.0.end)) c = subst (λ (x : Block). Contains (targets_of x.end) c) (sym was.2) h.2 in
    (was.0, was.1, subst (λ (l : List ℕ). Contains l c) (targets_moved kept was.0.end) named)

module _ (f g : Function) (rule : Rule) (binding : Binding) (is : IsRewritten f binding rule g) where
  pub rewritten_on : (b : ℕ) → IsReached f b → IsReached g b
  rewritten_on b = reached_along f g (λ c d h. subst (λ (x : Function). Names x c d) (sym is.is) (names_on (rewrite_of rule binding is.root.name) f c d h)) b

  pub rewritten_back : (b : ℕ) → IsReached g b → IsReached f b
  rewritten_back b = reached_along g f (λ c d h. names_back (rewrite_of rule binding is.root.name) f c d (subst (λ (x : Function). Names x c d) is.is h)) b

module _ (f g : Function) (is : IsCleaned f g) where
  cleaned_on : (b : ℕ) → IsReached f b → IsReached g b
  cleaned_on b = reached_along f g (λ c d h. subst (λ (x : Function). Names x c d) (sym is.2) (kept_on f is.0 c d h)) b

  cleaned_back : (b : ℕ) → IsReached g b → IsReached f b
  cleaned_back b = reached_along g f (λ c d h. kept_back f is.0 c d (subst (λ (x : Function). Names x c d) is.2 h)) b

-- the blocks of the arenas are reached as before
pub reached_as_before : (old new : Draft) (f : Function) (rule : Rule) (binding : Binding) → IsSettled old → IsSettled new
    → IsRewritten (function_of old) binding rule f → IsCleaned f (function_of new) → (b : ℕ) → IsReached (arena_of old) b ↔ IsReached (arena_of new) b
reached_as_before old new f rule binding settled_old settled_new is_rewritten is_cleaned b = (
  λ h. reached_back (arena_of new) (numbers_of new) (is_arranged new settled_new) b
      (cleaned_on f (function_of new) is_cleaned b (rewritten_on (function_of old) f rule binding is_rewritten b (reached_on (arena_of old) (numbers_of old) (is_arranged old settled_old) b h))),
  λ h. reached_back (arena_of old) (numbers_of old) (is_arranged old settled_old) b
      (rewritten_back (function_of old) f rule binding is_rewritten b (cleaned_back f (function_of new) is_cleaned b (reached_on (arena_of new) (numbers_of new) (is_arranged new settled_new) b h))),
)
