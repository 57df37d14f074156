-- Instructions are inserted for an instruction of a draft, which is removed.
use Rattle.draft_steps.proofs.Common.{◌≡◌, ◌↔◌, ℕ, List, ◌++◌, length, map, sym, ap, subst, ◌∙◌, Contains, filter_map, range_with_len, end_of, Function, Register, Rewrite, changed_at, replaced, with_inst_removed, without, operands_at, register_of, numbers_of, IsPlaceIn, IsReader, IsPutFor, rows_with, with_put, Draft, Place, Rewritten}
use Rattle.ir_core.specs.declared.operand.Register.TheVariants as registers

module _ (old mid new : Draft) (w : Rewrite) (n : ℕ) (told : Rewritten) where
  -- Instructions are inserted before instruction n of block b, and that is removed.
  pub record IsPutInstead (b : ℕ) : Type 0 where
    pub arena_then : mid.arena ≡ with_put old.arena b w.put
    pub numbers_then : numbers_of mid ≡ rows_with (numbers_of old) b n (range_with_len (end_of old.arena b) (length w.put))
    pub fell_then : mid.dead_candidates.items ≡ old.dead_candidates.items ++ map (λ number. registers.Result b number) (range_with_len (end_of old.arena b) (length w.put))
    pub arena : new.arena ≡ with_inst_removed (replaced mid.arena (registers.Result b n) w.result) b n
    pub numbers : numbers_of new ≡ changed_at b (without n) (numbers_of mid)
    pub fell : new.dead_candidates.items ≡ mid.dead_candidates.items ++ filter_map register_of (operands_at (replaced mid.arena (registers.Result b n) w.result) (record { block = b; number = n }))
    pub put : told.put.items ≡ map (λ number. record { block = b; number = number }) (range_with_len (end_of old.arena b) (length w.put))
    pub places : (p : Place) → Contains told.replaced.items p ↔ (IsPlaceIn mid.arena p × IsReader mid.arena (registers.Result b n) p)
    pub result : told.result ≡ w.result

  in_its_block : IsPutInstead w.block → IsPutFor old new w n told
  in_its_block is = record {
    arena = is.arena ∙ ap (λ (f : Function). with_inst_removed (replaced f (registers.Result w.block n) w.result) w.block n) is.arena_then;
    numbers = is.numbers ∙ ap (changed_at w.block (without n)) is.numbers_then;
    put = is.put;
    places = subst (λ (f : Function). (p : Place) → Contains told.replaced.items p ↔ (IsPlaceIn f p × IsReader f (registers.Result w.block n) p)) is.arena_then is.places;
    result = is.result;
    fell =
        subst (λ (f : Function). new.dead_candidates.items ≡ mid.dead_candidates.items ++ filter_map register_of (operands_at (replaced f (registers.Result w.block n) w.result) (record { block = w.block; number = n }))) is.arena_then is.fell
        ∙ ap (λ (l : List Register). l ++ filter_map register_of (operands_at (replaced (with_put old.arena w.block w.put) (registers.Result w.block n) w.result) (record { block = w.block; number = n }))) is.fell_then;
  }

  pub put_instead : (b : ℕ) → w.block ≡ b → IsPutInstead b → IsPutFor old new w n told
  put_instead b same is = in_its_block (subst IsPutInstead (sym same) is)
