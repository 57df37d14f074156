-- Searches in drafts that differ in use lists alone.
use Rattle.draft_steps.proofs.Common.{◌≡◌, ℕ, ◌<◌, Bool, List, length, All, Contains, refl, sym, ap, subst, ◌∙◌, get_or_append_left, slice_get-get_or, HasInst, Function, nowhere, place_at, IsReader, IsFurther, IsSameDraft, IsWalk, ReadersCame, ReadsHere, IsWhole, Draft, Place, Walk}
use Rattle.ir_core.specs.declared.operand.Register.TheVariants as registers
use Rattle.needed.proofs.Counting.{contains_at}
use Rattle.draft_steps.proofs.SameDrafts.{stays, stood}

pub same-itself : (d : Draft) → IsWhole d → IsSameDraft d d
same-itself d whole = record { whole = whole; arena = refl; orders = refl; stand = refl; dead_candidates = refl }

pub same-twice : (a b c : Draft) → IsSameDraft a b → IsSameDraft b c → IsSameDraft a c
same-twice a b c one two = record {
  whole = two.whole;
  arena = two.arena ∙ one.arena;
  orders = two.orders ∙ one.orders;
  stand = two.stand ∙ one.stand;
  dead_candidates = two.dead_candidates ∙ one.dead_candidates;
}

pub walk-by : (old new : Draft) (w : Walk) → new.arena ≡ old.arena → IsWalk old w → IsWalk new w
walk-by old new w arena walk = record {
  blocks = walk.blocks ∙ ap (λ (f : Function). length f.blocks) (sym arena);
  insts = subst (λ (f : Function). All (λ (q : Place). HasInst f q.block q.number) w.found.items) (sym arena) walk.insts;
  marked = walk.marked;
}

pub readers-by : (across : Bool) (old new : Draft) (same : IsSameDraft old new) (w : Walk) (p : Place) → ReadersCame across new w p → ReadersCame across old w p
readers-by across old new same w p came b n scope stands reads =
    let q : Place = record { block = b; number = n } in
    came b n scope (stays old new same b n stands) (subst (λ (f : Function). IsReader f (registers.Result p.block p.number) q) (sym same.arena) reads)

pub reads-by : (across : Bool) (old new : Draft) (same : IsSameDraft old new) (p : Place) (b n : ℕ) → ReadsHere across new p b n → ReadsHere across old p b n
reads-by across old new same p b n (scope, stands, reads) =
    (scope, stood old new same b n stands, subst (λ (f : Function). IsReader f (registers.Result p.block p.number) (record { block = b; number = n })) same.arena reads)

pub place-further : (u v : Walk) (k : ℕ) → IsFurther u v → k < length u.found.items → place_at v.found.items k ≡ place_at u.found.items k
place-further u v k further within = ap (λ (l : List Place). place_at l k) further.is ∙ get_or_append_left u.found.items further.more nowhere k within

pub place-among : (places : List Place) (k : ℕ) → k < length places → Contains places (place_at places k)
place-among places k within = contains_at places (place_at places k) k (slice_get-get_or places k nowhere within)
