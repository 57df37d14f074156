use Rattle.draft_bits.proofs.Common.{◌≡◌, ℕ, ◌≤◌, List, length, refl, subst, on_ok_weaker, arena_of, end_of, results_at, AreGrown, DraftBits, Facts, IsLonger, IsReplaced}
use Rattle.draft_bits.proofs.Entries.{grown, room}
use Rattle.draft_bits.proofs.updating.grow.Goals as goal

-- one row is replaced by a longer one
abbrev GetsLonger : ℕ → ℕ → List Facts → List Facts → Type 0
GetsLonger b count old new = (was : Facts) × (now : Facts) × IsReplaced b was now old new × IsLonger count was now

grown_so : (old new : DraftBits) (b count : ℕ) → new.none ≡ old.none → GetsLonger b count old.blocks.items new.blocks.items → AreGrown old new
grown_so old new b count none (was, now, is, longer) = grown old new b was now is none count longer

room_so : (old new : DraftBits) (b count end : ℕ) → count ≡ end → new.none ≡ old.none → GetsLonger b count old.blocks.items new.blocks.items → end ≤ length (results_at new b)
room_so old new b count end is_end none (was, now, is, longer) = subst (λ (k : ℕ). k ≤ length (results_at new b)) is_end (room old new b was now is none count longer)

pub returns-clause-grown : goal.returns-clause-grown
returns-clause-grown c =
    let new : DraftBits = record { blocks = c.lengthen_at.new.blocks; none = c.args.bits.now.none; waiting = c.args.bits.now.waiting } in
    on_ok_weaker c.lengthen_at.result (grown_so c.args.bits.now new c.args.block c.count_in-count.result refl) c.lengthen_at.ensures

pub returns-clause-room : goal.returns-clause-room
returns-clause-room c =
    let new : DraftBits = record { blocks = c.lengthen_at.new.blocks; none = c.args.bits.now.none; waiting = c.args.bits.now.waiting } in
    on_ok_weaker c.lengthen_at.result (room_so c.args.bits.now new c.args.block c.count_in-count.result (end_of (arena_of c.args.draft.now) c.args.block) c.count_in-count.ensures refl) c.lengthen_at.ensures
