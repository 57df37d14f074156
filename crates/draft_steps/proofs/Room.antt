-- How many numbers a step uses up: at most 32 in each block.
use Rattle.draft_steps.proofs.Common.{◌≡◌, ℕ, suc, ◌+◌, ◌<◌, ◌≤◌, inl, inr, List, [], ◌++◌, length, get_or, Some, sym, ap, subst, ◌∙◌, arith, slice_get, length-map, get_or_from_slice_get, slice_get-get_or, slice_get-map, slice_get_within, IsBlock, Block, Function, Inst, substituted_block, substituted_inst, Rewrite, gone, inst_changed, instead, replaced, HasRoomFor, put_for, with_put, IsWhole, Draft, changed_cases, changed_length}
use Rattle.std.proofs.lemmas.List.{length-append}
use Rattle.ir_core.specs.declared.operand.Register.TheVariants as registers
use Rattle.needed.proofs.Counting.{mapped}

-- the block was there, with fewer instructions by at most so many
abbrev pub WasIn : Function → ℕ → Block → ℕ → Type 0
WasIn f c x more = (block : Block) × IsBlock f c block × (length x.insts ≤ length block.insts + more)

pub put_longer : (f : Function) (b : ℕ) (put : List Inst) (c : ℕ) (x : Block) → IsBlock (with_put f b put) c x → WasIn f c x (length put)
put_longer f b put c x at = elim (changed_cases b (λ (block : Block). record { name = block.name; insts = block.insts ++ put; end = block.end }) f.blocks c x at) [
  | inl (same, (block, there, is)) ↦
      let size : length x.insts ≡ length block.insts + length put = ap (λ (z : Block). length z.insts) is ∙ length-append block.insts put in
      (block, subst (λ (k : ℕ). slice_get f.blocks k ≡ Some block) (sym same) there, omega arith)
  | inr (apart, there) ↦ (x, there, omega arith)
]

module _ (f : Function) (w : Rewrite) (n : ℕ) where
  abbrev longer_one : Function
  longer_one = with_put f w.block w.put

  abbrev instead_of : Function
  instead_of = replaced longer_one (registers.Result w.block n) w.result

  replaced_same : (c : ℕ) (x : Block) → IsBlock instead_of c x → WasIn f c x (length w.put)
  replaced_same c x at =
      let change : Block → Block = substituted_block (instead (registers.Result w.block n) w.result) in
      let (y, there, is) = mapped change (slice_get longer_one.blocks c) x (sym (slice_get-map change longer_one.blocks c) ∙ at) in
      let size : length x.insts ≡ length y.insts = ap (λ (z : Block). length z.insts) (sym is) ∙ length-map y.insts (substituted_inst (instead (registers.Result w.block n) w.result)) in
      let (block, was, longer) = put_longer f w.block w.put c y there in
      (block, was, omega (arith, size, longer))

  pub put_for_longer : (c : ℕ) (x : Block) → IsBlock (put_for f w n) c x → WasIn f c x (length w.put)
  put_for_longer c x at = elim (changed_cases w.block (inst_changed n gone) instead_of.blocks c x at) [
    | inl (same, (y, there, is)) ↦
        let size : length x.insts ≡ length y.insts = ap (λ (z : Block). length z.insts) is ∙ changed_length n gone y.insts in
        let (block, was, longer) = replaced_same c y (subst (λ (k : ℕ). slice_get instead_of.blocks k ≡ Some y) (sym same) there) in
        (block, was, omega (arith, size, longer))
    | inr (apart, there) ↦ replaced_same c x there
  ]

-- after a rewrite there is room for one less
pub room_after_put : (steps : ℕ) (old new : Draft) (w : Rewrite) (n : ℕ) → new.arena ≡ put_for old.arena w n → length w.put ≤ 32 → HasRoomFor (suc steps) old → HasRoomFor steps new
room_after_put steps old new w n arena most room k x lt =
    let now : IsBlock new.arena k (get_or new.arena.blocks k x) = slice_get-get_or new.arena.blocks k x lt in
    let (block, was, longer) = put_for_longer old.arena w n k (get_or new.arena.blocks k x) (subst (λ (f : Function). IsBlock f k (get_or new.arena.blocks k x)) arena now) in
    let here = room k block (slice_get_within old.arena.blocks k block was) in
    let same = ap (λ (z : Block). length z.insts) (get_or_from_slice_get old.arena.blocks k block block was) in
    omega (arith, longer, most, here, same)

-- where the orders are the same there is the same room
pub room_stays : (steps : ℕ) (old new : Draft) → IsWhole old → IsWhole new → new.orders.items ≡ old.orders.items → HasRoomFor steps old → HasRoomFor steps new
room_stays steps old new was is same room k x lt =
    let now : IsBlock new.arena k (get_or new.arena.blocks k x) = slice_get-get_or new.arena.blocks k x lt in
    let blocks = ap length same in
    let within : k < length old.arena.blocks = omega (arith, lt, blocks, is.ordered, was.ordered) in
    let then : IsBlock old.arena k (get_or old.arena.blocks k x) = slice_get-get_or old.arena.blocks k x within in
    let row = ap (λ (l : List (List ℕ)). length (get_or l k [])) same in
    let here = room k x within in
    omega (arith, row, (is.rows k (get_or new.arena.blocks k x) now).ordered, (was.rows k (get_or old.arena.blocks k x) then).ordered, here)
