use Rattle.draft_steps.proofs.Common.{◌≡◌, ◌+◌, ◌≤◌, ◌++◌, List, length, map, refl, sym, subst, range_with_len, HasInst, IsKnown, end_of, Function, Inst, numbers_of, orders_of, KeepsOrders, none, MayPut, MayRead, rows_with, with_put, stands_there}
use Rattle.ir_core.specs.declared.operand.Register.TheVariants as registers
use Rattle.draft_steps.proofs.PutAll.{with_has, with_known}
use Rattle.draft_steps.proofs.PutInstead.{put_instead}
use Rattle.draft_steps.proofs.rewriting.put_for.Goals as goal

pub put_all-requires-clause-room : goal.put_all-requires-clause-room
put_all-requires-clause-room c = λ block is. subst (λ (l : List Inst). length block.insts + length l ≤ none) (sym c.into_vec.ensures) (c.requires.room block is)

pub put_all-requires-clause-readable : goal.put_all-requires-clause-readable
put_all-requires-clause-readable c = subst (MayPut c.args.draft.now.arena c.args.root.block) (sym c.into_vec.ensures) c.requires.readable

pub replace_root-requires-clause-root : goal.replace_root-requires-clause-root
replace_root-requires-clause-root c =
    let old = c.args.draft.now in
    let root = c.args.root in
    subst (λ (f : Function). HasInst f c.args.root.block c.args.root.number) (sym c.in_ok-places.ensures.arena)
    ((with_has old.arena root.block c.into_vec.result.items).insts root.block root.number (stands_there old c.requires.whole root.block root.number c.requires.root))

pub replace_root-requires-clause-operand : goal.replace_root-requires-clause-operand
replace_root-requires-clause-operand c =
    let old = c.args.draft.now in
    let root = c.args.root in
    let (block, is_block, within) = stands_there old c.requires.whole root.block root.number c.requires.root in
    subst (λ (f : Function). IsKnown f c.args.rewrite.result) (sym c.in_ok-places.ensures.arena)
    (with_known old.arena root.block block is_block c.into_vec.result.items c.args.rewrite.result
    (subst (λ (l : List Inst). MayRead c.args.draft.now.arena c.args.root.block (length l) c.args.rewrite.result) (sym c.into_vec.ensures) c.requires.result))

pub returns-clause-orders : goal.returns-clause-orders
returns-clause-orders c = subst (KeepsOrders (orders_of c.args.draft.now)) (sym c.in_ok-replaced.ensures.orders) c.in_ok-places.ensures.orders

pub returns-clause-put : goal.returns-clause-put
returns-clause-put c =
    let old = c.args.draft.now in
    let mid = c.put_all.new.draft in
    let new = c.replace_root.new.draft in
    let e = c.in_ok-places.ensures in
    let r = c.in_ok-replaced.ensures in
    let b = c.args.root.block in
    let n = c.args.root.number in
    put_instead old mid new c.args.rewrite n (record { put = c.in_ok-places.places; replaced = c.in_ok-replaced.replaced; result = c.args.rewrite.result }) b c.requires.block (record {
      arena_then = subst (λ (l : List Inst). mid.arena ≡ with_put old.arena b l) c.into_vec.ensures e.arena;
      numbers_then = subst (λ (l : List Inst). numbers_of mid ≡ rows_with (numbers_of old) b n (range_with_len (end_of old.arena b) (length l))) c.into_vec.ensures e.numbers;
      fell_then = subst (λ (l : List Inst). mid.dead_candidates.items ≡ old.dead_candidates.items ++ map (λ number. registers.Result b number) (range_with_len (end_of old.arena b) (length l))) c.into_vec.ensures e.fell;
      arena = r.arena;
      numbers = r.numbers;
      fell = r.fell;
      put = subst (λ (l : List Inst). c.in_ok-places.places.items ≡ map (λ number. record { block = b; number = number }) (range_with_len (end_of old.arena b) (length l))) c.into_vec.ensures e.put;
      places = r.places;
      result = refl;
    })
