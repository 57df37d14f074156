use Rattle.places.proofs.Common.{◌≡◌, ◌-◌, [], ◌∷◌, ◌++◌, length, drop, All, sym, ap, subst, ◌∙◌, arith, IsPermutation, take_at, length_push, All-push, IsPermutation-sym, IsPermutation-trans, IsPermutation-to_front, IsNumbered, IsRising, rank_at}
use Rattle.places.proofs.Ranks.{rising-pushed}
use Rattle.places.proofs.heap.push.Goals as goal

pub rise-requires-clause-numbered : goal.rise-requires-clause-numbered
rise-requires-clause-numbered c =
    let heap = c.args.heap.now.items in
    let before : c.as_mut_slice.result.now ≡ heap ++ c.args.place ∷ [] = c.as_mut_slice.ensures.value ∙ c.push_reserved.ensures.items in
    subst (All (IsNumbered c.args.orders.now)) (sym before) (All-push (IsNumbered c.args.orders.now) heap c.args.place c.requires.heap.numbered c.requires.place)

pub rise-requires-clause-rising : goal.rise-requires-clause-rising
rise-requires-clause-rising c =
    let heap = c.args.heap.now.items in
    let orders = c.args.orders.now in
    let before : c.as_mut_slice.result.now ≡ heap ++ c.args.place ∷ [] = c.as_mut_slice.ensures.value ∙ c.push_reserved.ensures.items in
    let lengths = ap length before ∙ length_push heap c.args.place in
    let last : length heap ≡ c.len-last.result - 1 = omega arith in
    subst (IsRising (rank_at orders c.as_mut_slice.result.now) (length c.as_mut_slice.result.now)) last
    (subst (λ l. IsRising (rank_at orders l) (length l) (length heap)) (sym before) (rising-pushed orders heap c.args.place c.requires.heap))

pub returns-clause-pushed : goal.returns-clause-pushed
returns-clause-pushed c =
    let heap = c.args.heap.now.items in
    let before : c.as_mut_slice.result.now ≡ heap ++ c.args.place ∷ [] = c.as_mut_slice.ensures.value ∙ c.push_reserved.ensures.items in
    let moved : IsPermutation (heap ++ c.args.place ∷ []) c.rise.new.heap = subst (λ l. IsPermutation l c.rise.new.heap) before c.rise.ensures.same in
    let written = take_at c.rise.new.heap (drop (length c.rise.new.heap) c.push_reserved.new.self.items) c.push_reserved.new.self.len (omega arith) in
    subst (IsPermutation (c.args.place ∷ heap)) (sym written)
    (IsPermutation-trans (c.args.place ∷ heap) (heap ++ c.args.place ∷ []) c.rise.new.heap (IsPermutation-sym (heap ++ c.args.place ∷ []) (c.args.place ∷ heap) (IsPermutation-to_front heap c.args.place)) moved)
