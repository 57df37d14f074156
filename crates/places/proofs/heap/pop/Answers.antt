use Rattle.places.proofs.Common.{◌∷◌, length, drop, All, sym, ap, subst, arith, IsPermutation, take_at, All-tail, All-permutation, IsPermutation-cons, IsPermutation-trans, IsPermutation-swap_remove, IsNumbered, IsSinking, nowhere, rank_at}
use Rattle.places.proofs.Ranks.{first-comes, sinking-removed}
use Rattle.places.proofs.heap.pop.Goals as goal

pub sink-requires-clause-numbered : goal.sink-requires-clause-numbered
sink-requires-clause-numbered c =
    let heap = c.args.heap.now.items in
    let first = c.swap_remove-first.result in
    let rest = c.swap_remove-first.new.self.items in
    let moved : IsPermutation heap (first ∷ rest) = subst (λ l. IsPermutation heap (first ∷ l)) (sym c.swap_remove-first.ensures.items) (IsPermutation-swap_remove heap 0 first (omega arith) c.swap_remove-first.ensures.value) in
    subst (All (IsNumbered c.args.orders.now)) (sym c.as_mut_slice.ensures.value)
    (All-tail (IsNumbered c.args.orders.now) first rest (All-permutation (IsNumbered c.args.orders.now) heap (first ∷ rest) moved c.requires.numbered))

pub sink-requires-clause-sinking : goal.sink-requires-clause-sinking
sink-requires-clause-sinking c =
    let heap = c.args.heap.now.items in
    let rest = c.swap_remove-first.new.self.items in
    subst (λ l. IsSinking (rank_at c.args.orders.now l) (length l) 0) (sym c.as_mut_slice.ensures.value)
    (sinking-removed c.args.orders.now heap rest c.requires (let lengths = ap length c.as_mut_slice.ensures.value in omega arith)
    (λ k other lt. c.swap_remove-first.ensures.by_index.1 k nowhere other (omega arith)))

pub returns-clause-first : goal.returns-clause-first
returns-clause-first c = first-comes c.args.orders.now c.args.heap.now.items c.swap_remove-first.result c.requires (omega arith) c.swap_remove-first.ensures.value

pub returns-clause-popped : goal.returns-clause-popped
returns-clause-popped c =
    let heap = c.args.heap.now.items in
    let first = c.swap_remove-first.result in
    let rest = c.swap_remove-first.new.self.items in
    let out : IsPermutation heap (first ∷ rest) = subst (λ l. IsPermutation heap (first ∷ l)) (sym c.swap_remove-first.ensures.items) (IsPermutation-swap_remove heap 0 first (omega arith) c.swap_remove-first.ensures.value) in
    let moved : IsPermutation rest c.sink.new.heap = subst (λ l. IsPermutation l c.sink.new.heap) c.as_mut_slice.ensures.value c.sink.ensures.same in
    let written = take_at c.sink.new.heap (drop (length c.sink.new.heap) rest) c.swap_remove-first.new.self.len (omega arith) in
    subst (λ l. IsPermutation heap (first ∷ l)) (sym written) (IsPermutation-trans heap (first ∷ rest) (first ∷ c.sink.new.heap) out (IsPermutation-cons first rest c.sink.new.heap moved))
