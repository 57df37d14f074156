-- Numbers that stand one after another in a list: one more at either end.
use Rattle.places.proofs.Common.{◌≡◌, ℕ, zero, suc, ◌+◌, ◌*◌, ◌/◌, ◌^◌, ◌<◌, ◌≤◌, bit_or, div_below, or_lt, pow_pos, inl, inr, List, ◌∷◌, length, get_or, sym, ap, subst, ◌∙◌, arith, Contains, cases_lt, get_or_past, Node, none, no_node, place_in, node_of, IsListing, IsRun, IsSpacing, Run}
use Rattle.places.proofs.Linking.{linked-after, linked-head, linked-place, linked-pred, linked-within}
use Rattle.places.proofs.Members.{AtPlace, at_place, contains_at}

pred-place : (nodes : List Node) (d first : ℕ) (ns : List ℕ) (p k : ℕ) → IsListing nodes d first ns → k < length ns → p ≡ get_or (none ∷ ns) k none → p < length nodes → place_in ns p + 1 ≡ k
pred-place nodes d first ns p zero h lt is inside = let few = h.few in let no : p ≡ none = is in absurd (omega arith)
pred-place nodes d first ns p (suc k) h lt is inside =
    let at : p ≡ get_or ns k none = is in
    let place : place_in ns p ≡ k = ap (place_in ns) at ∙ linked-place nodes d none first ns k h.linked (omega arith) in
    omega arith

pub place-before : (nodes : List Node) (d first : ℕ) (ns : List ℕ) (n : ℕ) → IsListing nodes d first ns → Contains ns n → (node_of nodes n).before < length nodes → place_in ns (node_of nodes n).before + 1 ≡ place_in ns n
place-before nodes d first ns n h has inside =
    let there = at_place ns n has in
    pred-place nodes d first ns (node_of nodes n).before (place_in ns n) h there.within
    (ap (λ m. (node_of nodes m).before) (sym there.is) ∙ linked-pred nodes d none first ns (place_in ns n) h.linked there.within) inside

pub place-after : (nodes : List Node) (d first : ℕ) (ns : List ℕ) (n : ℕ) → IsListing nodes d first ns → Contains ns n → (node_of nodes n).after < length nodes → place_in ns (node_of nodes n).after ≡ place_in ns n + 1
place-after nodes d first ns n h has inside =
    let there = at_place ns n has in
    let next : (node_of nodes n).after ≡ get_or ns (suc (place_in ns n)) none =
    ap (λ m. (node_of nodes m).after) (sym there.is) ∙ linked-after nodes d none first ns (place_in ns n) h.linked there.within in
    elim (cases_lt (suc (place_in ns n)) (length ns)) [
      | inl lt ↦
          let place : place_in ns (node_of nodes n).after ≡ suc (place_in ns n) = ap (place_in ns) next ∙ linked-place nodes d none first ns (suc (place_in ns n)) h.linked lt in
          omega arith
      | inr past ↦
          let few = h.few in
          let no : (node_of nodes n).after ≡ none = next ∙ get_or_past ns (suc (place_in ns n)) none past in
          absurd (omega arith)
    ]

-- a run has no more numbers than the list
pub run-few : (ns : List ℕ) (run : Run) → IsRun ns run → place_in ns run.first + run.count ≤ length ns
run-few ns run h = let there = at_place ns run.last h.last in let within = there.within in let many = h.many in omega arith

-- the number before a run
pub step-back : (nodes read : List Node) (first : ℕ) (ns : List ℕ) (run : Run) (n : ℕ) → IsListing nodes 0 first ns → IsRun ns run → read ≡ nodes → n ≡ (node_of read run.first).before → n < length read → place_in ns n + 1 ≡ place_in ns run.first
step-back nodes read first ns run n h is same before inside =
    let n_is : n ≡ (node_of nodes run.first).before = before ∙ ap (λ l. (node_of l run.first).before) same in
    ap (λ m. place_in ns m + 1) n_is ∙ place-before nodes 0 first ns run.first h is.first (subst (λ m. m < length nodes) n_is (subst (λ l. n < length l) same inside))

-- the number behind a run
pub step-on : (nodes read : List Node) (first : ℕ) (ns : List ℕ) (run : Run) (n : ℕ) → IsListing nodes 0 first ns → IsRun ns run → read ≡ nodes → n ≡ (node_of read run.last).after → n < length read → place_in ns n ≡ place_in ns run.last + 1
step-on nodes read first ns run n h is same after inside =
    let n_is : n ≡ (node_of nodes run.last).after = after ∙ ap (λ l. (node_of l run.last).after) same in
    ap (place_in ns) n_is ∙ place-after nodes 0 first ns run.last h is.last (subst (λ m. m < length nodes) n_is (subst (λ l. n < length l) same inside))

-- a run whose numbers are all that have labels in a range can be spaced there
pub run-spacing : (nodes : List Node) (first : ℕ) (ns : List ℕ) (run : Run) (low high gap : ℕ) → IsListing nodes 0 first ns → IsRun ns run → place_in ns run.first ≤ place_in ns run.last → run.count < gap
    → (node_of nodes (node_of nodes run.first).before).label ≤ low → ((node_of nodes run.last).after < length nodes → high < (node_of nodes (node_of nodes run.last).after).label)
    → low + run.count * gap ≤ high → high ≤ 18446744073709551615 → IsSpacing nodes ns (record { first = run.first; count = run.count; low = low; gap = gap })
run-spacing nodes first ns run low high gap h is order sparse below above inside fits = record {
  has = is.first;
  some = omega (arith, many);
  within = run-few ns run is;
  apart = omega (arith, many);
  low = below;
  high = λ lt.
      (let later : suc (place_in ns run.last) < length ns = omega (arith, many) in
      let next : (node_of nodes run.last).after ≡ get_or ns (suc (place_in ns run.last)) none =
      ap (λ m. (node_of nodes m).after) (sym there.is) ∙ linked-after nodes 0 none first ns (place_in ns run.last) h.linked there.within in
      let place : suc (place_in ns run.last) ≡ place_in ns run.first + run.count = omega (arith, many) in
      let after : (node_of nodes run.last).after ≡ get_or ns (place_in ns run.first + run.count) none = next ∙ ap (λ k. get_or ns k none) place in
      let up = above (subst (λ m. m < length nodes) (sym next) (linked-within nodes 0 none first ns (suc (place_in ns run.last)) h.linked later)) in
      subst (λ m. low + run.count * gap < (node_of nodes m).label) after (omega arith));
  fits = omega arith;
}
  where
    many : place_in ns run.first + run.count ≡ place_in ns run.last + 1
    many = is.many

    there : AtPlace ns run.last
    there = at_place ns run.last is.last

-- the first number of a list is at place 0
pub first-place : (nodes : List Node) (first : ℕ) (ns : List ℕ) → IsListing nodes 0 first ns → 0 < length nodes → place_in ns first ≡ 0
first-place nodes first ns h some =
    let many = h.many in
    ap (place_in ns) (linked-head nodes 0 none first ns h.linked) ∙ linked-place nodes 0 none first ns 0 h.linked (omega arith)

-- all numbers of a list can be spaced over all labels
pub all-spacing : (nodes : List Node) (first : ℕ) (ns : List ℕ) (count gap : ℕ) → IsListing nodes 0 first ns → 0 < length nodes → count ≡ length nodes → 1 < gap → (count + 1) * gap ≤ 18446744073709551615
    → IsSpacing nodes ns (record { first = first; count = count; low = 0; gap = gap })
all-spacing nodes first ns count gap h some all wide fits =
    let many = h.many in
    let place = first-place nodes first ns h some in
    let head = linked-head nodes 0 none first ns h.linked in
    let before : (node_of nodes first).before ≡ none = ap (λ m. (node_of nodes m).before) head ∙ linked-pred nodes 0 none first ns 0 h.linked (omega arith) in
    let few = h.few in
    let unset : (node_of nodes (node_of nodes first).before).label ≡ 0 = ap (λ m. (node_of nodes m).label) before ∙ ap (λ (x : Node). x.label) (get_or_past nodes none no_node (omega arith)) in
    record {
      has = subst (Contains ns) (sym head) (contains_at ns 0 (omega arith));
      some = omega arith;
      within = omega arith;
      apart = wide;
      low = omega arith;
      high = λ lt. absurd (omega arith);
      fits = omega arith;
    }

-- the highest label of a range is one
pub highest-fits : (label k : ℕ) → label < 18446744073709551616 → bit_or label (18446744073709551615 / 2 ^ k) ≤ 18446744073709551615
highest-fits label k within =
    let some = pow_pos k in
    let width : 18446744073709551615 / 2 ^ k < 18446744073709551616 = div_below 18446744073709551615 (2 ^ k) 18446744073709551616 some (omega arith) in
    let high : bit_or label (18446744073709551615 / 2 ^ k) < 18446744073709551616 = or_lt 64 label (18446744073709551615 / 2 ^ k) within width in
    omega arith
