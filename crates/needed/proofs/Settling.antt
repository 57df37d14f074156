-- Kept instructions are moved to the front of their list, in order.
use Rattle.needed.proofs.Common.{◌≡◌, ℕ, zero, suc, ◌+◌, ◌<◌, ◌≤◌, true, false, List, [], ◌∷◌, ◌++◌, length, take, drop, refl, sym, ap, ◌∙◌, arith, get_or, append_assoc, set, length-set, drop-cons, drop-set-lt, get_or-set_same, Inst, KeptMarks, kept_first, kept_insts, moved_inst}

-- the first `count` items are what is kept of the first `place`, and from there on all are as they were
pub record Settled (kept : KeptMarks) (b : ℕ) (all : List Inst) (place count : ℕ) (items : List Inst) : Type 0 where
  pub settled : take count items ++ kept_insts kept b place (drop place items) ≡ kept_insts kept b 0 all
  pub low : count ≤ place
  pub size : length items ≡ length all
  pub rest : drop place items ≡ drop place all

-- item p is replaced by y, and then swapped with item c, which is z
abbrev pub settled_at : {X : Type 0} → List X → ℕ → ℕ → X → X → List X
settled_at items c p y z = set (set (set items p y) c y) p z

front : {X : Type 0} (items : List X) (c p : ℕ) (y z : X) → c ≤ p → p < length items → ((c ≡ p) → z ≡ y) → take (suc c) (settled_at items c p y z) ≡ take c items ++ y ∷ []
front [] c p y z le within same = absurd (omega arith)
front (x ∷ xs) zero zero y z le within same = ap (λ v. v ∷ []) (same refl)
front (x ∷ xs) zero (suc p) y z le within same = refl
front (x ∷ xs) (suc c) zero y z le within same = absurd (omega arith)
front (x ∷ xs) (suc c) (suc p) y z le within same = ap (λ l. x ∷ l) (front xs c p y z (omega arith) (omega arith) (λ e. same (ap suc e)))

back : {X : Type 0} (items : List X) (c p : ℕ) (y z : X) → c ≤ p → drop (suc p) (settled_at items c p y z) ≡ drop (suc p) items
back items c p y z le = drop-set-lt (suc p) (set (set items p y) c y) p z (omega arith) ∙ drop-set-lt (suc p) (set items p y) c y (omega arith) ∙ drop-set-lt (suc p) items p y (omega arith)

count_is : {X : Type 0} (items : List X) (c p : ℕ) (y z : X) → length (settled_at items c p y z) ≡ length items
count_is items c p y z = length-set (set (set items p y) c y) p z ∙ length-set (set items p y) c y ∙ length-set items p y

-- the item that comes next, and those behind it
next_is : {X : Type 0} (place : ℕ) (items : List X) (x : X) → place < length items → x ≡ get_or items place x → drop place items ≡ x ∷ drop (place + 1) items
next_is place items x within here =
    let next : suc place ≡ place + 1 = omega arith in
    drop-cons items place x within ∙ ap (λ v. v ∷ drop (suc place) items) (sym here) ∙ ap (λ (n : ℕ). x ∷ drop n items) next

-- an instruction that was replaced and then swapped to the front
swapped_is : (items was more : List Inst) (c p : ℕ) (y : Inst) → p < length items → was ≡ set items p y
    → more ≡ set (set was c (get_or was p y)) p (get_or was c y) → more ≡ settled_at items c p y (get_or (set items p y) c y)
swapped_is items was more c p y within e swapped =
    swapped ∙ ap (λ (l : List Inst). set (set l c (get_or l p y)) p (get_or l c y)) e ∙ ap (λ (v : Inst). set (set (set items p y) c v) p (get_or (set items p y) c y)) (get_or-set_same items p y y within)

first_of : {X : Type 0} (items : List X) (n : ℕ) → n < length items → X
first_of [] n within = absurd (omega arith)
first_of (x ∷ xs) n within = x

get_or_same : {X : Type 0} (items : List X) (n : ℕ) (x d : X) → n < length items → get_or items n d ≡ get_or items n x
get_or_same [] n x d within = absurd (omega arith)
get_or_same (y ∷ ys) zero x d within = refl
get_or_same (y ∷ ys) (suc n) x d within = get_or_same ys n x d (omega arith)

-- the next instruction is still the old one, and so are those behind it
heads_and_tails : (items all : List Inst) (place : ℕ) (d : Inst) → place < length items → length items ≡ length all → drop place items ≡ drop place all → (get_or items place d ≡ get_or all place d) × (drop (suc place) items ≡ drop (suc place) all)
heads_and_tails items all place d within size rest =
    let same : get_or items place d ∷ drop (suc place) items ≡ get_or all place d ∷ drop (suc place) all = sym (drop-cons items place d within) ∙ rest ∙ drop-cons all place d (omega arith) in
    (cc, cc)

pub next_was : (kept : KeptMarks) (b : ℕ) (all items : List Inst) (place count : ℕ) (inst : Inst) → Settled kept b all place count items → place < length items → inst ≡ get_or items place inst → inst ≡ get_or all place inst
next_was kept b all items place count inst s within here = here ∙ (heads_and_tails items all place inst within s.size s.rest).0

tails_next : (items all : List Inst) (place : ℕ) → place < length items → length items ≡ length all → drop place items ≡ drop place all → drop (place + 1) items ≡ drop (place + 1) all
tails_next items all place within size rest =
    let next : suc place ≡ place + 1 = omega arith in
    ap (λ (n : ℕ). drop n items) (sym next) ∙ (heads_and_tails items all place (first_of items place within) within size rest).1 ∙ ap (λ (n : ℕ). drop n all) next

pub settled_more : (kept : KeptMarks) (b : ℕ) (all items was more : List Inst) (place count : ℕ) (inst moved : Inst) → Settled kept b all place count items → place < length items
    → kept b place ≡ true → inst ≡ get_or items place inst → moved ≡ moved_inst kept inst → was ≡ set items place moved
    → more ≡ set (set was count (get_or was place moved)) place (get_or was count moved) → Settled kept b all (place + 1) (count + 1) more
settled_more kept b all items was more place count inst moved s within keep here moved_is written swapped =
    let low = s.low in
    let z : Inst = get_or (set items place moved) count moved in
    let is : more ≡ settled_at items count place moved z = swapped_is items was more count place moved within written swapped in
    let next : suc place ≡ place + 1 = omega arith in
    let counted : suc count ≡ count + 1 = omega arith in
    let fronts : take (count + 1) more ≡ take count items ++ moved ∷ [] =
    ap (take (count + 1)) is ∙ ap (λ (n : ℕ). take n (settled_at items count place moved z)) (sym counted)
    ∙ front items count place moved z low within (λ e. ap (λ (n : ℕ). get_or (set items place moved) n moved) e ∙ get_or-set_same items place moved moved within) in
    let backs : drop (place + 1) more ≡ drop (place + 1) items =
    ap (drop (place + 1)) is ∙ ap (λ (n : ℕ). drop n (settled_at items count place moved z)) (sym next)
    ∙ back items count place moved z low ∙ ap (λ (n : ℕ). drop n items) next in
    let split : drop place items ≡ inst ∷ drop (place + 1) items = next_is place items inst within here in
    let step : kept_insts kept b place (inst ∷ drop (place + 1) items) ≡ moved ∷ kept_insts kept b (place + 1) (drop (place + 1) items) =
    ap (λ keep. kept_first keep (moved_inst kept inst) (kept_insts kept b (suc place) (drop (place + 1) items))) keep
    ∙ ap (λ (v : Inst). v ∷ kept_insts kept b (suc place) (drop (place + 1) items)) (sym moved_is)
    ∙ ap (λ (n : ℕ). moved ∷ kept_insts kept b n (drop (place + 1) items)) next in
    record {
      settled = ap (λ (l : List Inst). l ++ kept_insts kept b (place + 1) (drop (place + 1) more)) fronts
          ∙ ap (λ (l : List Inst). (take count items ++ moved ∷ []) ++ kept_insts kept b (place + 1) l) backs
          ∙ append_assoc (take count items) (moved ∷ []) (kept_insts kept b (place + 1) (drop (place + 1) items))
          ∙ ap (λ (l : List Inst). take count items ++ l) (sym step)
          ∙ ap (λ (l : List Inst). take count items ++ kept_insts kept b place l) (sym split)
          ∙ s.settled;
      low = omega arith;
      size = ap length is ∙ count_is items count place moved z ∙ s.size;
      rest = backs ∙ tails_next items all place within s.size s.rest;
    }

pub settled_other : (kept : KeptMarks) (b : ℕ) (all items : List Inst) (place count : ℕ) → Settled kept b all place count items → place < length items → kept b place ≡ false → Settled kept b all (place + 1) count items
settled_other kept b all items place count s within gone =
    let low = s.low in
    let inst : Inst = get_or items place (first_of items place within) in
    let next : suc place ≡ place + 1 = omega arith in
    let split : drop place items ≡ inst ∷ drop (place + 1) items = next_is place items inst within (get_or_same items place inst (first_of items place within) within) in
    let step : kept_insts kept b place (inst ∷ drop (place + 1) items) ≡ kept_insts kept b (place + 1) (drop (place + 1) items) =
    ap (λ keep. kept_first keep (moved_inst kept inst) (kept_insts kept b (suc place) (drop (place + 1) items))) gone
    ∙ ap (λ (n : ℕ). kept_insts kept b n (drop (place + 1) items)) next in
    record {
      settled = ap (λ (l : List Inst). take count items ++ l) (sym step) ∙ ap (λ (l : List Inst). take count items ++ kept_insts kept b place l) (sym split) ∙ s.settled;
      low = omega arith;
      size = s.size;
      rest = tails_next items all place within s.size s.rest;
    }
