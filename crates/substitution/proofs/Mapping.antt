-- Lists that are changed item by item.
use Rattle.substitution.proofs.Common.{◌≡◌, ℕ, suc, ◌+◌, ◌<◌, List, [], ◌∷◌, ◌++◌, length, take, drop, map, sym, ap, subst, ◌∙◌, arith, get_or, All, set, length-set, drop-cons, All-get_or, take_more, take_more_set, drop-set-lt, map-append}

-- the items before the index are changed by f, and from there on all are as they were
pub record Mapped {A : Type 0} (f : A → A) (all : List A) (i : ℕ) (items : List A) : Type 0 where
  pub done : take i items ≡ map f (take i all)
  pub rest : drop i items ≡ drop i all
  pub size : length items ≡ length all

-- the next item is still the old one
pub next_unmapped : {A : Type 0} (f : A → A) (all : List A) (i : ℕ) (items : List A) (x : A) → Mapped f all i items → i < length items → x ≡ get_or items i x → x ≡ get_or all i x
next_unmapped f all i items x m within here =
    let size = m.size in
    let same : get_or items i x ∷ drop (suc i) items ≡ get_or all i x ∷ drop (suc i) all = sym (drop-cons items i x within) ∙ m.rest ∙ drop-cons all i x (omega arith) in
    let heads : get_or items i x ≡ get_or all i x = cc in
    here ∙ heads

pub map_more : {A : Type 0} (f : A → A) (all : List A) (i : ℕ) (items : List A) (x y : A) → Mapped f all i items → i < length items → x ≡ get_or items i x → y ≡ f x → Mapped f all (i + 1) (set items i y)
map_more f all i items x y m within here is =
    let size = m.size in
    let next : suc i ≡ i + 1 = omega arith in
    let inside : i < length all = omega arith in
    let same : get_or items i x ∷ drop (suc i) items ≡ get_or all i x ∷ drop (suc i) all = sym (drop-cons items i x within) ∙ m.rest ∙ drop-cons all i x inside in
    let tails : drop (suc i) items ≡ drop (suc i) all = cc in
    let old : x ≡ get_or all i x = next_unmapped f all i items x m within here in
    record {
      done = take_more_set items i y within
          ∙ ap (λ l. l ++ y ∷ []) m.done
          ∙ ap (λ z. map f (take i all) ++ z ∷ []) (is ∙ ap f old)
          ∙ sym (map-append f (take i all) (get_or all i x ∷ []))
          ∙ ap (map f) (sym (take_more all i x inside));
      rest = drop-set-lt (i + 1) items i y (omega arith) ∙ ap (λ n. drop n items) (sym next) ∙ tails ∙ ap (λ n. drop n all) next;
      size = length-set items i y ∙ size;
    }

-- and a predicate that holds of all old items holds of it
pub next_holds : {A : Type 0} (P : A → Type 0) (f : A → A) (all : List A) (i : ℕ) (items : List A) (x : A) → All P all → Mapped f all i items → i < length items → x ≡ get_or items i x → P (get_or items i x)
next_holds P f all i items x holds m within here =
    let size = m.size in
    let old : get_or all i x ≡ get_or items i x = sym (next_unmapped f all i items x m within here) ∙ here in
    subst P old (All-get_or P all i x (omega arith) holds)
