-- Sets of predecessors, one for each block.
use Rattle.ir_reader.proofs.Common.{◌≡◌, ◌⊎◌, ◌↔◌, inl, inr, ℕ, zero, suc, ◌+◌, ◌<◌, nat_eq, true, false, cond, List, [], ◌∷◌, ◌++◌, map, take, drop, length, get_or, set, Some, IsTrue, refl, ap, sym, subst, ◌∙◌, arith, slice_get, Contains, All, Result, Ok, Err, OnOk, Number, false≢true, eqb_tells, take_more, length-set, Contains-append_left, Contains-append_right, Contains-append_cases, slice_get_within, IndexSet, contains, Updates, Function, Block, targets_of, Names, Holds, AddsTo, AddsOf, ArePredecessors}
use Rattle.ir_reader.proofs.Places.{same_at, at_push, append_left, append_right}

set_other : {X : Type 0} (xs : List X) (t c : ℕ) (x : X) → (c ≡ t → ⊥) → slice_get (set xs t x) c ≡ slice_get xs c
set_other [] t c x differ = refl
set_other (y ∷ xs) zero zero x differ = absurd (differ refl)
set_other (y ∷ xs) zero (suc c) x differ = refl
set_other (y ∷ xs) (suc t) zero x differ = refl
set_other (y ∷ xs) (suc t) (suc c) x differ = set_other xs t c x (λ e. differ (ap suc e))

set_same : {X : Type 0} (xs : List X) (t : ℕ) (x : X) → t < length xs → slice_get (set xs t x) t ≡ Some x
set_same [] t x lt = absurd (omega arith)
set_same (y ∷ xs) zero x lt = refl
set_same (y ∷ xs) (suc t) x lt = set_same xs t x (omega arith)

one : (x y : ℕ) → Contains (x ∷ []) y ↔ (y ≡ x)
one x y = (λ (k, within, is). by k within is, λ e. (0, omega arith, sym e))
  where
    by : (k : ℕ) → k < 1 → get_or (x ∷ []) k y ≡ y → y ≡ x
    by zero within is = sym is
    by (suc k) within is = absurd (omega arith)

module _ {S : Type 0} where
  -- ---- one set has one more

  has_more : (s s' : IndexSet ℕ S) (block : ℕ) → Updates nat_eq s s' block true → (b : ℕ) → IsTrue (contains nat_eq s' b) ↔ (IsTrue (contains nat_eq s b) ⊎ (b ≡ block))
  has_more s s' block updates b =
      elim (eqb_tells block b) [
        | inl (same, e) ↦ (λ h. inr (sym e), λ h. updates.0 b ∙ ap (λ t. cond t true (contains nat_eq s b)) same)
        | inr (other, differ) ↦
            let is : contains nat_eq s' b ≡ contains nat_eq s b = updates.0 b ∙ ap (λ t. cond t true (contains nat_eq s b)) other in
            (λ h. inl (sym is ∙ h), λ h. elim h [ inl old ↦ is ∙ old | inr e ↦ absurd (differ (sym e)) ])
      ]

  pub adds_one : (sets : List (IndexSet ℕ S)) (t block : ℕ) (s s' : IndexSet ℕ S) → slice_get sets t ≡ Some s → Updates nat_eq s s' block true → AddsTo sets (set sets t s') block (t ∷ [])
  adds_one sets t block s s' at updates = record { count = length-set sets t s'; holds = λ c b. elim (eqb_tells c t) [ inl (same, e) ↦ here c b e | inr (other, differ) ↦ there c b differ ] }
    where
      here : (c b : ℕ) → c ≡ t → Holds (set sets t s') c b ↔ (Holds sets c b ⊎ ((b ≡ block) × Contains (t ∷ []) c))
      here c b e =
          let more = has_more s s' block updates b in
          let new : slice_get (set sets t s') c ≡ Some s' = subst (λ n. slice_get (set sets t s') n ≡ Some s') (sym e) (set_same sets t s' (slice_get_within sets t s at)) in
          let old : slice_get sets c ≡ Some s = subst (λ n. slice_get sets n ≡ Some s) (sym e) at in (
            λ (u, u_at, has). let is : u ≡ s' = same_at (set sets t s') c u s' u_at new in
                elim (more.0 (subst (λ z. IsTrue (contains nat_eq z b)) is has)) [ inl h ↦ inl (s, old, h) | inr is_block ↦ inr (is_block, (one t c).1 e) ],
            λ h. (
              s',
              new,
              more.1 (elim h [
                | inl (u, u_at, has) ↦ inl (subst (λ z. IsTrue (contains nat_eq z b)) (same_at sets c u s u_at old) has)
                | inr (is_block, among) ↦ inr is_block
              ]),
            ),
          )

      there : (c b : ℕ) → (c ≡ t → ⊥) → Holds (set sets t s') c b ↔ (Holds sets c b ⊎ ((b ≡ block) × Contains (t ∷ []) c))
      there c b differ =
          let same = set_other sets t c s' differ in (
            λ (u, u_at, has). inl (u, sym same ∙ u_at, has),
            λ h. elim h [ inl (u, u_at, has) ↦ (u, same ∙ u_at, has) | inr (is_block, among) ↦ absurd (differ ((one t c).0 among)) ],
          )

  -- a block is added to the sets of some targets, and then to those of others
  pub adds_both : (a b c : List (IndexSet ℕ S)) (block : ℕ) (xs ys : List ℕ) → AddsTo a b block xs → AddsTo b c block ys → AddsTo a c block (xs ++ ys)
  adds_both a b c block xs ys p q =
      record {
        count = q.count ∙ p.count;
        holds = λ t d. (
          λ h. elim ((q.holds t d).0 h) [
            | inl old ↦ elim ((p.holds t d).0 old) [ inl older ↦ inl older | inr (is, among) ↦ inr (is, Contains-append_left xs ys t among) ]
            | inr (is, among) ↦ inr (is, Contains-append_right xs ys t among)
          ],
          λ h. (q.holds t d).1 (elim h [
            | inl older ↦ inl ((p.holds t d).1 (inl older))
            | inr (is, among) ↦ elim (Contains-append_cases xs ys t among) [ inl left ↦ inl ((p.holds t d).1 (inr (is, left))) | inr right ↦ inr (is, right) ]
          ]),
        );
      }

  -- ---- blocks, one after the other

  pub adds_of_more : (a b c : List (IndexSet ℕ S)) (blocks : List Block) (i : ℕ) (block : Block) → i < length blocks → block ≡ get_or blocks i block → AddsOf a b (take i blocks) → AddsTo b c i (targets_of block.end) → AddsOf a c (take (i + 1) blocks)
  adds_of_more a b c blocks i block within is p q =
      let more : take (i + 1) blocks ≡ take i blocks ++ block ∷ [] = take_more blocks i block within ∙ ap (λ x. take i blocks ++ x ∷ []) (sym is) in
      let count : length (take i blocks) ≡ i = long i blocks within in
      subst (AddsOf a c) (sym more)
      (record {
        count = q.count ∙ p.count;
        holds = λ t d. (
          λ h. elim ((q.holds t d).0 h) [
            | inl old ↦ elim ((p.holds t d).0 old) [ inl older ↦ inl older | inr (x, at, among) ↦ inr (x, append_left (take i blocks) (block ∷ []) d x at, among) ]
            | inr (e, among) ↦ inr (block, append_right (take i blocks) (block ∷ []) d 0 block (omega arith) refl, among)
          ],
          λ h. (q.holds t d).1 (elim h [
            | inl older ↦ inl ((p.holds t d).1 (inl older))
            | inr (x, at, among) ↦ elim (at_push (take i blocks) block d x at) [
              | inl old ↦ inl ((p.holds t d).1 (inr (x, old, among)))
              | inr (e, same) ↦ inr (omega arith, subst (λ (y : Block). Contains (targets_of y.end) t) (sym same) among)
            ]
          ]),
        );
      })
    where
      long : (n : ℕ) (xs : List Block) → n < length xs → length (take n xs) ≡ n
      long zero xs lt = refl
      long (suc n) [] lt = absurd (omega arith)
      long (suc n) (x ∷ xs) lt = ap suc (long n xs (omega arith))

  -- once all blocks are added to empty sets, these have the predecessors
  pub all_predecessors : (f : Function) (a b : List (IndexSet ℕ S)) → length a ≡ length f.blocks → ((c d : ℕ) → ¬ Holds a c d) → AddsOf a b f.blocks → ArePredecessors f b
  all_predecessors f a b count empty adds =
      record {
        count = adds.count ∙ count;
        holds = λ c d. (
          λ h. elim ((adds.holds c d).0 h) [ inl old ↦ absurd (empty c d old) | inr (x, at, among) ↦ (x, at, among) ],
          λ (x, at, among). (adds.holds c d).1 (inr (x, at, among)),
        );
      }

  -- one more empty set
  pub empty_more : (sets sets' : List (IndexSet ℕ S)) (s : IndexSet ℕ S) → sets' ≡ sets ++ s ∷ [] → ((b : ℕ) → contains nat_eq s b ≡ false) → ((c b : ℕ) → ¬ Holds sets c b) → (c b : ℕ) → ¬ Holds sets' c b
  empty_more sets sets' s more none empty c b (u, at, has) =
      elim (at_push sets s c u (subst (λ l. slice_get l c ≡ Some u) more at)) [
        | inl old ↦ empty c b (u, old, has)
        | inr (e, same) ↦ absurd (false≢true (sym (none b) ∙ subst (λ z. IsTrue (contains nat_eq z b)) (sym same) has))
      ]

  -- a vector whose whole slice was overwritten
  pub whole : (n : ℕ) (new old : List (IndexSet ℕ S)) → n ≡ length old → length new ≡ length old → take n (new ++ drop (length new) old) ≡ new
  whole n new old is same = ap (λ m. take m (new ++ drop (length new) old)) (is ∙ sym same) ∙ seam new (drop (length new) old)
    where
      seam : (xs ys : List (IndexSet ℕ S)) → take (length xs) (xs ++ ys) ≡ xs
      seam [] ys = refl
      seam (x ∷ xs) ys = ap (λ l. x ∷ l) (seam xs ys)

-- the blocks that terminators name are within the function
pub all_targets : (f : Function) (n : ℕ) → n ≡ length f.blocks → ((b c : ℕ) → Names f b c → c < length f.blocks) → All (λ (block : Block). All (λ c. c < n) (targets_of block.end)) f.blocks
all_targets f n is within k d lt j e lt' =
    let block = get_or f.blocks k d in
    rw is (within k (get_or (targets_of block.end) j e) (block, at f.blocks k d lt, (j, lt', get_any (targets_of block.end) j e (get_or (targets_of block.end) j e) lt')))
  where
    at : {X : Type 0} (xs : List X) (k : ℕ) (d : X) → k < length xs → slice_get xs k ≡ Some (get_or xs k d)
    at [] k d lt = absurd (omega arith)
    at (x ∷ xs) zero d lt = refl
    at (x ∷ xs) (suc k) d lt = at xs k d (omega arith)

    get_any : {X : Type 0} (xs : List X) (k : ℕ) (d e : X) → k < length xs → get_or xs k e ≡ get_or xs k d
    get_any [] k d e lt = absurd (omega arith)
    get_any (x ∷ xs) zero d e lt = refl
    get_any (x ∷ xs) (suc k) d e lt = get_any xs k d e (omega arith)

-- so are those that the cases of a switch name
pub cases_within : (other n m : ℕ) (cases : List (Number × ℕ)) → m ≡ n → All (λ c. c < n) (other ∷ map (λ case. case.1) cases) → All (λ case. case.1 < m) cases
cases_within other n m cases same all k d lt = subst (λ l. (get_or cases k d).1 < l) (sym same) (by cases k d lt (λ j e within. all (suc j) e (omega arith)))
  where
    by : (cs : List (Number × ℕ)) (k : ℕ) (d : Number × ℕ) → k < length cs → All (λ c. c < n) (map (λ case. case.1) cs) → (get_or cs k d).1 < n
    by [] k d lt all = absurd (omega arith)
    by (x ∷ cs) zero d lt all = all 0 0 (omega arith)
    by (x ∷ cs) (suc k) d lt all = by cs k d (omega arith) (λ j e within. all (suc j) e (omega arith))

-- what holds where a call succeeds implies what follows from it there
pub on_ok : {X E : Type 0} (r : Result X E) (P Q : Type 0) → (P → Q) → OnOk r P → OnOk r Q
on_ok (Ok x) P Q f h = f h
on_ok (Err e) P Q f h = tt
