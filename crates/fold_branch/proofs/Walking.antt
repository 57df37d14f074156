-- The walk to the blocks that are reached.
use Rattle.fold_branch.proofs.Common.{◌≡◌, ℕ, zero, suc, ◌+◌, ◌<◌, Bool, true, false, cond, ◌⊎◌, inl, inr, List, [], ◌∷◌, ◌++◌, length, map, take, set, replicate, get_or, Some, option_map, All, Contains, count_by, refl, sym, ap, subst, ◌∙◌, append_assoc, append-nil, arith, slice_get, cases_eq, get_or-set_same, get_or-set_other, get_or_read, length-set, length-append, length-map, length-replicate, map-append, take_more, All-contains, All-head, All-tail, Contains-append_left, Contains-append_right, Contains-append_cases, Contains-push, sum_by-set, slice_get-map, slice_get_read, Number, targets_of, IsBlock, Names, IsWalk, IsReached, Block, Function, contains_at, first_in, not_in_empty, only_one, decided_end, decided_block, decided, AreReached, IsMarked, unmarked, ComesTo, IsWalked, Walk}
use Rattle.fold_branch.proofs.Decided.{leads, leads_here}

-- ---- marks

pub none_set : (n b : ℕ) → get_or (replicate n false) b false ≡ false
none_set zero b = refl
none_set (suc n) zero = refl
none_set (suc n) (suc b) = none_set n b

pub marked_within : (marks : List Bool) (b : ℕ) → IsMarked marks b → b < length marks
marked_within [] b m = absurd cc
marked_within (x ∷ xs) zero m = omega arith
marked_within (x ∷ xs) (suc b) m = let lt : b < length xs = marked_within xs b m in omega arith

-- ---- coming to blocks

-- to a block that is marked already
pub come_again : (b : ℕ) (mark : Bool) (w : Walk) → b < length w.reached.items → mark ≡ get_or w.reached.items b mark → mark ≡ true → ComesTo (b ∷ []) w w
come_again b mark w within read is_set = record {
  count = refl;
  more = [];
  work = sym (append-nil w.work.items);
  among = λ c h. absurd (not_in_empty c h);
  stays = λ c m. m;
  new_marks = λ c m. inl m;
  marks = λ c h. subst (IsMarked w.reached.items) (only_one b c h) (sym (get_or_read w.reached.items b mark within read false) ∙ is_set);
  fewer = omega arith;
}

-- to a block that was not marked
pub come_anew : (b : ℕ) (mark : Bool) (old new : Walk) → b < length old.reached.items → mark ≡ get_or old.reached.items b mark → mark ≡ false
    → new.reached.items ≡ set old.reached.items b true → new.work.items ≡ old.work.items ++ b ∷ [] → ComesTo (b ∷ []) old new
come_anew b mark old new within read unset marks_are work_is = record {
  count = ap length marks_are ∙ length-set old.reached.items b true;
  more = b ∷ [];
  work = work_is;
  among = λ c h. h;
  stays = λ c m. stays c (cases_eq b c) m;
  new_marks = λ c m. new_marks c (cases_eq b c) m;
  marks = λ c h. subst (IsMarked new.reached.items) (only_one b c h) here;
  fewer = less;
}
  where
    was_unset : get_or old.reached.items b false ≡ false
    was_unset = sym (get_or_read old.reached.items b mark within read false) ∙ unset

    here : IsMarked new.reached.items b
    here = ap (λ l. get_or l b false) marks_are ∙ get_or-set_same old.reached.items b true false within

    other : (c : ℕ) → (b ≡ c → ⊥) → get_or new.reached.items c false ≡ get_or old.reached.items c false
    other c ne = ap (λ l. get_or l c false) marks_are ∙ get_or-set_other old.reached.items b c true false (λ e. ne (sym e))

    stays : (c : ℕ) → (b ≡ c) ⊎ (b ≡ c → ⊥) → IsMarked old.reached.items c → IsMarked new.reached.items c
    stays c (inl e) m = subst (IsMarked new.reached.items) e here
    stays c (inr ne) m = other c ne ∙ m

    new_marks : (c : ℕ) → (b ≡ c) ⊎ (b ≡ c → ⊥) → IsMarked new.reached.items c → IsMarked old.reached.items c ⊎ Contains (b ∷ []) c
    new_marks c (inl e) m = inr (subst (Contains (b ∷ [])) e (first_in b []))
    new_marks c (inr ne) m = inl (sym (other c ne) ∙ m)

    less : unmarked new + 1 ≡ unmarked old
    less =
        let one : ℕ = 1 in
        let was : cond (cond (get_or old.reached.items b false) false true) one 0 ≡ one = ap (λ c. cond (cond c false true) one 0) was_unset in
        let changed : unmarked new ≡ count_by (λ mark. cond mark false true) (set old.reached.items b true) = ap (count_by (λ mark. cond mark false true)) marks_are in
        omega (arith, sum_by-set (λ mark. cond (cond mark false true) 1 0) old.reached.items b true false within, was, changed)

-- to some blocks and then to others
pub come_then : (xs ys : List ℕ) (s t u : Walk) → ComesTo xs s t → ComesTo ys t u → ComesTo (xs ++ ys) s u
come_then xs ys s t u p q = record {
  count = q.count ∙ p.count;
  more = p.more ++ q.more;
  work = q.work ∙ ap (λ l. l ++ q.more) p.work ∙ append_assoc s.work.items p.more q.more;
  among = λ b h. elim (Contains-append_cases p.more q.more b h) [
    | inl first ↦ Contains-append_left xs ys b (p.among b first)
    | inr second ↦ Contains-append_right xs ys b (q.among b second)
  ];
  stays = λ b m. q.stays b (p.stays b m);
  new_marks = λ b m. elim (q.new_marks b m) [
    | inl was ↦ elim (p.new_marks b was) [
      | inl before ↦ inl before
      | inr first ↦ inr (Contains-append_left p.more q.more b first)
    ]
    | inr second ↦ inr (Contains-append_right p.more q.more b second)
  ];
  marks = λ b h. elim (Contains-append_cases xs ys b h) [
    | inl first ↦ q.stays b (p.marks b first)
    | inr second ↦ q.marks b second
  ];
  fewer = omega (arith, p.fewer, q.fewer, length-append p.more q.more);
}

pub come_more : (blocks : List ℕ) (i b : ℕ) (s t u : Walk) → ComesTo (take i blocks) s t → i < length blocks → b ≡ get_or blocks i 0 → ComesTo (b ∷ []) t u → ComesTo (take (i + 1) blocks) s u
come_more blocks i b s t u p lt here q =
    let next : take (i + 1) blocks ≡ take i blocks ++ b ∷ [] = take_more blocks i 0 lt ∙ ap (λ (c : ℕ). take i blocks ++ c ∷ []) (sym here) in
    subst (λ l. ComesTo l s u) (sym next) (come_then (take i blocks) (b ∷ []) s t u p q)

-- the blocks of cases
abbrev pub blocks_of : List (Number × ℕ) → List ℕ
blocks_of cases = map (λ (c : Number × ℕ). c.1) cases

pub come_next : (cases : List (Number × ℕ)) (i : ℕ) (case : Number × ℕ) (s t u : Walk) → ComesTo (blocks_of (take i cases)) s t → i < length cases → case ≡ get_or cases i case → ComesTo (case.1 ∷ []) t u → ComesTo (blocks_of (take (i + 1) cases)) s u
come_next cases i case s t u p lt here q =
    let next : take (i + 1) cases ≡ take i cases ++ case ∷ [] = take_more cases i case lt ∙ ap (λ (c : Number × ℕ). take i cases ++ c ∷ []) (sym here) in
    subst (λ l. ComesTo l s u) (sym (ap blocks_of next ∙ map-append (λ (c : Number × ℕ). c.1) (take i cases) (case ∷ []))) (come_then (blocks_of (take i cases)) (case.1 ∷ []) s t u p q)

pub case_within : (cases : List (Number × ℕ)) (i : ℕ) (case : Number × ℕ) (n m : ℕ) → All (λ b. b < n) (blocks_of cases) → m ≡ n → i < length cases → case ≡ get_or cases i case → case.1 < m
case_within cases i case n m h same lt here =
    let at : slice_get cases i ≡ Some case = slice_get_read cases (length cases) i case refl lt here in
    let value : slice_get (blocks_of cases) i ≡ Some case.1 = slice_get-map (λ (c : Number × ℕ). c.1) cases i ∙ ap (option_map (λ (c : Number × ℕ). c.1)) at in
    let less : case.1 < n = All-contains (λ b. b < n) (blocks_of cases) case.1 h (contains_at (blocks_of cases) i case.1 value) in
    omega (arith, less, same)

-- a switch names its other block and those of its cases
pub switch_within : (other : ℕ) (cases : List (Number × ℕ)) (n : ℕ) → All (λ b. b < n) (other ∷ blocks_of cases) → (other < n) × All (λ b. b < n) (blocks_of cases)
switch_within other cases n h = (All-head (λ b. b < n) other (blocks_of cases) h, All-tail (λ b. b < n) other (blocks_of cases) h)

-- ---- a walk

pub walked_start : (f : Function) (start w : Walk) → start.reached.items ≡ replicate (length f.blocks) false → start.work.items ≡ [] → ComesTo (0 ∷ []) start w → IsWalked f w
walked_start f start w clear none c = record {
  count = c.count ∙ ap length clear ∙ length-replicate (length f.blocks) false;
  entry = c.marks 0 (first_in 0 []);
  sound = λ b m. subst (IsReached (decided f)) (only_one 0 b (c.among b (fresh b m))) ([], refl);
  work = λ b h. c.marks b (c.among b (waiting b h));
  followed = λ b d m. inl (subst (λ l. Contains l b) (sym c.work) (Contains-append_right start.work.items c.more b (fresh b m)));
}
  where
    fresh : (b : ℕ) → IsMarked w.reached.items b → Contains c.more b
    fresh b m = elim (c.new_marks b m) [
      | inl old ↦ absurd (let clash : true ≡ false = sym old ∙ ap (λ l. get_or l b false) clear ∙ none_set (length f.blocks) b in cc)
      | inr more ↦ more
    ]

    waiting : (b : ℕ) → Contains w.work.items b → Contains c.more b
    waiting b h = elim (Contains-append_cases start.work.items c.more b (subst (λ l. Contains l b) c.work h)) [
      | inl old ↦ absurd (not_in_empty b (subst (λ l. Contains l b) none old))
      | inr more ↦ more
    ]

-- the block that was work is marked
pub work_is_marked : (f : Function) (b : ℕ) (old : Walk) (rest : List ℕ) → IsWalked f old → old.work.items ≡ rest ++ b ∷ [] → IsMarked old.reached.items b
work_is_marked f b old rest h is = h.work b (subst (λ l. Contains l b) (sym is) (Contains-push rest b))

-- and is one of the function
pub work_within : (f : Function) (b : ℕ) (old : Walk) (rest : List ℕ) → IsWalked f old → old.work.items ≡ rest ++ b ∷ [] → b < length f.blocks
work_within f b old rest h is =
    let lt : b < length old.reached.items = marked_within old.reached.items b (work_is_marked f b old rest h is) in
    omega (arith, lt, h.count)

-- a block that was work is left
pub walked_step : (f : Function) (b : ℕ) (block : Block) (old s t : Walk) → IsBlock f b block → IsWalked f old → old.reached.items ≡ s.reached.items → old.work.items ≡ s.work.items ++ b ∷ []
    → ComesTo (targets_of (decided_end block.end)) s t → IsWalked f t
walked_step f b block old s t at h marks_are work_is c = record {
  count = c.count ∙ ap length (sym marks_are) ∙ h.count;
  entry = c.stays 0 (on 0 h.entry);
  sound = λ x m. elim (c.new_marks x m) [
    | inl was ↦ h.sound x (back x was)
    | inr more ↦ (b ∷ reached.0, (leads f b x block at (c.among x more), reached.1))
  ];
  work = λ x w. elim (Contains-append_cases s.work.items c.more x (subst (λ l. Contains l x) c.work w)) [
    | inl rest ↦ c.stays x (on x (h.work x (subst (λ l. Contains l x) (sym work_is) (Contains-append_left s.work.items (b ∷ []) x rest))))
    | inr more ↦ c.marks x (c.among x more)
  ];
  followed = λ x y m. elim (c.new_marks x m) [
    | inl was ↦ elim (h.followed x y (back x was)) [
      | inl work ↦ elim (Contains-append_cases s.work.items (b ∷ []) x (subst (λ l. Contains l x) work_is work)) [
        | inl rest ↦ inl (subst (λ l. Contains l x) (sym c.work) (Contains-append_left s.work.items c.more x rest))
        | inr own ↦ inr (λ names. c.marks y (leads_here f b y block at (subst (λ z. Names (decided f) z y) (sym (only_one b x own)) names)))
      ]
      | inr follows ↦ inr (λ names. c.stays y (on y (follows names)))
    ]
    | inr more ↦ inl (subst (λ l. Contains l x) (sym c.work) (Contains-append_right s.work.items c.more x more))
  ];
}
  where
    reached : IsReached (decided f) b
    reached = h.sound b (work_is_marked f b old s.work.items h work_is)

    on : (x : ℕ) → IsMarked old.reached.items x → IsMarked s.reached.items x
    on x m = subst (λ l. get_or l x false ≡ true) marks_are m

    back : (x : ℕ) → IsMarked s.reached.items x → IsMarked old.reached.items x
    back x m = subst (λ l. get_or l x false ≡ true) (sym marks_are) m

-- where no work is left, the marks are those of the blocks that are reached
pub walked_ends : (f : Function) (w : Walk) → IsWalked f w → w.work.items ≡ [] → AreReached (decided f) w.reached.items
walked_ends f w h no_work = record {
  count = h.count ∙ sym (length-map f.blocks decided_block);
  exact = λ b. (h.sound b, λ r. comes r.0 b r.1);
}
  where
    comes : (before : List ℕ) (b : ℕ) → IsWalk (decided f) (b ∷ before) → IsMarked w.reached.items b
    comes [] b walk = subst (IsMarked w.reached.items) (sym walk) h.entry
    comes (c ∷ before) b walk = elim (h.followed c b (comes before c walk.1)) [
      | inl work ↦ absurd (not_in_empty c (subst (λ l. Contains l c) no_work work))
      | inr follows ↦ follows walk.0
    ]
