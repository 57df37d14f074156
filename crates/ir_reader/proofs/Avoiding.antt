-- It is decidable whether a walk comes to a block without passing another.
use Rattle.ir_reader.proofs.Common.{◌≡◌, ◌⊎◌, inl, inr, ℕ, zero, suc, ◌<◌, List, [], ◌∷◌, length, refl, subst, arith, Contains, map_dec, cases_eq, slice_get_within, Function, Block, targets_of, Names, IsWalk, contained_behind, dec_both, dec_either, dec_not, dec_number, dec_one, dec_at}

pub dec_contains : (xs : List ℕ) (x : ℕ) → Dec (Contains xs x)
dec_contains xs x = map_dec (λ (y, among, is). subst (Contains xs) is among) (λ among. (x, among, refl)) (dec_one (λ y. y ≡ x) xs (λ y. dec_number y x))

pub dec_names : (f : Function) (b c : ℕ) → Dec (Names f b c)
dec_names f b c = dec_at (λ (block : Block). Contains (targets_of block.end) c) f.blocks b (λ block. dec_contains (targets_of block.end) c)

-- ---- paths through the numbers below a bound

-- There is a step from a to b, or a path through numbers below the bound. A path through numbers up to v passes v once,
-- or not at all. (This is the recursion of Warshall's algorithm.)
abbrev pub Through : (ℕ → ℕ → Type 0) → ℕ → ℕ → ℕ → Type 0
Through Step zero a b = Step a b
Through Step (suc v) a b = Through Step v a b ⊎ (Through Step v a v × Through Step v v b)

dec_through : (Step : ℕ → ℕ → Type 0) → ((a b : ℕ) → Dec (Step a b)) → (n a b : ℕ) → Dec (Through Step n a b)
dec_through Step each zero a b = each a b
dec_through Step each (suc v) a b = dec_either (dec_through Step each v a b) (dec_both (dec_through Step each v a v) (dec_through Step each v v b))

module _ (Step : ℕ → ℕ → Type 0) where
  one_step : (n a b : ℕ) → Step a b → Through Step n a b
  one_step zero a b step = step
  one_step (suc v) a b step = inl (one_step v a b step)

  -- paths to the greatest number, and from it
  to_last : (v a : ℕ) → Through Step (suc v) a v → Through Step v a v
  to_last v a h = elim h [ inl way ↦ way | inr (way, again) ↦ way ]

  from_last : (v b : ℕ) → Through Step (suc v) v b → Through Step v v b
  from_last v b h = elim h [ inl way ↦ way | inr (again, way) ↦ way ]

  -- two paths that meet at a number below the bound
  joined : (n c a b : ℕ) → c < n → Through Step n a c → Through Step n c b → Through Step n a b
  joined zero c a b lt to on = absurd (omega arith)
  joined (suc v) c a b lt to on = elim (cases_eq c v) [
    | inl is ↦ inr (to_last v a (subst (Through Step (suc v) a) is to), from_last v b (subst (λ n. Through Step (suc v) n b) is on))
    | inr apart ↦
        let less : c < v = omega (arith, apart) in
        elim to [
          | inl direct ↦ elim on [ inl way ↦ inl (joined v c a b less direct way) | inr (up, down) ↦ inr (joined v c a v less direct up, down) ]
          | inr (up, down) ↦ elim on [ inl way ↦ inr (up, joined v c v b less down way) | inr (again, last) ↦ inr (up, last) ]
        ]
  ]

-- ---- walks that avoid block d

module _ (f : Function) (d : ℕ) where
  -- a walk comes to block b, and has not passed d before
  abbrev pub Comes : ℕ → List ℕ → Type 0
  Comes b before = IsWalk f (b ∷ before) × ¬ Contains before d

  abbrev Leads : ℕ → ℕ → Type 0
  Leads a b = Names f a b × ¬ (a ≡ d)

  dec_leads : (a b : ℕ) → Dec (Leads a b)
  dec_leads a b = dec_both (dec_names f a b) (dec_not (dec_number a d))

  walked : (n a b : ℕ) → Through Leads n a b → (before : List ℕ) → Comes a before → (later : List ℕ) × Comes b later
  walked zero a b (names, apart) before (walk, none) = (a ∷ before, ((names, walk), λ has. elim (contained_behind a before d has) [ inl is ↦ apart is | inr behind ↦ none behind ]))
  walked (suc v) a b way before comes = elim way [
    | inl direct ↦ walked v a b direct before comes
    | inr (to, from) ↦ let (middle, at_v) = walked v a v to before comes in walked v v b from middle at_v
  ]

  leads_within : (a b : ℕ) → Leads a b → a < length f.blocks
  leads_within a b ((block, at, among), apart) = slice_get_within f.blocks a block at

  -- such a walk is one to the first block, or a path from there through blocks
  through_blocks : (b : ℕ) (before : List ℕ) → Comes b before → (b ≡ 0) ⊎ Through Leads (length f.blocks) 0 b
  through_blocks b [] (walk, none) = inl walk
  through_blocks b (c ∷ before) ((names, walk), none) =
      let step : Leads c b = (names, λ is. none (0, omega arith, is)) in
      elim (through_blocks c before (walk, λ (k, lt, is). none (suc k, omega arith, is))) [
        | inl is ↦ inr (one_step Leads (length f.blocks) 0 b (subst (λ n. Leads n b) is step))
        | inr way ↦ inr (joined Leads (length f.blocks) c 0 b (leads_within c b step) way (one_step Leads (length f.blocks) c b step))
      ]

  pub dec_comes : (b : ℕ) → Dec ((before : List ℕ) × Comes b before)
  dec_comes b = elim (dec_number b 0) [
    | yes is ↦ yes ([], (is, λ (k, lt, at). omega arith))
    | no other ↦
        map_dec (λ way. walked (length f.blocks) 0 b way [] (refl, λ (k, lt, at). omega arith))
        (λ (before, comes). elim (through_blocks b before comes) [ inl is ↦ absurd (other is) | inr way ↦ way ])
        (dec_through Leads dec_leads (length f.blocks) 0 b)
  ]
