-- Of tokens that do not fit only one fault is told: it is told of the first misfit, of which only one fault is said.
use Rattle.ir_viable_prefixes.proofs.Common.{◌≡◌, ℕ, List, [], ◌∷◌, ◌++◌, refl, sym, ap, subst, ◌∙◌, ◌⊎◌, inl, inr, append_assoc, append_cancel_left, Placed, Fault, IrFaultKind, fault, Fits, IsSaid, of_token, in_call, IsTold, IsFirstMisfit}
use Rattle.ir_viable_prefixes.proofs.Told.{begun_fits}

-- two tokens of one list are at the same index, or one of them is before the other
abbrev Places : List Placed → Placed → List Placed → Placed → Type 0
Places front t other u = ((front ≡ other) × (t ≡ u)) ⊎ (((between : List Placed) × (other ≡ front ++ t ∷ between)) ⊎ ((between : List Placed) × (front ≡ other ++ u ∷ between)))

places : (front other : List Placed) (t u : Placed) (behind rest : List Placed) → front ++ t ∷ behind ≡ other ++ u ∷ rest → Places front t other u
places [] [] t u behind rest same = inl (refl, cc)
places [] (v ∷ other) t u behind rest same = let heads : v ≡ t = cc in inr (inl (other, ap (λ (w : Placed). w ∷ other) heads))
places (v ∷ front) [] t u behind rest same = let heads : v ≡ u = cc in inr (inr (front, ap (λ (w : Placed). w ∷ front) heads))
places (v ∷ front) (w ∷ other) t u behind rest same = by (places front other t u behind rest cc)
  where
    heads : v ≡ w
    heads = cc

    by : Places front t other u → Places (v ∷ front) t (w ∷ other) u
    by (inl (fronts, tokens)) = inl (ap (λ (x : Placed). x ∷ front) heads ∙ ap (λ (ts : List Placed). w ∷ ts) fronts, tokens)
    by (inr (inl (between, is))) = inr (inl (between, ap (λ (x : Placed). x ∷ other) (sym heads) ∙ ap (λ (ts : List Placed). v ∷ ts) is))
    by (inr (inr (between, is))) = inr (inr (between, ap (λ (x : Placed). x ∷ front) heads ∙ ap (λ (ts : List Placed). w ∷ ts) is))

-- lists with the same token behind the same front have the same rest
behind_same : (front other : List Placed) (t u : Placed) (behind rest : List Placed) → front ≡ other → t ≡ u → front ++ t ∷ behind ≡ other ++ u ∷ rest → behind ≡ rest
behind_same front other t u behind rest fronts tokens same =
    tail_is t behind rest (append_cancel_left front (t ∷ behind) (t ∷ rest) (same ∙ ap (λ (f : List Placed). f ++ u ∷ rest) (sym fronts) ∙ ap (λ (v : Placed). front ++ v ∷ rest) (sym tokens)))
  where
    tail_is : (t : Placed) (a b : List Placed) → t ∷ a ≡ t ∷ b → a ≡ b
    tail_is t a b both = cc

-- no viable prefix has a misfit in it
no_later : (front other : List Placed) (t : Placed) (between : List Placed) → other ≡ front ++ t ∷ between → Fits other → ¬ Fits (front ++ t ∷ []) → ⊥
no_later front other t between is fits misfit = misfit (begun_fits (front ++ t ∷ []) between (subst Fits (is ∙ sym (append_assoc front (t ∷ []) between)) fits))

one_said : (front : List Placed) (t : Placed) (behind : List Placed) (a b : Fault IrFaultKind) → IsTold front t behind a → IsTold front t behind b → a ≡ b
one_said front t behind a b first second = by first.said second.said
  where
    by : IsSaid front t behind a → IsSaid front t behind b → a ≡ b
    by (in_call told) said = sym (second.alone a told)
    by said (in_call told) = first.alone b told
    by (of_token line kind one none) (of_token other_line other_kind other_one other_none) = ap (λ (n : ℕ). fault n a.kind) (line ∙ sym other_line) ∙ ap (fault b.line) (one b.kind other_kind)

pub one_fault : (tokens : List Placed) (found other : Fault IrFaultKind) → IsFirstMisfit tokens found → IsFirstMisfit tokens other → found ≡ other
one_fault tokens found other x y = by (places x.front y.front x.token y.token x.behind y.behind (sym x.stands ∙ y.stands))
  where
    by : Places x.front x.token y.front y.token → found ≡ other
    by (inr (inl (between, is))) = absurd (no_later x.front y.front x.token between is y.fits x.misfit)
    by (inr (inr (between, is))) = absurd (no_later y.front x.front y.token between is x.fits y.misfit)
    by (inl (fronts, tokens_are)) =
        let rest : x.behind ≡ y.behind = behind_same x.front y.front x.token y.token x.behind y.behind fronts tokens_are (sym x.stands ∙ y.stands) in
        let told : IsTold y.front y.token y.behind found =
        subst (λ (f : List Placed). IsTold f y.token y.behind found) fronts
        (subst (λ (t : Placed). IsTold x.front t y.behind found) tokens_are (subst (λ (ts : List Placed). IsTold x.front x.token ts found) rest x.told)) in
        one_said y.front y.token y.behind found other told y.told
