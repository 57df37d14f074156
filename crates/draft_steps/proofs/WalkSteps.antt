-- Searches that find more.
use Rattle.draft_steps.proofs.Common.{◌≡◌, ◌⊎◌, ℕ, inl, inr, [], ◌∷◌, ◌++◌, length, All, Contains, sym, ap, subst, ◌∙◌, append-nil, append_assoc, All-push, Contains-append_left, Contains-push, Contains-push_cases, HasInst, Draft, Place, Walk, IsAdded, Came, CameOnlyTo, IsFurther, IsWalk}

pub further-same : (w : Walk) → IsFurther w w
further-same w = record { more = []; is = sym (append-nil w.found.items) }

pub further-twice : (u v w : Walk) → IsFurther u v → IsFurther v w → IsFurther u w
further-twice u v w one two = record {
  more = one.more ++ two.more;
  is = two.is ∙ ap (λ l. l ++ two.more) one.is ∙ append_assoc u.found.items one.more two.more;
}

pub came-further : (v w : Walk) (b n : ℕ) → IsFurther v w → Came v b n → Came w b n
came-further v w b n further came =
    subst (λ l. Contains l (record { block = b; number = n })) (sym further.is) (Contains-append_left v.found.items further.more (record { block = b; number = n }) came)

-- one more instruction is found
pub walk-more : (d : Draft) (old new : Walk) (p : Place) → IsWalk d old → HasInst d.arena p.block p.number → length new.reached ≡ length old.reached → IsAdded old.reached new.reached p → new.found.items ≡ old.found.items ++ p ∷ []
    → IsWalk d new
walk-more d old new p walk inst blocks added found = record {
  blocks = blocks ∙ walk.blocks;
  insts = subst (All (λ (q : Place). HasInst d.arena q.block q.number)) (sym found) (All-push (λ (q : Place). HasInst d.arena q.block q.number) old.found.items p walk.insts inst);
  marked = λ b n has. subst (λ l. Contains l (record { block = b; number = n })) (sym found) (elim ((added b n).0 has) [
    | inl is ↦ subst (λ c. Contains (old.found.items ++ p ∷ []) (record { block = c; number = n })) is.0
        (subst (λ m. Contains (old.found.items ++ p ∷ []) (record { block = p.block; number = m })) is.1 (Contains-push old.found.items p))
    | inr had ↦ Contains-append_left old.found.items (p ∷ []) (record { block = b; number = n }) (walk.marked b n had)
  ]);
}

-- what two searches found, one after the other
pub only-twice : (IsSuch : ℕ → ℕ → Type 0) (u v w : Walk) → CameOnlyTo IsSuch u v → CameOnlyTo IsSuch v w → CameOnlyTo IsSuch u w
only-twice IsSuch u v w one two b n came = elim (two b n came) [
  | inl before ↦ one b n before
  | inr such ↦ inr such
]

pub only-more : (IsSuch IsSuchToo : ℕ → ℕ → Type 0) (u v : Walk) → ((b n : ℕ) → IsSuch b n → IsSuchToo b n) → CameOnlyTo IsSuch u v → CameOnlyTo IsSuchToo u v
only-more IsSuch IsSuchToo u v to only b n came = elim (only b n came) [
  | inl before ↦ inl before
  | inr such ↦ inr (to b n such)
]

pub only-pushed : (old new : Walk) (p : Place) (b n : ℕ) → new.found.items ≡ old.found.items ++ p ∷ [] → Came new b n → Came old b n ⊎ (p ≡ record { block = b; number = n })
only-pushed old new p b n found came = elim (Contains-push_cases old.found.items p (record { block = b; number = n }) (subst (λ l. Contains l (record { block = b; number = n })) found came)) [
  | inl before ↦ inl before
  | inr is ↦ inr is
]
