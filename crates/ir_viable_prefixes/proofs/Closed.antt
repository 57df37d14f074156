-- Parsers that end with a token of their own: they read the same whatever stands behind it, on whatever line.
use Rattle.ir_viable_prefixes.proofs.Common.{◌≡◌, ℕ, Bool, true, false, cond, eqb, List, [], ◌∷◌, ◌++◌, Ok, Err, refl, sym, ap, subst, ◌∙◌, append_assoc, Placed, Mark, Syntax, Read, Reader, fault, ◌>>=◌, done, bind_ok, read_as}
use Rattle.ir_instructions.specs.InstructionReaders.{mark_at}
use Rattle.ir_viable_prefixes.proofs.Outcomes.{Follow, Ended, StopsBefore, ReasonsIf, IsReadIf, OutcomeIf, GoodIf}

-- what the parser reads of the tokens of a text is a prefix, which it reads so whatever stands behind it
abbrev pub Closes : {A : Type 0} → Reader A → Type 0
Closes {A} R =
    (tokens : List Placed) (x : A × List Placed) → Ended tokens → R tokens ≡ Ok x → (t : Placed) × (front : List Placed) × (tokens ≡ t ∷ (front ++ x.1)) × ((others : List Placed) → R (t ∷ (front ++ others)) ≡ Ok (x.0, others))

read_if : {A : Type 0} {V : Type 0} {E : Follow} {R : Reader A} {F : Follow} {W : Type 0} (tokens : List Placed) (x : A × List Placed) → R tokens ≡ Ok x → OutcomeIf V E R F W (ReasonsIf V E R F) tokens (R tokens) → IsReadIf V E R F W tokens x.0 x.1
read_if {A} {V} {E} {R} {F} {W} tokens x is o = subst (OutcomeIf V E R F W (ReasonsIf V E R F) tokens) is o

-- a parser in sequence with one that closes
pub closes_behind : {A B : Type 0} {V : Type 0} {E : Follow} {R : Reader A} {F : Follow} {W : Type 0} {S : A → Reader B} → GoodIf V E R F W → ((x : A) → Closes (S x)) → Closes (R >>= S)
closes_behind {A} {B} {V} {E} {R} {F} {W} {S} r s tokens y e is =
    let one = bind_ok (R tokens) S y is in
    let o : IsReadIf V E R F W tokens one.0.0 one.0.1 = read_if tokens one.0 one.1 (r.outcome tokens e) in
    let c = s one.0.0 one.0.1 y o.ended one.2 in
    begun o.front one.0.0 one.0.1 o.there o.stopped c.0 c.1 c.2 c.3
  where
    begun : (first : List Placed) (x : A) (rest : List Placed) → tokens ≡ first ++ rest → StopsBefore R first x rest → (t : Placed) (front : List Placed) → rest ≡ t ∷ (front ++ y.1) → ((others : List Placed) → S x (t ∷ (front ++ others)) ≡ Ok (y.0, others))
        → (u : Placed) × (whole : List Placed) × (tokens ≡ u ∷ (whole ++ y.1)) × ((others : List Placed) → (R >>= S) (u ∷ (whole ++ others)) ≡ Ok (y.0, others))
    begun [] x rest there stopped t front same reads =
        (t, front, there ∙ same, λ others. rw (subst (StopsBefore R [] x) same stopped (front ++ others)) (reads others))
    begun (u ∷ first) x rest there stopped t front same reads = (
      u,
      first ++ t ∷ front,
      there ∙ ap (λ (ts : List Placed). u ∷ (first ++ ts)) same ∙ ap (λ (ts : List Placed). u ∷ ts) (sym (append_assoc first (t ∷ front) y.1)),
      λ others. rw (append_assoc first (t ∷ front) others, subst (StopsBefore R (u ∷ first) x) same stopped (front ++ others)) (reads others),
    )

-- a parser that closes, with its result mapped
pub closes_done : {A B : Type 0} {R : Reader A} → Closes R → (f : A → B) → Closes (R >>= λ x. done (f x))
closes_done {A} {B} {R} r f tokens y e is =
    let one = bind_ok (R tokens) (λ x. done (f x)) y is in
    let c = r tokens one.0 e one.1 in
    read_as (λ (z : B × List Placed). (t : Placed) × (front : List Placed) × (tokens ≡ t ∷ (front ++ z.1)) × ((others : List Placed) → (R >>= λ x. done (f x)) (t ∷ (front ++ others)) ≡ Ok (z.0, others)))
    (f one.0.0, one.0.1) y one.2 (c.0, c.1, c.2, λ others. rw (c.3 others) refl)

abbrev the_read : {A : Type 0} → Read A → Read A
the_read r = r

pub mark_closes : (wanted : ℕ) → Closes (mark_at wanted)
unfolding mark_at
mark_closes wanted [] x e is = absurd e
mark_closes wanted ((line, Mark m) ∷ rest) x e is = by (eqb m wanted) refl is
  where
    by : (b : Bool) → eqb m wanted ≡ b → cond b (the_read (Ok (tt, rest))) (Err (fault line Syntax)) ≡ Ok x
        → (t : Placed) × (front : List Placed) × ((line, Mark m) ∷ rest ≡ t ∷ (front ++ x.1)) × ((others : List Placed) → mark_at wanted (t ∷ (front ++ others)) ≡ Ok (x.0, others))
    by true h read = read_as (λ z. (t : Placed) × (front : List Placed) × ((line, Mark m) ∷ rest ≡ t ∷ (front ++ z.1)) × ((others : List Placed) → mark_at wanted (t ∷ (front ++ others)) ≡ Ok (z.0, others)))
        (tt, rest) x read ((line, Mark m), [], refl, λ others. rw h refl)
    by false h read = absurd cc
mark_closes wanted ((line, t) ∷ rest) x e is = absurd cc
