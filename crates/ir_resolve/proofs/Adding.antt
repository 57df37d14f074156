-- Uses are added piece by piece.
use Rattle.ir_resolve.proofs.Common.{◌≡◌, ℕ, ◌+◌, ◌<◌, ◌≤◌, List, [], ◌∷◌, ◌++◌, take, length, get_or, sym, ap, ◌∙◌, append_assoc, append-nil, flat_map, take_more, take_all, RawInst, RawIdentifier, Uses, Typed, read_by, named_by, seen_reads, seen_targets, Adds}

pub adds_none : (a : Uses) → Adds a a [] []
adds_none a = record { reads_added = sym (append-nil (seen_reads a)); targets_added = sym (append-nil (seen_targets a)) }

pub adds_then : (a b c : Uses) (r r' : List Typed) (t t' : List RawIdentifier) → Adds a b r t → Adds b c r' t' → Adds a c (r ++ r') (t ++ t')
adds_then a b c r r' t t' first second = record {
  reads_added = second.reads_added ∙ ap (λ xs. xs ++ r') first.reads_added ∙ append_assoc (seen_reads a) r r';
  targets_added = second.targets_added ∙ ap (λ xs. xs ++ t') first.targets_added ∙ append_assoc (seen_targets a) t t';
}

-- the operands of an instruction
abbrev pub read_by_inst : RawInst → List Typed
read_by_inst i = read_by i.op

abbrev pub named_by_inst : RawInst → List RawIdentifier
named_by_inst i = named_by i.op

pub flat_map_push : {X Y : Type 0} (f : X → List Y) (xs : List X) (x : X) → flat_map f (xs ++ x ∷ []) ≡ flat_map f xs ++ f x
flat_map_push f [] x = append-nil (f x)
flat_map_push f (y ∷ xs) x = ap (λ ys. f y ++ ys) (flat_map_push f xs x) ∙ sym (append_assoc (f y) (flat_map f xs) (f x))

-- the uses of a list, and of one item more
module _ {X : Type 0} (R : List X → List Typed) (r : X → List Typed) (T : List X → List RawIdentifier) (t : X → List RawIdentifier)
    (R-push : (xs : List X) (x : X) → R (xs ++ x ∷ []) ≡ R xs ++ r x) (T-push : (xs : List X) (x : X) → T (xs ++ x ∷ []) ≡ T xs ++ t x) where
  pub adds_more : (xs : List X) (i : ℕ) (x : X) (a b c : Uses) → i < length xs → x ≡ get_or xs i x → Adds a b (R (take i xs)) (T (take i xs)) → Adds b c (r x) (t x) → Adds a c (R (take (i + 1) xs)) (T (take (i + 1) xs))
  adds_more xs i x a b c lt at first second =
      let more : take (i + 1) xs ≡ take i xs ++ x ∷ [] = take_more xs i x lt ∙ ap (λ y. take i xs ++ y ∷ []) (sym at) in
      rw (more, R-push (take i xs) x, T-push (take i xs) x) (adds_then a b c (R (take i xs)) (r x) (T (take i xs)) (t x) first second)

pub adds_all : {X : Type 0} (R : List X → List Typed) (T : List X → List RawIdentifier) (xs : List X) (i : ℕ) (a b : Uses) → length xs ≤ i → Adds a b (R (take i xs)) (T (take i xs)) → Adds a b (R xs) (T xs)
adds_all R T xs i a b le adds = let all : take i xs ≡ xs = take_all i xs le in rw all at adds
