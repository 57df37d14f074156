-- Each pair has at most one proof, the logs are stored one by one, and none of them refutes the clauses of a `Budget`.
use Rattle.stored_logs.proofs.Common.{◌≡◌, inl, inr, ℕ, zero, suc, ◌<◌, List, [], ◌∷◌, ◌++◌, length, take, get_or, map, All, Option, Some, refl, sym, ap, subst, ◌∙◌, arith, ◌≢◌, slice_get, Contains, IfSome, AllZip, cases_lt, All-append, All-contains, same_Some, slice_get_within, get_or_from_slice_get, slice_get-get_or, Step, Rule, AreDistinct, Proof, RuleProof, IsAmong, HasNameAt, IsProofOf, IsReadOf, name_at, Pair, StoredLogs, IsUnrefutedBy, IsUnrefutedIn, log_of, Row, pair_of, AreOfPairsOnce, IsLogStored, AreStored, AreKeptTo}
use Rattle.stored_logs.proofs.Pairs.{one}

-- ---- places in lists

left : {X : Type 0} (xs ys : List X) (k : ℕ) (x : X) → slice_get xs k ≡ Some x → slice_get (xs ++ ys) k ≡ Some x
left [] ys k x at = absurd (let none : k < 0 = slice_get_within [] k x at in omega arith)
left (z ∷ xs) ys zero x at = at
left (z ∷ xs) ys (suc k) x at = left xs ys k x at

take_at : {X : Type 0} (n : ℕ) (xs : List X) (k : ℕ) (x : X) → k < n → slice_get xs k ≡ Some x → slice_get (take n xs) k ≡ Some x
take_at n [] k x less at = absurd (let none : k < 0 = slice_get_within [] k x at in omega arith)
take_at zero (z ∷ xs) k x less at = absurd (omega arith)
take_at (suc n) (z ∷ xs) zero x less at = at
take_at (suc n) (z ∷ xs) (suc k) x less at = take_at n xs k x (omega arith) at

seam : {X : Type 0} (xs : List X) (x : X) (ys : List X) → slice_get (xs ++ x ∷ ys) (length xs) ≡ Some x
seam [] x ys = refl
seam (z ∷ xs) x ys = seam xs x ys

-- what is read at a place has the proof at that place
beside : {A B : Type 0} (R : A → B → Type 0) (xs : List A) (ys : List B) (k : ℕ) (y : B) → AllZip R xs ys → slice_get ys k ≡ Some y → (x : A) × (slice_get xs k ≡ Some x) × R x y
beside R [] [] k y h at = absurd (let none : k < 0 = slice_get_within [] k y at in omega arith)
beside R [] (z ∷ ys) k y h at = absurd h
beside R (x ∷ xs) [] k y h at = absurd h
beside R (x ∷ xs) (z ∷ ys) zero y h at = (x, refl, subst (R x) (same_Some z y at) h.0)
beside R (x ∷ xs) (z ∷ ys) (suc k) y h at = beside R xs ys k y h.1 at

-- and the proof at a place has what is read at that place
across : {A B : Type 0} (R : A → B → Type 0) (xs : List A) (ys : List B) (k : ℕ) (x : A) → AllZip R xs ys → slice_get xs k ≡ Some x → (y : B) × (slice_get ys k ≡ Some y) × R x y
across R [] [] k x h at = absurd (let none : k < 0 = slice_get_within [] k x at in omega arith)
across R [] (y ∷ ys) k x h at = absurd h
across R (z ∷ xs) [] k x h at = absurd h
across R (z ∷ xs) (y ∷ ys) zero x h at = (y, refl, subst (λ (w : _). R w y) (same_Some z x at) h.0)
across R (z ∷ xs) (y ∷ ys) (suc k) x h at = across R xs ys k x h.1 at

-- ---- each pair has one proof

module _ (rules : List Rule) (text : List ℕ) (read : List RuleProof) (is : IsReadOf rules text read) where
  -- two proofs of the same pair have the same name and the same widths
  alike : (p q : Proof) (a b : RuleProof) → IsProofOf rules p a → IsProofOf rules q b → pair_of a ≡ pair_of b → (p.name ≡ q.name) × (p.widths ≡ q.widths)
  alike p q a b of_p of_q same =
      let rule : a.rule ≡ b.rule = ap (λ (x : Pair). x.0) same in
      let typing : a.typing ≡ b.typing = ap (λ (x : Pair). x.1) same in
      let one_rule : of_p.rule ≡ of_q.rule = same_Some of_p.rule of_q.rule (sym of_p.is ∙ subst (λ (k : ℕ). slice_get rules k ≡ Some of_q.rule) (sym rule) of_q.is) in
      (sym of_p.named ∙ ap (λ (r : Rule). r.name) one_rule ∙ of_q.named, sym of_p.typing ∙ typing ∙ of_q.typing)

  never_earlier : (i j : ℕ) (a b : RuleProof) → i < j → slice_get read i ≡ Some a → slice_get read j ≡ Some b → pair_of a ≡ pair_of b → ⊥
  never_earlier i j a b less at_i at_j same =
      let (p, here, of_p) = beside (IsProofOf rules) is.proofs read i a is.each at_i in
      let (q, there, of_q) = beside (IsProofOf rules) is.proofs read j b is.each at_j in
      let before : slice_get (take j is.proofs) i ≡ Some p = take_at j is.proofs i p less here in
      let among : IsAmong (take j is.proofs) q = (i, p, slice_get_within (take j is.proofs) i p before, get_or_from_slice_get (take j is.proofs) i p p before, alike p q a b of_p of_q same) in
      (is.text_is.1 j q there).new among

  pub pairs_once : AreOfPairsOnce read
  pairs_once i j a b at_i at_j same = elim (cases_lt i j) [
    | inl less ↦ absurd (never_earlier i j a b less at_i at_j same)
    | inr past ↦ elim (cases_lt j i) [
      | inl less ↦ absurd (never_earlier j i b a less at_j at_i (sym same))
      | inr also ↦ omega arith
    ]
  ]

  -- the log of each proof that was read is stored, so that of each proof of the text is
  pub all_stored : (stored : StoredLogs) → AreDistinct (map (λ (r : Rule). r.name) rules) → All (IsLogStored stored) read → AreStored rules text stored
  all_stored stored distinct logs = record {
    proofs = is.proofs;
    text_is = is.text_is;
    each = λ proof place has named.
        let k = has.0 in
        let at : slice_get is.proofs k ≡ Some proof = slice_get-get_or is.proofs k proof has.1 ∙ ap (λ (p : Proof). Some p) has.2 in
        let (r, there, of) = across (IsProofOf rules) is.proofs read k proof is.each at in
        let log : log_of stored (r.rule, r.typing) ≡ Some r.log = All-contains (IsLogStored stored) read r logs (k, slice_get_within read k r there, get_or_from_slice_get read k r r there) in
        let here : place ≡ r.rule =
        distinct place r.rule proof.name (name_at rules place named.0 named.1 ∙ ap (λ (n : List ℕ). Some n) named.2) (name_at rules r.rule of.rule of.is ∙ ap (λ (n : List ℕ). Some n) of.named)
        in
        ap (λ (n : ℕ). log_of stored (n, proof.widths)) here ∙ ap (λ (w : List ℕ). log_of stored (r.rule, w)) (sym of.typing) ∙ log ∙ ap (λ (l : List Step). Some l) of.log;
  }

-- ---- one log after the other

pub one_more_stored : (front : List RuleProof) (proof : RuleProof) (rest : List RuleProof) (old new : StoredLogs)
    → AreOfPairsOnce (front ++ proof ∷ rest) → All (IsLogStored old) front → log_of new (pair_of proof) ≡ Some proof.log
    → ((pair : Pair) → pair ≢ pair_of proof → log_of new pair ≡ log_of old pair) → All (IsLogStored new) (front ++ proof ∷ [])
one_more_stored front proof rest old new once so_far stored others =
    All-append (IsLogStored new) front (proof ∷ [])
    (λ k d within.
    let q = get_or front k d in
    let at = left front (proof ∷ rest) k q (slice_get-get_or front k d within) in
    others (pair_of q) (λ same. let end : k ≡ length front = once k (length front) q proof at (seam front proof rest) same in absurd (omega arith)) ∙ so_far k d within)
    (one (IsLogStored new) proof stored)

-- ---- what follows for a table

pub kept_to : (rules : List Rule) (text : List ℕ) (stored : StoredLogs) (table : List Row) → AreStored rules text stored → All (IsUnrefutedIn stored) table → AreKeptTo rules text table
kept_to rules text stored table are unrefuted = record {
  proofs = are.proofs;
  text_is = are.text_is;
  unrefuted = λ proof row has held of.
      let log : log_of stored (row.rule, row.typing) ≡ Some proof.log = ap (λ (w : List ℕ). log_of stored (row.rule, w)) of.1 ∙ are.each proof row.rule has of.0 in
      let none : IfSome (Some proof.log) (λ log. IsUnrefutedBy log row.verdict) =
      subst (λ (o : Option (List Step)). IfSome o (λ log. IsUnrefutedBy log row.verdict)) log (All-contains (IsUnrefutedIn stored) table row unrefuted held)
      in
      none;
}
