-- What a module's text that does not begin with a gap begins with.
use Rattle.scan.proofs.Common.{◌≡◌, ◌≢◌, ℕ, zero, suc, ◌<◌, ◌≤◌, Bool, true, false, eqb, not, ◌||◌, List, [], ◌∷◌, length, take, drop, refl, sym, subst, ⊎_elim, ◌⊎◌, inl, inr, arith, Contains, false≢true, TokenKind, Label, Function, Group, Metadata, Quoted, is_bad, begins_with, in_gap, IsLongest, in_quotes, unquoted, is_quoted, is_name, is_plain_name, is_label, is_word, is_number, is_function, is_group, is_metadata, spells, IsLongestFront, HoldsZero, is_negative}
use Rattle.scan.specs.declared.ir.token.TokenKind.TheVariants.{End, Other, Word, Number, Register, Mark}
use Rattle.scan.specs.IrTokens.{is_register, IsLongestToken, Begins}
use Rattle.scan.proofs.Fronts.{which}

-- ---- the longest of all kinds

-- the prefix of this length is a token of the kind, unless the length is 0
pub record IsFound (text : List ℕ) (t : TokenKind × ℕ) : Type 0 where
  pub within : t.1 ≤ length text
  pub found : 0 < t.1 → spells t.0 (take t.1 text) (drop t.1 text) ≡ true

pub found_as : (kind : TokenKind) (text : List ℕ) (n : ℕ) → IsLongest (spells kind) text n → IsFound text (kind, n)
found_as kind text n h = record { within = h.within; found = h.found }

pub found_longer : (text : List ℕ) (a b t : TokenKind × ℕ) → (t ≡ a) ⊎ (t ≡ b) → IsFound text a → IsFound text b → IsFound text t
found_longer text a b t (inl e) h k = subst (IsFound text) (sym e) h
found_longer text a b t (inr e) h k = subst (IsFound text) (sym e) k

-- no prefix that passes is longer
pub record AtMost (passes : List ℕ → List ℕ → Bool) (text : List ℕ) (most : ℕ) : Type 0 where
  pub length_of : ℕ
  pub longest : IsLongest passes text length_of
  pub fits : length_of ≤ most

pub record AllAtMost (text : List ℕ) (most : ℕ) : Type 0 where
  pub label : AtMost (spells Label) text most
  pub word : AtMost (spells Word) text most
  pub number : AtMost (spells Number) text most
  pub register : AtMost (spells Register) text most
  pub function : AtMost (spells Function) text most
  pub group : AtMost (spells Group) text most
  pub metadata : AtMost (spells Metadata) text most
  pub quoted : AtMost (spells Quoted) text most
  pub mark : AtMost (spells Mark) text most

at_most : (passes : List ℕ → List ℕ → Bool) (text : List ℕ) (most : ℕ) → AtMost passes text most → (m : ℕ) → m ≤ length text → passes (take m text) (drop m text) ≡ true → m ≤ most
at_most passes text most h m l e = let le : m ≤ h.length_of = h.longest.longest m l e in omega (arith, h.fits)

pub longest_front : (text : List ℕ) (t : TokenKind × ℕ) → IsFound text t → AllAtMost text t.1 → IsLongestFront text t.0 t.1
longest_front text t h all = record { within = h.within; found = h.found; longest = longest }
  where
    longest : (kind : TokenKind) (m : ℕ) → m ≤ length text → spells kind (take m text) (drop m text) ≡ true → m ≤ t.1
    longest End m l e = absurd (false≢true e)
    longest Other m l e = absurd (false≢true e)
    longest Label m l e = at_most (spells Label) text t.1 all.label m l e
    longest Word m l e = at_most (spells Word) text t.1 all.word m l e
    longest Number m l e = at_most (spells Number) text t.1 all.number m l e
    longest Register m l e = at_most (spells Register) text t.1 all.register m l e
    longest Function m l e = at_most (spells Function) text t.1 all.function m l e
    longest Group m l e = at_most (spells Group) text t.1 all.group m l e
    longest Metadata m l e = at_most (spells Metadata) text t.1 all.metadata m l e
    longest Quoted m l e = at_most (spells Quoted) text t.1 all.quoted m l e
    longest Mark m l e = at_most (spells Mark) text t.1 all.mark m l e

-- ---- what a text begins with

-- the empty prefix is no token
pub spells-empty : (kind : TokenKind) (rest : List ℕ) → spells kind [] rest ≡ false
unfolding is_label is_name is_plain_name is_word is_number is_negative is_register is_function is_group is_metadata is_quoted
spells-empty End rest = refl
spells-empty Other rest = refl
spells-empty Label rest = refl
spells-empty Word rest = refl
spells-empty Number rest = refl
spells-empty Register rest = refl
spells-empty Function rest = refl
spells-empty Group rest = refl
spells-empty Metadata rest = refl
spells-empty Quoted rest = refl
spells-empty Mark rest = refl

pub longest_token : (text : List ℕ) (kind : TokenKind) (n : ℕ) → IsLongestFront text kind n → n ≢ 0 → IsLongestToken text kind n
longest_token text kind n h some = record { within = h.within; of_kind = h.found (omega arith); longest = h.longest }

pub begins_token : (text : List ℕ) (kind : TokenKind) (n : ℕ) → IsLongestToken text kind n → Begins text kind n
begins_token text End n h = absurd (false≢true h.of_kind)
begins_token text Other n h = absurd (false≢true h.of_kind)
begins_token text Label n h = h
begins_token text Word n h = h
begins_token text Number n h = h
begins_token text Register n h = h
begins_token text Function n h = h
begins_token text Group n h = h
begins_token text Metadata n h = h
begins_token text Quoted n h = h
begins_token text Mark n h = h

pub begins_other : (text : List ℕ) (kind : TokenKind) (n : ℕ) → IsLongestFront text kind n → n ≡ 0 → length text ≢ 0 → begins_with is_bad text ≡ false → begins_with in_gap text ≡ false → Begins text Other 1
begins_other text kind n h none some good no_gap = (record { visible = visible text some good no_gap; no_token = no_token }, refl)
  where
    visible : (text : List ℕ) → length text ≢ 0 → begins_with is_bad text ≡ false → begins_with in_gap text ≡ false → begins_with (λ b. not (is_bad b || in_gap b)) text ≡ true
    visible [] some good no_gap = absurd (some refl)
    visible (b ∷ text) some good no_gap = rw (good, no_gap) refl

    no_token : (other : TokenKind) (m : ℕ) → m ≤ length text → spells other (take m text) (drop m text) ≡ false
    no_token other zero l = spells-empty other text
    no_token other (suc m) l = ⊎_elim
        (λ (e : spells other (take (suc m) text) (drop (suc m) text) ≡ true). absurd (let le : suc m ≤ n = h.longest other (suc m) l e in omega arith))
        (λ (e : spells other (take (suc m) text) (drop (suc m) text) ≡ false). e)
        (which (spells other (take (suc m) text) (drop (suc m) text)))

-- ---- bytes in quotes

-- one byte has nothing between quotes
in_quotes-short : (bytes : List ℕ) → length bytes ≤ 1 → in_quotes bytes ≡ []
in_quotes-short [] h = refl
in_quotes-short (b ∷ []) h = ⊎_elim
    (λ (e : eqb b 34 ≡ true). rw e refl)
    (λ (e : eqb b 34 ≡ false). rw e refl)
    (which (eqb b 34))
in_quotes-short (b ∷ c ∷ bytes) h = absurd (omega arith)

pub short_holds_none : (bytes : List ℕ) → length bytes ≤ 1 → HoldsZero bytes → ⊥
unfolding unquoted
short_holds_none bytes h holds =
    let in_none : Contains (unquoted []) 0 = subst (λ (inner : List ℕ). Contains (unquoted inner) 0) (in_quotes-short bytes h) holds in
    omega (arith, in_none.1)
