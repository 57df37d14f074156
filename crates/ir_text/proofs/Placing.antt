-- Where tokens may be written, by context and by the bytes behind them.
use Rattle.ir_text.proofs.Common.{◌≡◌, ◌≢◌, ℕ, ◌<◌, true, false, eqb, List, Option, Some, None, codes, refl, ⊎_elim, eq-eqb, eqb-true, arith, bytes_eq, bytes_eq-Decides, begins_name, is_digit, is_letter, is_name_byte, which, AtEntry, InHeader, InBody, begins_kept, extent_of, goes_on, takes_group, takes_line}
use Rattle.ir_tokens.specs.declared.place.Extent.TheVariants as extents

-- ---- what stands behind a token

pub space_stops : goes_on 32 ≡ false
unfolding is_name_byte begins_name is_letter is_digit
space_stops = refl

pub feed_stops : goes_on 10 ≡ false
unfolding is_name_byte begins_name is_letter is_digit
feed_stops = refl

pub open_paren_stops : goes_on 40 ≡ false
unfolding is_name_byte begins_name is_letter is_digit
open_paren_stops = refl

pub close_paren_stops : goes_on 41 ≡ false
unfolding is_name_byte begins_name is_letter is_digit
close_paren_stops = refl

pub comma_stops : goes_on 44 ≡ false
unfolding is_name_byte begins_name is_letter is_digit
comma_stops = refl

pub equals_stops : goes_on 61 ≡ false
unfolding is_name_byte begins_name is_letter is_digit
equals_stops = refl

-- ---- gaps

-- ---- contexts

pub itself_behind_no_word : (line : ℕ) (bytes : List ℕ) → extent_of (InHeader None) line bytes ≡ extents.Itself
unfolding extent_of
itself_behind_no_word line bytes = ⊎_elim
    (λ (h : bytes_eq bytes (codes "(") ≡ true). rw h refl)
    (λ (h : bytes_eq bytes (codes "(") ≡ false). rw h refl)
    (which (bytes_eq bytes (codes "(")))

pub itself_behind_no_word_in_body : (line : ℕ) (bytes : List ℕ) → extent_of (InBody None) line bytes ≡ extents.Itself
unfolding extent_of
itself_behind_no_word_in_body line bytes = ⊎_elim
    (λ (h : bytes_eq bytes (codes "(") ≡ true). rw h refl)
    (λ (h : bytes_eq bytes (codes "(") ≡ false). rw h refl)
    (which (bytes_eq bytes (codes "(")))

pub itself_in_header : (word : Option ℕ) (line : ℕ) (bytes : List ℕ) → bytes ≢ codes "(" → extent_of (InHeader word) line bytes ≡ extents.Itself
unfolding extent_of
itself_in_header word line bytes other = ⊎_elim
    (λ (h : bytes_eq bytes (codes "(") ≡ true). absurd (other ((bytes_eq-Decides bytes (codes "(")).0 h)))
    (λ (h : bytes_eq bytes (codes "(") ≡ false). rw h refl)
    (which (bytes_eq bytes (codes "(")))

pub itself_in_body : (word : Option ℕ) (line : ℕ) (bytes : List ℕ) → bytes ≢ codes "(" → extent_of (InBody word) line bytes ≡ extents.Itself
unfolding extent_of
itself_in_body word line bytes other = ⊎_elim
    (λ (h : bytes_eq bytes (codes "(") ≡ true). absurd (other ((bytes_eq-Decides bytes (codes "(")).0 h)))
    (λ (h : bytes_eq bytes (codes "(") ≡ false). rw h refl)
    (which (bytes_eq bytes (codes "(")))

pub itself_at_entry : (before : Option ℕ) (line : ℕ) (bytes : List ℕ) → begins_kept bytes ≡ false → extent_of (AtEntry before) line bytes ≡ extents.Itself
unfolding extent_of
itself_at_entry before line bytes e = rw e refl

-- the word `define` begins no kept line
pub define_begins_none : begins_kept (codes "define") ≡ false
unfolding begins_kept
define_begins_none = refl

-- a kept line may be written first in a text, and on a line behind another token's
pub first_line : (line : ℕ) → takes_line (AtEntry None) line ≡ true
first_line line = refl

pub later_line : (before line : ℕ) → before < line → takes_line (AtEntry (Some before)) line ≡ true
later_line before line less = ⊎_elim
    (λ (h : eqb before line ≡ true). absurd (let same : before ≡ line = eqb-true before line h in omega arith))
    (λ (h : eqb before line ≡ false). rw h refl)
    (which (eqb before line))

-- a kept group may be written behind a word on its line
pub same_line : (before line : ℕ) → before ≡ line → takes_group (InHeader (Some before)) line ≡ true
same_line before line e = eq-eqb before line e
