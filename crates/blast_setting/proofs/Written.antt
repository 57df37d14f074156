-- Values written as lists of truth values, from which they are read again.
use Rattle.blast_setting.proofs.Common.{◌≡◌, ℕ, zero, suc, ◌+◌, ◌*◌, ◌/◌, ◌%◌, ◌^◌, ◌<◌, ◌≤◌, ◌==◌, Bool, true, false, if◌then◌else◌, List, [], ◌∷◌, ◌++◌, length, take, drop, Some, refl, sym, ap, subst, ◌∙◌, arith, get_or, append_assoc, add-zero, add-one, drop-cons, slice_get, sum_by, pow-succ', pow-le-pow_right, take-append_seam, drop-append-add, get_or-append_seam, length-take, sum_by-cons, same_Some, slice_get_within, get_or_from_slice_get, bits, Number, IsValueOf, Value, Poison, Bits, bit, number, number-below, value_read, number_read, all_read, number_bits}
use Rattle.std.proofs.lemmas.List.{length-append}

-- the binary digits of a number, the lowest first
digits : ℕ → ℕ → List Bool
digits zero n = []
digits (suc N) n = (n % 2 == 1) ∷ digits N (n / 2)

length-digits : (N n : ℕ) → length (digits N n) ≡ N
unfolding digits
length-digits zero n = refl
length-digits (suc N) n = ap suc (length-digits N (n / 2))

bit-one : (r : ℕ) → r < 2 → bit (r == 1) ≡ r
bit-one zero h = refl
bit-one (suc zero) h = refl
bit-one (suc (suc r)) h = absurd (omega arith)

number-digits : (N n : ℕ) → n < 2 ^ N → number (digits N n) ≡ n
unfolding digits
number-digits zero n below = omega arith
number-digits (suc N) n below =
    let doubled : n < 2 * 2 ^ N = rw (pow-succ' 2 N) at below in
    omega (arith, bit-one (n % 2) (omega arith), number-digits N (n / 2) (omega arith))

-- a value of iN as truth values: its N bits, and then its poison bit
pub written : ℕ → Value → List Bool
written N Poison = digits N 0 ++ true ∷ []
written N (Bits a) = digits N a.number ++ false ∷ []

pub length-written : (N : ℕ) (v : Value) → length (written N v) ≡ N + 1
unfolding written
length-written N Poison = length-append (digits N 0) (true ∷ []) ∙ ap (λ n. n + 1) (length-digits N 0)
length-written N (Bits a) = length-append (digits N a.number) (false ∷ []) ∙ ap (λ n. n + 1) (length-digits N a.number)

-- the value that is read from a word and a poison bit behind it
read_at : (N : ℕ) (word : List Bool) (poison : Bool) (rest : List Bool) → length word ≡ N → value_read N ((word ++ poison ∷ []) ++ rest) ≡ (if poison then Poison else bits N (number word))
read_at N word poison rest width =
    let parts : (word ++ poison ∷ []) ++ rest ≡ word ++ poison ∷ rest = append_assoc word (poison ∷ []) rest in
    let last : get_or (word ++ poison ∷ rest) N false ≡ poison = ap (λ n. get_or (word ++ poison ∷ rest) n false) (sym width) ∙ get_or-append_seam word poison rest false in
    let low : take N (word ++ poison ∷ rest) ≡ word = ap (λ n. take n (word ++ poison ∷ rest)) (sym width) ∙ take-append_seam word (poison ∷ rest) in
    rw (parts, last, low) refl

of_width : (N : ℕ) (a : Number) → a.width ≡ N → bits N a.number ≡ Bits a
of_width N a width = let made : ℕ → Value = λ M. bits M a.number in ap made (sym width)

pub read-written : (N : ℕ) (v : Value) (rest : List Bool) → IsValueOf N v → value_read N (written N v ++ rest) ≡ v
unfolding written
read-written N Poison rest fit = read_at N (digits N 0) true rest (length-digits N 0)
read-written N (Bits a) rest fit = read_at N (digits N a.number) false rest (length-digits N a.number) ∙ rw (number-digits N a.number fit.1) (of_width N a fit.0)

-- a number of iN as truth values, its N bits
pub number_written : ℕ → Number → List Bool
number_written N a = digits N a.number

pub length-number_written : (N : ℕ) (a : Number) → length (number_written N a) ≡ number_bits N
unfolding number_written
length-number_written N a = length-digits N a.number

pub read-number_written : (N : ℕ) (a : Number) (rest : List Bool) → IsValueOf N (Bits a) → number_read N (number_written N a ++ rest) ≡ a
unfolding number_written
read-number_written N a rest fit =
    let low : take N (digits N a.number ++ rest) ≡ digits N a.number = ap (λ n. take n (digits N a.number ++ rest)) (sym (length-digits N a.number)) ∙ take-append_seam (digits N a.number) rest in
    let made : ℕ → Number = λ M. record { width = M; number = a.number } in
    rw (low, number-digits N a.number fit.1) (ap made (sym fit.0))

pub value_read-fits : (N : ℕ) (read : List Bool) → IsValueOf N (value_read N read)
value_read-fits N read =
    elim (get_or read N false) as (λ b. IsValueOf N (if b then Poison else bits N (number (take N read)))) [
      | true ↦ tt
      | false ↦
          let shorter : length (take N read) ≤ N = omega (arith, length-take N read) in
          let positive : 0 < 2 = omega arith in
          (refl, omega (arith, number-below (take N read), pow-le-pow_right positive shorter))
    ]

pub number_read-fits : (N : ℕ) (read : List Bool) → IsValueOf N (Bits (number_read N read))
number_read-fits N read =
    let shorter : length (take N read) ≤ N = omega (arith, length-take N read) in
    let positive : 0 < 2 = omega arith in
    (refl, omega (arith, number-below (take N read), pow-le-pow_right positive shorter))

-- there is one thing for each width, and it fits that width
abbrev pub FitAll : {X : Type 0} → (ℕ → X → Type 0) → List ℕ → List X → Type 0
FitAll Fits widths xs = (length xs ≡ length widths) × ((k : ℕ) (N : ℕ) (x : _) → slice_get widths k ≡ Some N → slice_get xs k ≡ Some x → Fits N x)

-- Things that are written one behind the other are read again, if each one is read again from what is written of it.
module _ {X : Type 0} (one : ℕ → List Bool → X) (size : ℕ → ℕ) (Fits : ℕ → X → Type 0) (write : ℕ → X → List Bool)
    (long : (N : ℕ) (x : X) → length (write N x) ≡ size N) (again : (N : ℕ) (x : X) (rest : List Bool) → Fits N x → one N (write N x ++ rest) ≡ x)
    (fits : (N : ℕ) (read : List Bool) → Fits N (one N read)) where
  pub all_written : List ℕ → List X → List Bool
  all_written [] xs = []
  all_written (N ∷ widths) [] = []
  all_written (N ∷ widths) (x ∷ xs) = write N x ++ all_written widths xs

  pub length-all_written : (widths : List ℕ) (xs : List X) → length xs ≡ length widths → length (all_written widths xs) ≡ sum_by size widths
  unfolding all_written
  length-all_written [] xs same = refl
  length-all_written (N ∷ widths) [] same = absurd (omega arith)
  length-all_written (N ∷ widths) (x ∷ xs) same =
      omega (arith, length-append (write N x) (all_written widths xs), long N x, length-all_written widths xs (omega arith), sum_by-cons size N widths)

  drop-written : (N : ℕ) (x : X) (rest : List Bool) → drop (size N) (write N x ++ rest) ≡ rest
  drop-written N x rest =
      ap (λ n. drop n (write N x ++ rest)) (sym (long N x) ∙ sym (add-zero (length (write N x)))) ∙ drop-append-add (write N x) rest 0

  pub read-all_written : (widths : List ℕ) (xs : List X) (rest : List Bool) → FitAll Fits widths xs → all_read one size widths (all_written widths xs ++ rest) ≡ xs
  unfolding all_written
  read-all_written [] [] rest fit = refl
  read-all_written [] (x ∷ xs) rest fit = absurd (omega (arith, fit.0))
  read-all_written (N ∷ widths) [] rest fit = absurd (omega (arith, fit.0))
  read-all_written (N ∷ widths) (x ∷ xs) rest fit =
      let parts : (write N x ++ all_written widths xs) ++ rest ≡ write N x ++ (all_written widths xs ++ rest) = append_assoc (write N x) (all_written widths xs) rest in
      let first : one N (write N x ++ (all_written widths xs ++ rest)) ≡ x = again N x (all_written widths xs ++ rest) (fit.1 0 N x refl refl) in
      let behind : drop (size N) (write N x ++ (all_written widths xs ++ rest)) ≡ all_written widths xs ++ rest = drop-written N x (all_written widths xs ++ rest) in
      let others = read-all_written widths xs rest (omega (arith, fit.0), λ k M u at there. fit.1 (suc k) M u at there) in
      rw (parts, first, behind, others) refl

  -- what follows the things that were written is behind them
  pub behind-all_written : (widths : List ℕ) (xs : List X) (rest : List Bool) → length xs ≡ length widths → drop (sum_by size widths) (all_written widths xs ++ rest) ≡ rest
  behind-all_written widths xs rest same =
      ap (λ n. drop n (all_written widths xs ++ rest)) (sym (length-all_written widths xs same) ∙ sym (add-zero (length (all_written widths xs)))) ∙ drop-append-add (all_written widths xs) rest 0

  -- each thing that is read fits its width
  pub all_read-fit : (widths : List ℕ) (read : List Bool) (k N : ℕ) (x : X) → slice_get widths k ≡ Some N → slice_get (all_read one size widths read) k ≡ Some x → Fits N x
  all_read-fit [] read k N x at there = absurd (omega (arith, slice_get_within [] k N at))
  all_read-fit (M ∷ widths) read zero N x at there = subst (λ n. Fits n x) (same_Some M N at) (subst (Fits M) (same_Some (one M read) x there) (fits M read))
  all_read-fit (M ∷ widths) read (suc k) N x at there = all_read-fit widths (drop (size M) read) k N x at there

  pub length-all_read : (widths : List ℕ) (read : List Bool) → length (all_read one size widths read) ≡ length widths
  length-all_read [] read = refl
  length-all_read (N ∷ widths) read = ap suc (length-all_read widths (drop (size N) read))

-- the next one of several things is read
pub all_read-next : {X : Type 0} (one : ℕ → List Bool → X) (size : ℕ → ℕ) (widths : List ℕ) (k N : ℕ) (read : List Bool) → slice_get widths k ≡ Some N
    → all_read one size (drop k widths) read ≡ one N read ∷ all_read one size (drop (k + 1) widths) (drop (size N) read)
all_read-next one size widths k N read at =
    let within : k < length widths = slice_get_within widths k N at in
    let rest : drop k widths ≡ N ∷ drop (k + 1) widths = rw add-one (drop-cons widths k N within ∙ ap (λ n. n ∷ drop (suc k) widths) (get_or_from_slice_get widths k N N at)) in
    rw rest refl
