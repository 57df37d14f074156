-- Steps that may fail, and tests between them, taken apart.
use Rattle.rule_tokens.proofs.Common.{◌≡◌, ℕ, Bool, true, false, cond, List, Option, Some, None, Ok, Err, Result, refl, inl, inr, ◌⊎◌, subst, RuleFault, ◌>>=◌, or_left_out, Token}

abbrev pub done : {A : Type 0} → A → Result A RuleFault
done x = Ok x

-- where two steps gave something, the first one did
pub bind_ok : {A B : Type 0} (r : Result A RuleFault) (f : A → Result B RuleFault) (y : B) → (r >>= f) ≡ Ok y → (x : A) × (r ≡ Ok x) × (f x ≡ Ok y)
bind_ok (Ok x) f y e = (x, refl, e)
bind_ok (Err d) f y e = absurd cc

-- the same as an eliminator
pub bound : {A B G : Type 0} (r : Result A RuleFault) (f : A → Result B RuleFault) (y : B) → (r >>= f) ≡ Ok y → ((x : A) → r ≡ Ok x → f x ≡ Ok y → G) → G
bound (Ok x) f y e next = next x refl e
bound (Err d) f y e next = absurd cc

pub ok_is : {A : Type 0} (x y : A) → done x ≡ done y → x ≡ y
ok_is x y e = cc

-- what holds of the value that was built holds of the one that was read
pub read_as : {A : Type 0} (P : A → Type 0) (x y : A) → done x ≡ done y → P x → P y
read_as P x y e h = subst P (ok_is x y e) h

-- a test whose other answer is a fault was passed
pub tested : {A : Type 0} (b : Bool) (x y : A) (d : RuleFault) → cond b (done x) (Err d) ≡ Ok y → (b ≡ true) × (x ≡ y)
tested true x y d e = (refl, cc)
tested false x y d e = absurd cc

-- the same for a test before a step
pub passed : {A : Type 0} (b : Bool) (r : Result A RuleFault) (y : A) (d : RuleFault) → cond b r (Err d) ≡ Ok y → (b ≡ true) × (r ≡ Ok y)
passed true r y d e = (refl, e)
passed false r y d e = absurd cc

pub refused_not : {A : Type 0} (b : Bool) (r : Result A RuleFault) (y : A) (d : RuleFault) → cond b (Err d) r ≡ Ok y → (b ≡ false) × (r ≡ Ok y)
refused_not true r y d e = absurd cc
refused_not false r y d e = (refl, e)

-- where no word is left out, the word's meaning is what was read, and only the word was taken
pub not_left_out : {A : Type 0} (line : ℕ) (word : List ℕ) (found : Option A) (rest : List Token) (x : A × List Token) → or_left_out line word found rest ≡ Ok x → (found ≡ Some x.0) × (rest ≡ x.1)
not_left_out line word (Some y) rest x e = (read_as (λ z. Some y ≡ Some z.0) (y, rest) x e refl, read_as (λ z. rest ≡ z.1) (y, rest) x e refl)
not_left_out line word None rest x e = absurd cc

pub guarded : {A : Type 0} (b : Bool) (x y : A) → cond b (Some x) None ≡ Some y → (b ≡ true) × (x ≡ y)
guarded true x y e = (refl, cc)
guarded false x y e = absurd cc

-- a test was answered the one way or the other
pub chosen : {A : Type 0} (b : Bool) (x y z : A) → cond b x y ≡ z → ((b ≡ true) × (x ≡ z)) ⊎ ((b ≡ false) × (y ≡ z))
chosen true x y z e = inl (refl, e)
chosen false x y z e = inr (refl, e)
