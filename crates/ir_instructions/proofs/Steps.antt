-- Parsers one behind the other, and their tests.
use Rattle.ir_instructions.proofs.Common.{ℕ, ◌≡◌, Bool, true, false, cond, List, ◌∷◌, Option, Some, None, ap, ◌∙◌, Ok, Err, Result, refl, subst, Placed, Word, Fault, IrFaultKind, Part, Read, Reader, goes_on, or_left_out}

-- the parser gives only what the production spells
abbrev pub Reads : {A : Type 0} → Reader A → (A → Part) → Type 0
Reads {A} reader P = (tokens : List Placed) (x : A × List Placed) → reader tokens ≡ Ok x → P x.0 tokens x.1

abbrev pub read : {A : Type 0} → A → Result A (Fault IrFaultKind)
read x = Ok x

-- if two parsers in sequence succeed, the first did, and the second from there on
pub bind_ok : {A B : Type 0} (r : Read A) (f : A → Reader B) (y : B × List Placed) → goes_on r f ≡ Ok y → (x : A × List Placed) × (r ≡ Ok x) × (f x.0 x.1 ≡ Ok y)
bind_ok (Ok x) f y e = (x, refl, e)
bind_ok (Err d) f y e = absurd cc

pub ok_is : {A : Type 0} (x y : A) → read x ≡ read y → x ≡ y
ok_is x y e = cc

-- a predicate of the value that is given holds of the one that was read
pub read_as : {A : Type 0} (P : A → Type 0) (x y : A) → read x ≡ read y → P x → P y
read_as P x y e h = subst P (ok_is x y e) h

-- a test that succeeded
pub tested : {A : Type 0} (b : Bool) (x y : A) (d : Fault IrFaultKind) → cond b (read x) (Err d) ≡ Ok y → (b ≡ true) × (x ≡ y)
tested true x y d e = (refl, cc)
tested false x y d e = absurd cc

-- a word that is supported stands for what was read, and no more tokens were taken
pub not_left_out : {A : Type 0} (line : ℕ) (word : List ℕ) (found : Option A) (rest : List Placed) (x : A × List Placed) → or_left_out line word found rest ≡ Ok x → (found ≡ Some x.0) × (rest ≡ x.1)
not_left_out line word (Some y) rest x e = (read_as (λ z. Some y ≡ Some z.0) (y, rest) x e refl, read_as (λ z. rest ≡ z.1) (y, rest) x e refl)
not_left_out line word None rest x e = absurd cc

pub same_front : (line : ℕ) (word wanted : List ℕ) (rest behind : List Placed) → word ≡ wanted → rest ≡ behind → (line, Word word) ∷ rest ≡ (line, Word wanted) ∷ behind
same_front line word wanted rest behind same others = ap (λ (w : List ℕ). (line, Word w) ∷ rest) same ∙ ap (λ (ts : List Placed). (line, Word wanted) ∷ ts) others
