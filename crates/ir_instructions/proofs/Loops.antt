-- Repeated productions: how a loop reads them.
use Rattle.ir_instructions.proofs.Common.{◌≡◌, ◌<◌, ℕ, zero, suc, Bool, true, false, cond, List, [], ◌∷◌, ◌++◌, length, Ok, Err, refl, sym, ◌∙◌, ap, subst, append_assoc, arith, append-nil, Placed, Fault, Refusal, Refused, NoMemory, Fails, IrFaultKind, Part, Each, Read, Reader, goes_on, done, TakesSome, steps_at, repeat_at, another_at, each_at}
use Rattle.ir_instructions.proofs.Steps.{bind_ok, read_as}

-- two continuations that agree on what was read give the same
pub same_behind : {A B : Type 0} (r : Read A) (f g : A → Reader B) → ((x : A × List Placed) → r ≡ Ok x → f x.0 x.1 ≡ g x.0 x.1) → goes_on r f ≡ goes_on r g
same_behind (Ok x) f g h = h x refl
same_behind (Err e) f g h = refl

-- two branches that agree where the test holds give the same
pub same_if : {A : Type 0} (b : Bool) (x y z : A) → (b ≡ true → x ≡ y) → cond b x z ≡ cond b y z
same_if true x y z h = h refl
same_if false x y z h = refl

-- a bound of more steps than there are tokens changes nothing
steps_enough : {A : Type 0} (is_next : List Placed → Bool) (step : A → Reader A) → ((before : A) → TakesSome is_next (step before)) → (n m : ℕ) (before : A) (tokens : List Placed) → length tokens < n → length tokens < m → steps_at is_next step n before tokens ≡ steps_at is_next step m before tokens
unfolding steps_at
steps_enough is_next step some zero m before tokens p q = absurd (omega arith)
steps_enough is_next step some (suc n) zero before tokens p q = absurd (omega arith)
steps_enough is_next step some (suc n) (suc m) before tokens p q =
    same_if (is_next tokens) _ _ _ (λ next. same_behind (step before tokens) _ _ (λ x e.
    let fewer : length x.1 < length tokens = some before tokens x next e in
    steps_enough is_next step some n m x.0 x.1 (omega arith) (omega arith)))

-- ---- a loop goes on, has a fault or ends

pub repeat-more : {A : Type 0} (is_next : List Placed → Bool) (step : A → Reader A) → ((before : A) → TakesSome is_next (step before)) → (before : A) (tokens : List Placed) (x : A × List Placed) → is_next tokens ≡ true → step before tokens ≡ Ok x → repeat_at is_next step before tokens ≡ repeat_at is_next step x.0 x.1
unfolding steps_at
repeat-more is_next step some before tokens x next e =
    let fewer : length x.1 < length tokens = some before tokens x next e in
    rw (next, e) (steps_enough is_next step some (length tokens) (suc (length x.1)) x.0 x.1 (omega arith) (omega arith))

pub repeat-fault : {A : Type 0} (is_next : List Placed → Bool) (step : A → Reader A) (before : A) (tokens : List Placed) (fault : Fault IrFaultKind) → is_next tokens ≡ true → step before tokens ≡ Err fault → repeat_at is_next step before tokens ≡ Err fault
unfolding steps_at
repeat-fault is_next step before tokens fault next fails = rw (next, fails) refl

pub repeat-done : {A : Type 0} (is_next : List Placed → Bool) (step : A → Reader A) (before : A) (tokens : List Placed) → is_next tokens ≡ false → repeat_at is_next step before tokens ≡ Ok (before, tokens)
unfolding steps_at
repeat-done is_next step before tokens none = rw none refl

-- ---- the same for productions

-- appending what a production gives takes the tokens that it takes
another_takes : {A : Type 0} (is_next : List Placed → Bool) (part : Reader A) → TakesSome is_next part → (front : List A) → TakesSome is_next (another_at part front)
another_takes is_next part some front tokens x next e = taken (part tokens) refl e
  where
    taken : (r : Read _) → part tokens ≡ r → goes_on r (λ y. done (front ++ y ∷ [])) ≡ Ok x → length x.1 < length tokens
    taken (Ok y) one e = let fewer : length y.1 < length tokens = some tokens y next one in let same : y.1 ≡ x.1 = cc in rw (← same) fewer
    taken (Err d) one e = absurd cc

pub each-more : {A : Type 0} (is_next : List Placed → Bool) (part : Reader A) → TakesSome is_next part → (front : List A) (tokens : List Placed) (x : A × List Placed) → is_next tokens ≡ true → part tokens ≡ Ok x → each_at is_next part front tokens ≡ each_at is_next part (front ++ x.0 ∷ []) x.1
each-more is_next part some front tokens x next e = repeat-more is_next (another_at part) (another_takes is_next part some) front tokens (front ++ x.0 ∷ [], x.1) next (rw e refl)

pub each-fault : {A : Type 0} (is_next : List Placed → Bool) (part : Reader A) (front : List A) (tokens : List Placed) (total : Read (List A)) (e : Refusal (Fault IrFaultKind)) → is_next tokens ≡ true → Fails e (part tokens) → each_at is_next part front tokens ≡ total → Fails e total
each-fault is_next part front tokens total NoMemory next fails so_far = tt
each-fault is_next part front tokens total (Refused fault) next fails so_far = sym so_far ∙ repeat-fault is_next (another_at part) front tokens fault next (rw fails refl)

pub each-done : {A : Type 0} (is_next : List Placed → Bool) (part : Reader A) (front : List A) (tokens : List Placed) → is_next tokens ≡ false → each_at is_next part front tokens ≡ Ok (front, tokens)
each-done is_next part front tokens none = repeat-done is_next (another_at part) front tokens none

-- ---- soundness of a loop

-- a relation that holds of no step, and of a step before steps of which it holds, holds of the steps that were read;
-- and behind them no other is next
pub repeat-is : {A : Type 0} (is_next : List Placed → Bool) (step : A → Reader A) (R : A → List Placed → A → List Placed → Type 0)
    → ((a : A) (tokens : List Placed) → R a tokens a tokens)
    → ((a : A) (tokens : List Placed) (x : A × List Placed) (b : A) (rest : List Placed) → is_next tokens ≡ true → step a tokens ≡ Ok x → R x.0 x.1 b rest → R a tokens b rest)
    → (n : ℕ) (a : A) (tokens : List Placed) (x : A × List Placed) → steps_at is_next step n a tokens ≡ Ok x → R a tokens x.0 x.1 × (is_next x.1 ≡ false)
unfolding steps_at
repeat-is is_next step R none more zero a tokens x e = absurd cc
repeat-is is_next step R none more (suc n) a tokens x e = begun (is_next tokens) refl e (λ y f. repeat-is is_next step R none more n y.0 y.1 x f)
  where
    begun : (b : Bool) → is_next tokens ≡ b → cond b (goes_on (step a tokens) (steps_at is_next step n)) (Ok (a, tokens)) ≡ Ok x
        → ((y : _ × List Placed) → steps_at is_next step n y.0 y.1 ≡ Ok x → R y.0 y.1 x.0 x.1 × (is_next x.1 ≡ false)) → R a tokens x.0 x.1 × (is_next x.1 ≡ false)
    begun true h e others = let s = bind_ok (step a tokens) _ _ e in let o = others s.0 s.2 in (more a tokens s.0 x.0 x.1 h s.1 o.0, o.1)
    begun false h e others = read_as (λ y. R a tokens y.0 y.1 × (is_next y.1 ≡ false)) (a, tokens) x e (none a tokens, h)

-- the list is those in front, and behind them what the tokens spell
abbrev pub Adds : {A : Type 0} → (A → Part) → List A → List Placed → List A → List Placed → Type 0
Adds {A} P front tokens all rest = (others : List A) × (all ≡ front ++ others) × Each P others tokens rest

pub each-is : {A : Type 0} (is_next : List Placed → Bool) (part : Reader A) (P : A → Part) → ((tokens : List Placed) (x : A × List Placed) → is_next tokens ≡ true → part tokens ≡ Ok x → P x.0 tokens x.1)
    → (front : List A) (tokens : List Placed) (x : List A × List Placed) → each_at is_next part front tokens ≡ Ok x → Adds P front tokens x.0 x.1 × (is_next x.1 ≡ false)
each-is is_next part P is front tokens x e =
    repeat-is is_next (another_at part) (Adds P) (λ a ts. ([], sym (append-nil a), refl)) more (suc (length tokens)) front tokens x e
  where
    more : (a : List _) (ts : List Placed) (y : List _ × List Placed) (b : List _) (rest : List Placed) → is_next ts ≡ true → another_at part a ts ≡ Ok y → Adds P y.0 y.1 b rest → Adds P a ts b rest
    more a ts y b rest next e =
        let p = bind_ok (part ts) _ _ e in
        read_as (λ z. Adds P z.0 z.1 b rest → Adds P a ts b rest) (a ++ p.0.0 ∷ [], p.0.1) y p.2
        (λ (others, all, each). (p.0.0 ∷ others, all ∙ append_assoc a (p.0.0 ∷ []) others, (p.0.1, is ts p.0 next p.1, each)))

-- the same with none in front
pub all_read : {A : Type 0} (P : A → Part) (tokens : List Placed) (all : List A) (rest : List Placed) → Adds P [] tokens all rest → Each P all tokens rest
all_read P tokens all rest (others, same, each) = subst (λ xs. Each P xs tokens rest) (sym same) each

-- ---- completeness of a loop

-- A production for which this holds is read each time that it is repeated: the lookahead finds it where it begins, it
-- takes some tokens, it is read if what follows may follow it, and it may itself follow one.
pub record ReadsEach {A : Type 0} (is_next : List Placed → Bool) (part : Reader A) (P : A → Part) (MayFollow : List Placed → Type 0) : Type 0 where
  pub takes : TakesSome is_next part
  pub next : (x : A) (tokens rest : List Placed) → P x tokens rest → is_next tokens ≡ true
  pub follows : (x : A) (tokens rest : List Placed) → P x tokens rest → MayFollow tokens
  pub reads : (x : A) (tokens rest : List Placed) → P x tokens rest → MayFollow rest → part tokens ≡ Ok (x, rest)

each-follows : {A : Type 0} (is_next : List Placed → Bool) (part : Reader A) (P : A → Part) (MayFollow : List Placed → Type 0) → ReadsEach is_next part P MayFollow → (xs : List A) (tokens rest : List Placed) → Each P xs tokens rest → MayFollow rest → MayFollow tokens
each-follows is_next part P MayFollow r [] tokens rest same may = rw same may
each-follows is_next part P MayFollow r (x ∷ xs) tokens rest (middle, one, more) may = r.follows x tokens middle one

pub each-of : {A : Type 0} (is_next : List Placed → Bool) (part : Reader A) (P : A → Part) (MayFollow : List Placed → Type 0) → ReadsEach is_next part P MayFollow
    → (xs front : List A) (tokens rest : List Placed) → Each P xs tokens rest → is_next rest ≡ false → MayFollow rest → each_at is_next part front tokens ≡ Ok (front ++ xs, rest)
each-of is_next part P MayFollow r [] front tokens rest same none may = rw (same, append-nil front) (each-done is_next part front rest none)
each-of is_next part P MayFollow r (x ∷ xs) front tokens rest (middle, one, more) none may =
    let first : part tokens ≡ Ok (x, middle) = r.reads x tokens middle one (each-follows is_next part P MayFollow r xs middle rest more may) in
    each-more is_next part r.takes front tokens (x, middle) (r.next x tokens middle one) first
    ∙ each-of is_next part P MayFollow r xs (front ++ x ∷ []) middle rest more none may
    ∙ ap (λ ys. Ok (ys, rest)) (append_assoc front (x ∷ []) xs)

-- a production that is dropped is read as often as it is spelled
pub repeat-of : (is_next : List Placed → Bool) (part : Reader (Unit {0})) (P : Part) → TakesSome is_next part → ((tokens rest : List Placed) → P tokens rest → is_next tokens ≡ true) → ((tokens rest : List Placed) → P tokens rest → part tokens ≡ Ok (tt, rest))
    → (times : List (Unit {0})) (tokens rest : List Placed) → Each (λ once. P) times tokens rest → is_next rest ≡ false → repeat_at is_next (λ before. part) tt tokens ≡ Ok (tt, rest)
repeat-of is_next part P takes next reads [] tokens rest same none = rw same (repeat-done is_next (λ before. part) tt rest none)
repeat-of is_next part P takes next reads (once ∷ times) tokens rest (middle, one, more) none =
    repeat-more is_next (λ before. part) (λ before. takes) tt tokens (tt, middle) (next tokens middle one) (reads tokens middle one)
    ∙ repeat-of is_next part P takes next reads times middle rest more none
