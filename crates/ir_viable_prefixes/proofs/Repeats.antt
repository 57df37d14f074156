-- Repeated productions.
use Rattle.ir_viable_prefixes.proofs.Common.{◌≡◌, ◌<◌, ℕ, zero, suc, Bool, true, false, List, [], ◌∷◌, ◌++◌, length, Ok, Err, refl, sym, ap, subst, ◌∙◌, append_assoc, arith, Token, Placed, Fault, IrFaultKind, Read, Reader, goes_on, ◌>>=◌, done, TakesSome, steps_at, repeat_at, another_at, each_at, repeat-more, repeat-done}
use Rattle.ir_viable_prefixes.proofs.FlagRuns.{ReadsApart, done_apart, both_apart, loop_apart}
use Rattle.ir_viable_prefixes.proofs.Choices.{AsksNext, Tested, tested_next, Opens, OpensRecords, opens_wider, transfer, And, reasons_moved}
use Rattle.ir_viable_prefixes.proofs.Outcomes.{Follow, next_map, Ended, Sample, Why, Reasons, ReasonsIf, Lifts, OutcomeIf, StaysNew, apart_new, outcome_both, reasons_lift, reasons_first, reasons_second, GoodIf, done-good}

-- What a loop needs of its steps: lookahead of one token says whether another is next; a step takes some tokens, and
-- may stop before tokens of D and before each token that begins another. Tokens of one sort get the same lookahead;
-- words are of one sort if V holds, or, where no step is next, if W does.
pub record Steps {A : Type 0} (V : Type 0) (D F : Follow) (W : Type 0) (is_next : List Placed → Bool) (step : A → Reader A) : Type 0 where
  pub asks : AsksNext is_next
  pub takes : (a : A) → TakesSome is_next (step a)
  pub ends : (t : Token) → F t → Tested is_next false t
  pub ends_step : (t : Token) → F t → D t
  pub next_ends_step : (t : Token) → Tested is_next true t → D t
  pub opens : Opens is_next true V
  pub shuts : Opens is_next false W
  pub records : (a : A) (b : Bool) → OpensRecords is_next b (Tested is_next true) (repeat_at is_next step a) F

pub loop_sample : {A : Type 0} (V : Type 0) (D F : Follow) (W : Type 0) (is_next : List Placed → Bool) (step : A → Reader A) → Steps V D F W is_next step → (E : Follow) → ((t : Token) → F t → E t) → (a : A) → Sample E (repeat_at is_next step a) F
loop_sample V D F W is_next step s E enters a =
    (a, [], λ tokens f. (repeat-done is_next step a tokens (tested_next is_next s.asks false tokens (next_map F (Tested is_next false) tokens s.ends f)), next_map F E tokens enters f))

-- where another step is next, the loop is that step and then the loop
pub one_step : {A : Type 0} (is_next : List Placed → Bool) (step : A → Reader A) → ((a : A) → TakesSome is_next (step a)) → (a : A) (tokens : List Placed) → is_next tokens ≡ true → repeat_at is_next step a tokens ≡ (step a >>= repeat_at is_next step) tokens
unfolding steps_at
one_step {A} is_next step takes a tokens next = by (step a tokens) refl
  where
    by : (r : Read A) → step a tokens ≡ r → repeat_at is_next step a tokens ≡ goes_on r (repeat_at is_next step)
    by (Ok x) is = repeat-more is_next step takes a tokens x next is
    by (Err e) is = rw (next, is) refl

-- What a loop does with tokens, if reasons of refusals by its steps are reasons of the loop.
pub repeat_outcomes : {A : Type 0} (V : Type 0) (D F : Follow) (W : Type 0) (is_next : List Placed → Bool) (step : A → Reader A) → Steps V D F W is_next step → (X : A → Why) (Y : Follow → A → Why)
    → ((E : Follow) → ((t : Token) → Tested is_next true t → E t) → (a : A) (tokens : List Placed) → is_next tokens ≡ true → Lifts V (Unit {0}) (Tested is_next true) D F (step a) (repeat_at is_next step) (X a) (Y D) (Y E a) tokens)
    → ((a : A) (tokens : List Placed) → StaysNew V (Unit {0}) (Tested is_next true) D F (step a) (repeat_at is_next step) (Y D) tokens)
    → ((a : A) (tokens : List Placed) → Ended tokens → is_next tokens ≡ true → OutcomeIf V (Tested is_next true) (step a) D (Unit {0}) (X a) tokens (step a tokens))
    → (n : ℕ) (E : Follow) → ((t : Token) → F t → E t) → ((t : Token) → Tested is_next true t → E t) → (a : A) (tokens : List Placed) → length tokens < n → Ended tokens → OutcomeIf (Unit {0}) E (repeat_at is_next step a) F W (Y E a) tokens (repeat_at is_next step a tokens)
repeat_outcomes V D F W is_next step s X Y lifts new good zero E enters next_enters a tokens short e = absurd (omega arith)
repeat_outcomes {A} V D F W is_next step s X Y lifts new good (suc n) E enters next_enters a tokens short e =
    by (λ x fewer ended. repeat_outcomes V D F W is_next step s X Y lifts new good n D s.ends_step s.next_ends_step x.0 x.1 (omega arith) ended) (is_next tokens) refl
  where
    by : ((x : A × List Placed) → length x.1 < length tokens → Ended x.1 → OutcomeIf (Unit {0}) D (repeat_at is_next step x.0) F W (Y D x.0) x.1 (repeat_at is_next step x.0 x.1)) → (b : Bool) → is_next tokens ≡ b
        → OutcomeIf (Unit {0}) E (repeat_at is_next step a) F W (Y E a) tokens (repeat_at is_next step a tokens)
    by more false none =
        let nothing : GoodIf W (And E (Tested is_next false)) (done a) F W = done-good (λ t f. (enters t f, s.ends t f)) a in
        subst (OutcomeIf (Unit {0}) E (repeat_at is_next step a) F W (Y E a) tokens) (sym (repeat-done is_next step a tokens none))
        (transfer is_next s.asks false (done a) (repeat_at is_next step a) (λ ts h. repeat-done is_next step a ts h) W (Unit {0}) W (λ w. tt) s.shuts (And E (Tested is_next false)) E F (opens_wider is_next false (Tested is_next true) E (repeat_at is_next step a) F next_enters (s.records a false)) (Y E a) (Y E a) (λ t d. d.1) (λ t d. d.0) tokens (λ front t behind there found why. why) none (Ok (a, tokens)) (nothing.outcome tokens e))
    by more true next =
        subst (OutcomeIf (Unit {0}) E (repeat_at is_next step a) F W (Y E a) tokens) (sym (one_step is_next step s.takes a tokens next))
        (transfer is_next s.asks true (step a >>= repeat_at is_next step) (repeat_at is_next step a) (one_step is_next step s.takes a) V (Unit {0}) W (λ v. tt) s.opens (Tested is_next true) E F (opens_wider is_next true (Tested is_next true) E (repeat_at is_next step a) F next_enters (s.records a true)) (Y E a) (Y E a) (λ t d. d) next_enters
        tokens (λ front t behind there found why. why) next (goes_on (step a tokens) (repeat_at is_next step))
        (outcome_both V (Unit {0}) W (Tested is_next true) D F (step a) (repeat_at is_next step) (X a) (Y D) (Y E a) tokens (lifts E next_enters a tokens next) (new a tokens) (λ x. loop_sample V D F W is_next step s D s.ends_step x) (step a tokens) refl (good a tokens e next)
        (λ x is ended. more x (s.takes a tokens x next is) ended)))

-- a token that fits a step fits the loop, and one that a step refuses the loop refuses
pub loop_lifts : {A : Type 0} (V : Type 0) (D F : Follow) (W : Type 0) (is_next : List Placed → Bool) (step : A → Reader A) → Steps V D F W is_next step
    → (E : Follow) → ((t : Token) → Tested is_next true t → E t) → (a : A) (tokens : List Placed) → is_next tokens ≡ true
    → Lifts V (Unit {0}) (Tested is_next true) D F (step a) (repeat_at is_next step) (ReasonsIf V (Tested is_next true) (step a) D) (λ x. Reasons D (repeat_at is_next step x) F) (Reasons E (repeat_at is_next step a) F) tokens
loop_lifts {A} V D F W is_next step s E next_enters a tokens next = record {
  first = λ front t behind there found why.
      over front t behind there found (reasons_first V (Tested is_next true) D F (step a) (repeat_at is_next step) (λ x. loop_sample V D F W is_next step s D s.ends_step x) front t found why);
  second = λ x is o front t behind there found why.
      over (o.front ++ front) t behind (o.there ∙ ap (λ (ts : List Placed). o.front ++ ts) there ∙ sym (append_assoc o.front front (t ∷ behind))) found
      (reasons_second V (Unit {0}) (Tested is_next true) D F (step a) (repeat_at is_next step) (λ y. loop_sample V D F W is_next step s D s.ends_step y) tokens x o front t behind there found why);
}
  where
    over : (front : List Placed) (t : Placed) (behind : List Placed) → tokens ≡ front ++ t ∷ behind → (found : Fault IrFaultKind) → ReasonsIf V (Tested is_next true) (step a >>= repeat_at is_next step) F front t found → Reasons E (repeat_at is_next step a) F front t found
    over =
        reasons_moved is_next s.asks true (step a >>= repeat_at is_next step) (repeat_at is_next step a) (one_step is_next step s.takes a) V (Unit {0}) (λ v. tt) s.opens (Tested is_next true) E F (λ v d. d) next_enters tokens next
        (opens_wider is_next true (Tested is_next true) E (repeat_at is_next step a) F next_enters (s.records a true))

pub repeat-good : {A : Type 0} {E F : Follow} {W : Type 0} (V : Type 0) (D : Follow) (is_next : List Placed → Bool) (step : A → Reader A) → Steps V D F W is_next step → ((a : A) → ReadsApart (step a))
    → ((a : A) (tokens : List Placed) → Ended tokens → is_next tokens ≡ true → OutcomeIf V (Tested is_next true) (step a) D (Unit {0}) (ReasonsIf V (Tested is_next true) (step a) D) tokens (step a tokens))
    → ((t : Token) → F t → E t) → ((t : Token) → Tested is_next true t → E t) → (a : A) → GoodIf (Unit {0}) E (repeat_at is_next step a) F W
repeat-good {A} {E} {F} {W} V D is_next step s apart good enters next_enters a = record {
  sample = loop_sample V D F W is_next step s E enters a;
  outcome = λ tokens e.
      repeat_outcomes V D F W is_next step s (λ b. ReasonsIf V (Tested is_next true) (step b) D) (λ G b. Reasons G (repeat_at is_next step b) F) (loop_lifts V D F W is_next step s)
      (λ b ts. apart_new V (Unit {0}) (Tested is_next true) D F (step b) (repeat_at is_next step) (λ c. Reasons D (repeat_at is_next step c) F) ts (apart b)) good (suc (length tokens)) E enters next_enters a tokens (omega arith) e;
  apart = loop_apart is_next step apart a;
}

-- ---- the same for lists of productions

pub another_takes : {A : Type 0} (is_next : List Placed → Bool) (part : Reader A) → TakesSome is_next part → (front : List A) → TakesSome is_next (another_at part front)
another_takes {A} is_next part some front tokens x next e = taken (part tokens) refl e
  where
    taken : (r : Read A) → part tokens ≡ r → goes_on r (λ y. done (front ++ y ∷ [])) ≡ Ok x → length x.1 < length tokens
    taken (Ok y) one e = let fewer : length y.1 < length tokens = some tokens y next one in let same : y.1 ≡ x.1 = cc in rw (← same) fewer
    taken (Err d) one e = absurd cc

-- what a list needs of its production
pub record Parts {A : Type 0} (V : Type 0) (D F : Follow) (W : Type 0) (is_next : List Placed → Bool) (part : Reader A) : Type 0 where
  pub asks : AsksNext is_next
  pub takes : TakesSome is_next part
  pub ends : (t : Token) → F t → Tested is_next false t
  pub ends_part : (t : Token) → F t → D t
  pub next_ends_part : (t : Token) → Tested is_next true t → D t
  pub opens : Opens is_next true V
  pub shuts : Opens is_next false W
  pub records : (front : List A) (b : Bool) → OpensRecords is_next b (Tested is_next true) (each_at is_next part front) F

pub steps_of : {A : Type 0} {V : Type 0} {D F : Follow} {W : Type 0} {is_next : List Placed → Bool} {part : Reader A} → Parts V D F W is_next part → Steps V D F W is_next (another_at part)
steps_of {is_next = is_next} {part = part} p = record { asks = p.asks; takes = another_takes is_next part p.takes; ends = p.ends; ends_step = p.ends_part; next_ends_step = p.next_ends_part; opens = p.opens; shuts = p.shuts; records = p.records }

pub another : {A : Type 0} (V : Type 0) (E D : Follow) (part : Reader A) (before : List A) (tokens : List Placed) → OutcomeIf V E part D (Unit {0}) (ReasonsIf V E part D) tokens (part tokens)
    → OutcomeIf V E (another_at part before) D (Unit {0}) (ReasonsIf V E (another_at part before) D) tokens (another_at part before tokens)
another {A} V E D part before tokens good =
    outcome_both V (Unit {0}) (Unit {0}) E D D part more (ReasonsIf V E part D) (λ x. Reasons D (more x) D) (ReasonsIf V E (another_at part before) D) tokens (reasons_lift V (Unit {0}) E D D part more (λ x. (end x).sample) tokens)
    (λ x is o found p failed left. absurd cc) (λ x. (end x).sample) (part tokens) refl good (λ x is ended. (end x.0).outcome x.1 ended)
  where
    more : A → Reader (List A)
    more x = done (before ++ x ∷ [])

    end : (x : A) → GoodIf (Unit {0}) D (done (before ++ x ∷ [])) D (Unit {0})
    end x = done-good (λ t d. d) (before ++ x ∷ [])

pub another_apart : {A : Type 0} (part : Reader A) → ReadsApart part → (before : List A) → ReadsApart (another_at part before)
another_apart part apart before = both_apart part (λ x. done (before ++ x ∷ [])) apart (λ x. done_apart (before ++ x ∷ []))

pub each-good : {A : Type 0} {E F : Follow} {W : Type 0} (V : Type 0) (D : Follow) (is_next : List Placed → Bool) (part : Reader A) → Parts V D F W is_next part → ReadsApart part
    → ((tokens : List Placed) → Ended tokens → is_next tokens ≡ true → OutcomeIf V (Tested is_next true) part D (Unit {0}) (ReasonsIf V (Tested is_next true) part D) tokens (part tokens))
    → ((t : Token) → F t → E t) → ((t : Token) → Tested is_next true t → E t) → (front : List A) → GoodIf (Unit {0}) E (each_at is_next part front) F W
each-good V D is_next part p apart good enters next_enters front =
    repeat-good V D is_next (another_at part) (steps_of p) (λ before. another_apart part apart before) (λ before tokens e next. another V (Tested is_next true) D part before tokens (good tokens e next)) enters next_enters front
