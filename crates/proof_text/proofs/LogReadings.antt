-- How logs and proofs are read, and where that stops.
use Rattle.proof_text.proofs.Common.{◌≡◌, ℕ, zero, suc, ◌+◌, ◌-◌, ◌^◌, ◌<◌, ◌≤◌, inl, inr, List, [], ◌∷◌, ◌++◌, length, flat_map, codes, refl, ap, subst, sym, ◌∙◌, append_assoc, length-append, arith, AllByRecursion, append-nil, append_cancel_left, Step, Proof, most_bytes, numeral, clause_text, step_text, log_text, head_text, proof_text, IsStep, IsName, AreWidths, Stops, Fixed, Numbers, IsEnd, held, Steps, Logs, Heads, Proofs}
use Rattle.proof_text.proofs.Lines.{flat_push}
use Rattle.proof_text.proofs.Decodings.{no_digit_10, same_numbers, same_steps, log_is, log_whole, same_heads}
use Rattle.proof_text.proofs.Readings.{Next, stops_behind, some_bytes}
use Rattle.proof_text.proofs.StepReadings.{all_push}

abbrev empty_step : Step
empty_step = record { clause = []; hints = [] }

-- steps without literals and hints
abbrev copies : ℕ → List Step
copies zero = []
copies (suc n) = empty_step ∷ copies n

length_copies : (n : ℕ) → length (copies n) ≡ n
length_copies zero = refl
length_copies (suc n) = ap (λ (k : ℕ). suc k) (length_copies n)

all_copies : (n : ℕ) → AllByRecursion IsStep (copies n)
all_copies zero = tt
all_copies (suc n) = ((tt, tt), all_copies n)

all_both : {X : Type 0} (P : X → Type 0) (xs ys : List X) → AllByRecursion P xs → AllByRecursion P ys → AllByRecursion P (xs ++ ys)
all_both P [] ys h k = k
all_both P (x ∷ xs) ys h k = (h.0, all_both P xs ys h.1 k)

flat_both : (xs ys : List Step) → flat_map step_text (xs ++ ys) ≡ flat_map step_text xs ++ flat_map step_text ys
flat_both [] ys = refl
flat_both (x ∷ xs) ys = ap (λ (k : List ℕ). step_text x ++ k) (flat_both xs ys) ∙ sym (append_assoc (step_text x) (flat_map step_text xs) (flat_map step_text ys))

log_first : Next Logs [] (Fixed (codes "log "))
log_first = record {
  into = λ word m. (numeral 0 ++ 10 ∷ [], ([], tt, ap (λ (k : List ℕ). k ++ (numeral 0 ++ 10 ∷ [])) m ∙ sym (log_whole [])));
  out = λ behind word after l e.
      (codes "log ", numeral (length l.0) ++ 10 ∷ (flat_map step_text l.0 ++ after), refl, e ∙ ap (λ (k : List ℕ). k ++ after) l.2 ∙ log_is l.0 after);
}

pub log_stops : (text rest : List ℕ) → Stops (Fixed (codes "log ")) text rest → Stops Logs text rest
log_stops text rest s = stops_behind Logs (Fixed (codes "log ")) [] text text rest log_first refl s

count_end : (end : ℕ) → IsEnd 10 10 end → end ≡ 10
count_end end (inl e) = e
count_end end (inr e) = e

log_second : Next Logs (codes "log ") (Numbers 0 (2 ^ 64 - 1) 10 10)
log_second = record {
  into = λ word m.
      let steps = copies m.0 in
      let t = flat_map step_text (copies m.0) in (
        t,
        (
          steps,
          all_copies m.0,
          ap (λ (k : List ℕ). codes "log " ++ k)
              (ap (λ (k : List ℕ). k ++ t) (m.4 ∙ ap (λ (b : ℕ). numeral m.0 ++ b ∷ []) (count_end m.1 m.3)) ∙ append_assoc (numeral m.0) (10 ∷ []) t
              ∙ ap (λ (k : ℕ). numeral k ++ 10 ∷ t) (sym (length_copies m.0)))
              ∙ sym (log_whole steps),
        ),
      );
  out = λ behind word after l e.
      let t = flat_map step_text l.0 ++ after in
      let f : behind ≡ numeral (length l.0) ++ 10 ∷ t = append_cancel_left (codes "log ") behind (numeral (length l.0) ++ 10 ∷ t) (e ∙ ap (λ (k : List ℕ). k ++ after) l.2 ∙ log_is l.0 after) in
      (numeral (length l.0) ++ 10 ∷ [], t, (length l.0, 10, (omega arith, omega arith), inl refl, refl), f ∙ sym (append_assoc (numeral (length l.0)) (10 ∷ []) t));
}

pub count_stops : (text mid rest : List ℕ) → text ≡ codes "log " ++ mid → Stops (Numbers 0 (2 ^ 64 - 1) 10 10) mid rest → Stops Logs text rest
count_stops text mid rest e s = stops_behind Logs (Numbers 0 (2 ^ 64 - 1) 10 10) (codes "log ") text mid rest log_second e s

-- what was read of a log so far
pub record LogSoFar (count : ℕ) (text rest : List ℕ) (steps : List Step) : Type 0 where
  pub number : ℕ
  pub count_is : count ≡ held number
  pub within : length steps ≤ number
  pub all : AllByRecursion IsStep steps
  pub goes : text ≡ codes "log " ++ (numeral number ++ 10 ∷ (flat_map step_text steps ++ rest))

pub log_more : (count : ℕ) (text mid rest : List ℕ) (steps : List Step) (s : Step) → LogSoFar count text mid steps → length steps < count → IsStep s × (mid ≡ step_text s ++ rest) → LogSoFar count text rest (steps ++ s ∷ [])
log_more count text mid rest steps s f h is =
    let t = flat_map step_text steps in
    let count_is : count ≡ held f.number = f.count_is in
    let l : length (steps ++ s ∷ []) ≡ length steps + 1 = length-append steps (s ∷ []) in
    record {
      number = f.number;
      count_is = count_is;
      within = omega arith;
      all = all_push IsStep steps s f.all is.0;
      goes = f.goes ∙ ap (λ (k : List ℕ). codes "log " ++ (numeral f.number ++ 10 ∷ k))
          (ap (λ (k : List ℕ). t ++ k) is.1 ∙ sym (append_assoc t (step_text s) rest) ∙ ap (λ (k : List ℕ). k ++ rest) (sym (flat_push step_text steps s)));
    }

-- each step has a byte
long_step : (s : Step) → 0 < length (step_text s)
long_step s =
    let c = clause_text s.clause in
    let h = flat_map (λ (x : ℕ). codes " " ++ numeral x) s.hints in
    subst (λ (l : List ℕ). 0 < length l) (append_assoc c h (10 ∷ [])) (some_bytes (c ++ h) 10 [])

pub long_log : (steps : List Step) → length steps ≤ length (flat_map step_text steps)
long_log [] = omega arith
long_log (s ∷ steps) =
    let l : 0 < length (step_text s) = long_step s in
    let i : length steps ≤ length (flat_map step_text steps) = long_log steps in
    let a : length (step_text s ++ flat_map step_text steps) ≡ length (step_text s) + length (flat_map step_text steps) = length-append (step_text s) (flat_map step_text steps) in
    omega arith

pub log_done : (count : ℕ) (text rest : List ℕ) (steps : List Step) → LogSoFar count text rest steps → count ≤ length steps → length text ≤ most_bytes → AllByRecursion IsStep steps × (text ≡ log_text steps ++ rest)
log_done count text rest steps f h short =
    let t = flat_map step_text steps in
    let count_is : count ≡ held f.number = f.count_is in
    let within : length steps ≤ f.number = f.within in
    let a : length t + length rest ≡ length (t ++ rest) = sym (length-append t rest) in
    let b : length (numeral f.number ++ 10 ∷ (t ++ rest)) ≡ length (numeral f.number) + length (10 ∷ (t ++ rest)) = length-append (numeral f.number) (10 ∷ (t ++ rest)) in
    let c : length text ≡ length (codes "log " ++ (numeral f.number ++ 10 ∷ (t ++ rest))) = ap length f.goes in
    let d : length steps ≤ length t = long_log steps in
    let few : length steps ≤ most_bytes = omega arith in
    let number_is : f.number ≡ length steps = omega arith in
    (f.all, f.goes ∙ ap (λ (k : ℕ). codes "log " ++ (numeral k ++ 10 ∷ (t ++ rest))) number_is ∙ sym (log_is steps rest))

step_behind : (steps others : List Step) (behind after : List ℕ) → AllByRecursion IsStep others → length steps < length others → flat_map step_text steps ++ behind ≡ flat_map step_text others ++ after
    → (found : List ℕ) × (left : List ℕ) × Steps found × (behind ≡ found ++ left)
step_behind steps [] behind after h l e = absurd (omega arith)
step_behind [] (y ∷ others) behind after h l e = (step_text y, flat_map step_text others ++ after, (y, h.0, refl), e ∙ append_assoc (step_text y) (flat_map step_text others) after)
step_behind (x ∷ steps) (y ∷ others) behind after h l e =
    let p = same_steps x y (flat_map step_text steps ++ behind) (flat_map step_text others ++ after) (sym (append_assoc (step_text x) (flat_map step_text steps) behind) ∙ e ∙ append_assoc (step_text y) (flat_map step_text others) after) in
    step_behind steps others behind after h.1 (omega arith) p.1

log_third : (number : ℕ) (steps : List Step) → AllByRecursion IsStep steps → length steps < number → Next Logs (codes "log " ++ (numeral number ++ 10 ∷ flat_map step_text steps)) Steps
log_third number steps h few = record {
  into = λ word m.
      let t = flat_map step_text steps in
      let others = m.0 ∷ copies (number - length steps - 1) in
      let u = flat_map step_text (copies (number - length steps - 1)) in
      let all = steps ++ others in
      let c : length (copies (number - length steps - 1)) ≡ number - length steps - 1 = length_copies (number - length steps - 1) in
      let a : length all ≡ length steps + length others = length-append steps others in
      let l : length all ≡ number = omega arith in
      let flat : flat_map step_text all ≡ t ++ (step_text m.0 ++ u) = flat_both steps others in (
        u,
        (
          all,
          all_both IsStep steps others h (m.1, all_copies (number - length steps - 1)),
          ap (λ (k : List ℕ). codes "log " ++ k) (append_assoc (numeral number) (10 ∷ t) (word ++ u)
              ∙ ap (λ (k : List ℕ). numeral number ++ 10 ∷ k) (ap (λ (k : List ℕ). t ++ (k ++ u)) m.2 ∙ sym flat)
              ∙ ap (λ (k : ℕ). numeral k ++ 10 ∷ flat_map step_text all) (sym l))
              ∙ sym (log_whole all),
        ),
      );
  out = λ behind word after l e.
      let t = flat_map step_text steps in
      let u = flat_map step_text l.0 in
      let f : codes "log " ++ (numeral number ++ 10 ∷ (t ++ behind)) ≡ codes "log " ++ (numeral (length l.0) ++ 10 ∷ (u ++ after))
      = ap (λ (k : List ℕ). codes "log " ++ k) (sym (append_assoc (numeral number) (10 ∷ t) behind)) ∙ e ∙ ap (λ (k : List ℕ). k ++ after) l.2 ∙ log_is l.0 after in
      let g = append_cancel_left (codes "log ") (numeral number ++ 10 ∷ (t ++ behind)) (numeral (length l.0) ++ 10 ∷ (u ++ after)) f in
      let n = same_numbers number (length l.0) 10 10 (t ++ behind) (u ++ after) no_digit_10 no_digit_10 g in
      let same : number ≡ length l.0 = n.0 in
      step_behind steps l.0 behind after l.1 (omega arith) n.2;
}

pub step_in_log_stops : (count : ℕ) (text mid rest : List ℕ) (steps : List Step) → LogSoFar count text mid steps → length steps < count → Stops Steps mid rest → Stops Logs text rest
step_in_log_stops count text mid rest steps f h s =
    let t = flat_map step_text steps in
    let count_is : count ≡ held f.number = f.count_is in
    let few : length steps < f.number = omega arith in
    stops_behind Logs Steps (codes "log " ++ (numeral f.number ++ 10 ∷ t)) text mid rest (log_third f.number steps f.all few)
    (f.goes ∙ ap (λ (k : List ℕ). codes "log " ++ k) (sym (append_assoc (numeral f.number) (10 ∷ t) mid))) s

-- ---- proofs

proof_first : Next Proofs [] Heads
proof_first = record {
  into = λ word m.
      let p : Proof = record { name = m.0; widths = m.1; log = [] } in
      (log_text [], (p, (m.2, m.3, tt), ap (λ (k : List ℕ). k ++ log_text []) m.4));
  out = λ behind word after l e. (head_text l.0.name l.0.widths, log_text l.0.log ++ after, (l.0.name, l.0.widths, l.1.0, l.1.1, refl), e ∙ ap (λ (k : List ℕ). k ++ after) l.2 ∙ append_assoc (head_text l.0.name l.0.widths) (log_text l.0.log) after);
}

pub head_in_proof_stops : (text rest : List ℕ) → Stops Heads text rest → Stops Proofs text rest
head_in_proof_stops text rest s = stops_behind Proofs Heads [] text text rest proof_first refl s

proof_second : (rule widths : List ℕ) → IsName rule → AreWidths widths → Next Proofs (head_text rule widths) Logs
proof_second rule widths h k = record {
  into = λ word m.
      let p : Proof = record { name = rule; widths = widths; log = m.0 } in
      ([], (p, (h, k, m.1), ap (λ (l : List ℕ). head_text rule widths ++ l) (append-nil word ∙ m.2)));
  out = λ behind word after l e.
      let s = same_heads rule l.0.name widths l.0.widths behind (log_text l.0.log ++ after) h l.1.0 k.0 l.1.1.0 (e ∙ ap (λ (x : List ℕ). x ++ after) l.2 ∙ append_assoc (head_text l.0.name l.0.widths) (log_text l.0.log) after) in
      (log_text l.0.log, after, (l.0.log, l.1.2, refl), s.2);
}

pub log_in_proof_stops : (rule widths text mid rest : List ℕ) → IsName rule → AreWidths widths → text ≡ head_text rule widths ++ mid → Stops Logs mid rest → Stops Proofs text rest
log_in_proof_stops rule widths text mid rest h k e s = stops_behind Proofs Logs (head_text rule widths) text mid rest (proof_second rule widths h k) e s

pub proof_read : (name widths : List ℕ) (log : List Step) (text mid rest : List ℕ) → text ≡ head_text name widths ++ mid → mid ≡ log_text log ++ rest → text ≡ proof_text (record { name = name; widths = widths; log = log }) ++ rest
proof_read name widths log text mid rest e f = e ∙ ap (λ (k : List ℕ). head_text name widths ++ k) f ∙ sym (append_assoc (head_text name widths) (log_text log) rest)
