-- The entries at the front of a text, and the tokens that are left behind them.
use Rattle.ir_reader.proofs.Common.{◌≡◌, ℕ, ◌<◌, ◌≤◌, true, false, not, Bool, IsTrue, List, [], ◌∷◌, ◌++◌, length, Option, Ok, refl, ap, sym, subst, ◌∙◌, append_assoc, append-nil, IfSome, then_some, Fault, Refusal, Refused, NoMemory, IfRefused, Fails, IrFaultKind, TokenReader, AreTokens, HasPassed, HasCome, seen, Placed, End, RawEntry, Part, Each, Is, each_at, each-more, each-fault, SpellsEntry, is_end, begins_entry, entry_at, entries_at, module_from, most_bytes, IsRaw, IsTextFault, misfit, entry, entry_at-is, entry_at-of, entry_is_next, entry-takes, HasRead, HasLeft}
use Rattle.ir_tokens.specs.declared.token.Placed.{Placed as ScannedPlaced}

each_push : {A : Type 0} (P : A → Part) (xs : List A) (x : A) (tokens between rest : List Placed) → Each P xs tokens between → P x between rest → Each P (xs ++ x ∷ []) tokens rest
each_push P [] x tokens between rest same one = (rest, subst (λ l. P x l rest) (sym same) one, refl)
each_push P (y ∷ xs) x tokens between rest (middle, first, others) one = (middle, first, each_push P xs x middle between rest others one)

-- tokens all of which the first entry takes are one entry
pub whole_is : (tokens rest : List Placed) (e : RawEntry) (takes_all : Bool) (found : Option RawEntry) → entry_at tokens ≡ Ok (e, rest) → (IsTrue takes_all → rest ≡ []) → found ≡ then_some takes_all e → IfSome found (λ x. SpellsEntry x tokens [])
whole_is tokens rest e true found read all is = rw is (subst (SpellsEntry e tokens) (all refl) (entry_at-is tokens (e, rest) read))
whole_is tokens rest e false found read all is = rw is tt

-- one call of the reader took these tokens behind those before
abbrev pub Came : TokenReader → List Placed → Bool → TokenReader → Type 0
Came before taken ends after = (text : List ℕ) (front : List Placed) → HasPassed text front before → HasCome text (front ++ taken) ends after

-- into an empty list it took them alone
pub came_alone : (before after : TokenReader) (old new : List ScannedPlaced) (ends : Bool) → old ≡ [] → ((text : List ℕ) (front : List Placed) → HasPassed text (front ++ seen old) before → HasCome text (front ++ seen new) ends after) → Came before (seen new) ends after
came_alone before after old new ends none come text front h = come text front (subst (λ l. HasPassed text l before) (sym (ap (λ l. front ++ seen l) none ∙ append-nil front)) h)

module _ (before after : TokenReader) (taken : List Placed) where
  -- the tokens that were taken are one more entry
  pub read_more : (e : RawEntry) → Came before taken false after → SpellsEntry e taken [] → (text : List ℕ) (front : List RawEntry) → HasRead text front before → HasRead text (front ++ e ∷ []) after
  read_more e came whole text front read = record {
    tokens = read.tokens ++ taken;
    passed = came text read.tokens read.passed;
    spelled = λ rest. subst (λ l. Each SpellsEntry (front ++ e ∷ []) l rest) (sym (append_assoc read.tokens taken rest))
        (each_push SpellsEntry front e (read.tokens ++ (taken ++ rest)) (taken ++ rest) rest (read.spelled (taken ++ rest)) (entry e rest taken [] whole));
  }

  -- they are the last tokens, or the ones behind them were taken too
  pub left_last : Came before taken true after → (text : List ℕ) (front : List RawEntry) → HasRead text front before → HasLeft text front taken
  left_last came text front read = record { tokens = read.tokens ++ taken; are_tokens = came text read.tokens read.passed; spelled = read.spelled taken }

  pub left_rest : (all : List Placed) → Came before taken false after → ((text : List ℕ) (front : List Placed) → HasPassed text (front ++ taken) after → AreTokens text (front ++ all))
      → (text : List ℕ) (front : List RawEntry) → HasRead text front before → HasLeft text front all
  left_rest all came rest text front read = record { tokens = read.tokens ++ all; are_tokens = rest text read.tokens (came text read.tokens read.passed); spelled = read.spelled all }

-- ---- tokens that are left

end_is : (tokens : List Placed) → is_end tokens ≡ true → (rest : List Placed) × Is End tokens rest
end_is ((line, End) ∷ rest) is = (rest, (line, refl))
end_is tokens is = absurd cc

-- entries are parsed the same behind others in front
resume : (xs front : List RawEntry) (tokens left : List Placed) → Each SpellsEntry xs tokens left → each_at begins_entry entry_at front tokens ≡ each_at begins_entry entry_at (front ++ xs) left
resume [] front tokens left same = rw (same, append-nil front) refl
resume (x ∷ xs) front tokens left (middle, one, more) =
    each-more begins_entry entry_at entry-takes front tokens (x, middle) (entry_is_next x tokens middle one) (entry_at-of x tokens middle one tt)
    ∙ resume xs (front ++ x ∷ []) middle left more
    ∙ ap (λ ys. each_at begins_entry entry_at ys left) (append_assoc front (x ∷ []) xs)

module _ (text : List ℕ) (front : List RawEntry) (left : List Placed) (h : HasLeft text front left) where
  pub left_more : (e : RawEntry) (rest : List Placed) → SpellsEntry e left rest → HasLeft text (front ++ e ∷ []) rest
  left_more e rest spelled = record { tokens = h.tokens; are_tokens = h.are_tokens; spelled = each_push SpellsEntry front e h.tokens left rest h.spelled spelled }

  pub left_none : is_end left ≡ true → IsRaw text (record { entries = front })
  left_none ends = let (rest, end) = end_is left ends in record { tokens = h.tokens; are_tokens = h.are_tokens; spelled = (rest, (left, h.spelled, end)) }

  pub left_fault : (e : Refusal (Fault IrFaultKind)) → is_end left ≡ false → Fails e (entry_at left) → length text ≤ most_bytes → IfRefused e (IsTextFault text)
  unfolding entries_at
  left_fault NoMemory none fails within = tt
  left_fault (Refused fault) none fails within =
      misfit within h.tokens h.are_tokens
      (ap module_from (resume front [] h.tokens left h.spelled ∙ each-fault begins_entry entry_at front left (each_at begins_entry entry_at front left) (Refused fault) (ap not none) fails refl))

-- an entry takes some of the tokens that are left
pub left_smaller : (left rest : List Placed) (e : RawEntry) → is_end left ≡ false → entry_at left ≡ Ok (e, rest) → length rest < length left
left_smaller left rest e none read = entry-takes left (e, rest) (ap not none) read
