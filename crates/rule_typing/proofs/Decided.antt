-- Whether widths are a solution for sets, and whether they are a typing, is decided.
use Rattle.rule_typing.proofs.Common.{◌≡◌, ◌↔◌, inl, inr, ℕ, zero, suc, ◌<◌, List, [], ◌∷◌, length, get_or, Bool, true, false, Option, None, Some, refl, sym, subst, arith, slice_get, slice_index, Contains, map_dec, dec_le, dec_lt, cases_eq, slice_get-get_or, slice_get_within, get_or_from_slice_get, Rule, IsTyping, Widths, IsClassified, HasClasses, ComesBefore, MayHaveWidth, Has, Solves}
use Rattle.rule_typing.proofs.Deciding.{dec_both, dec_either, dec_number}
use Rattle.rule_typing.proofs.CastLines.{dec_lines}
use Rattle.rule_typing.proofs.Listing.{Listing, listed}
use Rattle.rule_typing.proofs.Solved.{typing_from, typing_may}
use Rattle.rule_typing.proofs.Typed.{count_widths}
use Rattle.rule_typing.proofs.WidthDecisions.{dec_width}

dec_below_all : (Q : ℕ → Type 0) → ((c : ℕ) → Dec (Q c)) → (n : ℕ) → Dec ((c : ℕ) → c < n → Q c)
dec_below_all Q each zero = yes (λ c less. absurd (omega arith))
dec_below_all Q each (suc n) = map_dec
    (λ (here, before) c less. elim (cases_eq c n) [ inl same ↦ subst Q (sym same) here | inr other ↦ before c (omega arith) ])
    (λ all. (all n (omega arith), λ c less. all c (omega arith)))
    (dec_both (each n) (dec_below_all Q each n))

-- sets
dec_true : (o : Option Bool) → Dec (o ≡ Some true)
dec_true None = no (λ e. cc)
dec_true (Some true) = yes refl
dec_true (Some false) = no (λ e. cc)

dec_has : (set : Widths) (N : ℕ) → Dec (Has set N)
dec_has set N = dec_both (dec_le 1 N) (dec_true (slice_get set.has N))

pub dec_solves : (rule : Rule) (sets : List Widths) (widths : List ℕ) → Dec (Solves rule sets widths)
dec_solves rule sets widths =
    let empty : Widths = record { has = [] } in
    map_dec
    (λ (count, (each, smaller)). record {
      chosen = record { count = count; each = λ c set at. subst (λ s. Has s (slice_index widths c)) (get_or_from_slice_get sets c set empty at) (each c (slice_get_within sets c set at)) };
      smaller = smaller;
    })
    (λ solves. (solves.chosen.count, (λ c less. solves.chosen.each c (get_or sets c empty) (slice_get-get_or sets c empty less), solves.smaller)))
    (dec_both (dec_number (length widths) (length sets)) (dec_both (dec_below_all (λ c. Has (get_or sets c empty) (slice_index widths c)) (λ c. dec_has (get_or sets c empty) (slice_index widths c)) (length sets)) (dec_lines rule widths)))

pub dec_before : (xs ys : List ℕ) → Dec (ComesBefore xs ys)
dec_before [] [] = no (λ h. h)
dec_before [] (y ∷ ys) = yes tt
dec_before (x ∷ xs) [] = no (λ h. h)
dec_before (x ∷ xs) (y ∷ ys) = dec_either (dec_lt x y) (dec_both (dec_number x y) (dec_before xs ys))

-- typings
dec_typing : (rule : Rule) (n : ℕ) → IsClassified rule → HasClasses rule n → (typing : List ℕ) → Dec (IsTyping rule typing)
dec_typing rule n classified counted typing = map_dec
    (λ (count, (may, below)). typing_from rule n typing classified counted count may below)
    (λ is. (count_widths rule typing n counted is, (typing_may rule n typing counted is, is.smaller)))
    (dec_both (dec_number (length typing) n) (dec_both (dec_below_all (λ c. MayHaveWidth rule c (slice_index typing c)) (λ c. dec_width rule c (slice_index typing c)) n) (dec_lines rule typing)))

one_listed : (P : List ℕ → Type 0) → Listing P → Dec ((t : List ℕ) × P t)
one_listed P lists = one lists.all lists.which
  where
    one : (all : List (List ℕ)) → ((t : List ℕ) → Contains all t ↔ P t) → Dec ((t : List ℕ) × P t)
    one [] which = no (λ (t, p). let (k, within, is) = (which t).1 p in omega arith)
    one (t ∷ all) which = yes (t, (which t).0 (0, omega arith, refl))

pub typing_decided : (rule : Rule) (n : ℕ) → IsClassified rule → HasClasses rule n → Dec ((typing : List ℕ) × IsTyping rule typing)
typing_decided rule n classified counted =
    one_listed (IsTyping rule)
    (listed n 65 (IsTyping rule) (dec_typing rule n classified counted)
    (λ typing is. (count_widths rule typing n counted is, λ c less. let may = typing_may rule n typing counted is c less in omega (arith, may.within.1))))
