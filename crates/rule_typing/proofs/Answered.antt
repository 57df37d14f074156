-- What is answered once no typing is left to find, or one too many is found.
use Rattle.rule_typing.proofs.Common.{◌≡◌, ◌⊎◌, inl, inr, ℕ, ◌<◌, ◌≤◌, List, [], ◌∷◌, ◌++◌, length, None, Some, arith, length-append, slice_get, Contains, Rule, Widths, IsClassified, HasClasses, MayChoose, ComesBefore, AreAllTypings, HasExactly, Solves}
use Rattle.rule_typing.proofs.Decided.{dec_solves, dec_before}
use Rattle.rule_typing.proofs.Deciding.{dec_both}
use Rattle.rule_typing.proofs.Found.{AreFound, behind_more, order_more, solve_more, rest_more}
use Rattle.rule_typing.proofs.Listing.{Listing, listed, joined, count_joined, order_of, pairs_of}
use Rattle.rule_typing.proofs.Solved.{listed_of, of_listed, choices_at_most_64}

module _ (rule : Rule) (widths : List ℕ) (sets : List Widths) (classified : IsClassified rule) (counted : HasClasses rule (length sets))
    (exact : (c : ℕ) (set : Widths) → slice_get sets c ≡ Some set → HasExactly set (MayChoose rule widths c)) (found : List (List ℕ)) where
  -- where no other is left, the found ones are all typings
  pub all_found : AreFound rule sets found None → AreAllTypings rule widths found
  all_found so_far = record {
    all = λ typing. (
      λ among. listed_of rule widths sets classified counted exact typing (so_far.solve typing among),
      λ listing.
          let solves = of_listed rule widths sets classified counted exact typing listing in
          elim (so_far.rest typing solves) [ inl there ↦ there | inr behind ↦ absurd (so_far.next typing (solves, behind)) ],
    );
    in_order = so_far.in_order;
  }

  module _ (typing : List ℕ) (so_far : AreFound rule sets found (Some typing)) where
    -- the typings behind the next one
    later : Listing (λ other. Solves rule sets other × ComesBefore typing other)
    later = listed (length sets) 65 (λ other. Solves rule sets other × ComesBefore typing other) (λ other. dec_both (dec_solves rule sets other) (dec_before typing other))
        (λ other (solves, before). (solves.chosen.count, choices_at_most_64 rule widths sets classified counted exact other solves))

    known : Listing (Contains (found ++ typing ∷ []))
    known = record { all = found ++ typing ∷ []; which = λ other. (λ h. h, λ h. h); in_order = order_of (found ++ typing ∷ []) (order_more rule sets found typing so_far) }

    apart : (a b : List ℕ) → Contains (found ++ typing ∷ []) a → Solves rule sets b × ComesBefore typing b → ComesBefore a b
    apart a b among (solves, before) = behind_more rule sets found typing so_far b before a among

    whole : Listing (λ other. Contains (found ++ typing ∷ []) other ⊎ (Solves rule sets other × ComesBefore typing other))
    whole = joined (Contains (found ++ typing ∷ [])) (λ other. Solves rule sets other × ComesBefore typing other) known later apart

    many : (most : ℕ) → most ≤ length found → most < length whole.all
    unfolding whole known
    many most reached = omega (arith, count_joined (Contains (found ++ typing ∷ [])) (λ other. Solves rule sets other × ComesBefore typing other) known later apart, length-append found (typing ∷ []))

    pub too_many : (most : ℕ) → most ≤ length found → (typings : List (List ℕ)) × AreAllTypings rule widths typings × (most < length typings)
    too_many most reached = (
      whole.all,
      record {
        all = λ other. (
          λ among. listed_of rule widths sets classified counted exact other (elim ((whole.which other).0 among) [ inl known ↦ solve_more rule sets found typing so_far other known | inr (solves, before) ↦ solves ]),
          λ listing.
              let solves = of_listed rule widths sets classified counted exact other listing in
              (whole.which other).1 (elim (rest_more rule sets found typing so_far other solves) [ inl known ↦ inl known | inr before ↦ inr (solves, before) ]),
        );
        in_order = pairs_of whole.all whole.in_order;
      },
      many most reached,
    )
