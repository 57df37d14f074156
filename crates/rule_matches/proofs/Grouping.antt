-- Groups with one rule more.
use Rattle.rule_matches.proofs.Common.{◌≡◌, ◌⊎◌, inl, inr, ℕ, ◌<◌, List, [], ◌∷◌, ◌++◌, length, get_or, None, Some, refl, sym, ap, subst, ◌∙◌, arith, Contains, slice_get, slice_set, cases_eq, none-some, same_Some, slice_get_within, Contains-append_left, Contains-get_or, Contains-push, Contains-push_cases, all_pairs_push, get-append_left, get_behind, Rule, RootKind, RulesByRoot, Group, AreByRoot, AreOfKind, HasRootKind, IsGroupOf, kind_of_root}
use Rattle.rule_matches.proofs.Places.{pushed_cases, set_cases, set_here, set_elsewhere}

last_of : {X : Type 0} (xs : List X) (x : X) → slice_get (xs ++ x ∷ []) (length xs) ≡ Some x
last_of xs x = get_behind xs (x ∷ []) (length xs) 0 x (omega arith) refl

module _ (rules : List Rule) (rule : Rule) where
  before : (kind : RootKind) (r : ℕ) → HasRootKind rules kind r → HasRootKind (rules ++ rule ∷ []) kind r
  before kind r (x, at, is) = (x, get-append_left rules (rule ∷ []) r x at, is)

  here : (kind : RootKind) → kind_of_root rule ≡ Some kind → HasRootKind (rules ++ rule ∷ []) kind (length rules)
  here kind is = (rule, last_of rules rule, is)

  before_or_here : (kind : RootKind) (r : ℕ) → HasRootKind (rules ++ rule ∷ []) kind r → HasRootKind rules kind r ⊎ ((r ≡ length rules) × (kind_of_root rule ≡ Some kind))
  before_or_here kind r (x, at, is) = elim (pushed_cases rules rule r x at) [
    | inl earlier ↦ inl (x, earlier, is)
    | inr last ↦ inr (last.0, ap kind_of_root (sym last.1) ∙ is)
  ]

  of_other : (kind : RootKind) (places : List ℕ) → (kind_of_root rule ≡ Some kind → ⊥) → AreOfKind rules kind places → AreOfKind (rules ++ rule ∷ []) kind places
  of_other kind places other are = record {
    same = λ r. (
      λ among. before kind r ((are.same r).0 among),
      λ has. elim (before_or_here kind r has) [ inl earlier ↦ (are.same r).1 earlier | inr last ↦ absurd (other last.1) ],
    );
    in_order = are.in_order;
  }

  of_same : (kind : RootKind) (places : List ℕ) → kind_of_root rule ≡ Some kind → AreOfKind rules kind places → AreOfKind (rules ++ rule ∷ []) kind (places ++ length rules ∷ [])
  of_same kind places is are = record {
    same = λ r. (
      λ among. elim (Contains-push_cases places (length rules) r among) [
        | inl earlier ↦ before kind r ((are.same r).0 earlier)
        | inr last ↦ subst (HasRootKind (rules ++ rule ∷ []) kind) last (here kind is)
      ],
      λ has. elim (before_or_here kind r has) [
        | inl earlier ↦ Contains-append_left places (length rules ∷ []) r ((are.same r).1 earlier)
        | inr last ↦ subst (Contains (places ++ length rules ∷ [])) (sym last.0) (Contains-push places (length rules))
      ],
    );
    in_order = all_pairs_push (λ (q r : ℕ). q < r) places (length rules) are.in_order (λ k d within.
        let has = (are.same (get_or places k d)).0 (Contains-get_or places k d within) in
        slice_get_within rules (get_or places k d) has.0 has.1);
  }

  none_of : (kind : RootKind) → ((r : ℕ) → HasRootKind rules kind r → ⊥) → AreOfKind rules kind []
  none_of kind never = record {
    same = λ r. (λ among. absurd (omega (arith, among.1)), λ has. absurd (never r has));
    in_order = λ i j d less within. absurd (omega arith);
  }

  -- a rule whose root is of no kind
  pub no_kind : (all : RulesByRoot) → kind_of_root rule ≡ None → AreByRoot rules all → AreByRoot (rules ++ rule ∷ []) all
  no_kind all none are = record {
    each = λ g group at. of_other group.kind group.rules.items (λ is. none-some group.kind (sym none ∙ is)) (are.each g group at);
    some = λ r kind has. elim (before_or_here kind r has) [
      | inl earlier ↦ are.some r kind earlier
      | inr last ↦ absurd (none-some kind (sym none ∙ last.1))
    ];
    one = are.one;
  }

  module _ (old new : RulesByRoot) (kind : RootKind) (is : kind_of_root rule ≡ Some kind) (are : AreByRoot rules old) where
    not_of : (k : RootKind) → (k ≡ kind → ⊥) → kind_of_root rule ≡ Some k → ⊥
    not_of k other has = other (same_Some k kind (sym has ∙ is))

    module _ (g : ℕ) (group more : Group) (at : slice_get old.groups.items g ≡ Some group) (of : group.kind ≡ kind) (set : new.groups.items ≡ slice_set old.groups.items g more)
        (same : more.kind ≡ group.kind) (items : more.rules.items ≡ group.rules.items ++ length rules ∷ []) where
      there : (h : ℕ) (x : Group) → slice_get new.groups.items h ≡ Some x → ((h ≡ g) × (x ≡ more)) ⊎ (slice_get old.groups.items h ≡ Some x)
      there h x has = set_cases old.groups.items g more h x (subst (λ (l : List Group). slice_get l h ≡ Some x) set has)

      at_new : slice_get new.groups.items g ≡ Some more
      at_new = subst (λ (l : List Group). slice_get l g ≡ Some more) (sym set) (set_here old.groups.items g more group at)

      keeps : (k : RootKind) (h : ℕ) → IsGroupOf old k h → IsGroupOf new k h
      keeps k h (x, has, named) = elim (cases_eq h g) [
        | inl e ↦ (more, subst (λ (j : ℕ). slice_get new.groups.items j ≡ Some more) (sym e) at_new, same ∙ ap (λ (y : Group). y.kind) (same_Some group x (sym at ∙ subst (λ (j : ℕ). slice_get old.groups.items j ≡ Some x) e has)) ∙ named)
        | inr e ↦ (x, subst (λ (l : List Group). slice_get l h ≡ Some x) (sym set) (set_elsewhere old.groups.items g more h x e has), named)
      ]

      had : (k : RootKind) (h : ℕ) → IsGroupOf new k h → IsGroupOf old k h
      had k h (x, has, named) = elim (there h x has) [
        | inl e ↦ (group, subst (λ (j : ℕ). slice_get old.groups.items j ≡ Some group) (sym e.0) at, sym same ∙ ap (λ (y : Group). y.kind) (sym e.1) ∙ named)
        | inr was ↦ (x, was, named)
      ]

      grown : AreOfKind (rules ++ rule ∷ []) more.kind more.rules.items
      grown = subst (λ (k : RootKind). AreOfKind (rules ++ rule ∷ []) k more.rules.items) (sym same)
          (subst (λ (l : List ℕ). AreOfKind (rules ++ rule ∷ []) group.kind l) (sym items) (of_same group.kind group.rules.items (is ∙ ap (λ (k : RootKind). Some k) (sym of)) (are.each g group at)))

      kept : (h : ℕ) (x : Group) → (h ≡ g → ⊥) → slice_get old.groups.items h ≡ Some x → AreOfKind (rules ++ rule ∷ []) x.kind x.rules.items
      kept h x other was = of_other x.kind x.rules.items (not_of x.kind (λ e. other (are.one kind h g (x, was, e) (group, at, of)))) (are.each h x was)

      -- it goes behind the others of its group
      pub grows : AreByRoot (rules ++ rule ∷ []) new
      grows = record {
        each = λ h x has. elim (cases_eq h g) [
          | inl e ↦ subst (λ (y : Group). AreOfKind (rules ++ rule ∷ []) y.kind y.rules.items) (same_Some more x (sym at_new ∙ subst (λ (j : ℕ). slice_get new.groups.items j ≡ Some x) e has)) grown
          | inr e ↦ elim (there h x has) [ inl here ↦ absurd (e here.0) | inr was ↦ kept h x e was ]
        ];
        some = λ r k has. elim (before_or_here k r has) [
          | inl earlier ↦ let found = are.some r k earlier in (found.0, keeps k found.0 found.1)
          | inr last ↦ (g, (more, at_new, same ∙ of ∙ same_Some kind k (sym is ∙ last.1)))
        ];
        one = λ k h i in_h in_i. are.one k h i (had k h in_h) (had k i in_i);
      }

    module _ (only : Group) (none : (g : ℕ) → IsGroupOf old kind g → ⊥) (pushed : new.groups.items ≡ old.groups.items ++ only ∷ []) (of : only.kind ≡ kind) (items : only.rules.items ≡ length rules ∷ []) where
      where_now : (h : ℕ) (x : Group) → slice_get new.groups.items h ≡ Some x → (slice_get old.groups.items h ≡ Some x) ⊎ ((h ≡ length old.groups.items) × (x ≡ only))
      where_now h x has = pushed_cases old.groups.items only h x (subst (λ (l : List Group). slice_get l h ≡ Some x) pushed has)

      at_end : slice_get new.groups.items (length old.groups.items) ≡ Some only
      at_end = subst (λ (l : List Group). slice_get l (length old.groups.items) ≡ Some only) (sym pushed) (last_of old.groups.items only)

      stays : (k : RootKind) (h : ℕ) → IsGroupOf old k h → IsGroupOf new k h
      stays k h (x, has, named) = (x, subst (λ (l : List Group). slice_get l h ≡ Some x) (sym pushed) (get-append_left old.groups.items (only ∷ []) h x has), named)

      alone : AreOfKind (rules ++ rule ∷ []) only.kind only.rules.items
      alone = subst (λ (k : RootKind). AreOfKind (rules ++ rule ∷ []) k only.rules.items) (sym of)
          (subst (λ (l : List ℕ). AreOfKind (rules ++ rule ∷ []) kind l) (sym items) (of_same kind [] is (none_of kind (λ r has. let found = are.some r kind has in none found.0 found.1))))

      -- it is the first of its kind
      pub begins : AreByRoot (rules ++ rule ∷ []) new
      begins = record {
        each = λ h x has. elim (where_now h x has) [
          | inl was ↦ of_other x.kind x.rules.items (not_of x.kind (λ e. none h (x, was, e))) (are.each h x was)
          | inr last ↦ subst (λ (y : Group). AreOfKind (rules ++ rule ∷ []) y.kind y.rules.items) (sym last.1) alone
        ];
        some = λ r k has. elim (before_or_here k r has) [
          | inl earlier ↦ let found = are.some r k earlier in (found.0, stays k found.0 found.1)
          | inr last ↦ (length old.groups.items, (only, at_end, of ∙ same_Some kind k (sym is ∙ last.1)))
        ];
        one = λ k h i in_h in_i. elim (where_now h in_h.0 in_h.1) [
          | inl was ↦ elim (where_now i in_i.0 in_i.1) [
            | inl was' ↦ are.one k h i (in_h.0, was, in_h.2) (in_i.0, was', in_i.2)
            | inr last ↦ absurd (none h (in_h.0, was, in_h.2 ∙ sym in_i.2 ∙ ap (λ (y : Group). y.kind) last.1 ∙ of))
          ]
          | inr last ↦ elim (where_now i in_i.0 in_i.1) [
            | inl was' ↦ absurd (none i (in_i.0, was', in_i.2 ∙ sym in_h.2 ∙ ap (λ (y : Group). y.kind) last.1 ∙ of))
            | inr last' ↦ last.0 ∙ sym last'.0
          ]
        ];
      }
