-- Names of functions among entries.
use Rattle.ir_reader.proofs.Common.{◌≡◌, ◌⊎◌, ◌↔◌, inl, inr, ℕ, Bool, true, false, not, cond, List, [], ◌∷◌, ◌++◌, length, Some, IsTrue, refl, ap, sym, subst, ◌∙◌, arith, slice_get, ◌||◌, list_any, bytes_eq, false≢true, list_any-append, bytes_eq-Decides, Vec, insert_key, RawEntry, RawFunction, HasNameOf, functions_of, MarksEntry, IsNameOf}
use Rattle.ir_tokens.specs.declared.raw.RawEntry.TheVariants as raw_entries
use Rattle.ir_reader.proofs.Places.{at_append, at_push, append_left, append_right}

functions_of-append : (xs ys : List RawEntry) → functions_of (xs ++ ys) ≡ functions_of xs ++ functions_of ys
functions_of-append [] ys = refl
functions_of-append (raw_entries.Kept text ∷ xs) ys = functions_of-append xs ys
functions_of-append (raw_entries.Function raw ∷ xs) ys = ap (λ l. raw ∷ l) (functions_of-append xs ys)

-- ---- names of entries

pub name_push : (entries : List RawEntry) (entry : RawEntry) (name : List ℕ) → HasNameOf (functions_of (entries ++ entry ∷ [])) name ↔ (HasNameOf (functions_of entries) name ⊎ IsNameOf entry name)
name_push entries (raw_entries.Kept text) name =
    let same : functions_of (entries ++ raw_entries.Kept text ∷ []) ≡ functions_of entries ++ [] = functions_of-append entries (raw_entries.Kept text ∷ []) in (
      λ (k, other, at, is). elim (at_append (functions_of entries) [] k other (subst (λ l. slice_get l k ≡ Some other) same at)) [ inl old ↦ inl (k, other, old, is) | inr (j, e, none) ↦ cc ],
      λ h. elim h [ inl (k, other, at, is) ↦ (k, other, subst (λ l. slice_get l k ≡ Some other) (sym same) (append_left (functions_of entries) [] k other at), is) | inr no_name ↦ absurd no_name ],
    )
name_push entries (raw_entries.Function raw) name =
    let same : functions_of (entries ++ raw_entries.Function raw ∷ []) ≡ functions_of entries ++ raw ∷ [] = functions_of-append entries (raw_entries.Function raw ∷ []) in (
      λ (k, other, at, is). elim (at_push (functions_of entries) raw k other (subst (λ l. slice_get l k ≡ Some other) same at)) [
        | inl old ↦ inl (k, other, old, is)
        | inr (e, last) ↦ inr (ap (λ (f : RawFunction). f.name) last ∙ is)
      ],
      λ h. elim h [
        | inl (k, other, at, is) ↦ (k, other, subst (λ l. slice_get l k ≡ Some other) (sym same) (append_left (functions_of entries) (raw ∷ []) k other at), is)
        | inr is ↦ (length (functions_of entries), raw, subst (λ l. slice_get l (length (functions_of entries)) ≡ Some raw) (sym same) (append_right (functions_of entries) (raw ∷ []) (length (functions_of entries)) 0 raw (omega arith) refl), is)
      ],
    )

pub name_none : (name : List ℕ) → ¬ HasNameOf [] name
name_none name (k, other, at, is) = cc

-- ---- texts in a set

or_true : (a b : Bool) → IsTrue (a || b) ↔ (IsTrue a ⊎ IsTrue b)
or_true true b = (λ t. inl t, λ h. refl)
or_true false b = (λ t. inr t, λ h. elim h [ inl t ↦ absurd (false≢true t) | inr t ↦ t ])

-- the text is among these
abbrev HasTextIn : {A : Type 0} → List (Vec ℕ A) → List ℕ → Type 0
HasTextIn texts text = IsTrue (list_any (λ t. bytes_eq text t.items) texts)

decided : (a b : List ℕ) → IsTrue (bytes_eq a b) ↔ (b ≡ a)
decided a b = (λ t. sym ((bytes_eq-Decides a b).0 t), λ e. (bytes_eq-Decides a b).1 (sym e))

text_push : {A : Type 0} (texts : List (Vec ℕ A)) (t : Vec ℕ A) (text : List ℕ) → HasTextIn (texts ++ t ∷ []) text ↔ (HasTextIn texts text ⊎ (t.items ≡ text))
text_push texts t text =
    let same : list_any (λ u. bytes_eq text u.items) (texts ++ t ∷ []) ≡ (list_any (λ u. bytes_eq text u.items) texts || (bytes_eq text t.items || false)) = list_any-append (λ (u : Vec ℕ _). bytes_eq text u.items) texts (t ∷ []) in
    let either = or_true (list_any (λ u. bytes_eq text u.items) texts) (bytes_eq text t.items || false) in
    let last = or_true (bytes_eq text t.items) false in (
      λ h. elim (either.0 (subst (λ b. IsTrue b) same h)) [ inl old ↦ inl old | inr new ↦ elim (last.0 new) [ inl is ↦ inr ((decided text t.items).0 is) | inr no_text ↦ absurd (false≢true no_text) ] ],
      λ h. subst (λ b. IsTrue b) (sym same) (either.1 (elim h [ inl old ↦ inl old | inr is ↦ inr (last.1 (inl ((decided text t.items).1 is))) ])),
    )

any_same : {A : Type 0} (texts : List (Vec ℕ A)) (a b : List ℕ) → a ≡ b → HasTextIn texts a → HasTextIn texts b
any_same texts a b e h = subst (HasTextIn texts) e h

-- the set with one more text
pub text_more : {A : Type 0} (texts new : List (Vec ℕ A)) (t : Vec ℕ A) (text : List ℕ) → new ≡ insert_key (λ x y. bytes_eq x.items y.items) texts t → HasTextIn new text ↔ (HasTextIn texts text ⊎ (t.items ≡ text))
text_more texts new t text is = rw is (by (list_any (λ y. bytes_eq t.items y.items) texts) refl)
  where
    by : (b : Bool) → list_any (λ y. bytes_eq t.items y.items) texts ≡ b → HasTextIn (insert_key (λ x y. bytes_eq x.items y.items) texts t) text ↔ (HasTextIn texts text ⊎ (t.items ≡ text))
    by true e =
        let same : insert_key (λ x y. bytes_eq x.items y.items) texts t ≡ texts = ap (λ c. cond c texts (texts ++ t ∷ [])) e in
        (λ h. inl (subst (λ l. HasTextIn l text) same h), λ h. subst (λ l. HasTextIn l text) (sym same) (elim h [ inl old ↦ old | inr is ↦ any_same texts t.items text is e ]))
    by false e =
        let same : insert_key (λ x y. bytes_eq x.items y.items) texts t ≡ texts ++ t ∷ [] = ap (λ c. cond c texts (texts ++ t ∷ [])) e in
        let pushed = text_push texts t text in
        (λ h. pushed.0 (subst (λ l. HasTextIn l text) same h), λ h. subst (λ l. HasTextIn l text) (sym same) (pushed.1 h))

not_not : (b : Bool) → IsTrue (not (not b)) ↔ IsTrue b
not_not true = (λ h. h, λ h. h)
not_not false = (λ h. h, λ h. h)

-- for an entry that is a function: whether its name was in the set, and the set with it
module _ {A : Type 0} (entry : RawEntry) (raw : RawFunction) (texts new : List (Vec ℕ A)) (key : Vec ℕ A) (is_function : entry ≡ raw_entries.Function raw) (key_is : key.items ≡ raw.name) where
  pub function_mark : (added : Bool) → added ≡ not (list_any (λ y. bytes_eq key.items y.items) texts) → IsTrue (not added) ↔ ((name : List ℕ) × IsNameOf entry name × HasTextIn texts name)
  function_mark added is =
      let iff = not_not (list_any (λ y. bytes_eq key.items y.items) texts) in
      rw (is, is_function) (
        λ h. (raw.name, refl, any_same texts key.items raw.name key_is (iff.0 h)),
        λ (name, e, has). iff.1 (any_same texts name key.items (sym e ∙ sym key_is) has),
      )

  pub function_names : new ≡ insert_key (λ x y. bytes_eq x.items y.items) texts key → (name : List ℕ) → HasTextIn new name ↔ (HasTextIn texts name ⊎ IsNameOf entry name)
  function_names is name =
      let more = text_more texts new key name is in
      rw is_function (
        λ h. elim (more.0 h) [ inl old ↦ inl old | inr e ↦ inr (sym key_is ∙ e) ],
        λ h. more.1 (elim h [ inl old ↦ inl old | inr e ↦ inr (key_is ∙ e) ]),
      )

-- ---- marks

pub own_mark : (mark : Bool) (earlier : List RawFunction) (entry : RawEntry) → (IsTrue mark ↔ ((name : List ℕ) × IsNameOf entry name × HasNameOf earlier name)) → MarksEntry mark earlier entry
own_mark mark earlier (raw_entries.Kept text) is = tt
own_mark mark earlier (raw_entries.Function raw) is =
    (λ t. let (name, e, has) = is.0 t in subst (HasNameOf earlier) (sym e) has, λ has. is.1 (raw.name, refl, has))
