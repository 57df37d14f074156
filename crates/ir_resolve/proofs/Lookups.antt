-- Lookups in the symbol table.
use Rattle.ir_resolve.proofs.Common.{◌≡◌, ◌⊎◌, ◌↔◌, inl, inr, Bool, true, false, cond, ◌||◌, IsTrue, is_some, List, [], ◌∷◌, ◌++◌, Option, None, Some, refl, sym, ap, subst, ◌∙◌, lookup, bytes_decides, eqb-true, eq-eqb, map_push, IndexMap, get, insert_entry, insert_entry-new, Identifier, Named, Numbered, Key, Entity, seen, seen_entries, known_by, same, knows, Is, entity_in}
use Rattle.ir_resolve.specs.declared.names.key.Key.TheVariants as keys
use Rattle.ir_resolve.specs.contracts.names.key.KeyPartialEq.TheImpl as derived

abbrev pub eq : Key → Key → Bool
eq = derived.eq-value.it

same_seen : (a b : Key) → eq a b ≡ same (seen a) (seen b)
same_seen (keys.Named a) (keys.Named b) = refl
same_seen (keys.Named a) (keys.Numbered n) = refl
same_seen (keys.Numbered m) (keys.Named b) = refl
same_seen (keys.Numbered m) (keys.Numbered n) = refl

pub is_same : (x y : Identifier) → same x y ≡ true → x ≡ y
is_same (Named a) (Named b) t = ap Named ((bytes_decides a b).0 t)
is_same (Numbered m) (Numbered n) t = ap Numbered (eqb-true m n t)
is_same (Named a) (Numbered n) t = cc
is_same (Numbered m) (Named b) t = cc

pub same_itself : (x : Identifier) → same x x ≡ true
same_itself (Named a) = (bytes_decides a a).1 refl
same_itself (Numbered m) = eq-eqb m m refl

lookup_seen : (entries : List (Key × Entity)) (k : Key) → lookup (eq k) entries ≡ lookup (same (seen k)) (seen_entries entries)
lookup_seen [] k = refl
lookup_seen (e ∷ entries) k =
    ap (λ b. cond b (Some e.1) (lookup (eq k) entries)) (same_seen k e.0)
    ∙ ap (λ o. cond (same (seen k) (seen e.0)) (Some e.1) o) (lookup_seen entries k)

pub entity_found : (entries : List (Key × Entity)) (k : Key) (x : Identifier) → seen k ≡ x → lookup (eq k) entries ≡ entity_in (seen_entries entries) x
entity_found entries k x is = lookup_seen entries k ∙ ap (λ i. lookup (same i) (seen_entries entries)) is

-- ---- what the table has after an insertion

alone : (c : Bool) (v : Entity) → is_some (cond c (Some v) None) ≡ (false || c)
alone true v = refl
alone false v = refl

here : (c : Bool) (v w : Entity) (found : Option Entity) → is_some (cond c (Some v) found) ≡ (is_some (cond c (Some w) found) || c)
here true v w found = refl
here false v w None = refl
here false v w (Some x) = refl

later : (c d : Bool) (w : Entity) (new old : Option Entity) → is_some new ≡ (is_some old || d) → is_some (cond c (Some w) new) ≡ (is_some (cond c (Some w) old) || d)
later true d w new old h = refl
later false d w new old h = h

inserted_at : (entries more : List (Key × Entity)) (e : Key × Entity) (k : Key) (v : Entity) (x : Identifier) (b : Bool) → eq k e.0 ≡ b → knows (seen_entries more) x ≡ (knows (seen_entries entries) x || same x (seen k))
    → knows (seen_entries (cond b ((e.0, v) ∷ entries) (e ∷ more))) x ≡ (knows (seen_entries (e ∷ entries)) x || same x (seen k))
inserted_at entries more e k v x true is rest =
    let one : seen k ≡ seen e.0 = is_same (seen k) (seen e.0) (sym (same_seen k e.0) ∙ is) in
    rw one (here (same x (seen e.0)) v e.1 (lookup (same x) (seen_entries entries)))
inserted_at entries more e k v x false is rest = later (same x (seen e.0)) (same x (seen k)) e.1 (lookup (same x) (seen_entries more)) (lookup (same x) (seen_entries entries)) rest

pub known_inserted : (entries : List (Key × Entity)) (k : Key) (v : Entity) (x : Identifier) → knows (seen_entries (insert_entry eq entries k v)) x ≡ (knows (seen_entries entries) x || same x (seen k))
known_inserted [] k v x = alone (same x (seen k)) v
known_inserted (e ∷ entries) k v x = inserted_at entries (insert_entry eq entries k v) e k v x (eq k e.0) refl (known_inserted entries k v x)

pub was_known : (entries : List (Key × Entity)) (k : Key) (old : Option Entity) → old ≡ lookup (eq k) entries → is_some old ≡ knows (seen_entries entries) (seen k)
was_known entries k old is = ap is_some (is ∙ lookup_seen entries k)

none_found : (o : Option Entity) → is_some o ≡ false → o ≡ None
none_found None h = refl
none_found (Some x) h = cc

pub added_last : {S : Type 0} (names : IndexMap Key Entity S) (new : List (Key × Entity)) (k : Key) (v : Entity) (old : Option Entity) → old ≡ get eq names k → new ≡ insert_entry eq names.entries k v → is_some old ≡ false
    → seen_entries new ≡ known_by names ++ (seen k, v) ∷ []
added_last names new k v old is more none =
    ap seen_entries (more ∙ insert_entry-new eq names k v (sym is ∙ none_found old none)) ∙ map_push (λ (e : Key × Entity). (seen e.0, e.1)) names.entries (k, v)

either_true : (a b : Bool) → (a || b) ≡ true → (a ≡ true) ⊎ (b ≡ true)
either_true true b h = inl refl
either_true false b h = inr h

or_left : (a b : Bool) → a ≡ true → (a || b) ≡ true
or_left true b h = refl
or_left false b h = cc

or_right : (a b : Bool) → b ≡ true → (a || b) ≡ true
or_right true b h = refl
or_right false b h = h

-- after an insertion the table has exactly the new identifier and those that it had
pub known_then : (x y : Identifier) (old new : Bool) → new ≡ (old || same x y) → IsTrue new ↔ (IsTrue old ⊎ Is y x)
known_then x y old new is = (
  λ t. elim (either_true old (same x y) (sym is ∙ t)) [ inl o ↦ inl o | inr s ↦ inr (sym (is_same x y s)) ],
  λ h. is ∙ elim h [ inl o ↦ or_left old (same x y) o | inr e ↦ or_right old (same x y) (subst (λ z. same x z ≡ true) (sym e) (same_itself x)) ],
)
