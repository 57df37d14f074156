-- The effects of the halves, shown from literals.
use Rattle.blast_rule.proofs.Common.{◌≡◌, ℕ, suc, ◌+◌, ◌-◌, ◌<◌, Bool, List, [], ◌∷◌, ◌++◌, length, map, Some, refl, sym, ap, ◌∙◌, arith, get_or, slice_get, slice_index, length-map, take_more, take_all, slice_get-map, slice_get-get_or, get_or_from_slice_get, option_map, Rule, Statement, source_assigns, assigns_root, name, IsTyping, IsRule, GivesLast, temporaries_of, ValuesFit, source_statement, class_stands, class_width, held_value, root_width, shape}
use Rattle.ops.specs.declared.value.Effect.TheVariants as effects
use Rattle.blast_value.specs.declared.held.Held.{Held}
use Rattle.blast_rule.proofs.Counts.{root_class}

-- the source is its temporaries and, last, the root's statement
pub parts : (rule : Rule) (root : Statement) → 0 < length rule.source → root ≡ get_or rule.source (length rule.source - 1) root → rule.source ≡ temporaries_of rule ++ root ∷ []
parts rule root some is =
    sym (take_all (length rule.source - 1 + 1) rule.source (omega arith)) ∙ take_more rule.source (length rule.source - 1) root (omega arith) ∙ ap (λ x. temporaries_of rule ++ x ∷ []) (sym is)

pub last_value : {L : Type 0} (value : L → Bool) (items : List (Held L)) (h : Held L) → slice_get items (length items - 1) ≡ Some h → GivesLast (map (held_value value) items) (effects.Gives (held_value value h))
last_value value items h at =
    let place : length (map (held_value value) items) - 1 ≡ length items - 1 = ap (λ n. n - 1) (length-map items (held_value value)) in
    (held_value value h, rw place (slice_get-map (held_value value) items (length items - 1) ∙ ap (option_map (held_value value)) at), refl)

-- some statements have a last one
pub last_statement : (statements : List Statement) → 0 < length statements → (s : Statement) × (slice_get statements (length statements - 1) ≡ Some s) × (s ≡ get_or statements (length statements - 1) s)
last_statement [] some = absurd (omega arith)
last_statement (d ∷ rest) some =
    let s = get_or (d ∷ rest) (length (d ∷ rest) - 1) d in
    let at : slice_get (d ∷ rest) (length (d ∷ rest) - 1) ≡ Some s = slice_get-get_or (d ∷ rest) (length (d ∷ rest) - 1) d (omega arith) in
    (s, at, sym (get_or_from_slice_get (d ∷ rest) (length (d ∷ rest) - 1) s s at))

-- the word of the root's statement in the source has the root's width
pub source_width : (rule : Rule) (typing : List ℕ) (root : Statement) (n : ℕ) → 0 < length rule.source → root ≡ get_or rule.source (length rule.source - 1) root → slice_get typing root.class ≡ Some n → n ≡ root_width rule typing
source_width rule typing root n some is at =
    sym (get_or_from_slice_get typing root.class n 0 at) ∙ ap (λ (s : Statement). slice_index typing s.class) is ∙ root_class rule typing root some

-- the word of the last statement of the target has the root's width too
pub target_width : {L : Type 0} (rule : Rule) (typing : List ℕ) (target : List (Held L)) (h : Held L) → IsRule rule → IsTyping rule typing → length target ≡ length rule.target
    → ValuesFit typing rule.target (map shape target) → slice_get target (length target - 1) ≡ Some h → length h.bits ≡ root_width rule typing
target_width rule typing target h checked typed count fit at =
    let j = length rule.source - 1 in
    let k = length rule.target - 1 in
    let last_source : suc j ≡ length rule.source = omega (arith, checked.source_root) in
    let last_target : suc k ≡ length rule.target = omega (arith, checked.target_root) in
    let s = last_statement rule.source checked.source_root in
    let t = last_statement rule.target checked.target_root in
    let w = class_width rule typing s.0.class typed (class_stands rule s.0 (source_statement rule j s.0 s.1)) in
    let same = typed.same s.0.class t.0.class (name (source_assigns s.1) (assigns_root last_source last_target t.1)) in
    let place : length target - 1 ≡ k = ap (λ n. n - 1) count in
    let there : slice_get (map shape target) k ≡ Some (shape h) = rw (← place) (slice_get-map shape target (length target - 1) ∙ ap (option_map shape) at) in
    (fit k t.0 (shape h) w.0 t.1 there (sym same ∙ w.1)).0 ∙ source_width rule typing s.0 w.0 checked.source_root (s.2) w.1
