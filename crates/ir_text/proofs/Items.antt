-- Items, parameters and headers of functions: their printed text is read as what they are.
use Rattle.ir_text.proofs.Common.{◌≡◌, ℕ, suc, true, false, List, [], ◌∷◌, ◌++◌, Some, codes, refl, subst, slice_get, enumerate_from, join_by, All, AllZip, AllByRecursion, recursion_from_All, Placed, Word, Mark, Parameter, place_of, RawIdentifier, RawParameter, SpellsType, Part, Is, ◌⨾◌, Each, Comma, SpellsParameter, SpellsParameterList, SpellsName, SpellsItem, of_word, of_word_and_group, of_number, of_group, of_quoted, of_key_and_value, ParameterMeans, Value, IsName, IsItem, ParameterHasForms, name_text, function_name_text, item_text, parameter_text, header_text, Identifies}
use Rattle.std.specs.List.{flat_map}
use Rattle.ir_core.specs.declared.function.Function.{Function}
use Rattle.ir_core.specs.declared.operand.Register.TheVariants as registers
use Rattle.ir_instructions.specs.Punctuation as marks
use Rattle.ir_text.proofs.Forms.{HasItsForm, forms_of}
use Rattle.ir_text.proofs.NameForms.{name_text_form, name_text_calls}
use Rattle.ir_text.proofs.Placing.{space_stops, comma_stops, equals_stops, open_paren_stops, close_paren_stops}
use Rattle.ir_text.proofs.Prints.{Fresh, Header, Called, Body, Prints, Reads, prints_as, prints_map, prints_nothing, prints_then, prints_next, prints_each, behind_space, Opens, opens_with, opens_each}
use Rattle.ir_text.proofs.Tokens.{in_header, word_in_header, number_in_header, group_in_header, quoted_in_header, word_and_group, function_in_header, bracket_behind_name, comma_in_header, close_in_header, equals_in_header, body_begins, define_begins, blank, spaced, mark_spaced, mark_line_ends}
use Rattle.ir_text.proofs.Calling.{IsPrintable, bytes_of_name, is_called, parameter_named}
use Rattle.ir_text.proofs.Operands.{type_prints, register_called}
use Rattle.ir_text.proofs.Numbered.{numbered_here, all_get}

-- ---- items

-- an item is spelled by tokens that have the forms of their kinds
item_of : (item : List ℕ) (tokens rest : List Placed) → SpellsItem item tokens rest → AllByRecursion (λ t. HasItsForm t.1) tokens → Prints Header Header false (SpellsItem item) item
item_of item tokens rest (of_word is (line, one)) forms =
    let all = subst (λ (ts : List Placed). AllByRecursion (λ t. HasItsForm t.1) ts) one forms in
    prints_map (SpellsItem item) (λ ts more i. of_word is i) (word_in_header item (all.0 refl refl))
item_of item tokens rest (of_word_and_group name group is same (middle, (line, one), (next, two))) forms =
    let all = subst (λ (ts : List Placed). AllByRecursion (λ t. HasItsForm t.1) ts) one forms in
    let behind = subst (λ (ts : List Placed). AllByRecursion (λ t. HasItsForm t.1) ts) two all.1 in
    prints_as same (prints_map (SpellsItem item) (λ ts more i. of_word_and_group name group is same i) (word_and_group name group (all.0 refl refl) (behind.0 refl refl)))
item_of item tokens rest (of_number (line, one)) forms =
    let all = subst (λ (ts : List Placed). AllByRecursion (λ t. HasItsForm t.1) ts) one forms in
    prints_map (SpellsItem item) (λ ts more i. of_number i) (number_in_header item (all.0 refl refl))
item_of item tokens rest (of_group (line, one)) forms =
    let all = subst (λ (ts : List Placed). AllByRecursion (λ t. HasItsForm t.1) ts) one forms in
    prints_map (SpellsItem item) (λ ts more i. of_group i) (group_in_header item (all.0 refl refl))
item_of item tokens rest (of_quoted (line, one)) forms =
    let all = subst (λ (ts : List Placed). AllByRecursion (λ t. HasItsForm t.1) ts) one forms in
    prints_map (SpellsItem item) (λ ts more i. of_quoted i) (quoted_in_header item (all.0 refl refl))
item_of item tokens rest (of_key_and_value key value same (middle, (line, one), (behind, (next, two), (last, three)))) forms =
    let all = subst (λ (ts : List Placed). AllByRecursion (λ t. HasItsForm t.1) ts) one forms in
    let mark = subst (λ (ts : List Placed). AllByRecursion (λ t. HasItsForm t.1) ts) two all.1 in
    let more = subst (λ (ts : List Placed). AllByRecursion (λ t. HasItsForm t.1) ts) three mark.1 in
    prints_as same
    (prints_map (SpellsItem item) (λ ts others i. of_key_and_value key value same i)
    (prints_then (quoted_in_header key (all.0 refl refl)) (prints_next equals_in_header (quoted_in_header value (more.0 refl refl))) (opens_with 61 value equals_stops)))

pub item_prints : (item : List ℕ) → IsItem item → Prints Header Header false (SpellsItem item) item
item_prints item (tokens, rest, from, (between, spells, end)) = item_of item tokens between spells (forms_of from)

-- items, each with a space before it
pub items_open : (items : List (List ℕ)) → Opens false (flat_map item_text items)
unfolding item_text
items_open items = opens_each item_text (λ item. opens_with 32 item space_stops) items

each_item_prints : (items : List (List ℕ)) → AllByRecursion IsItem items → Prints Header Header false (Each SpellsItem items) (flat_map item_text items)
unfolding item_text
each_item_prints [] all = prints_nothing Header false
each_item_prints (item ∷ items) (ok, all) = prints_then (behind_space (codes " ") blank tt (item_prints item ok)) (each_item_prints items all) (items_open items)

pub items_print : (items : List (List ℕ)) → All IsItem items → Prints Header Header false (Each SpellsItem items) (flat_map item_text items)
items_print items all = each_item_prints items (recursion_from_All IsItem items all)

-- ---- parameters

-- this is canonically written for parameter p.0
pub record MeansParameter (f : Function) (raw : RawParameter) (p : ℕ × Parameter) : Type 0 where
  pub means : ParameterMeans raw p.1
  pub name : RawIdentifier
  pub is_named : raw.name ≡ Some name
  pub identifies : Identifies f name.identifier (Value (registers.Parameter p.0))

parameter_prints : (f : Function) → IsPrintable f → (k : ℕ) (p : Parameter) → slice_get f.parameters k ≡ Some p → ParameterHasForms p → Prints Header Header false (Reads SpellsParameter (MeansParameter f) (k, p)) (parameter_text f (k, p))
unfolding parameter_text
parameter_prints f fits k p at forms =
    let r = registers.Parameter k in
    prints_map _ (λ tokens rest (m1, (m2, type, items), (w, spells, (is, name))). (
      record { width = p.width; items = p.items; name = Some w },
      (m2, type, (m1, items, spells)),
      record { means = (refl, refl, name); name = w; is_named = refl; identifies = is },
    ))
    (prints_next
    (spaced tt (prints_then (type_prints in_header p.width forms.width) (items_print p.items forms.items) (items_open p.items)))
    (register_called in_header f r p.name (is_called f fits (place_of f r) p.name (parameter_named f k p at))))

-- parameters with their indices, with a comma and a space between them
parameters_print : (f : Function) (ps : List (ℕ × Parameter)) → ((i : ℕ) (p : ℕ × Parameter) → slice_get ps i ≡ Some p → Prints Header Header false (Reads SpellsParameter (MeansParameter f) p) (parameter_text f p))
    → Prints Header Header false (Reads SpellsParameterList (AllZip (MeansParameter f)) ps) (join_by (parameter_text f) (codes ", ") ps)
parameters_print f [] each = prints_map _ (λ tokens rest same. ([], same, tt)) (prints_nothing Header false)
parameters_print f (p ∷ ps) each =
    prints_map _ (λ tokens rest (m1, (raw, spells, means), (raws, spell, mean)). (raw ∷ raws, (m1, spells, spell), (means, mean)))
    (prints_then (each 0 p refl)
    (prints_each (λ (raw : RawParameter). Comma ⨾ SpellsParameter raw) (MeansParameter f) Header (λ (q : ℕ × Parameter). codes ", " ++ parameter_text f q) (λ q. opens_with 44 (32 ∷ parameter_text f q) comma_stops) ps (λ i q at.
    prints_map _ (λ tokens rest (m2, comma, (raw, spells, means)). (raw, (m2, comma, spells), means)) (prints_next (mark_spaced tt comma_in_header) (each (suc i) q at))))
    (opens_each (λ (q : ℕ × Parameter). codes ", " ++ parameter_text f q) (λ q. opens_with 44 (32 ∷ parameter_text f q) comma_stops) ps))

-- ---- the header of a function

-- the parts of a header, in order
abbrev pub HeaderParts : Function → Part
HeaderParts f =
    (((((((Is (Word (codes "define")) ⨾ Each SpellsItem f.before) ⨾ SpellsType f.width) ⨾ (λ tokens rest. (line : ℕ) × SpellsName line f.name tokens rest)) ⨾ Is (Mark marks.open_paren))
    ⨾ Reads SpellsParameterList (AllZip (MeansParameter f)) (enumerate_from 0 f.parameters)) ⨾ Is (Mark marks.close_paren)) ⨾ Each SpellsItem f.after) ⨾ Is (Mark marks.open_brace)

name_prints : (name : List ℕ) → IsName name → Prints Header Called false (λ tokens rest. (line : ℕ) × SpellsName line name tokens rest) (function_name_text name)
unfolding function_name_text
name_prints name ok =
    prints_map _ (λ tokens rest (line, is). (line, (name_text name, name_text_calls name (bytes_of_name name ok), is)))
    (function_in_header (name_text name) (name_text_form name (bytes_of_name name ok)))

pub header_prints : (f : Function) → IsPrintable f → Prints Fresh Body true (HeaderParts f) (header_text f)
unfolding header_text
header_prints f fits =
    let forms = fits.forms in
    prints_then
    (prints_next
    (prints_then
    (prints_next
    (prints_then
    (prints_next
    (spaced tt
    (prints_next (spaced tt (prints_then define_begins (items_print f.before forms.before) (items_open f.before))) (type_prints in_header f.width forms.width)))
    (name_prints f.name forms.name))
    bracket_behind_name (opens_with 40 [] open_paren_stops))
    (parameters_print f (enumerate_from 0 f.parameters) (λ i p at.
    let here = numbered_here f.parameters i p at in
    parameter_prints f fits p.0 p.1 here (all_get ParameterHasForms f.parameters p.0 p.1 forms.parameters here))))
    close_in_header (opens_with 41 [] close_paren_stops))
    (items_print f.after forms.after))
    (behind_space (codes " ") blank tt (mark_line_ends tt body_begins)) (opens_with 32 (codes "{\n") space_stops)
