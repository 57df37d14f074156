-- Soundness of the parser for blocks, functions and modules: what it gives is spelled so.
use Rattle.ir_parse.proofs.Common.{◌≡◌, ℕ, Bool, true, false, cond, List, [], ◌∷◌, Option, Some, None, Ok, Err, refl, sym, subst, codes, IsSome, bytes_eq, same_word, Identifier, Named, Numbered, identifier_of, Placed, End, Kept, Label, Word, Register, Function, LeftOut, RawModule, RawEntry, RawFunction, RawParameter, RawIdentifier, RawBlock, SpellsRegister, is_mark, mark_at, type_at, tail_at, attachments_at, insts_at, identified, terminator_at, Part, Is, ◌⨾◌, Maybe, Comma, Separated, Read, ◌>>=◌, done, fault, SpellsLabel, SpellsBlock, SpellsLabelledBlock, SpellsBlocks, SpellsParameter, SpellsParameterList, SpellsParameters, SpellsBody, SpellsName, SpellsFunction, SpellsEntry, SpellsModule, is_label, label_at, block_at, blocks_at, parameter_name_at, parameter_at, further_parameter_at, some_parameters_at, parameter_list_at, parameters_at, named_function, function_name_at, body_at, function_at, entry_at, begins_entry, entries_at, module_from, module_of, items_at, last_items_at, each-is, all_read, insts_at-is, mark_at-is, type_at-is, tail_at-is, attachments_at-is, Reads, bind_ok, read_as, items_at-is, last_items_at-is, terminator_at-is}
use Rattle.ir_tokens.specs.declared.raw.RawEntry.TheVariants as entries
use Rattle.ir_instructions.specs.Punctuation as marks
use Rattle.ir_instructions.proofs.OpReadings.{separated}

-- ---- blocks

label_at-is : Reads label_at (Maybe SpellsLabel)
unfolding label_at
label_at-is ((line, Label written) ∷ rest) x e = read_as (λ y. Maybe SpellsLabel y.0 ((line, Label written) ∷ rest) y.1) (Some (identified line written), rest) x e (written, refl, refl)
label_at-is tokens x e = read_as (λ y. Maybe SpellsLabel y.0 tokens y.1) (None, tokens) x e refl

label_is_read : (tokens : List Placed) (x : Option RawIdentifier × List Placed) → is_label tokens ≡ true → label_at tokens ≡ Ok x → IsSome x.0
unfolding label_at
label_is_read ((line, Label written) ∷ rest) x next e = read_as (λ y. IsSome y.0) (Some (identified line written), rest) x e refl
label_is_read tokens x next e = absurd cc

pub block_at-is : Reads block_at SpellsBlock
unfolding block_at
block_at-is tokens x e =
    let a = bind_ok (label_at tokens) _ _ e in
    let b = bind_ok (insts_at a.0.1) _ _ a.2 in
    let c = bind_ok (terminator_at b.0.1) _ _ b.2 in
    let d = bind_ok (tail_at c.0.1) _ _ c.2 in
    read_as (λ y. SpellsBlock y.0 tokens y.1) (record { label = a.0.0; insts = b.0.0; end = c.0.0.1; end_line = c.0.0.0 }, d.0.1) x d.2
    (a.0.1, label_at-is tokens a.0 a.1, (b.0.1, insts_at-is a.0.1 b.0 b.1, (c.0.1, terminator_at-is b.0.1 c.0 c.1, tail_at-is c.0.1 d.0 d.1)))

pub block_is_labelled : (tokens : List Placed) (x : RawBlock × List Placed) → is_label tokens ≡ true → block_at tokens ≡ Ok x → SpellsLabelledBlock x.0 tokens x.1
unfolding block_at
block_is_labelled tokens x next e =
    let a = bind_ok (label_at tokens) _ _ e in
    let b = bind_ok (insts_at a.0.1) _ _ a.2 in
    let c = bind_ok (terminator_at b.0.1) _ _ b.2 in
    let d = bind_ok (tail_at c.0.1) _ _ c.2 in
    (read_as (λ y. IsSome y.0.label) (record { label = a.0.0; insts = b.0.0; end = c.0.0.1; end_line = c.0.0.0 }, d.0.1) x d.2 (label_is_read tokens a.0 next a.1), block_at-is tokens x e)

blocks_at-is : Reads blocks_at SpellsBlocks
unfolding blocks_at
blocks_at-is tokens x e =
    let a = bind_ok (block_at tokens) _ _ e in
    let r = each-is is_label block_at SpellsLabelledBlock block_is_labelled (a.0.0 ∷ []) a.0.1 x a.2 in
    let others = r.0 in
    subst (λ all. SpellsBlocks all tokens x.1) (sym others.1) (a.0.1, block_at-is tokens a.0 a.1, others.2)

-- ---- parameters

parameter_name_at-is : Reads parameter_name_at (Maybe SpellsRegister)
unfolding parameter_name_at
parameter_name_at-is ((line, Register written) ∷ rest) x e = read_as (λ y. Maybe SpellsRegister y.0 ((line, Register written) ∷ rest) y.1) (Some (identified line written), rest) x e (written, refl, refl)
parameter_name_at-is tokens x e = read_as (λ y. Maybe SpellsRegister y.0 tokens y.1) (None, tokens) x e refl

parameter_at-is : Reads parameter_at SpellsParameter
unfolding parameter_at
parameter_at-is tokens x e =
    let a = bind_ok (type_at tokens) _ _ e in
    let b = bind_ok (last_items_at a.0.1) _ _ a.2 in
    let c = bind_ok (parameter_name_at b.0.1) _ _ b.2 in
    read_as (λ y. SpellsParameter y.0 tokens y.1) (record { width = a.0.0; items = b.0.0; name = c.0.0 }, c.0.1) x c.2
    (a.0.1, type_at-is tokens a.0 a.1, (b.0.1, last_items_at-is a.0.1 b.0 b.1, parameter_name_at-is b.0.1 c.0 c.1))

pub further_parameter_at-is : Reads further_parameter_at (λ p. Comma ⨾ SpellsParameter p)
unfolding further_parameter_at
further_parameter_at-is tokens x e =
    let a = bind_ok (mark_at marks.comma tokens) _ _ e in
    (a.0.1, mark_at-is marks.comma tokens a.0 a.1, parameter_at-is a.0.1 x a.2)

-- parameters that are separated by `,` are a parameter list
separated_parameters : (all : List RawParameter) (tokens rest : List Placed) → Separated SpellsParameter all tokens rest → SpellsParameterList all tokens rest
separated_parameters [] tokens rest h = absurd h
separated_parameters (p ∷ parameters) tokens rest h = h

some_parameters_at-is : Reads some_parameters_at SpellsParameterList
unfolding some_parameters_at
some_parameters_at-is tokens x e =
    let a = bind_ok (parameter_at tokens) _ _ e in
    let r = each-is (is_mark marks.comma) further_parameter_at (λ p. Comma ⨾ SpellsParameter p) (λ ts y next f. further_parameter_at-is ts y f) (a.0.0 ∷ []) a.0.1 x a.2 in
    separated_parameters x.0 tokens x.1 (separated SpellsParameter a.0.0 tokens a.0.1 x.0 x.1 (parameter_at-is tokens a.0 a.1) r.0)

parameter_list_at-is : Reads parameter_list_at SpellsParameterList
unfolding parameter_list_at
parameter_list_at-is tokens x e = any (is_mark marks.close_paren tokens) e
  where
    any : (b : Bool) → cond b (Ok ([], tokens)) (some_parameters_at tokens) ≡ Ok x → SpellsParameterList x.0 tokens x.1
    any true e = read_as (λ y. SpellsParameterList y.0 tokens y.1) ([], tokens) x e refl
    any false e = some_parameters_at-is tokens x e

parameters_at-is : Reads parameters_at SpellsParameters
unfolding parameters_at
parameters_at-is tokens x e =
    let a = bind_ok (mark_at marks.open_paren tokens) _ _ e in
    let b = bind_ok (parameter_list_at a.0.1) _ _ a.2 in
    let c = bind_ok (mark_at marks.close_paren b.0.1) _ _ b.2 in
    read_as (λ y. SpellsParameters y.0 tokens y.1) (b.0.0, c.0.1) x c.2
    (a.0.1, mark_at-is marks.open_paren tokens a.0 a.1, (b.0.1, parameter_list_at-is a.0.1 b.0 b.1, mark_at-is marks.close_paren b.0.1 c.0 c.1))

-- ---- functions

abbrev SpellsNameOn : ℕ × List ℕ → Part
SpellsNameOn name = SpellsName name.0 name.1

function_name_at-is : Reads function_name_at SpellsNameOn
unfolding function_name_at
function_name_at-is ((line, Function written) ∷ rest) x e = named (identifier_of written) refl e
  where
    named : (i : Identifier) → identifier_of written ≡ i → named_function line i rest ≡ Ok x → SpellsNameOn x.0 ((line, Function written) ∷ rest) x.1
    named (Named name) is e = read_as (λ y. SpellsNameOn y.0 ((line, Function written) ∷ rest) y.1) ((line, name), rest) x e (written, is, refl)
    named (Numbered n) is e = absurd cc
function_name_at-is tokens x e = absurd cc

body_at-is : Reads body_at SpellsBody
unfolding body_at
body_at-is tokens x e =
    let a = bind_ok (attachments_at tokens) _ _ e in
    let b = bind_ok (mark_at marks.open_brace a.0.1) _ _ a.2 in
    let c = bind_ok (blocks_at b.0.1) _ _ b.2 in
    let d = bind_ok (mark_at marks.close_brace c.0.1) _ _ c.2 in
    read_as (λ y. SpellsBody y.0 tokens y.1) (c.0.0, d.0.1) x d.2
    (a.0.1, attachments_at-is tokens a.0 a.1, (b.0.1, mark_at-is marks.open_brace a.0.1 b.0 b.1, (c.0.1, blocks_at-is b.0.1 c.0 c.1, mark_at-is marks.close_brace c.0.1 d.0 d.1)))

function_at-is : (line : ℕ) (tokens : List Placed) (x : RawFunction × List Placed) → function_at tokens ≡ Ok x → SpellsFunction x.0 ((line, Word (codes "define")) ∷ tokens) x.1
unfolding function_at
function_at-is line tokens x e =
    let a = bind_ok (items_at tokens) _ _ e in
    let b = bind_ok (type_at a.0.1) _ _ a.2 in
    let c = bind_ok (function_name_at b.0.1) _ _ b.2 in
    let d = bind_ok (parameters_at c.0.1) _ _ c.2 in
    let f = bind_ok (last_items_at d.0.1) _ _ d.2 in
    let g = bind_ok (body_at f.0.1) _ _ f.2 in
    read_as (λ y. SpellsFunction y.0 ((line, Word (codes "define")) ∷ tokens) y.1)
    (record { line = c.0.0.0; name = c.0.0.1; before = a.0.0; width = b.0.0; parameters = d.0.0; after = f.0.0; blocks = g.0.0 }, g.0.1) x g.2 (
      tokens,
      (line, refl),
      (
        a.0.1,
        items_at-is tokens a.0 a.1,
        (
          b.0.1,
          type_at-is a.0.1 b.0 b.1,
          (
            c.0.1,
            function_name_at-is b.0.1 c.0 c.1,
            (
              d.0.1,
              parameters_at-is c.0.1 d.0 d.1,
              (f.0.1, last_items_at-is d.0.1 f.0 f.1, body_at-is f.0.1 g.0 g.1),
            ),
          ),
        ),
      ),
    )

-- ---- modules

pub entry_at-is : Reads entry_at SpellsEntry
unfolding entry_at
entry_at-is ((line, Kept text) ∷ rest) x e = read_as (λ y. SpellsEntry y.0 ((line, Kept text) ∷ rest) y.1) (entries.Kept text, rest) x e (line, refl)
entry_at-is ((line, Word word) ∷ rest) x e = defined (bytes_eq word (codes "define")) refl e
  where
    defined : (b : Bool) → bytes_eq word (codes "define") ≡ b → cond b ((function_at >>= λ f. done (entries.Function f)) rest) (Err (fault line (LeftOut word))) ≡ Ok x → SpellsEntry x.0 ((line, Word word) ∷ rest) x.1
    defined true h e =
        let a = bind_ok (function_at rest) _ _ e in
        read_as (λ y. SpellsEntry y.0 ((line, Word word) ∷ rest) y.1) (entries.Function a.0.0, a.0.1) x a.2
        (subst (λ w. SpellsFunction a.0.0 ((line, Word w) ∷ rest) a.0.1) (sym (same_word word (codes "define") h)) (function_at-is line rest a.0 a.1))
    defined false h e = absurd cc
entry_at-is tokens x e = absurd cc

ends_here : (tokens : List Placed) → begins_entry tokens ≡ false → (rest : List Placed) × Is End tokens rest
ends_here ((line, End) ∷ rest) none = (rest, (line, refl))
ends_here tokens none = absurd cc

pub module_of-is : (tokens : List Placed) (m : RawModule) → module_of tokens ≡ Ok m → SpellsModule m tokens
unfolding entries_at
module_of-is tokens m e = made (entries_at tokens) refl e
  where
    made : (r : Read (List RawEntry)) → entries_at tokens ≡ r → module_from r ≡ Ok m → SpellsModule m tokens
    made (Ok x) one e =
        let r = each-is begins_entry entry_at SpellsEntry (λ ts y next f. entry_at-is ts y f) [] tokens x one in
        let end = ends_here x.1 r.1 in
        read_as (λ n. SpellsModule n tokens) (record { entries = x.0 }) m e (end.0, (x.1, all_read SpellsEntry tokens x.0 x.1 r.0, end.1))
    made (Err d) one e = absurd cc
