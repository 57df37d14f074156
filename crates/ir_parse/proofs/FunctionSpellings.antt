-- Completeness of the parser for blocks, functions and modules: it gives what is spelled, if what follows may follow.
use Rattle.ir_parse.proofs.Common.{◌≡◌, ℕ, true, false, eqb, List, [], ◌∷◌, Option, Some, None, Ok, refl, ap, codes, IsSome, Placed, Label, Word, Mark, RawModule, RawEntry, RawFunction, RawParameter, RawIdentifier, RawBlock, RawInst, SpellsRegister, SpellsInst, SpellsTerminator, SpellsType, is_mark, MayFollowItem, Part, Is, ◌⨾◌, Maybe, Each, Comma, SpellsLabel, SpellsBlock, SpellsLabelledBlock, SpellsBlocks, SpellsParameter, SpellsParameterList, SpellsParameters, SpellsBody, SpellsName, SpellsFunction, SpellsEntry, SpellsModule, is_label, label_at, block_at, blocks_at, parameter_name_at, parameter_at, further_parameter_at, some_parameters_at, parameter_list_at, parameters_at, function_name_at, body_at, function_at, entry_at, begins_entry, entries_at, module_from, module_of, ReadsEach, each-of, HasNoTail, insts_at-of, terminator_at-of, terminator_begins, mark_at-of, type_at-of, attachments_at-of, tail_at-of, type_begins_no_item, items_at-of, MayFollowItems, last_items_at-of}
use Rattle.ir_tokens.specs.declared.raw.RawEntry.TheVariants as entries
use Rattle.ir_instructions.specs.Punctuation as marks
use Rattle.ir_parse.proofs.TakingParts.{block-takes, parameter-takes, entry-takes}

-- ---- blocks

-- neither instructions nor a terminator begin with a label
no_label : (line : ℕ) (b : RawBlock) (insts : List RawInst) (tokens middle rest : List Placed) → Each SpellsInst insts tokens middle → SpellsTerminator line b.end middle rest → is_label tokens ≡ false
no_label line b [] tokens middle rest same end = let w = terminator_begins line b.end middle rest end in rw (same, w.2) refl
no_label line b (i ∷ insts) tokens middle rest (t1, (t2, (written, name, is), behind), more) end = rw is refl

label_at-of : (label : Option RawIdentifier) (tokens rest : List Placed) → Maybe SpellsLabel label tokens rest → is_label rest ≡ false → label_at tokens ≡ Ok (label, rest)
unfolding label_at
label_at-of (Some l) tokens rest (written, same, is) none = rw (is, ← same) refl
label_at-of None tokens rest same none = rw same (missing rest none)
  where
    missing : (ts : List Placed) → is_label ts ≡ false → label_at ts ≡ Ok (None, ts)
    missing ((line, Label written) ∷ others) none = absurd cc
    missing ts none = refl

block_at-of : (b : RawBlock) (tokens rest : List Placed) → SpellsBlock b tokens rest → HasNoTail rest → block_at tokens ≡ Ok (b, rest)
unfolding block_at
block_at-of b tokens rest (t1, label, (t2, insts, (t3, end, tail))) none =
    let w = terminator_begins b.end_line b.end t2 t3 end in
    rw (
      label_at-of b.label tokens t1 label (no_label b.end_line b b.insts t1 t2 t3 insts end),
      insts_at-of b.insts t1 t2 insts (rw w.2 refl) (rw w.2 (refl, tt)),
      terminator_at-of b.end_line b.end t2 t3 end,
      tail_at-of t3 rest tail none,
    ) refl

label_begins : (label : Option RawIdentifier) (tokens rest : List Placed) → IsSome label → Maybe SpellsLabel label tokens rest → (is_label tokens ≡ true) × HasNoTail tokens
label_begins (Some l) tokens rest some (written, same, is) = (rw is refl, rw is refl)
label_begins None tokens rest some label = absurd cc

labelled_begins : (b : RawBlock) (tokens rest : List Placed) → SpellsLabelledBlock b tokens rest → (is_label tokens ≡ true) × HasNoTail tokens
labelled_begins b tokens rest (some, (t1, label, behind)) = label_begins b.label tokens t1 some label

blocks_at-of : (blocks : List RawBlock) (tokens rest : List Placed) → SpellsBlocks blocks tokens rest → is_label rest ≡ false → HasNoTail rest → blocks_at tokens ≡ Ok (blocks, rest)
unfolding blocks_at
blocks_at-of [] tokens rest never none may = absurd never
blocks_at-of (first ∷ others) tokens rest (t1, one, each) none may =
    let e : ReadsEach is_label block_at SpellsLabelledBlock HasNoTail = record {
      takes = block-takes;
      next = λ b ts r h. (labelled_begins b ts r h).0;
      follows = λ b ts r h. (labelled_begins b ts r h).1;
      reads = λ b ts r h. block_at-of b ts r h.1;
    } in
    rw (block_at-of first tokens t1 one (followed others t1 each)) (each-of is_label block_at SpellsLabelledBlock HasNoTail e others (first ∷ []) t1 rest each none may)
  where
    followed : (bs : List RawBlock) (ts : List Placed) → Each SpellsLabelledBlock bs ts rest → HasNoTail ts
    followed [] ts same = rw same may
    followed (b ∷ bs) ts (t2, one, more) = (labelled_begins b ts t2 one).1

-- ---- parameters

-- a mark other than `=` follows, as the `,` or the `)` behind a parameter
abbrev MayFollowParameter : List Placed → Type 0
MayFollowParameter ((line, Mark mark) ∷ rest) = eqb mark marks.equals ≡ false
MayFollowParameter tokens = ⊥

name_may_follow : (name : Option RawIdentifier) (tokens rest : List Placed) → Maybe SpellsRegister name tokens rest → MayFollowParameter rest → MayFollowItems tokens
name_may_follow (Some r) tokens rest (written, same, is) may = rw is tt
name_may_follow None tokens rest same may = rw same (ends rest may)
  where
    ends : (ts : List Placed) → MayFollowParameter ts → MayFollowItems ts
    ends ((line, Mark mark) ∷ others) may = may
    ends ts may = absurd may

parameter_name_at-of : (name : Option RawIdentifier) (tokens rest : List Placed) → Maybe SpellsRegister name tokens rest → MayFollowParameter rest → parameter_name_at tokens ≡ Ok (name, rest)
unfolding parameter_name_at
parameter_name_at-of (Some r) tokens rest (written, same, is) may = rw (is, ← same) refl
parameter_name_at-of None tokens rest same may = rw same (missing rest may)
  where
    missing : (ts : List Placed) → MayFollowParameter ts → parameter_name_at ts ≡ Ok (None, ts)
    missing ((line, Mark mark) ∷ others) may = refl
    missing ts may = absurd may

parameter_at-of : (p : RawParameter) (tokens rest : List Placed) → SpellsParameter p tokens rest → MayFollowParameter rest → parameter_at tokens ≡ Ok (p, rest)
unfolding parameter_at
parameter_at-of p tokens rest (t1, type, (t2, items, name)) may =
    rw (type_at-of p.width tokens t1 type, last_items_at-of p.items t1 t2 items (name_may_follow p.name t2 rest name may), parameter_name_at-of p.name t2 rest name may) refl

abbrev Further : RawParameter → Part
Further p = Comma ⨾ SpellsParameter p

further_is_read : (p : RawParameter) (tokens rest : List Placed) → Further p tokens rest → MayFollowParameter rest → further_parameter_at tokens ≡ Ok (p, rest)
unfolding further_parameter_at
further_is_read p tokens rest (t1, comma, parameter) may = rw (mark_at-of marks.comma tokens t1 comma) (parameter_at-of p t1 rest parameter may)

further_begins : (p : RawParameter) (tokens rest : List Placed) → Further p tokens rest → (is_mark marks.comma tokens ≡ true) × MayFollowParameter tokens
further_begins p tokens rest (t1, (line, is), parameter) = (rw is refl, rw is refl)

parameter_list_at-of : (parameters : List RawParameter) (tokens rest behind : List Placed) → SpellsParameterList parameters tokens rest → Is (Mark marks.close_paren) rest behind → parameter_list_at tokens ≡ Ok (parameters, rest)
unfolding parameter_list_at some_parameters_at
parameter_list_at-of [] tokens rest behind same (line, is) = rw (same, is) refl
parameter_list_at-of (first ∷ others) tokens rest behind (t1, one, each) (line, is) =
    let e : ReadsEach (is_mark marks.comma) further_parameter_at Further MayFollowParameter = record {
      takes = parameter-takes;
      next = λ p ts r h. (further_begins p ts r h).0;
      follows = λ p ts r h. (further_begins p ts r h).1;
      reads = further_is_read;
    } in
    rw (opens first t1 one, parameter_at-of first tokens t1 one (followed others t1 each))
    (each-of (is_mark marks.comma) further_parameter_at Further MayFollowParameter e others (first ∷ []) t1 rest each (rw is refl) (rw is refl))
  where
    opens : (p : RawParameter) (ts : List Placed) → SpellsParameter p tokens ts → is_mark marks.close_paren tokens ≡ false
    opens p ts (t2, (word, type, (line', is')), more) = rw is' refl

    followed : (ps : List RawParameter) (ts : List Placed) → Each Further ps ts rest → MayFollowParameter ts
    followed [] ts same = rw (same, is) refl
    followed (p ∷ ps) ts (t2, one, more) = (further_begins p ts t2 one).1

parameters_at-of : (parameters : List RawParameter) (tokens rest : List Placed) → SpellsParameters parameters tokens rest → parameters_at tokens ≡ Ok (parameters, rest)
unfolding parameters_at
parameters_at-of parameters tokens rest (t1, opens, (t2, list, closes)) =
    rw (mark_at-of marks.open_paren tokens t1 opens, parameter_list_at-of parameters t1 t2 rest list closes, mark_at-of marks.close_paren t2 rest closes) refl

-- ---- functions

function_name_at-of : (line : ℕ) (name : List ℕ) (tokens rest : List Placed) → SpellsName line name tokens rest → function_name_at tokens ≡ Ok ((line, name), rest)
unfolding function_name_at
function_name_at-of line name tokens rest (written, same, is) = rw (is, same) refl

body_at-of : (blocks : List RawBlock) (tokens rest : List Placed) → SpellsBody blocks tokens rest → body_at tokens ≡ Ok (blocks, rest)
unfolding body_at
body_at-of blocks tokens rest (t1, attachments, (t2, (line, opens), (t3, bs, (line', closes)))) =
    rw (
      attachments_at-of tokens t1 attachments (rw opens refl),
      mark_at-of marks.open_brace t1 t2 (line, opens),
      blocks_at-of blocks t2 t3 bs (rw closes refl) (rw closes refl),
      mark_at-of marks.close_brace t3 rest (line', closes),
    ) refl

body_may_follow : (blocks : List RawBlock) (tokens rest : List Placed) → SpellsBody blocks tokens rest → MayFollowItems tokens
body_may_follow blocks tokens rest (t1, ([], same), (t2, (line, opens), behind)) = rw (same, opens) refl
body_may_follow blocks tokens rest (t1, (once ∷ times, (t2, (name, number, plain, digits, (t3, (line, is), more)), each)), behind) = rw is tt

type_may_follow : (width : ℕ) (tokens rest : List Placed) → SpellsType width tokens rest → MayFollowItem tokens
type_may_follow width tokens rest (word, type, (line, is)) = rw is tt

function_at-of : (f : RawFunction) (tokens rest : List Placed) → SpellsFunction f tokens rest → (line : ℕ) × (behind : List Placed) × (tokens ≡ (line, Word (codes "define")) ∷ behind) × (function_at behind ≡ Ok (f, rest))
unfolding function_at
function_at-of f tokens rest (t1, (line, is), (t2, before, (t3, type, (t4, name, (t5, parameters, (t6, after, body)))))) = (
  line,
  t1,
  is,
  rw (
    items_at-of f.before t1 t2 before (type_begins_no_item f.width t2 t3 type) (type_may_follow f.width t2 t3 type),
    type_at-of f.width t2 t3 type,
    function_name_at-of f.line f.name t3 t4 name,
    parameters_at-of f.parameters t4 t5 parameters,
    last_items_at-of f.after t5 t6 after (body_may_follow f.blocks t6 rest body),
    body_at-of f.blocks t6 rest body,
  ) refl,
)

-- ---- modules

pub entry_at-of : (e : RawEntry) (tokens rest : List Placed) → SpellsEntry e tokens rest → Unit {0} → entry_at tokens ≡ Ok (e, rest)
unfolding entry_at
entry_at-of (entries.Kept text) tokens rest (line, is) may = rw is refl
entry_at-of (entries.Function f) tokens rest spelled may =
    let r = function_at-of f tokens rest spelled in rw (r.2, r.3) refl

pub entry_is_next : (e : RawEntry) (tokens rest : List Placed) → SpellsEntry e tokens rest → begins_entry tokens ≡ true
entry_is_next (entries.Kept text) tokens rest (line, is) = rw is refl
entry_is_next (entries.Function f) tokens rest (t1, (line, is), behind) = rw is refl

pub module_of-of : (m : RawModule) (tokens : List Placed) → SpellsModule m tokens → module_of tokens ≡ Ok m
unfolding entries_at
module_of-of m tokens (rest, (middle, each, (line, end))) =
    ap module_from (each-of begins_entry entry_at SpellsEntry (λ ts. Unit {0}) (record { takes = entry-takes; next = entry_is_next; follows = λ e ts r h. tt; reads = entry_at-of })
    m.entries [] tokens middle each (rw end refl) tt)
