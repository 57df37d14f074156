-- Behind each production fewer tokens are left, or at least no more.
use Rattle.ir_parse.proofs.Common.{ℕ, List, [], ◌∷◌, Option, Some, None, IsSome, RawEntry, RawFunction, RawParameter, RawIdentifier, RawBlock, SpellsRegister, Attachment, ◌⨾◌, Maybe, Each, Comma, SpellsItem, item-shorter, SpellsLabel, SpellsBlock, SpellsLabelledBlock, SpellsBlocks, SpellsParameter, SpellsParameterList, SpellsParameters, SpellsBody, SpellsName, SpellsFunction, SpellsEntry, Shorter, NoLonger, weaker, begins, both, on_line, token, a_token, no_part, maybe, each, repeated, a_register, a_type, attachment-shorter, tail, terminator, insts}
use Rattle.ir_tokens.specs.declared.raw.RawEntry.TheVariants as entries
use Rattle.ir_instructions.proofs.Shorter.{separated}

label : (l : RawIdentifier) → Shorter (SpellsLabel l)
label l tokens rest (written, same, is) = on_line l.line _ tokens rest is

items : (xs : List (List ℕ)) → NoLonger (Each SpellsItem xs)
items xs = each SpellsItem (λ item. weaker (SpellsItem item) (item-shorter item)) xs

-- ---- blocks, functions and entries

block : (b : RawBlock) → NoLonger (SpellsBlock b)
block b = both _ _ (maybe SpellsLabel (λ l. weaker (SpellsLabel l) (label l)) b.label) (both _ _ (insts b.insts) (both _ _ (terminator b.end_line b.end) tail))

some_label : (l : Option RawIdentifier) → IsSome l → Shorter (Maybe SpellsLabel l)
some_label (Some l) some = label l
some_label None some = absurd cc

pub block-shorter : (b : RawBlock) → Shorter (SpellsLabelledBlock b)
block-shorter b tokens rest (some, h) = begins _ _ (some_label b.label some) (both _ _ (insts b.insts) (both _ _ (terminator b.end_line b.end) tail)) tokens rest h

blocks : (bs : List RawBlock) → NoLonger (SpellsBlocks bs)
blocks [] tokens rest h = absurd h
blocks (b ∷ bs) tokens rest h = both (SpellsBlock b) (Each SpellsLabelledBlock bs) (block b) (each SpellsLabelledBlock (λ c. weaker (SpellsLabelledBlock c) (block-shorter c)) bs) tokens rest h

parameter : (p : RawParameter) → NoLonger (SpellsParameter p)
parameter p = both _ _ (a_type p.width) (both _ _ (items p.items) (maybe SpellsRegister a_register p.name))

pub further_parameter-shorter : (p : RawParameter) → Shorter (Comma ⨾ SpellsParameter p)
further_parameter-shorter p = begins Comma (SpellsParameter p) (token _) (parameter p)

parameter_list : (ps : List RawParameter) → NoLonger (SpellsParameterList ps)
parameter_list [] = no_part
parameter_list (p ∷ ps) = separated SpellsParameter parameter (p ∷ ps)

parameters : (ps : List RawParameter) → NoLonger (SpellsParameters ps)
parameters ps = both _ _ (a_token _) (both _ _ (parameter_list ps) (a_token _))

name : (line : ℕ) (n : List ℕ) → NoLonger (SpellsName line n)
name line n = weaker (SpellsName line n) (λ tokens rest (written, is, one). on_line line _ tokens rest one)

body : (bs : List RawBlock) → NoLonger (SpellsBody bs)
body bs = both _ _ (repeated Attachment (weaker Attachment attachment-shorter)) (both _ _ (a_token _) (both _ _ (blocks bs) (a_token _)))

function : (f : RawFunction) → Shorter (SpellsFunction f)
function f =
    begins _ _ (token _) (both _ _ (items f.before) (both _ _ (a_type f.width) (both _ _ (name f.line f.name)
    (both _ _ (parameters f.parameters) (both _ _ (items f.after) (body f.blocks))))))

pub entry-shorter : (e : RawEntry) → Shorter (SpellsEntry e)
entry-shorter (entries.Kept text) = token _
entry-shorter (entries.Function f) = function f
