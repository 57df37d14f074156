-- The grammar of modules: for each production the syntax tree and the tokens that spell it (LLVM Language Reference,
-- "Module Structure", "Functions").
--
-- With the grammar of instructions and terminators this is the whole of what is read. Attachments of metadata are
-- dropped.
use Rattle.std.specs.Prelude.{◌≡◌, ℕ, List, [], ◌∷◌, IsSome, codes}
use Rattle.ir_tokens.specs.declared.called.Identifier.TheVariants.{Named}
use Rattle.ir_tokens.specs.Identifiers.{identifier_of}
use Rattle.ir_tokens.specs.Tokens.{Placed, End, Kept, Label, Word, Function, Mark}
use Rattle.ir_tokens.specs.declared.raw.RawModule.{RawModule}
use Rattle.ir_tokens.specs.declared.raw.RawEntry.{RawEntry}
use Rattle.ir_tokens.specs.declared.raw.RawEntry.TheVariants as entries
use Rattle.ir_tokens.specs.declared.raw.RawFunction.{RawFunction}
use Rattle.ir_tokens.specs.declared.raw.RawParameter.{RawParameter}
use Rattle.ir_tokens.specs.declared.raw.RawIdentifier.{RawIdentifier}
use Rattle.ir_tokens.specs.declared.raw.RawBlock.{RawBlock}
use Rattle.ir_instructions.specs.Parts.{Part, IsOn, Is, Nothing, Never, ◌⨾◌, Maybe, Each, Separated, Repeated}
use Rattle.ir_instructions.specs.ItemGrammar.{SpellsItem}
use Rattle.ir_instructions.specs.Grammar.{Attachment, SpellsInst, SpellsRegister, SpellsTerminator, SpellsType, Tail}
use Rattle.ir_instructions.specs.Punctuation as marks

-- ---- functions

-- LABEL
abbrev pub SpellsLabel : RawIdentifier → Part
SpellsLabel l tokens rest = (written : List ℕ) × (l.identifier ≡ identifier_of written) × IsOn l.line (Label written) tokens rest

-- block := [LABEL] inst* term tail
abbrev pub SpellsBlock : RawBlock → Part
SpellsBlock b = Maybe SpellsLabel b.label ⨾ Each SpellsInst b.insts ⨾ SpellsTerminator b.end_line b.end ⨾ Tail

abbrev pub SpellsLabelledBlock : RawBlock → Part
SpellsLabelledBlock b tokens rest = IsSome b.label × SpellsBlock b tokens rest

-- at least one block; only the first may have no label
abbrev pub SpellsBlocks : List RawBlock → Part
SpellsBlocks [] = Never
SpellsBlocks (first ∷ others) = SpellsBlock first ⨾ Each SpellsLabelledBlock others

-- param := type item* [REGISTER]
abbrev pub SpellsParameter : RawParameter → Part
SpellsParameter p = SpellsType p.width ⨾ Each SpellsItem p.items ⨾ Maybe SpellsRegister p.name

-- [param (',' param)*]
abbrev pub SpellsParameterList : List RawParameter → Part
SpellsParameterList [] = Nothing
SpellsParameterList (first ∷ others) = Separated SpellsParameter (first ∷ others)

-- params := '(' [param (',' param)*] ')'
abbrev pub SpellsParameters : List RawParameter → Part
SpellsParameters parameters = Is (Mark marks.open_paren) ⨾ SpellsParameterList parameters ⨾ Is (Mark marks.close_paren)

-- a function's name, with its line; a number is none
abbrev pub SpellsName : ℕ → List ℕ → Part
SpellsName line name tokens rest = (written : List ℕ) × (identifier_of written ≡ Named name) × IsOn line (Function written) tokens rest

-- body := attachment* '{' block+ '}'
abbrev pub SpellsBody : List RawBlock → Part
SpellsBody blocks = Repeated Attachment ⨾ Is (Mark marks.open_brace) ⨾ SpellsBlocks blocks ⨾ Is (Mark marks.close_brace)

-- function := 'define' item* type FUNCTION params item* body
abbrev pub SpellsFunction : RawFunction → Part
SpellsFunction f =
    Is (Word (codes "define")) ⨾ Each SpellsItem f.before ⨾ SpellsType f.width ⨾ SpellsName f.line f.name
    ⨾ SpellsParameters f.parameters ⨾ Each SpellsItem f.after ⨾ SpellsBody f.blocks

-- entry := KEPT | function
abbrev pub SpellsEntry : RawEntry → Part
SpellsEntry (entries.Kept text) = Is (Kept text)
SpellsEntry (entries.Function f) = SpellsFunction f

-- module := entry*, up to the end of the text
abbrev pub SpellsModule : RawModule → List Placed → Type 0
SpellsModule m tokens = (rest : List Placed) × (Each SpellsEntry m.entries ⨾ Is End) tokens rest
