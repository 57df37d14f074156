-- The parser of modules: each function reads one production from left to right, and gives its syntax tree, or the fault
-- of the first token that does not fit.
use Rattle.std.specs.Prelude.{ℕ, Bool, true, false, not, if◌then◌else◌, List, [], ◌∷◌, Option, None, Some, Result, Ok, Err, codes}
use Rattle.std.specs.Str.{bytes_eq}
use Rattle.ir_tokens.specs.declared.called.Identifier.{Identifier}
use Rattle.ir_tokens.specs.declared.called.Identifier.TheVariants.{Named, Numbered}
use Rattle.ir_tokens.specs.Identifiers.{identifier_of}
use Rattle.ir_tokens.specs.Tokens.{Placed, End, Kept, Label, Word, Register, Function}
use Rattle.ir_tokens.specs.declared.fault.IrFaultKind.TheVariants.{LeftOut}
use Rattle.refusal.specs.declared.fault.Fault.{Fault}
use Rattle.ir_tokens.specs.declared.fault.IrFaultKind.{IrFaultKind}
use Rattle.ir_instructions.specs.declared.place.Expected.TheVariants as places
use Rattle.ir_tokens.specs.declared.raw.RawModule.{RawModule}
use Rattle.ir_tokens.specs.declared.raw.RawEntry.{RawEntry}
use Rattle.ir_tokens.specs.declared.raw.RawEntry.TheVariants as entries
use Rattle.ir_tokens.specs.declared.raw.RawFunction.{RawFunction}
use Rattle.ir_tokens.specs.declared.raw.RawParameter.{RawParameter}
use Rattle.ir_tokens.specs.declared.raw.RawIdentifier.{RawIdentifier}
use Rattle.ir_tokens.specs.declared.raw.RawBlock.{RawBlock}
use Rattle.ir_instructions.specs.Readers.{Read, Reader, fault, unexpected, ◌>>=◌, done, each_at}
use Rattle.ir_instructions.specs.ItemReaders.{items_at, last_items_at}
use Rattle.ir_instructions.specs.InstructionReaders.{attachments_at, identified, insts_at, is_mark, mark_at, tail_at, terminator_at, type_at}
use Rattle.ir_instructions.specs.Punctuation as marks

-- ---- lookahead

abbrev pub is_label : List Placed → Bool
is_label ((line, Label name) ∷ rest) = true
is_label tokens = false

abbrev pub is_end : List Placed → Bool
is_end ((line, End) ∷ rest) = true
is_end tokens = false

-- ---- functions

-- a label, if there is one
unfoldable pub label_at : Reader (Option RawIdentifier)
label_at ((line, Label written) ∷ rest) = Ok (Some (identified line written), rest)
label_at tokens = Ok (None, tokens)

unfoldable pub block_at : Reader RawBlock
block_at = do
  label ← label_at
  insts ← insts_at
  end ← terminator_at
  _ ← tail_at
  done (record { label = label; insts = insts; end = end.1; end_line = end.0 })

-- blocks, of which only the first may have no label
unfoldable pub blocks_at : Reader (List RawBlock)
blocks_at = do
  first ← block_at
  each_at is_label block_at (first ∷ [])

-- the name of a parameter, if it has one
unfoldable pub parameter_name_at : Reader (Option RawIdentifier)
parameter_name_at ((line, Register written) ∷ rest) = Ok (Some (identified line written), rest)
parameter_name_at tokens = Ok (None, tokens)

unfoldable pub parameter_at : Reader RawParameter
parameter_at = do
  width ← type_at
  items ← last_items_at
  name ← parameter_name_at
  done (record { width = width; items = items; name = name })

unfoldable pub further_parameter_at : Reader RawParameter
further_parameter_at = do
  _ ← mark_at marks.comma
  parameter_at

unfoldable pub some_parameters_at : Reader (List RawParameter)
some_parameters_at = do
  first ← parameter_at
  each_at (is_mark marks.comma) further_parameter_at (first ∷ [])

unfoldable pub parameter_list_at : Reader (List RawParameter)
parameter_list_at tokens = if is_mark marks.close_paren tokens then Ok ([], tokens) else some_parameters_at tokens

unfoldable pub parameters_at : Reader (List RawParameter)
parameters_at = do
  _ ← mark_at marks.open_paren
  parameters ← parameter_list_at
  _ ← mark_at marks.close_paren
  done parameters

-- a function's name; a number in its place is not supported
abbrev pub named_function : ℕ → Identifier → Reader (ℕ × List ℕ)
named_function line (Named name) rest = Ok ((line, name), rest)
named_function line (Numbered n) rest = Err (fault line (LeftOut (codes "@")))

unfoldable pub function_name_at : Reader (ℕ × List ℕ)
function_name_at ((line, Function written) ∷ rest) = named_function line (identifier_of written) rest
function_name_at tokens = Err (unexpected places.Fixed tokens)

-- attachments, and the blocks of a function in their braces
unfoldable pub body_at : Reader (List RawBlock)
body_at = do
  _ ← attachments_at
  _ ← mark_at marks.open_brace
  blocks ← blocks_at
  _ ← mark_at marks.close_brace
  done blocks

-- a function behind the word `define`
unfoldable pub function_at : Reader RawFunction
function_at = do
  before ← items_at
  width ← type_at
  name ← function_name_at
  parameters ← parameters_at
  after ← last_items_at
  blocks ← body_at
  done (
      record {
        line = name.0;
        name = name.1;
        before = before;
        width = width;
        parameters = parameters;
        after = after;
        blocks = blocks;
      }
      )

-- ---- modules

unfoldable pub entry_at : Reader RawEntry
entry_at ((line, Kept text) ∷ rest) = Ok (entries.Kept text, rest)
entry_at ((line, Word word) ∷ rest) =
    if bytes_eq word (codes "define") then (function_at >>= λ f. done (entries.Function f)) rest else Err (fault line (LeftOut word))
entry_at tokens = Err (unexpected places.Entry tokens)

-- an entry is next: the text does not end yet
abbrev pub begins_entry : List Placed → Bool
begins_entry tokens = not (is_end tokens)

-- the entries of a module
unfoldable pub entries_at : Reader (List RawEntry)
entries_at = each_at begins_entry entry_at []

-- the module of these tokens
abbrev pub module_from : Read (List RawEntry) → Result RawModule (Fault IrFaultKind)
module_from (Ok x) = Ok (record { entries = x.0 })
module_from (Err e) = Err e

abbrev pub module_of : List Placed → Result RawModule (Fault IrFaultKind)
module_of tokens = module_from (entries_at tokens)
