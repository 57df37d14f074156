-- The parser of terms, as functions over tokens: the nodes of before with those that are read, and the tokens that are
-- left, or the fault of the first token that does not fit.
use Rattle.std.specs.Prelude.{ℕ, zero, suc, ◌==◌, if◌then◌else◌, List, [], ◌∷◌, ◌++◌, length, Option, None, Some, Result, Ok, Err, codes}
use Rattle.std.specs.Str.{bytes_eq}
use Rattle.ops.specs.declared.opcode.Opcode.{Opcode}
use Rattle.rule_core.specs.declared.rule.Function.{Function}
use Rattle.rule_core.specs.declared.rule.Function.TheVariants.{Negate, Not}
use Rattle.rule_tokens.specs.declared.fault.RuleFaultKind.TheVariants.{Syntax, TooMany}
use Rattle.rule_tokens.specs.RuleFaults.{RuleFault}
use Rattle.rule_tokens.specs.Steps.{◌>>=◌}
use Rattle.rule_tokens.specs.Numbers.{literal_value}
use Rattle.rule_tokens.specs.PartReaders.{Read, fault, unexpected, misplaced_word, name_within}
use Rattle.rule_tokens.specs.Tokens.{Token, Register, Word, Number, Mark}
use Rattle.rule_terms.specs.declared.place.TermPlace.{TermPlace}
use Rattle.rule_terms.specs.declared.place.TermPlace.TheVariants as places
use Rattle.rule_terms.specs.declared.raw.RawNode.{RawNode}
use Rattle.rule_terms.specs.declared.raw.RawNode.TheVariants as nodes
use Rattle.rule_terms.specs.declared.start.Start.{Start}
use Rattle.rule_terms.specs.declared.start.Start.TheVariants.{Leaf, Prefix, Parenthesis, Call, Width}
use Rattle.rule_terms.specs.declared.word.Meaning.{Meaning}
use Rattle.rule_terms.specs.declared.word.Meaning.TheVariants as meanings
use Rattle.rule_terms.specs.Grammar.{last_place}
use Rattle.rule_terms.specs.Keywords.{operator_in, level_of, loosest, meaning_in}
use Rattle.rule_tokens.specs.Limits.{Limits}

-- ---- marks

-- this mark is next; it is taken
unfoldable pub mark_at : List ℕ → ℕ → List Token → Result (List Token) RuleFault
mark_at wanted line (Mark mark ∷ rest) = if bytes_eq mark wanted then Ok rest else Err (fault line Syntax)
mark_at wanted line tokens = Err (unexpected line tokens)

-- ---- what an operand begins with

-- a register, in `Wit:` alone
abbrev pub register_in : Limits → TermPlace → ℕ → List ℕ → Result Start RuleFault
register_in limits places.Constant line name = Err (fault line Syntax)
register_in limits places.Witness line name = name_within limits line name >>= λ held. Ok (Leaf (nodes.Register held))

-- a word that means something where an operand begins
abbrev pub word_at : Limits → ℕ → List ℕ → Option Meaning → List Token → Read Start
word_at limits line word (Some meanings.Width) rest = mark_at (codes "(") line rest >>= λ behind. Ok (Width, behind)
word_at limits line word (Some (meanings.Call function)) rest = mark_at (codes "(") line rest >>= λ behind. Ok (Call function, behind)
word_at limits line word (Some meanings.Constant) rest = name_within limits line word >>= λ name. Ok (Leaf (nodes.Constant name), rest)
word_at limits line word (Some (meanings.Choice place)) rest = name_within limits line word >>= λ name. Ok (Leaf (nodes.Choice place), rest)
word_at limits line word None rest = Err (misplaced_word line word)

-- a parenthesis or a unary operator
unfoldable pub opening_in : List ℕ → Option Start
opening_in mark =
    if bytes_eq mark (codes "(") then Some Parenthesis
    else (if bytes_eq mark (codes "-") then Some (Prefix Negate)
    else (if bytes_eq mark (codes "~") then Some (Prefix Not) else None))

abbrev pub opening_at : ℕ → Option Start → List Token → Read Start
opening_at line (Some start) rest = Ok (start, rest)
opening_at line None rest = Err (fault line Syntax)

unfoldable pub start_at : Limits → TermPlace → ℕ → List Token → Read Start
start_at limits place line (Number text ∷ rest) = Ok (Leaf (nodes.Literal (literal_value text)), rest)
start_at limits place line (Register name ∷ rest) = register_in limits place line name >>= λ start. Ok (start, rest)
start_at limits place line (Word word ∷ rest) = word_at limits line word (meaning_in place word) rest
start_at limits place line (Mark mark ∷ rest) = opening_at line (opening_in mark) rest
start_at limits place line tokens = Err (unexpected line tokens)

-- ---- binary operators

-- a parser, given the nodes so far: all nodes, and the tokens that are left
abbrev pub Reader : Type 0
Reader = List RawNode → List Token → Read (List RawNode)

-- the operator that is next, where it is of the level, and the tokens behind it
abbrev pub of_level : ℕ → Option Opcode → List Token → Option (Opcode × List Token)
of_level level None rest = None
of_level level (Some op) rest = if level_of op == level then Some (op, rest) else None

unfoldable pub operator_at : ℕ → List Token → Option (Opcode × List Token)
operator_at level (Mark mark ∷ rest) = of_level level (operator_in mark) rest
operator_at level tokens = None

-- the node of an operator, behind its operands'
abbrev pub join : Opcode → List RawNode → List RawNode → List RawNode
join op left both = both ++ nodes.Binary op (last_place (length left)) (last_place (length both)) ∷ []

-- an operator with its right operand, and what `others` reads behind them; or nothing
abbrev pub joined_or_end : Reader → Reader → List RawNode → List Token → Option (Opcode × List Token) → Read (List RawNode)
joined_or_end operand others left tokens None = Ok (left, tokens)
joined_or_end operand others left tokens (Some next) = operand left next.1 >>= λ both. others (join next.0 left both.0) both.1

-- Operators of one level with their right operands, as long as one is next. At most `many` are read; more than the
-- number of tokens is always enough.
unfoldable pub chain_at : Reader → ℕ → ℕ → Reader
chain_at operand level zero left tokens = Ok (left, tokens)
chain_at operand level (suc many) left tokens = joined_or_end operand (λ ls ts. chain_at operand level many ls ts) left tokens (operator_at level tokens)

abbrev pub whole_chain_at : Reader → ℕ → Reader
whole_chain_at operand level left tokens = chain_at operand level (suc (length tokens)) left tokens

-- what is behind an operand of level 0: operators of the levels up to this one with their right operands; `primary`
-- reads an operand of level 0
unfoldable pub behind_at : Reader → ℕ → Reader
behind_at primary zero left tokens = Ok (left, tokens)
behind_at primary (suc level) left tokens =
    behind_at primary level left tokens
    >>= λ first. whole_chain_at (λ ns ts. primary ns ts >>= λ x. behind_at primary level x.0 x.1) (suc level) first.0 first.1

-- an operand with binary operators of the levels up to this one
abbrev pub operand_at : Reader → ℕ → Reader
operand_at primary level before tokens = primary before tokens >>= λ x. behind_at primary level x.0 x.1

-- ---- operands of level 0

abbrev pub add_unary : Function → List RawNode → List RawNode
add_unary function before = before ++ nodes.Unary function (last_place (length before)) ∷ []

-- behind `(`: a term and `)`
abbrev pub inside_at : ℕ → Reader → Reader
inside_at line primary before tokens = do
  inside ← operand_at primary loosest before tokens
  behind ← mark_at (codes ")") line inside.1
  Ok (inside.0, behind)

-- behind `width(`: a register and `)`
unfoldable pub measured_at : Limits → ℕ → List Token → Read (List ℕ)
measured_at limits line (Register name ∷ rest) = do
  held ← name_within limits line name
  behind ← mark_at (codes ")") line rest
  Ok (held, behind)
measured_at limits line tokens = Err (unexpected line tokens)

-- what is behind the beginning of an operand; `primary` reads the operands of level 0 in it
abbrev pub begun_at : Limits → ℕ → Reader → List RawNode → Start → List Token → Read (List RawNode)
begun_at limits line primary before (Leaf node) rest = Ok (before ++ node ∷ [], rest)
begun_at limits line primary before (Prefix function) rest = primary before rest >>= λ x. Ok (add_unary function x.0, x.1)
begun_at limits line primary before Parenthesis rest = inside_at line primary before rest
begun_at limits line primary before (Call function) rest = inside_at line primary before rest >>= λ x. Ok (add_unary function x.0, x.1)
begun_at limits line primary before Width rest = measured_at limits line rest >>= λ x. Ok (before ++ nodes.Width x.0 ∷ [], x.1)

-- an operand where no level of nesting is left: it has to be of one token
abbrev pub shallow_in : ℕ → List RawNode → Start → Result (List RawNode) RuleFault
shallow_in line before (Leaf node) = Ok (before ++ node ∷ [])
shallow_in line before start = Err (fault line TooMany)

-- an operand of level 0, with `nesting` levels of nesting left
unfoldable pub primary_at : Limits → TermPlace → ℕ → ℕ → Reader
primary_at limits place line zero before tokens = start_at limits place line tokens >>= λ start. shallow_in line before start.0 >>= λ nodes. Ok (nodes, start.1)
primary_at limits place line (suc nesting) before tokens =
    start_at limits place line tokens >>= λ start. begun_at limits line (λ ns ts. primary_at limits place line nesting ns ts) before start.0 start.1

-- ---- terms

-- a whole term
unfoldable pub term_at : Limits → TermPlace → ℕ → ℕ → List Token → Read (List RawNode)
term_at limits place nesting line tokens = operand_at (primary_at limits place line nesting) loosest [] tokens
