-- What the parsers of terms read within wider limits: the same, but where `TooMany` is told.
use Rattle.rule_viable_prefixes.proofs.Common.{◌≡◌, ℕ, zero, suc, ◌≤◌, Bool, true, false, List, [], ◌∷◌, length, Option, Some, None, Result, Ok, Err, refl, subst, arith, if◌then◌else◌, drop, nat_le, leb-true, le-leb, TooMany, Limits, AreWithin, RuleFault, ◌>>=◌, fault, name_within, Token, Register, Word, Number, Mark, TermPlace, RawNode, Start, Leaf, Prefix, Parenthesis, Meaning, next_is, chain_of, loosest, meaning_in, register_in, word_at, start_at, operator_at, join, joined_or_end, behind_at, inside_at, measured_at, shallow_in, primary_at, term_at}
use Rattle.ops.specs.declared.opcode.Opcode.{Opcode}
use Rattle.rule_terms.specs.declared.place.TermPlace.TheVariants as places
use Rattle.rule_terms.specs.declared.start.Start.TheVariants.{Call, Width}
use Rattle.rule_terms.specs.declared.word.Meaning.TheVariants as meanings
use Rattle.rule_terms.specs.Chains.{Reader}
use Rattle.rule_terms.specs.TermReaders.{chain_at, operand_at, begun_at}

-- ---- results

-- the result within narrower limits is the one within wider ones, or it is `TooMany`
pub data Below {X : Type 0} (narrow wide : Result X RuleFault) : Type 0 where
  same_answer : narrow ≡ wide → Below narrow wide
  too_many : (line : ℕ) → narrow ≡ Err (fault line TooMany) → Below narrow wide

pub below_bind : {X Y : Type 0} {a b : Result X RuleFault} {f g : X → Result Y RuleFault} → Below a b → ((x : X) → Below (f x) (g x)) → Below (a >>= f) (b >>= g)
below_bind {X} {Y} {a} {b} {f} {g} (same_answer same) h = subst (λ (r : Result X RuleFault). Below (a >>= f) (r >>= g)) same (by a)
  where
    by : (r : Result X RuleFault) → Below (r >>= f) (r >>= g)
    by (Ok x) = h x
    by (Err e) = same_answer refl
below_bind (too_many line is) h = too_many line (rw is refl)

pub below_if : {X : Type 0} {a b c d : Result X RuleFault} (test : Bool) → Below a b → Below c d → Below (if test then a else c) (if test then b else d)
below_if true one other = one
below_if false one other = other

-- the same of parsers
abbrev pub BelowReader : {A : Type 0} → Reader A → Reader A → Type 0
BelowReader {A} p q = (before : A) (tokens : List Token) → Below (p before tokens) (q before tokens)

pub chain_of_below : {A : Type 0} (n : ℕ) (mark : List ℕ) (p q : Reader A) → BelowReader p q → BelowReader (chain_of n mark p) (chain_of n mark q)
unfolding chain_of
chain_of_below zero mark p q below before tokens = same_answer refl
chain_of_below (suc n) mark p q below before tokens = below_if (next_is mark tokens) (below_bind (below before (drop 1 tokens)) (λ x. chain_of_below n mark p q below x.0 x.1)) (same_answer refl)

-- ---- binary operators

joined_below : (p q o u : Reader (List RawNode)) → BelowReader p q → BelowReader o u → (left : List RawNode) (tokens : List Token) (found : Option (Opcode × List Token)) → Below (joined_or_end p o left tokens found) (joined_or_end q u left tokens found)
joined_below p q o u below others left tokens None = same_answer refl
joined_below p q o u below others left tokens (Some next) = below_bind (below left next.1) (λ both. others (join next.0 left both.0) both.1)

chain_below : (p q : Reader (List RawNode)) → BelowReader p q → (level many : ℕ) → BelowReader (chain_at p level many) (chain_at q level many)
unfolding chain_at
chain_below p q below level zero left tokens = same_answer refl
chain_below p q below level (suc many) left tokens =
    joined_below p q (λ ls ts. chain_at p level many ls ts) (λ ls ts. chain_at q level many ls ts) below (λ ls ts. chain_below p q below level many ls ts) left tokens (operator_at level tokens)

behind_below : (p q : Reader (List RawNode)) → BelowReader p q → (level : ℕ) → BelowReader (behind_at p level) (behind_at q level)
unfolding behind_at
behind_below p q below zero left tokens = same_answer refl
behind_below p q below (suc level) left tokens =
    below_bind (behind_below p q below level left tokens)
    (λ first. chain_below (λ ns ts. p ns ts >>= λ x. behind_at p level x.0 x.1) (λ ns ts. q ns ts >>= λ x. behind_at q level x.0 x.1)
    (λ ns ts. below_bind (below ns ts) (λ x. behind_below p q below level x.0 x.1)) (suc level) (suc (length first.1)) first.0 first.1)

operand_below : (p q : Reader (List RawNode)) → BelowReader p q → (level : ℕ) → BelowReader (operand_at p level) (operand_at q level)
operand_below p q below level before tokens = below_bind (below before tokens) (λ x. behind_below p q below level x.0 x.1)

inside_below : (line : ℕ) (p q : Reader (List RawNode)) → BelowReader p q → BelowReader (inside_at line p) (inside_at line q)
inside_below line p q below before tokens = below_bind (operand_below p q below loosest before tokens) (λ inside. same_answer refl)

module _ (limits wider : Limits) (within : AreWithin wider limits) where
  pub name_below : (line : ℕ) (name : List ℕ) → Below (name_within limits line name) (name_within wider line name)
  unfolding name_within
  name_below line name = by (nat_le (length name) limits.name_bytes) refl
    where
      by : (b : Bool) → nat_le (length name) limits.name_bytes ≡ b → Below (name_within limits line name) (name_within wider line name)
      by true h =
          let le = leb-true (length name) limits.name_bytes h in
          let most = within.name_bytes in
          same_answer (rw (h, le-leb (length name) wider.name_bytes (omega (arith, le, most))) refl)
      by false h = too_many line (rw h refl)

  -- ---- what an operand begins with

  register_below : (place : TermPlace) (line : ℕ) (name : List ℕ) → Below (register_in limits place line name) (register_in wider place line name)
  register_below places.Constant line name = same_answer refl
  register_below places.Witness line name = below_bind (name_below line name) (λ held. same_answer refl)

  word_below : (line : ℕ) (word : List ℕ) (found : Option Meaning) (rest : List Token) → Below (word_at limits line word found rest) (word_at wider line word found rest)
  word_below line word None rest = same_answer refl
  word_below line word (Some meanings.Width) rest = same_answer refl
  word_below line word (Some (meanings.Call function)) rest = same_answer refl
  word_below line word (Some meanings.Constant) rest = below_bind (name_below line word) (λ name. same_answer refl)
  word_below line word (Some (meanings.Choice k)) rest = below_bind (name_below line word) (λ name. same_answer refl)

  start_below : (place : TermPlace) (line : ℕ) (tokens : List Token) → Below (start_at limits place line tokens) (start_at wider place line tokens)
  unfolding start_at
  start_below place line (Number text ∷ rest) = same_answer refl
  start_below place line (Register name ∷ rest) = below_bind (register_below place line name) (λ start. same_answer refl)
  start_below place line (Word word ∷ rest) = word_below line word (meaning_in place word) rest
  start_below place line (Mark mark ∷ rest) = same_answer refl
  start_below place line tokens = same_answer refl

  measured_below : (line : ℕ) (tokens : List Token) → Below (measured_at limits line tokens) (measured_at wider line tokens)
  unfolding measured_at
  measured_below line (Register name ∷ rest) = below_bind (name_below line name) (λ held. same_answer refl)
  measured_below line tokens = same_answer refl

  -- ---- terms

  begun_below : (line : ℕ) (p q : Reader (List RawNode)) → BelowReader p q → (before : List RawNode) (start : Start) (rest : List Token) → Below (begun_at limits line p before start rest) (begun_at wider line q before start rest)
  begun_below line p q below before (Leaf node) rest = same_answer refl
  begun_below line p q below before (Prefix function) rest = below_bind (below before rest) (λ x. same_answer refl)
  begun_below line p q below before Parenthesis rest = inside_below line p q below before rest
  begun_below line p q below before (Call function) rest = below_bind (inside_below line p q below before rest) (λ x. same_answer refl)
  begun_below line p q below before Width rest = below_bind (measured_below line rest) (λ x. same_answer refl)

  shallow_below : (line : ℕ) (q : Reader (List RawNode)) (before : List RawNode) (start : Start) (rest : List Token) → Below (shallow_in line before start >>= λ nodes. Ok (nodes, rest)) (begun_at wider line q before start rest)
  shallow_below line q before (Leaf node) rest = same_answer refl
  shallow_below line q before start rest = too_many line refl

  primary_below : (place : TermPlace) (line n m : ℕ) → n ≤ m → BelowReader (primary_at limits place line n) (primary_at wider place line m)
  unfolding primary_at
  primary_below place line zero zero le before tokens = below_bind (start_below place line tokens) (λ start. same_answer refl)
  primary_below place line zero (suc m) le before tokens = below_bind (start_below place line tokens) (λ start. shallow_below line (λ ns ts. primary_at wider place line m ns ts) before start.0 start.1)
  primary_below place line (suc n) zero le before tokens = absurd (omega arith)
  primary_below place line (suc n) (suc m) le before tokens =
      below_bind (start_below place line tokens)
      (λ start. begun_below line (λ ns ts. primary_at limits place line n ns ts) (λ ns ts. primary_at wider place line m ns ts) (λ ns ts. primary_below place line n m (omega arith) ns ts) before start.0 start.1)

  pub term_below : (place : TermPlace) (n m : ℕ) → n ≤ m → (line : ℕ) (tokens : List Token) → Below (term_at limits place n line tokens) (term_at wider place m line tokens)
  unfolding term_at
  term_below place n m le line tokens = operand_below (primary_at limits place line n) (primary_at wider place line m) (primary_below place line n m le) loosest [] tokens
