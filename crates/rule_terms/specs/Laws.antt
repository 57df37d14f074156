-- Laws of all lists of tokens, within any limits.
use Rattle.std.specs.Prelude.{◌≡◌, ◌↔◌, ℕ, List, ◌++◌, Ok}
use Rattle.rule_tokens.specs.Limits.{Limits}
use Rattle.rule_tokens.specs.Tokens.{Token}
use Rattle.rule_terms.specs.declared.place.TermPlace.{TermPlace}
use Rattle.rule_terms.specs.declared.raw.RawNode.{RawNode}
use Rattle.rule_terms.specs.Grammar.{SpellsWholeTerm, EndsTerm}
use Rattle.rule_terms.specs.TermReaders.{term_at}

-- The parser gives these nodes and leaves these tokens exactly where the grammar spells the nodes with the tokens
-- before those, and no binary operator is next behind them.
abbrev pub TermsAreReadAsSpelled : Type 0
TermsAreReadAsSpelled = (limits : Limits) (place : TermPlace) (nesting line : ℕ) (tokens : List Token) (nodes : List RawNode) (rest : List Token) →
    (term_at limits place nesting line tokens ≡ Ok (nodes, rest))
    ↔ ((own : List Token) × SpellsWholeTerm limits place nesting nodes own × EndsTerm rest × (tokens ≡ own ++ rest))
