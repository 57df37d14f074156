-- What the proofs of this crate cite of definitions, of other crates and of the libraries, passed on from one place.
pub use Rattle.std.proofs.Common.{All, Bool, List, None, Option, Some, [], ap, arith, codes, cond, count_by, drop, eqb, false, length, refl, subst, suc, sum, sum_by, sym, take, true, ℕ, ◌*◌, ◌++◌, ◌+◌, ◌-◌, ◌∙◌, ◌∷◌, ◌≡◌, ◌≢◌, ◌≤◌}
pub use Rattle.command_line.specs.Limits.{default_steps}
pub use Rattle.ir_core.specs.declared.function.Block.{Block}
pub use Rattle.ir_core.specs.declared.function.Function.{Function}
pub use Rattle.ir_core.specs.declared.module.Entry.{Entry}
pub use Rattle.load_gen.specs.Generated.{generated}
pub use Rattle.load_gen.specs.Laws.{GeneratedEntriesAreCounted, GeneratedEntriesAreOfTwenty, GeneratedFunctionsAreSmall, IsOfTwenty}
pub use Rattle.load_text.specs.Laws.{RuleTextsAreSmall}
pub use Rattle.load_text.specs.Load.{built_in_text, instructions_in, instructions_of_entry}
pub use Rattle.load_text.specs.RuleText.{IsRuleText}
pub use Rattle.rule_parse.specs.Grammar.{SpellsFile, SpellsRules}
pub use Rattle.rule_parse.specs.declared.raw.RawRule.{RawRule}
pub use Rattle.rule_tokens.specs.Contexts.{context_behind, is_opcode}
pub use Rattle.rule_tokens.specs.Facts.{fact_in}
pub use Rattle.rule_tokens.specs.Limits.{Limits}
pub use Rattle.rule_tokens.specs.Tokens.{AtName, AtToken, Bad, Line, Name, Place, Token, TokensFrom, bad_name, bad_token, bytes_at, ends, is_called, name, place_behind, token, token_at, token_of, token_on, word_of}
pub use Rattle.rule_tokens.specs.declared.context.Context.{Context}
pub use Rattle.rule_tokens.specs.declared.fact.BitFact.{BitFact}
pub use Rattle.rule_tokens.specs.declared.version.Version.{Version}
pub use Rattle.scan.specs.Names.{rest_of_line}
pub use Rattle.scan.specs.RuleTokens.{IsNextRuleToken}
pub use Rattle.scan.specs.declared.rule_token.RuleKind.{RuleKind}
pub use Rattle.scan.specs.declared.rule_token.RuleToken.{RuleToken}
pub use Rattle.std.proofs.lemmas.List.{length-take}
pub use Rattle.std.proofs.lemmas.List.Elements.{All-head, All-tail}
pub use Rattle.std.proofs.lemmas.List.Sums.{sum-map, sum_by-cons}
pub use Rattle.std.proofs.lemmas.Slice.Eq.{bytes_eq-Decides}
pub use Rattle.std.specs.Str.{bytes_eq}
pub use Rattle.strategy_core.specs.Countable.{ModuleIsCountable}
