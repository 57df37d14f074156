use Rattle.ir_text.proofs.Lexing as lexing
use Rattle.ir_text.proofs.laws.lexemes_are_tokens.Goals as goal

pub returns : goal.returns
returns c = lexing.lexemes_are_tokens
