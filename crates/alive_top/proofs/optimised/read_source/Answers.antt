use Rattle.alive_top.proofs.Common.{◌<◌, ◌≤◌, ℕ, List, get_or, arith, All, All-from_get_or}
use Rattle.alive_top.proofs.optimised.read_source.Goals as goal

-- the elements of the text are bytes
bytes_of : (bytes : List ℕ) → ((k : ℕ) → get_or bytes k 0 < 256) → All (λ b. b ≤ 255) bytes
bytes_of bytes fit = All-from_get_or (λ b. b ≤ 255) bytes 0 (λ k within. let fits = fit k in omega arith)

pub returns-clause-read : goal.returns-clause-read
returns-clause-read c = record { source = c.in_ok-source.ensures.ok; limit = c.in_ok-source.ensures.limit }

pub returns-clause-ready : goal.returns-clause-ready
returns-clause-ready c =
    let source = c.in_ok-source.source in
    record {
      checks = c.in_ok-source.ensures.checks;
      forms = c.module_texts_have_forms.ensures c.args.bytes.now source (bytes_of c.args.bytes.now (λ k. (c.type_inv.bytes k).fits)) c.in_ok-source.ensures.ok;
      countable = λ steps within. c.module_texts_are_countable.ensures c.args.bytes.now source steps c.in_ok-source.ensures.limit within c.in_ok-source.ensures.ok;
    }
