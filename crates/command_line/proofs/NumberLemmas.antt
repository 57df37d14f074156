-- What a getter of `clap`'s matches reads of a number that passed its value parser.
use Rattle.command_line.proofs.Common.{◌≡◌, ℕ, ◌<◌, ◌^◌, Option, Some, None, Result, Ok, Err, ap, ◌∙◌, arith, ParsesUnsigned, ReadsOne, one_text, rows_of, Found, one_text-rows, number_said, HasNumberUpTo}
use Rattle.clap.specs.Words.{Text}

pub number_read : (E : Type 0) (G : Text → Result ℕ E → Type 0) (found : Found) (id : Text) (read : Option ℕ)
    → ((t : Text) → one_text found id ≡ Some t → ReadsOne G t read) → ((t : Text) (r : Result ℕ E) → G t r → ParsesUnsigned 32 10 t r)
    → (n : HasNumberUpTo 4294967295 (rows_of found) id) → read ≡ Some (number_said n.0)
number_read E G found id read reads parses n = go read (reads n.0 (one_text-rows found id ∙ n.2))
  where
    go : (r : Option ℕ) → ReadsOne G n.0 r → r ≡ Some (number_said n.0)
    go (Some m) h = ap Some (parses n.0 (Ok m) h).1
    go None h =
        let within = n.3 in
        let small : number_said n.0 < 2 ^ 32 = omega (arith, within.3) in
        absurd (parses n.0 (Err h.0) h.1 (within.0, small))
