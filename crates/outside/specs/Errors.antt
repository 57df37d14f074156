-- The texts of errors.
use Rattle.std.specs.Prelude.{ℕ, List, codes}
use Rattle.outside.specs.declared.errors.ReadError.{ReadError}
use Rattle.outside.specs.declared.errors.ReadError.TheVariants.{Failed, NoMemory}

abbrev pub text_of : ReadError → List ℕ
text_of Failed = codes "read failed"
text_of NoMemory = codes "out of memory"
