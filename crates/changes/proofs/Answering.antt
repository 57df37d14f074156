-- The answer of a call, weakened to what follows from it.
use Rattle.changes.proofs.Common.{Result, Ok, Err, IfOk}

pub if_ok : {T E : Type 0} {P Q : T → Type 0} (r : Result T E) → IfOk r P → ((x : T) → P x → Q x) → IfOk r Q
if_ok (Ok x) h follows = follows x h
if_ok (Err e) h follows = h
