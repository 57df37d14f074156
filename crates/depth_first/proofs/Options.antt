-- What contracts on an option say once the option is tested, and contracts on a result.
use Rattle.depth_first.proofs.Common.{◌≡◌, true, false, Some, None, Option, sym, Result, Ok, Err, is_some, IfNone, IfOk, IfSome, true≢false}

pub IfNone_at : {X : Type 0} (o : Option X) (P : Type 0) → is_some o ≡ false → IfNone o P → P
IfNone_at None P none h = h
IfNone_at (Some x) P none h = absurd (true≢false none)

pub IfNone_absent : {X : Type 0} (o : Option X) (P : Type 0) → is_some o ≡ true → IfNone o P
IfNone_absent None P some = absurd (true≢false (sym some))
IfNone_absent (Some x) P some = tt

pub IfNone_then : {X : Type 0} (o : Option X) (P Q : Type 0) → IfNone o P → (P → Q) → IfNone o Q
IfNone_then None P Q h f = f h
IfNone_then (Some x) P Q h f = h

pub IfSome_at : {X : Type 0} (o : Option X) (P : X → Type 0) → is_some o ≡ true → IfSome o P → (x : X) × P x
IfSome_at None P some h = absurd (true≢false (sym some))
IfSome_at (Some x) P some h = (x, h)

-- two contracts on the same result taken together
pub IfOk_both : {X Y : Type 0} (r : Result X Y) (P Q R : X → Type 0) → ((x : X) → P x → Q x → R x) → IfOk r P → IfOk r Q → IfOk r R
IfOk_both (Ok x) P Q R both p q = both x p q
IfOk_both (Err y) P Q R both p q = tt
