-- What holds of the faults of texts.
use Rattle.std.specs.Prelude.{◌≡◌, ℕ, ◌≤◌, List, [], ◌∷◌, ◌++◌, length}
use Rattle.ir_tokens.specs.Order.{AreTokens}
use Rattle.ir_tokens.specs.Tokens.{Placed, Function}
use Rattle.refusal.specs.declared.fault.Fault.{Fault}
use Rattle.ir_tokens.specs.declared.fault.IrFaultKind.{IrFaultKind}
use Rattle.ir_parse.specs.Text.{most_bytes, IsTextFault}
use Rattle.ir_viable_prefixes.specs.Fits.{Fits}
use Rattle.ir_viable_prefixes.specs.Calls.{CalleeFits, IsToldInCall}
use Rattle.ir_viable_prefixes.specs.Misfits.{IsMisfit}

-- The fault says of a token that does not fit between these why it does not: it is on the token's line and of a kind
-- that says so as no other kind does, and the token is no function where only intrinsics fit; or it is a fault in a
-- call of an intrinsic.
pub data IsSaid (front : List Placed) (token : Placed) (behind : List Placed) (found : Fault IrFaultKind) : Type 0 where
  of_token : found.line ≡ token.0 → IsMisfit front token.1 found.kind → ((other : IrFaultKind) → IsMisfit front token.1 other → found.kind ≡ other)
      → ((written : List ℕ) → token.1 ≡ Function written → ¬ CalleeFits front) → IsSaid front token behind found
  in_call : IsToldInCall front behind token found → IsSaid front token behind found

-- The fault says so, and if a fault in a call is told of the token, it is that one.
pub record IsTold (front : List Placed) (token : Placed) (behind : List Placed) (found : Fault IrFaultKind) : Type 0 where
  pub said : IsSaid front token behind found
  pub alone : (other : Fault IrFaultKind) → IsToldInCall front behind token other → found ≡ other

-- The fault is told of the first token with which the tokens are no viable prefix: those before it are one.
pub record IsFirstMisfit (tokens : List Placed) (found : Fault IrFaultKind) : Type 0 where
  pub front : List Placed
  pub token : Placed
  pub behind : List Placed
  pub stands : tokens ≡ front ++ token ∷ behind
  pub fits : Fits front
  pub misfit : ¬ Fits (front ++ token ∷ [])
  pub told : IsTold front token behind found

-- A text within the limit is refused at its first misfit, of which only one fault is told; a text whose tokens fit, up
-- to its end, is not refused.
pub record FaultsAreWhereTextsDoNotFit : Type 0 where
  pub refused : (text : List ℕ) (tokens : List Placed) (found : Fault IrFaultKind) → length text ≤ most_bytes → AreTokens text tokens → IsTextFault text found → IsFirstMisfit tokens found
  pub read : (text : List ℕ) (tokens : List Placed) (found : Fault IrFaultKind) → length text ≤ most_bytes → AreTokens text tokens → Fits tokens → ¬ IsTextFault text found
  pub one : (tokens : List Placed) (found other : Fault IrFaultKind) → IsFirstMisfit tokens found → IsFirstMisfit tokens other → found ≡ other
