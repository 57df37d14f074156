-- What a refusal says, and what follows from it.
use Rattle.proof_reader.proofs.Common.{Refusal, Refused, NoMemory, IfRefused}

pub IfRefused-weaker : {F : Type 0} (e : Refusal F) (P Q : F → Type 0) → ((fault : F) → P fault → Q fault) → IfRefused e P → IfRefused e Q
IfRefused-weaker (Refused fault) P Q so h = so fault h
IfRefused-weaker NoMemory P Q so h = tt
