-- What a refusal says.
use Rattle.std.specs.Prelude.{◌≡◌, Result, Ok, Err}
use Rattle.refusal.specs.declared.refusal.Refusal.{Refusal}
use Rattle.refusal.specs.declared.refusal.Refusal.TheVariants.{Refused, NoMemory}

-- P holds of the fault, unless the refusal is want of memory
abbrev pub IfRefused : {F : Type 0} → Refusal F → (F → Type 0) → Type 0
IfRefused (Refused fault) P = P fault
IfRefused NoMemory P = Unit {0}

-- the refusal is this fault, or want of memory
abbrev pub Refuses : {F : Type 0} → Refusal F → F → Type 0
Refuses NoMemory fault = Unit {0}
Refuses (Refused found) fault = found ≡ fault

-- the refusal is the error of this specified result, or want of memory
abbrev pub Fails : {F Y : Type 0} → Refusal F → Result Y F → Type 0
Fails NoMemory read = Unit {0}
Fails (Refused found) read = read ≡ Err found

-- What a function of the code returned, mapped by `view`, is the specified result, unless memory ran out.
abbrev pub Gives : {F X Y : Type 0} → (X → Y) → Result X (Refusal F) → Result Y F → Type 0
Gives view (Ok x) read = read ≡ Ok (view x)
Gives view (Err e) read = Fails e read
