-- What is read of a file within a limit: all its bytes, or one more than the limit.
use Rattle.alive_top.proofs.Common.{◌≡◌, ℕ, ◌+◌, ◌<◌, ◌≤◌, ◌⊎◌, List, length, take, Option, Some, refl, sym, ap, subst, ◌∙◌, inl, inr, arith, IfSome, cases_lt, take_all, length-take, length-take-le, FilesState, File, FileKind, Source, limit_of, Takes, IsTextOf}
use Rattle.alive_top.specs.File.{Rules, Logs}

-- where no more than the limit was read, that is all there is
within : (n : ℕ) (told items : List ℕ) → items ≡ take (n + 1) told → length items ≤ n → items ≡ told
within n told items e h =
    let short : length (take (n + 1) told) ≤ n = subst (λ (xs : List ℕ). length xs ≤ n) e h in
    e ∙ take_all (n + 1) told (omega (arith, length-take (n + 1) told))

-- where there is no more than the limit, all of it is read
whole : (n : ℕ) (told items : List ℕ) → items ≡ take (n + 1) told → length told ≤ n → items ≡ told
whole n told items e h = e ∙ take_all (n + 1) told (omega arith)

-- a text that is taken, unless for proofs, is within its limit
short : (kind : FileKind) (text : List ℕ) → Takes kind text → (length text ≤ limit_of kind) ⊎ (kind ≡ Logs)
short Rules text takes = inl takes.1.short
short Source text takes = inl takes.1.limit
short Logs text takes = inr refl

-- any text is taken for proofs
all_taken : (kind : FileKind) (text : List ℕ) → kind ≡ Logs → Takes kind text
all_taken kind text e = subst (λ (k : FileKind). Takes k text) (sym e) tt

cut : (known : FilesState) (file : File) (text bytes : List ℕ) → IsTextOf known file text → known.told file.name ≡ Some bytes → text ≡ take (limit_of file.kind + 1) bytes
cut known file text bytes is told =
    let read : IfSome (Some bytes) (λ b. text ≡ take (limit_of file.kind + 1) b) =
    subst (λ (o : Option (List ℕ)). IfSome o (λ b. text ≡ take (limit_of file.kind + 1) b)) told is
    in
    read

-- a text that is taken, unless for proofs, is all the known bytes
pub taken_is_told : (known : FilesState) (file : File) (text bytes : List ℕ) → IsTextOf known file text → Takes file.kind text → known.told file.name ≡ Some bytes → (text ≡ bytes) ⊎ (file.kind ≡ Logs)
taken_is_told known file text bytes is takes told = by (short file.kind text takes)
  where
    by : (length text ≤ limit_of file.kind) ⊎ (file.kind ≡ Logs) → (text ≡ bytes) ⊎ (file.kind ≡ Logs)
    by (inl few) = inl (within (limit_of file.kind) bytes text (cut known file text bytes is told) few)
    by (inr logs) = inr logs

-- where a text is taken, so are the known bytes
pub taken_told : (known : FilesState) (file : File) (text bytes : List ℕ) → IsTextOf known file text → Takes file.kind text → known.told file.name ≡ Some bytes → Takes file.kind bytes
taken_told known file text bytes is takes told = by (taken_is_told known file text bytes is takes told)
  where
    by : (text ≡ bytes) ⊎ (file.kind ≡ Logs) → Takes file.kind bytes
    by (inl same) = subst (Takes file.kind) same takes
    by (inr logs) = all_taken file.kind bytes logs

-- known bytes that are taken, unless for proofs, are the text
pub told_is_text : (known : FilesState) (file : File) (text bytes : List ℕ) → IsTextOf known file text → Takes file.kind bytes → known.told file.name ≡ Some bytes → (text ≡ bytes) ⊎ (file.kind ≡ Logs)
told_is_text known file text bytes is takes told = by (short file.kind bytes takes)
  where
    by : (length bytes ≤ limit_of file.kind) ⊎ (file.kind ≡ Logs) → (text ≡ bytes) ⊎ (file.kind ≡ Logs)
    by (inl few) = inl (whole (limit_of file.kind) bytes text (cut known file text bytes is told) few)
    by (inr logs) = inr logs

-- the known bytes are the text, or both are longer than the limit
pub told_or_long : (known : FilesState) (file : File) (text bytes : List ℕ) → IsTextOf known file text → known.told file.name ≡ Some bytes
    → (text ≡ bytes) ⊎ ((limit_of file.kind < length text) × (limit_of file.kind < length bytes))
told_or_long known file text bytes is told = by (cases_lt (limit_of file.kind) (length bytes))
  where
    by : (limit_of file.kind < length bytes) ⊎ (length bytes ≤ limit_of file.kind) → (text ≡ bytes) ⊎ ((limit_of file.kind < length text) × (limit_of file.kind < length bytes))
    by (inr few) = inl (whole (limit_of file.kind) bytes text (cut known file text bytes is told) few)
    by (inl many) =
        let all : length text ≡ limit_of file.kind + 1 = ap (λ (l : List ℕ). length l) (cut known file text bytes is told) ∙ length-take-le (limit_of file.kind + 1) bytes (omega arith) in
        inr (omega arith, many)
