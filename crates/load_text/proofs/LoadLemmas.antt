-- How large generated modules are.
use Rattle.load_text.proofs.Common.{◌≡◌, ◌∙◌, ℕ, ◌*◌, List, [], ◌∷◌, length, ap, sym, refl, arith, All, sum, sum_by, All-head, All-tail, sum_by-cons, sum-map, Entry, Function, Block, generated, IsOfTwenty, GeneratedEntriesAreOfTwenty, GeneratedEntriesAreCounted, GeneratedFunctionsAreSmall, ModuleIsCountable, default_steps, instructions_of_entry, instructions_in}
use Rattle.ir_core.specs.declared.module.Entry.TheVariants as entries

-- ---- how many instructions there are

of_entry : (e : Entry) → IsOfTwenty e → instructions_of_entry e ≡ 20
of_entry (entries.Kept line) never = absurd never
of_entry (entries.Function f) is = sym (sum-map (λ (block : Block). length block.insts) f.blocks) ∙ ap sum is

of_entries : (es : List Entry) → All IsOfTwenty es → sum_by instructions_of_entry es ≡ 20 * length es
of_entries [] are = refl
of_entries (e ∷ es) are =
    let first = of_entry e (All-head IsOfTwenty e es are) in
    let others = of_entries es (All-tail IsOfTwenty e es are) in
    sum_by-cons instructions_of_entry e es ∙ (omega arith)

pub generated_size : GeneratedEntriesAreOfTwenty → GeneratedEntriesAreCounted → (number count : ℕ) → instructions_in (generated number count) ≡ 20 * count
generated_size twenty counted number count =
    of_entries (generated number count).entries (twenty number count) ∙ ap (λ (n : ℕ). 20 * n) (counted number count)

-- ---- the sizes fit 32 bits

pub generated_countable : GeneratedFunctionsAreSmall → (number count : ℕ) → ModuleIsCountable default_steps (generated number count)
generated_countable small number count k f at =
    let it = small number count k f at in
    record { blocks = let three = it.0 in omega arith; insts = λ b d h. let most = it.1 b d h in omega arith }
