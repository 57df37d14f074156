-- What is known of functions and rules that were read.
use Rattle.test_texts.proofs.Common.{ℕ, ◌<◌, ◌≤◌, ◌-◌, ◌^◌, List, length, get_or, sym, subst, arith, All, All-from_get_or, slice_get_within, get_or_from_slice_get, IsBlock, Block, Function, Entry, OperandFits, FunctionHasForms, NumbersFit, IsRule, Rule, IsClassified, HasNoFault, Knowledge, MatchesWhere, Binding, FunctionIsReady, RuleIsReady}
use Rattle.ir_core.specs.declared.module.Entry.TheVariants as entries

-- each rule that was read is ready
pub rules_are_ready : (rules : List Rule) → All IsRule rules → All IsClassified rules → All HasNoFault rules → All RuleIsReady rules
rules_are_ready rules checks classes typed = λ k d lt. record { checks = checks k d lt; classes = classes k d lt; typed = typed k d lt }

-- the elements of the text are bytes
pub are_bytes : (bytes : List ℕ) → ((k : ℕ) → get_or bytes k 0 < 256) → All (λ b. b ≤ 255) bytes
are_bytes bytes fit = All-from_get_or (λ b. b ≤ 255) bytes 0 (λ k within. let fits = fit k in omega arith)

-- literals of the function are numbers of their widths
pub numbers_fit : (f : Function) → FunctionHasForms f → NumbersFit f
numbers_fit f forms b k i r n is number = subst OperandFits number (forms.reads b k i r is).operand

-- the instructions of each block are fewer than 2^32
pub insts_are_few : (f : Function) → FunctionIsReady f → All (λ b. length b.insts < 2 ^ 32) f.blocks
insts_are_few f ready = λ k d lt. omega (arith, ready.insts k d lt)

-- so are those of this block, even after a rewrite
pub places_are_few : (f : Function) (b : ℕ) → FunctionIsReady f → (block : Block) → IsBlock f b block → length block.insts < 2 ^ 32 - 32
places_are_few f b ready block is =
    subst (λ (it : Block). length it.insts < 2 ^ 32 - 32) (get_or_from_slice_get f.blocks b block block is)
    (ready.insts b block (slice_get_within f.blocks b block is))

-- a binding names the block and the place where it was looked for
pub is_match_there : {Before : ℕ → ℕ → ℕ → ℕ → Type 0} {known : Knowledge} (f : Function) (b k : ℕ) (rule : Rule) (binding : Binding) → MatchesWhere Before known f b k rule binding
    → MatchesWhere Before known f binding.block binding.place rule binding
is_match_there {Before} {known} f b k rule binding is =
    subst (λ (d : ℕ). MatchesWhere Before known f d binding.place rule binding) (sym is.block)
    (subst (λ (j : ℕ). MatchesWhere Before known f b j rule binding) (sym is.place) is)
