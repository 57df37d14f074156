-- What the parser gives for tokens that have their forms has its forms: the parts of functions, and modules.
use Rattle.ir_round_trip.proofs.Common.{ℕ, List, [], ◌∷◌, Option, Some, None, sym, subst, AllByRecursion, Kept, RawEntry, RawFunction, RawParameter, RawIdentifier, RawBlock, SpellsRegister, Attachment, Part, Maybe, Each, SpellsLabel, SpellsBlock, SpellsLabelledBlock, SpellsBlocks, SpellsParameter, SpellsParameterList, SpellsParameters, SpellsBody, SpellsName, SpellsFunction, SpellsEntry, SpellsItem, LexemesAreTokens, IsItem, IsKeptText, IsName, IsWidth}
use Rattle.ir_tokens.specs.declared.raw.RawEntry.TheVariants as entries
use Rattle.ir_round_trip.proofs.TokenForms.{CalledFormed, Formed}
use Rattle.ir_round_trip.proofs.StatementForms.{Yields, after, before, both, on_line, token, each, separated, repeated, register, type, attachment, tail, InstFormed, insts, EndFormed, terminator}
use Rattle.ir_round_trip.proofs.ItemForms.{item}

-- ---- blocks

-- the identifier that is written for a thing, if any, has its form
abbrev pub WrittenFormed : Option RawIdentifier → Type 0
WrittenFormed None = Unit {0}
WrittenFormed (Some w) = CalledFormed w.identifier

abbrev pub BlockFormed : RawBlock → Type 0
BlockFormed b = WrittenFormed b.label × (AllByRecursion InstFormed b.insts × EndFormed b.end)

label : (l : RawIdentifier) → Yields (SpellsLabel l) (CalledFormed l.identifier)
label l tokens rest (written, same, is) formed = let h = on_line l.line _ tokens rest is formed in (h.1, subst CalledFormed (sym same) h.0)

maybe : (P : RawIdentifier → Part) → ((w : RawIdentifier) → Yields (P w) (CalledFormed w.identifier)) → (o : Option RawIdentifier) → Yields (Maybe P o) (WrittenFormed o)
maybe P p None tokens rest same formed = (subst Formed same formed, tt)
maybe P p (Some w) tokens rest h formed = p w tokens rest h formed

block : (b : RawBlock) → Yields (SpellsBlock b) (BlockFormed b)
block b = both _ _ _ _ (maybe SpellsLabel label b.label) (both _ _ _ _ (insts b.insts) (before _ _ _ (terminator b.end_line b.end) tail))

blocks : (bs : List RawBlock) → Yields (SpellsBlocks bs) (AllByRecursion BlockFormed bs)
blocks [] tokens rest h formed = absurd h
blocks (b ∷ bs) tokens rest h formed = both (SpellsBlock b) (Each SpellsLabelledBlock bs) (BlockFormed b) (AllByRecursion BlockFormed bs) (block b) (each SpellsLabelledBlock BlockFormed (λ c ts r h. block c ts r h.1) bs) tokens rest h formed

body : (bs : List RawBlock) → Yields (SpellsBody bs) (AllByRecursion BlockFormed bs)
body bs = after _ _ _ (repeated Attachment attachment) (after _ _ _ (token _) (before _ _ _ (blocks bs) (token _)))

name : (line : ℕ) (n : List ℕ) → Yields (SpellsName line n) (IsName n)
name line n tokens rest (written, is, one) formed = let h = on_line line _ tokens rest one formed in (h.1, subst CalledFormed is h.0)

-- ---- functions

abbrev pub ParameterFormed : RawParameter → Type 0
ParameterFormed p = IsWidth p.width × (AllByRecursion IsItem p.items × WrittenFormed p.name)

pub record FunctionFormed (f : RawFunction) : Type 0 where
  pub before_type : AllByRecursion IsItem f.before
  pub width : IsWidth f.width
  pub name : IsName f.name
  pub parameters : AllByRecursion ParameterFormed f.parameters
  pub after_parameters : AllByRecursion IsItem f.after
  pub blocks : AllByRecursion BlockFormed f.blocks

abbrev pub EntryFormed : RawEntry → Type 0
EntryFormed (entries.Kept text) = IsKeptText text
EntryFormed (entries.Function f) = FunctionFormed f

module _ (law : LexemesAreTokens) where
  items : (xs : List (List ℕ)) → Yields (Each SpellsItem xs) (AllByRecursion IsItem xs)
  items xs = each SpellsItem IsItem (item law) xs

  parameter : (p : RawParameter) → Yields (SpellsParameter p) (ParameterFormed p)
  parameter p = both _ _ _ _ (type p.width) (both _ _ _ _ (items p.items) (maybe SpellsRegister register p.name))

  parameter_list : (ps : List RawParameter) → Yields (SpellsParameterList ps) (AllByRecursion ParameterFormed ps)
  parameter_list [] tokens rest same formed = (subst Formed same formed, tt)
  parameter_list (p ∷ ps) tokens rest h formed = separated SpellsParameter ParameterFormed parameter (p ∷ ps) tokens rest h formed

  parameters : (ps : List RawParameter) → Yields (SpellsParameters ps) (AllByRecursion ParameterFormed ps)
  parameters ps = after _ _ _ (token _) (before _ _ _ (parameter_list ps) (token _))

  function : (f : RawFunction) → Yields (SpellsFunction f) (FunctionFormed f)
  function f tokens rest h formed =
      let all : Yields (SpellsFunction f) (AllByRecursion IsItem f.before × (IsWidth f.width × (IsName f.name × (AllByRecursion ParameterFormed f.parameters × (AllByRecursion IsItem f.after × AllByRecursion BlockFormed f.blocks))))) =
      after _ _ _ (token _) (both _ _ _ _ (items f.before) (both _ _ _ _ (type f.width) (both _ _ _ _ (name f.line f.name)
      (both _ _ _ _ (parameters f.parameters) (both _ _ _ _ (items f.after) (body f.blocks)))))) in
      let (left, (one, (two, (three, (four, (five, six)))))) = all tokens rest h formed in
      (left, record { before_type = one; width = two; name = three; parameters = four; after_parameters = five; blocks = six })

  entry : (e : RawEntry) → Yields (SpellsEntry e) (EntryFormed e)
  entry (entries.Kept text) tokens rest (line, is) formed = let h = on_line line (Kept text) tokens rest is formed in (h.1, h.0)
  entry (entries.Function f) tokens rest h formed = function f tokens rest h formed

  pub entries_formed : (es : List RawEntry) → Yields (Each SpellsEntry es) (AllByRecursion EntryFormed es)
  entries_formed es = each SpellsEntry EntryFormed entry es
