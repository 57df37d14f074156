-- The syntax tree of a text has no more parts than the text has bytes.
use Rattle.ir_round_trip.proofs.Common.{ℕ, suc, ◌+◌, ◌<◌, ◌≤◌, List, [], ◌∷◌, length, Option, ap, refl, arith, AllByRecursion, Section, TokensFrom, last, Placed, Mark, token_moves, token_within, RawEntry, RawFunction, RawParameter, RawBlock, RawIdentifier, RawInst, RawOp, Call, Attachment, SpellsIncoming, SpellsOp, SpellsInst, Part, ◌⨾◌, Maybe, Each, Comma, Separated, Shorter, NoLonger, weaker, a_token, no_part, maybe, a_type, attachment-shorter, further_incoming-shorter, inst-shorter, SpellsLabel, SpellsBlock, SpellsLabelledBlock, SpellsBlocks, SpellsParameter, SpellsParameterList, SpellsParameters, SpellsFunction, SpellsEntry, SpellsItem, item-shorter, block-shorter, further_parameter-shorter, entry-shorter}
use Rattle.ir_tokens.specs.Order.{token}
use Rattle.ir_tokens.specs.declared.raw.RawEntry.TheVariants as entries
use Rattle.ir_tokens.specs.declared.raw.RawOp.TheVariants.{Binary, Compare, Select, Convert, Freeze, Phi}
use Rattle.ir_instructions.specs.Punctuation as marks
use Rattle.ir_instructions.proofs.Shorter.{both, on_line, token as one_token, each, repeated, tail, terminator, insts}

-- ---- tokens

-- each token but the last takes at least one byte
pub few_tokens : {text : List ℕ} {place : Section} {at : ℕ} {tokens : List Placed} → TokensFrom text place at tokens → at ≤ length text → at + length tokens ≤ length text + 1
few_tokens (last is ends) within = omega arith
few_tokens {text} {place} {at} (token {end = end} is more behind) within =
    let moves : at < end = token_moves is more in
    let rest = few_tokens behind (token_within within is) in
    omega arith

-- ---- lists of productions

module _ {X : Type 0} (P : X → Part) where
  -- each of these productions takes at least one token
  pub few_each : ((x : X) → Shorter (P x)) → (xs : List X) (tokens rest : List Placed) → Each P xs tokens rest → length xs + length rest ≤ length tokens
  few_each p [] tokens rest same = omega (arith, ap length same)
  few_each p (x ∷ xs) tokens rest (middle, one, more) =
      let fewer : length middle < length tokens = p x tokens middle one in
      let others = few_each p xs middle rest more in
      omega arith

  few_separated : ((x : X) → NoLonger (P x)) → ((x : X) → Shorter (Comma ⨾ P x)) → (xs : List X) (tokens rest : List Placed) → Separated P xs tokens rest → length xs ≤ length tokens + 1
  few_separated p q [] tokens rest h = absurd h
  few_separated p q (x ∷ xs) tokens rest (middle, one, more) =
      let fewer : length middle ≤ length tokens = p x tokens middle one in
      let others = few_behind q xs middle rest more in
      omega arith
    where
      few_behind : ((x : X) → Shorter (Comma ⨾ P x)) → (xs : List X) (tokens rest : List Placed) → Each (λ y. Comma ⨾ P y) xs tokens rest → length xs + length rest ≤ length tokens
      few_behind q [] tokens rest same = omega (arith, ap length same)
      few_behind q (x ∷ xs) tokens rest (middle, one, more) =
          let fewer : length middle < length tokens = q x tokens middle one in
          let others = few_behind q xs middle rest more in
          omega arith

  -- what holds of a production on at most n tokens holds of each in a list on at most n tokens
  pub every_each : (n : ℕ) (Q : X → Type 0) → ((x : X) → NoLonger (P x)) → ((x : X) (tokens rest : List Placed) → P x tokens rest → length tokens ≤ n → Q x)
      → (xs : List X) (tokens rest : List Placed) → Each P xs tokens rest → length tokens ≤ n → AllByRecursion Q xs
  every_each n Q p q [] tokens rest same within = tt
  every_each n Q p q (x ∷ xs) tokens rest (middle, one, more) within =
      let fewer : length middle ≤ length tokens = p x tokens middle one in
      (q x tokens middle one within, every_each n Q p q xs middle rest more (omega arith))

-- a production that takes a token together with a comma before it takes none or more by itself
behind_comma : (P : Part) → Shorter (Comma ⨾ P) → NoLonger P
behind_comma P p tokens rest h =
    let fewer : length rest < length ((0, Mark marks.comma) ∷ tokens) = p ((0, Mark marks.comma) ∷ tokens) rest (tokens, (0, refl), h) in
    omega arith

-- ---- syntax trees

abbrev pub OpFew : ℕ → RawOp → Type 0
OpFew n (Phi width incoming) = length incoming ≤ n
OpFew n (Binary op flags width a b) = Unit {0}
OpFew n (Compare pred samesign width a b) = Unit {0}
OpFew n (Call w) = Unit {0}
OpFew n (Select condition a b) = Unit {0}
OpFew n (Convert cast flags from a to) = Unit {0}
OpFew n (Freeze width a) = Unit {0}

abbrev pub InstFew : ℕ → RawInst → Type 0
InstFew n inst = OpFew n inst.op

abbrev pub BlockFew : ℕ → RawBlock → Type 0
BlockFew n block = (length block.insts ≤ n) × AllByRecursion (InstFew n) block.insts

pub record FunctionFew (n : ℕ) (f : RawFunction) : Type 0 where
  pub parameters : length f.parameters ≤ n
  pub blocks : length f.blocks ≤ n
  pub each : AllByRecursion (BlockFew n) f.blocks

abbrev pub EntryFew : ℕ → RawEntry → Type 0
EntryFew n (entries.Kept text) = Unit {0}
EntryFew n (entries.Function f) = FunctionFew n f

module _ (n : ℕ) where
  op_few : (o : RawOp) (tokens rest : List Placed) → SpellsOp o tokens rest → length tokens ≤ n → OpFew n o
  op_few (Phi width incoming) tokens rest (first, word, (second, type, separated)) within =
      let one : length first < length tokens = one_token _ tokens first word in
      let two : length second ≤ length first = a_type width first second type in
      let few = few_separated (SpellsIncoming width) (λ i. behind_comma (SpellsIncoming width i) (further_incoming-shorter width i)) (further_incoming-shorter width) incoming second rest separated in
      omega arith
  op_few (Binary op flags width a b) tokens rest h within = tt
  op_few (Compare pred samesign width a b) tokens rest h within = tt
  op_few (Call w) tokens rest h within = tt
  op_few (Select condition a b) tokens rest h within = tt
  op_few (Convert cast flags from a to) tokens rest h within = tt
  op_few (Freeze width a) tokens rest h within = tt

  inst_few : (i : RawInst) (tokens rest : List Placed) → SpellsInst i tokens rest → length tokens ≤ n → InstFew n i
  inst_few i tokens rest (first, (written, same, is), (second, equals, (third, op, tail))) within =
      let one : length first < length tokens = on_line i.result.line _ tokens first is in
      let two : length second < length first = one_token _ first second equals in
      op_few i.op second third op (omega arith)

  labelled : (o : Option RawIdentifier) → NoLonger (Maybe SpellsLabel o)
  labelled o = maybe SpellsLabel (λ l. weaker (SpellsLabel l) (λ tokens rest (written, same, is). on_line l.line _ tokens rest is)) o

  block_few : (b : RawBlock) (tokens rest : List Placed) → SpellsBlock b tokens rest → length tokens ≤ n → BlockFew n b
  block_few b tokens rest (first, label, (second, all, end)) within =
      let one : length first ≤ length tokens = labelled b.label tokens first label in
      let few = few_each SpellsInst inst-shorter b.insts first second all in
      (omega arith, every_each SpellsInst n (InstFew n) (λ i. weaker (SpellsInst i) (inst-shorter i)) inst_few b.insts first second all (omega arith))

  block_shortens : (b : RawBlock) → NoLonger (SpellsBlock b)
  block_shortens b = both _ _ (labelled b.label) (both _ _ (insts b.insts) (both _ _ (terminator b.end_line b.end) tail))

  blocks_few : (bs : List RawBlock) (tokens rest : List Placed) → SpellsBlocks bs tokens rest → suc (length tokens) ≤ n → (length bs ≤ n) × AllByRecursion (BlockFew n) bs
  blocks_few [] tokens rest h within = absurd h
  blocks_few (b ∷ bs) tokens rest (middle, one, more) within =
      let fewer : length middle ≤ length tokens = block_shortens b tokens middle one in
      let few = few_each SpellsLabelledBlock block-shorter bs middle rest more in
      let others = every_each SpellsLabelledBlock n (BlockFew n) (λ c. weaker (SpellsLabelledBlock c) (block-shorter c)) (λ c ts r h le. block_few c ts r h.1 le) bs middle rest more (omega arith) in
      (omega arith, (block_few b tokens middle one (omega arith), others))

  parameters_few : (ps : List RawParameter) (tokens rest : List Placed) → SpellsParameters ps tokens rest → length tokens ≤ n → length ps ≤ n
  parameters_few [] tokens rest h within = omega arith
  parameters_few (p ∷ ps) tokens rest (first, opened, (second, all, closed)) within =
      let one : length first < length tokens = one_token _ tokens first opened in
      let few = few_separated SpellsParameter (λ q. behind_comma (SpellsParameter q) (further_parameter-shorter q)) further_parameter-shorter (p ∷ ps) first second all in
      omega arith

  parameter_list_shortens : (ps : List RawParameter) → NoLonger (SpellsParameterList ps)
  parameter_list_shortens [] tokens rest h = no_part tokens rest h
  parameter_list_shortens (p ∷ ps) tokens rest h =
      both (SpellsParameter p) (Each (λ q. Comma ⨾ SpellsParameter q) ps) (behind_comma (SpellsParameter p) (further_parameter-shorter p))
      (each (λ q. Comma ⨾ SpellsParameter q) (λ q. weaker (Comma ⨾ SpellsParameter q) (further_parameter-shorter q)) ps) tokens rest h

  parameters_shorten : (ps : List RawParameter) → NoLonger (SpellsParameters ps)
  parameters_shorten ps = both _ _ (a_token _) (both _ _ (parameter_list_shortens ps) (a_token _))

  items_shorten : (xs : List (List ℕ)) → NoLonger (Each SpellsItem xs)
  items_shorten xs = each SpellsItem (λ item. weaker (SpellsItem item) (item-shorter item)) xs

  function_few : (f : RawFunction) (tokens rest : List Placed) → SpellsFunction f tokens rest → length tokens ≤ n + 1 → FunctionFew n f
  function_few f tokens rest (a, define, (b, before, (c, type, (d, (written, named, is), (e, parameters, (g, after, (h, attached, (i, brace, (j, blocks, end))))))))) within =
      let at_a : length a < length tokens = one_token _ tokens a define in
      let at_b : length b ≤ length a = items_shorten f.before a b before in
      let at_c : length c ≤ length b = a_type f.width b c type in
      let at_d : length d < length c = on_line f.line _ c d is in
      let at_e : length e ≤ length d = parameters_shorten f.parameters d e parameters in
      let at_g : length g ≤ length e = items_shorten f.after e g after in
      let at_h : length h ≤ length g = repeated Attachment (weaker Attachment attachment-shorter) g h attached in
      let at_i : length i < length h = one_token _ h i brace in
      let few = blocks_few f.blocks i j blocks (omega arith) in
      record { parameters = parameters_few f.parameters d e parameters (omega arith); blocks = few.0; each = few.1 }

  pub entry_few : (e : RawEntry) (tokens rest : List Placed) → SpellsEntry e tokens rest → length tokens ≤ n + 1 → EntryFew n e
  entry_few (entries.Kept text) tokens rest h within = tt
  entry_few (entries.Function f) tokens rest h within = function_few f tokens rest h within

  pub entries_few : (es : List RawEntry) (tokens rest : List Placed) → Each SpellsEntry es tokens rest → length tokens ≤ n + 1 → AllByRecursion (EntryFew n) es
  entries_few es tokens rest h within = every_each SpellsEntry (n + 1) (EntryFew n) (λ e. weaker (SpellsEntry e) (entry-shorter e)) entry_few es tokens rest h within
