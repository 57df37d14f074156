-- What the rule that is meant has in common with the rule as written: names, operands and registers.
use Rattle.rule_reader.proofs.Common.{◌≡◌, ℕ, zero, suc, ◌+◌, ◌<◌, ◌≤◌, List, [], ◌∷◌, ◌++◌, length, None, Some, refl, sym, ap, subst, ◌∙◌, arith, slice_get, map, flat_map, flat_map-append, AllZip, range_with_len, slice_get_within, same_Some, RawRule, RawStatement, RawOp, RawArgument, Statement, Op, Operand, Argument, names_of, Choice, operands_among, undef_in, frozen_in, choices_of, choices_among, Names, Counts, arguments_of, arguments_among, past, past_all, counted_of, counted_among, no_counts, with_counts, AssignsAt, ArgumentMeans, OpMeans, StatementMeans, HalfMeans}
use Rattle.rule_parse.specs.declared.raw.RawOp.TheVariants as raw_ops
use Rattle.rule_parse.specs.declared.raw.RawArgument.TheVariants as raw_arguments
use Rattle.rule_core.specs.declared.rule.Op.TheVariants as ops
use Rattle.rule_core.specs.declared.rule.Argument.TheVariants as arguments
use Rattle.rule_core.specs.Positions.{operands_of as operands_meant}
use Rattle.rule_reader.proofs.Places.{at_map, map_at, zip_left, zip_right, zip_append}

-- a statement that assigns the register
pub assigning_statement : (statements : List RawStatement) (k : ℕ) (name : List ℕ) → AssignsAt statements k name → (s : RawStatement) × (slice_get statements k ≡ Some s) × (s.name ≡ name)
assigning_statement statements k name at = at_map (λ (s : RawStatement). s.name) statements k name at

pub statement_assigns : (statements : List RawStatement) (k : ℕ) (s : RawStatement) → slice_get statements k ≡ Some s → AssignsAt statements k s.name
statement_assigns statements k s at = map_at (λ (s : RawStatement). s.name) statements k s at

pub assigns_within : (statements : List RawStatement) (k : ℕ) (name : List ℕ) → AssignsAt statements k name → k < length statements
assigns_within statements k name at = let found = assigning_statement statements k name at in slice_get_within statements k found.0 found.1

-- operands, each with the counts before it
abbrev pub with_before : Counts → List RawArgument → List (Counts × RawArgument)
with_before b [] = []
with_before b (a ∷ arguments) = (b, a) ∷ with_before (past b a) arguments

with_before_append : (b : Counts) (xs ys : List RawArgument) → with_before b (xs ++ ys) ≡ with_before b xs ++ with_before (past_all b xs) ys
with_before_append b [] ys = refl
with_before_append b (x ∷ xs) ys = ap (λ l. (b, x) ∷ l) (with_before_append (past b x) xs ys)

pub with_before_at : (b : Counts) (xs : List RawArgument) (q : ℕ) (x : Counts × RawArgument) → slice_get (with_before b xs) q ≡ Some x → slice_get xs q ≡ Some x.1
with_before_at b [] q x at = elim q as (λ j. slice_get [] j ≡ Some x → slice_get [] j ≡ Some x.1) [ zero ↦ λ h. cc | suc j ↦ λ h. cc ] at
with_before_at b (a ∷ xs) zero x at = ap (λ (y : Counts × RawArgument). Some y.1) (same_Some (b, a) x at)
with_before_at b (a ∷ xs) (suc q) x at = with_before_at (past b a) xs q x at

nodes_grow : (b : Counts) (xs : List RawArgument) → b.nodes ≤ (past_all b xs).nodes
nodes_grow b [] = omega arith
nodes_grow b (raw_arguments.Register name ∷ xs) = nodes_grow b xs
nodes_grow b (raw_arguments.Literal z ∷ xs) = nodes_grow b xs
nodes_grow b (raw_arguments.Truth t ∷ xs) = nodes_grow b xs
nodes_grow b (raw_arguments.Constant name ∷ xs) = nodes_grow b xs
nodes_grow b (raw_arguments.Undef ∷ xs) = nodes_grow (past b raw_arguments.Undef) xs
nodes_grow b (raw_arguments.Term t ∷ xs) = omega (arith, nodes_grow (past b (raw_arguments.Term t)) xs)

choices_grow : (b : Counts) (xs : List RawArgument) → b.choices ≤ (past_all b xs).choices
choices_grow b [] = omega arith
choices_grow b (raw_arguments.Register name ∷ xs) = choices_grow b xs
choices_grow b (raw_arguments.Literal z ∷ xs) = choices_grow b xs
choices_grow b (raw_arguments.Truth t ∷ xs) = choices_grow b xs
choices_grow b (raw_arguments.Constant name ∷ xs) = choices_grow b xs
choices_grow b (raw_arguments.Undef ∷ xs) = omega (arith, choices_grow (past b raw_arguments.Undef) xs)
choices_grow b (raw_arguments.Term t ∷ xs) = choices_grow (past b (raw_arguments.Term t)) xs

-- no more nodes are counted up to an operand than in all
pub nodes_upto : (b : Counts) (xs : List RawArgument) (q : ℕ) (x : Counts × RawArgument) → slice_get (with_before b xs) q ≡ Some x → (past x.0 x.1).nodes ≤ (past_all b xs).nodes
nodes_upto b [] q x at = elim q as (λ j. slice_get [] j ≡ Some x → (past x.0 x.1).nodes ≤ b.nodes) [ zero ↦ λ h. absurd (cc) | suc j ↦ λ h. absurd (cc) ] at
nodes_upto b (a ∷ xs) zero x at = subst (λ (y : Counts × RawArgument). (past y.0 y.1).nodes ≤ (past_all (past b a) xs).nodes) (same_Some (b, a) x at) (nodes_grow (past b a) xs)
nodes_upto b (a ∷ xs) (suc q) x at = nodes_upto (past b a) xs q x at

-- the operands as they are counted, for a statement that is meant: its own, and an `undef` of its class for a freeze
abbrev pub frozen_operand : ℕ → Op → List Operand
frozen_operand c (ops.Freeze a k) = record { value = arguments.Undef k; written = None; class = c } ∷ []
frozen_operand c op = []

abbrev pub counted_meant : Statement → List Operand
counted_meant s = operands_meant s.op ++ frozen_operand s.class s.op

undefs_of : Operand → List Choice
undefs_of o = undef_in o.class o.value

-- that `undef` is the freeze's choice
frozen_choices : (c : ℕ) (op : Op) → frozen_in c op ≡ flat_map undefs_of (frozen_operand c op)
unfolding undefs_of
frozen_choices c (ops.Freeze a k) = refl
frozen_choices c (ops.Binary op flags a b) = refl
frozen_choices c (ops.Compare pred samesign a b) = refl
frozen_choices c (ops.Unary op truth a) = refl
frozen_choices c (ops.Select z a b) = refl
frozen_choices c (ops.Convert cast flags a to) = refl
frozen_choices c (ops.Copy a) = refl

one_counted : (s : Statement) → choices_of s ≡ flat_map undefs_of (counted_meant s)
unfolding undefs_of
one_counted s =
    ap (λ l. flat_map undefs_of (operands_meant s.op) ++ l) (frozen_choices s.class s.op) ∙ sym (flat_map-append undefs_of (operands_meant s.op) (frozen_operand s.class s.op))

choices_counted : (ss : List Statement) → choices_among ss ≡ flat_map undefs_of (flat_map counted_meant ss)
choices_counted [] = refl
choices_counted (s ∷ ss) =
    ap (λ l. l ++ choices_among ss) (one_counted s) ∙ ap (λ l. flat_map undefs_of (counted_meant s) ++ l) (choices_counted ss)
    ∙ sym (flat_map-append undefs_of (counted_meant s) (flat_map counted_meant ss))

abbrev pub places : List Choice → List ℕ
places choices = map (λ c. c.place) choices

module _ (raw : RawRule) (names : Names) where
  -- the operand is what the operand as written means, with the counts before it
  abbrev pub Goes : Counts × RawArgument → Operand → Type 0
  Goes w o = ArgumentMeans raw names w.0 w.1 o.value

  abbrev pub Go : Counts → List RawArgument → List Operand → Type 0
  Go b ws os = AllZip Goes (with_before b ws) os

  -- the same with some counts
  abbrev pub Reads : RawArgument → Operand → Type 0
  Reads w o = (c : Counts) × ArgumentMeans raw names c w o.value

  -- the same for all operands of a statement as they are counted
  counted_go : (b : Counts) (c : ℕ) (w : RawOp) (op : Op) → OpMeans raw names b w op → Go b (counted_of w) (operands_meant op ++ frozen_operand c op)
  counted_go b c (raw_ops.Binary op flags a d) (ops.Binary op' flags' x y) means = (means.2.1, (means.3.1, tt))
  counted_go b c (raw_ops.Compare pred samesign a d) (ops.Compare pred' samesign' x y) means = (means.2.1, (means.3.1, tt))
  counted_go b c (raw_ops.Unary op truth a) (ops.Unary op' truth' x) means = (means.2.1, tt)
  counted_go b c (raw_ops.Select z a d) (ops.Select z' x y) means = (means.0.1, (means.1.1, (means.2.1, tt)))
  counted_go b c (raw_ops.Convert cast flags a to) (ops.Convert cast' flags' x to') means = (means.2.1, tt)
  counted_go b c (raw_ops.Freeze a) (ops.Freeze x k) means = (means.0.1, (means.1, tt))
  counted_go b c (raw_ops.Copy a) (ops.Copy x) means = (means.1, tt)
  counted_go b c w op means = absurd means

  pub operands_go : (b : Counts) (w : RawOp) (op : Op) → OpMeans raw names b w op → Go b (arguments_of w) (operands_meant op)
  operands_go b (raw_ops.Binary op flags a c) (ops.Binary op' flags' x y) means = (means.2.1, (means.3.1, tt))
  operands_go b (raw_ops.Compare pred samesign a c) (ops.Compare pred' samesign' x y) means = (means.2.1, (means.3.1, tt))
  operands_go b (raw_ops.Unary op truth a) (ops.Unary op' truth' x) means = (means.2.1, tt)
  operands_go b (raw_ops.Select c a d) (ops.Select z x y) means = (means.0.1, (means.1.1, (means.2.1, tt)))
  operands_go b (raw_ops.Convert cast flags a to) (ops.Convert cast' flags' x to') means = (means.2.1, tt)
  operands_go b (raw_ops.Freeze a) (ops.Freeze x k) means = (means.0.1, tt)
  operands_go b (raw_ops.Copy a) (ops.Copy x) means = (means.1, tt)
  operands_go b w op means = absurd means

  -- statements, with these counts before the first
  abbrev pub MeanFrom : Counts → List RawStatement → List Statement → Type 0
  MeanFrom b ws ss = AllZip (λ w s. StatementMeans raw names w.0 w.1 s) (with_counts b ws) ss

  pub names_go : (b : Counts) (ws : List RawStatement) (ss : List Statement) → MeanFrom b ws ss → names_of ss ≡ map (λ s. s.name) ws
  names_go b [] [] all = refl
  names_go b [] (s ∷ ss) all = absurd all
  names_go b (w ∷ ws) [] all = absurd all
  names_go b (w ∷ ws) (s ∷ ss) all = let e = all.0.0 in let rest = names_go (past_all b (counted_of w.op)) ws ss all.1 in cc

  pub count_go : (b : Counts) (ws : List RawStatement) (ss : List Statement) → MeanFrom b ws ss → length ss ≡ length ws
  count_go b [] [] all = refl
  count_go b [] (s ∷ ss) all = absurd all
  count_go b (w ∷ ws) [] all = absurd all
  count_go b (w ∷ ws) (s ∷ ss) all = ap suc (count_go (past_all b (counted_of w.op)) ws ss all.1)

  go_append : (b : Counts) (xs ys : List RawArgument) (os ps : List Operand) → Go b xs os → Go (past_all b xs) ys ps → Go b (xs ++ ys) (os ++ ps)
  go_append b xs ys os ps p q = subst (λ l. AllZip Goes l (os ++ ps)) (sym (with_before_append b xs ys)) (zip_append Goes (with_before b xs) os (with_before (past_all b xs) ys) ps p q)

  pub all_go : (b : Counts) (ws : List RawStatement) (ss : List Statement) → MeanFrom b ws ss → Go b (counted_among ws) (flat_map counted_meant ss)
  all_go b [] [] all = tt
  all_go b [] (s ∷ ss) all = absurd all
  all_go b (w ∷ ws) [] all = absurd all
  all_go b (w ∷ ws) (s ∷ ss) all =
      go_append b (counted_of w.op) (counted_among ws) (counted_meant s) (flat_map counted_meant ss) (counted_go b s.class w.op s.op all.0.1) (all_go (past_all b (counted_of w.op)) ws ss all.1)

  -- the operands of statements mean what is written, with some counts
  reads_of : (b : Counts) (ws : List RawArgument) (os : List Operand) → Go b ws os → AllZip Reads ws os
  reads_of b [] [] go = tt
  reads_of b [] (o ∷ os) go = absurd go
  reads_of b (w ∷ ws) [] go = absurd go
  reads_of b (w ∷ ws) (o ∷ os) go = ((b, go.0), reads_of (past b w) ws os go.1)

  pub all_read : (b : Counts) (ws : List RawStatement) (ss : List Statement) → MeanFrom b ws ss → AllZip Reads (arguments_among ws) (operands_among ss)
  all_read b [] [] all = tt
  all_read b [] (s ∷ ss) all = absurd all
  all_read b (w ∷ ws) [] all = absurd all
  all_read b (w ∷ ws) (s ∷ ss) all =
      zip_append Reads (arguments_of w.op) (operands_meant s.op) (arguments_among ws) (operands_among ss)
      (reads_of b (arguments_of w.op) (operands_meant s.op) (operands_go b w.op s.op all.0.1)) (all_read (past_all b (counted_of w.op)) ws ss all.1)

  -- an operand of a statement has one in the statement as written
  pub read_go : (b : Counts) (w : RawOp) (op : Op) (q : ℕ) (o : Operand) → OpMeans raw names b w op → slice_get (operands_meant op) q ≡ Some o → (c : Counts) × (a : RawArgument) × (slice_get (arguments_of w) q ≡ Some a) × ArgumentMeans raw names c a o.value
  read_go b w op q o means at =
      let found = zip_right Goes (with_before b (arguments_of w)) (operands_meant op) q o (operands_go b w op means) at in
      (found.0.0, found.0.1, with_before_at b (arguments_of w) q found.0 found.1, found.2)

  choice_first : (b : Counts) (w : RawArgument) (ws : List RawArgument) (c : ℕ) (a : Argument) (behind : List Choice) (n : ℕ) → ArgumentMeans raw names b w a
      → ((m : ℕ) → (past_all (past b w) ws).choices ≡ (past b w).choices + m → places behind ≡ range_with_len (past b w).choices m) → (past_all (past b w) ws).choices ≡ b.choices + n → places (undef_in c a ++ behind) ≡ range_with_len b.choices n
  choice_first b (raw_arguments.Register name) ws c (arguments.Register r) behind n means rest sum = rest n sum
  choice_first b (raw_arguments.Literal z) ws c (arguments.Literal y) behind n means rest sum = rest n sum
  choice_first b (raw_arguments.Truth t) ws c (arguments.Truth u) behind n means rest sum = rest n sum
  choice_first b (raw_arguments.Constant name) ws c (arguments.Constant k) behind n means rest sum = rest n sum
  choice_first b (raw_arguments.Term t) ws c (arguments.Term k) behind n means rest sum = rest n sum
  choice_first b raw_arguments.Undef ws c (arguments.Undef k) behind zero means rest sum = absurd (omega (arith, choices_grow (past b raw_arguments.Undef) ws))
  choice_first b raw_arguments.Undef ws c (arguments.Undef k) behind (suc m) means rest sum = let later = rest m (omega arith) in let first : k ≡ b.choices = means in cc
  choice_first b w ws c a behind n means rest sum = absurd means

  -- choices are numbered in order, from those counted before
  choices_from : (b : Counts) (ws : List RawArgument) (os : List Operand) (n : ℕ) → Go b ws os → (past_all b ws).choices ≡ b.choices + n → places (flat_map undefs_of os) ≡ range_with_len b.choices n
  unfolding undefs_of
  choices_from b [] [] n go sum = ap (range_with_len b.choices) (let e : 0 ≡ n = omega arith in e)
  choices_from b [] (o ∷ os) n go sum = absurd go
  choices_from b (w ∷ ws) [] n go sum = absurd go
  choices_from b (w ∷ ws) (o ∷ os) n go sum = choice_first b w ws o.class o.value (flat_map undefs_of os) n go.0 (λ m e. choices_from (past b w) ws os m go.1 e) sum

  -- a half has as many choices as are counted, numbered in order
  pub half_choices : (ws : List RawStatement) (ss : List Statement) → MeanFrom no_counts ws ss → places (choices_among ss) ≡ range_with_len 0 (past_all no_counts (counted_among ws)).choices
  half_choices ws ss all =
      ap places (choices_counted ss) ∙ choices_from no_counts (counted_among ws) (flat_map counted_meant ss) (past_all no_counts (counted_among ws)).choices (all_go no_counts ws ss all) (omega arith)

-- operand q of a half that is meant is operand q as written, and the other way round
pub reads_written : (raw : RawRule) (names : Names) (ws : List RawStatement) (ss : List Statement) (q : ℕ) (o : Operand) → HalfMeans raw names ws ss → slice_get (operands_among ss) q ≡ Some o
    → (c : Counts) × (a : RawArgument) × (slice_get (arguments_among ws) q ≡ Some a) × ArgumentMeans raw names c a o.value
reads_written raw names ws ss q o means at =
    let (a, there, (c, reads)) = zip_right (Reads raw names) (arguments_among ws) (operands_among ss) q o (all_read raw names no_counts ws ss means) at in
    (c, a, there, reads)

pub written_reads : (raw : RawRule) (names : Names) (ws : List RawStatement) (ss : List Statement) (q : ℕ) (a : RawArgument) → HalfMeans raw names ws ss → slice_get (arguments_among ws) q ≡ Some a
    → (c : Counts) × (o : Operand) × (slice_get (operands_among ss) q ≡ Some o) × ArgumentMeans raw names c a o.value
written_reads raw names ws ss q a means at =
    let (o, there, (c, reads)) = zip_left (Reads raw names) (arguments_among ws) (operands_among ss) q a (all_read raw names no_counts ws ss means) at in
    (c, o, there, reads)
