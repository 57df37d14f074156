-- What the parsers of terms do on a line.
use Rattle.rule_viable_prefixes.proofs.Common.{◌≡◌, ℕ, zero, suc, ◌+◌, ◌<◌, ◌≤◌, Bool, true, false, cond, eqb, List, [], ◌∷◌, ◌++◌, length, Option, Some, None, Result, Ok, Err, refl, sym, ap, subst, ◌∙◌, append_assoc, inl, inr, arith, IsTrue, codes, bytes_eq, leb-true, leb-false, append-nil, same_word, Function, Negate, is_digit, is_constant, Syntax, TooMany, Refused, RuleFault, ◌>>=◌, literal_value, fault, unexpected, misplaced_word, name_within, Token, Line, Register, Word, Number, Mark, TermPlace, RawNode, Leaf, Prefix, Parenthesis, Meaning, last_place, SpellsLeaf, SpellsTerm, leaf, width, parenthesised, called, prefixed, tighter, joined, mark_at, opening_in, start_at, measured_at, of_level, operator_at, join, whole_chain_at, behind_at, add_unary, inside_at, primary_at, term_at, operator_mark, operator_in, level_of, loosest, IsPrefix, IsCalled, IsChoice, meaning_in, operator_at-is, operator_at-of, meaning_in-is, meaning_in-of, operand_shorter, Fitting, NounFits, Limits}
use Rattle.ops.specs.declared.opcode.Opcode.{Opcode}
use Rattle.rule_core.specs.declared.rule.Function.TheVariants.{Not}
use Rattle.rule_terms.specs.declared.place.TermPlace.TheVariants as places
use Rattle.rule_terms.specs.declared.raw.RawNode.TheVariants as raw_nodes
use Rattle.rule_terms.specs.declared.start.Start.TheVariants.{Call, Width}
use Rattle.rule_terms.specs.declared.word.Meaning.TheVariants as meanings
use Rattle.rule_terms.specs.TermReaders.{Reader as TermReader, operand_at}
use Rattle.rule_terms.proofs.Chains.{Shortens, chain-more, chain-fault, chain-done}
use Rattle.rule_viable_prefixes.specs.Misfits as kinds
use Rattle.rule_viable_prefixes.proofs.Reasons as reasons
use Rattle.rule_viable_prefixes.proofs.Reasons.{Nests, openings, IsTooDeep, IsTooMany}
use Rattle.rule_viable_prefixes.proofs.Nouns.{noun_other}
use Rattle.rule_viable_prefixes.proofs.Outcomes.{Lack, Akin, same_next, noun_next, ended_next, Takes, IsOwn, Spelling, pair, bare, IsErrOn, Outcome, Good, then_at, then, passed, led, Branch, takes, refuses, goes, goes_in, opens_one, Reader, by_token, widened, on_line, then_done, bind_named}
use Rattle.rule_viable_prefixes.proofs.Tolds.{says_misplaced, says_syntax, says_too_many, IsTold, says_deep, says_unexpected}
use Rattle.rule_viable_prefixes.proofs.Roomy.{roomy}

module _ (limits : Limits) where
  -- ---- names and marks

  pub data Named (line : ℕ) (name : List ℕ) : Type 0 where
    is_short : length name ≤ limits.name_bytes → name_within limits line name ≡ Ok name → Named line name
    is_long : limits.name_bytes < length name → name_within limits line name ≡ Err (fault line TooMany) → Named line name

  pub named : (line : ℕ) (name : List ℕ) → Named line name
  unfolding name_within
  named line name = by _ refl
    where
      by : (b : Bool) → Rattle.std.specs.Prelude.nat_le (length name) limits.name_bytes ≡ b → Named line name
      by true h = is_short (leb-true (length name) limits.name_bytes h) (rw h refl)
      by false h = is_long (leb-false (length name) limits.name_bytes h) (rw h refl)

  err_is : (d e : RuleFault) → ◌≡◌ {A = Result (List Token) RuleFault} (Err d) (Err e) → d ≡ e
  err_is d e is = let equal = is in cc

  mark_takes : (wanted : List ℕ) (line : ℕ) (token : Token) → Branch limits (bare limits) (mark_at wanted line) (λ x own. own ≡ Mark wanted ∷ []) line token
  unfolding mark_at
  mark_takes wanted line (Mark mark) = by (bytes_eq mark wanted) refl
    where
      by : (b : Bool) → bytes_eq mark wanted ≡ b → Branch limits (bare limits) (mark_at wanted line) (λ x own. own ≡ Mark wanted ∷ []) line (Mark mark)
      by true h = takes tt tt (ap (λ (m : List ℕ). Mark m ∷ []) (same_word mark wanted h)) (λ more. rw h refl)
      by false h = refuses (λ more. (fault line Syntax, rw h refl, refl, says_syntax limits (Mark mark) more tt))
  mark_takes wanted line token = refuses (λ more. (unexpected line (token ∷ more), refl, refl, says_unexpected limits line token more (λ word is. inr (inr (λ noun is_noun others. (unexpected line (Word noun ∷ others), refl))))))

  pub mark_good : (wanted : List ℕ) (line : ℕ) → Good limits (bare limits) (mark_at wanted line) (λ x own. own ≡ Mark wanted ∷ []) line
  unfolding mark_at
  mark_good wanted line = by_token limits (tt, Mark wanted ∷ [], refl) (mark_takes wanted line) (fault line Syntax, refl, refl, refl)

  -- where a `(` is missing, another token is there
  pub parenthesis_missed : (line : ℕ) (tokens : List Token) (e : RuleFault) → mark_at (codes "(") line tokens ≡ Err e → IsTold limits tokens e.kind
  unfolding mark_at
  parenthesis_missed line (Mark mark ∷ tokens) e is = by (bytes_eq mark (codes "(")) refl
    where
      by : (b : Bool) → bytes_eq mark (codes "(") ≡ b → IsTold limits (Mark mark ∷ tokens) e.kind
      by true h = let read : mark_at (codes "(") line (Mark mark ∷ tokens) ≡ Ok tokens = rw h refl in let no_err = sym read ∙ is in absurd cc
      by false h =
          let failed : mark_at (codes "(") line (Mark mark ∷ tokens) ≡ Err (fault line Syntax) = rw h refl in
          inr (
            (λ more same_tokens. let m : mark ≡ codes "(" = let equal = same_tokens in cc in let found : bytes_eq mark (codes "(") ≡ true = rw m refl in let both = sym found ∙ h in absurd cc),
            sym (ap (λ (f : RuleFault). f.kind) (err_is (fault line Syntax) e (sym failed ∙ is))),
          )
  parenthesis_missed line [] e is = inr ((λ more wrong. absurd cc), sym (ap (λ (f : RuleFault). f.kind) (err_is (fault line Syntax) e is)))
  parenthesis_missed line (token ∷ tokens) e is = inr ((λ more wrong. absurd cc), sym (ap (λ (f : RuleFault). f.kind) (err_is (unexpected line (token ∷ tokens)) e is)))

module _ (spare_bytes deepest spare_statements : ℕ) where
  abbrev limits : Limits
  limits = roomy spare_bytes deepest spare_statements

  -- the limits with this much nesting left
  abbrev levels : ℕ → Limits
  levels nesting = roomy spare_bytes nesting spare_statements

  -- ---- terms

  abbrev pub IsTerm : TermPlace → ℕ → ℕ → List Token → Type 0
  IsTerm place nesting level own = (start : ℕ) → (nodes : List RawNode) × SpellsTerm limits place nesting start level nodes own

  -- the tokens that fit behind a prefix of a term of a level
  abbrev pub GoesOn : TermPlace → ℕ → ℕ → ℕ → List Token → Type 0
  GoesOn place nesting from to own = (front : List Token) → IsTerm place nesting from front → IsTerm place nesting to (front ++ own)

  abbrev pub Term : TermPlace → ℕ → ℕ → Spelling limits (List RawNode)
  Term place nesting level x own = IsTerm place nesting level own

  abbrev More : TermPlace → ℕ → ℕ → ℕ → Spelling limits (List RawNode)
  More place nesting from to x own = GoesOn place nesting from to own

  leaf_term : (place : TermPlace) (nesting : ℕ) (node : RawNode) (own : List Token) → SpellsLeaf limits place node own → IsTerm place nesting 0 own
  leaf_term place nesting node own is = λ start. (node ∷ [], leaf node own is)

  goes_nowhere : (place : TermPlace) (nesting level : ℕ) → GoesOn place nesting level level []
  goes_nowhere place nesting level front is = subst (IsTerm place nesting level) (sym (append-nil front)) is

  goes_looser : (place : TermPlace) (nesting level : ℕ) (own : List Token) → IsTerm place nesting level own → IsTerm place nesting (suc level) own
  goes_looser place nesting level own is = λ start. let t = is start in (t.0, tighter t.1)

  goes_both : (place : TermPlace) (nesting a b c : ℕ) (front back : List Token) → GoesOn place nesting a b front → GoesOn place nesting b c back → GoesOn place nesting a c (front ++ back)
  goes_both place nesting a b c front back one two = λ before is. subst (IsTerm place nesting c) (append_assoc before front back) (two (before ++ front) (one before is))

  goes_joined : (place : TermPlace) (nesting level : ℕ) (op : Opcode) (back : List Token) → level_of op ≡ suc level → IsTerm place nesting level back → GoesOn place nesting (suc level) (suc level) (Mark (operator_mark op) ∷ back)
  goes_joined place nesting level op back of right front left = λ start.
      let l = left start in
      let r = right (start + length l.0) in
      (_, joined op of l.1 r.1)

  -- ---- operators

  no_operator : (level : ℕ) (tokens more : List Token) → Akin tokens more → operator_at level tokens ≡ None → operator_at level more ≡ None
  unfolding operator_at
  no_operator level tokens more (same_next (Mark mark) a b) none = by (operator_in mark) none
    where
      test : (c : Bool) (op : Opcode) → cond {A = Option (Opcode × List Token)} c (Some (op, a)) None ≡ None → cond {A = Option (Opcode × List Token)} c (Some (op, b)) None ≡ None
      test true op e = absurd cc
      test false op e = refl

      by : (found : Option Opcode) → of_level level found a ≡ None → of_level level found b ≡ None
      by None e = refl
      by (Some op) e = test (eqb (level_of op) level) op e
  no_operator level tokens more (same_next token a b) none = refl
  no_operator level tokens more (noun_next word noun a b is) none = refl
  no_operator level tokens more (ended_next a [] p q) none = refl
  no_operator level tokens more (ended_next a (Line number ∷ b) p q) none = refl
  no_operator level tokens more (ended_next a b p q) none = absurd q

  chain_step : (operand : TermReader) (level : ℕ) (left : List RawNode) (op : Opcode) (more : List Token) → Shortens limits operand → level_of op ≡ suc level
      → whole_chain_at operand (suc level) left (Mark (operator_mark op) ∷ more) ≡ (operand left more >>= λ both. whole_chain_at operand (suc level) (join op left both.0) both.1)
  chain_step operand level left op more shortens of = by (operand left more) refl
    where
      found : operator_at (suc level) (Mark (operator_mark op) ∷ more) ≡ Some (op, more)
      found = operator_at-of level op more of

      by : (r : Result (List RawNode × List Token) RuleFault) → operand left more ≡ r → whole_chain_at operand (suc level) left (Mark (operator_mark op) ∷ more) ≡ (r >>= λ both. whole_chain_at operand (suc level) (join op left both.0) both.1)
      by (Ok both) e = chain-more limits operand (suc level) left (Mark (operator_mark op) ∷ more) (op, more) both shortens found e
      by (Err f) e = chain-fault limits operand (suc level) left (Mark (operator_mark op) ∷ more) (op, more) _ (Refused f) found e refl

  -- a chain of operators, from what is known of the parser of its operands
  chain_by : (place : TermPlace) (nesting line level : ℕ) (operand : TermReader) → Shortens limits operand → ((left : List RawNode) → Good (levels nesting) (pair limits) (operand left) (Term place nesting level) line)
      → (left : List RawNode) (tokens : List Token)
      → ((ls : List RawNode) (ts : List Token) → length ts < length tokens → Outcome (levels nesting) (pair limits) (whole_chain_at operand (suc level) ls) (More place nesting (suc level) (suc level)) line ts (whole_chain_at operand (suc level) ls ts))
      → (found : Option (Opcode × List Token)) → operator_at (suc level) tokens ≡ found → Outcome (levels nesting) (pair limits) (whole_chain_at operand (suc level) left) (More place nesting (suc level) (suc level)) line tokens (whole_chain_at operand (suc level) left tokens)
  chain_by place nesting line level operand shortens good left tokens further None e =
      passed (levels nesting) (pair limits) (whole_chain_at operand (suc level) left) (More place nesting (suc level) (suc level)) line tokens left (goes_nowhere place nesting (suc level)) (λ more alike. chain-done limits operand (suc level) left more (no_operator (suc level) tokens more alike e))
  chain_by place nesting line level operand shortens good left tokens further (Some next) e =
      let n = operator_at-is (suc level) tokens next e in
      subst (λ (ts : List Token). Outcome (levels nesting) (pair limits) (whole_chain_at operand (suc level) left) (More place nesting (suc level) (suc level)) line ts (whole_chain_at operand (suc level) left ts)) (sym n.whole)
      (led (levels nesting) (pair limits) (whole_chain_at operand (suc level) left) (λ ts. operand left ts >>= λ both. whole_chain_at operand (suc level) (join next.0 left both.0) both.1)
      (More place nesting (suc level) (suc level)) line (Mark (operator_mark next.0)) next.1 tt (λ more. chain_step operand level left next.0 more shortens n.is_level)
      (then_at (levels nesting) (pair limits) (pair limits) (operand left) (λ both. whole_chain_at operand (suc level) (join next.0 left both.0) both.1)
      (Term place nesting level) (λ x. More place nesting (suc level) (suc level)) (λ x own. GoesOn place nesting (suc level) (suc level) (Mark (operator_mark next.0) ∷ own)) line next.1
      (λ x y front back is more. goes_both place nesting (suc level) (suc level) (suc level) (Mark (operator_mark next.0) ∷ front) back (goes_joined place nesting level next.0 front n.is_level is) more)
      (λ x own is. (left, [], goes_nowhere place nesting (suc level)))
      ((good left).outcome next.1)
      (λ x rest is.
      let fewer : length rest < length next.1 = shortens left next.1 (x, rest) is in
      further (join next.0 left x) rest (omega (arith, ap length n.whole)))))

  chain_outcome : (place : TermPlace) (nesting line level : ℕ) (operand : TermReader) → Shortens limits operand → ((left : List RawNode) → Good (levels nesting) (pair limits) (operand left) (Term place nesting level) line)
      → (fuel : ℕ) (left : List RawNode) (tokens : List Token) → length tokens < fuel
      → Outcome (levels nesting) (pair limits) (whole_chain_at operand (suc level) left) (More place nesting (suc level) (suc level)) line tokens (whole_chain_at operand (suc level) left tokens)
  chain_outcome place nesting line level operand shortens good zero left tokens few = absurd (omega arith)
  chain_outcome place nesting line level operand shortens good (suc fuel) left tokens few =
      chain_by place nesting line level operand shortens good left tokens (λ ls ts fewer. chain_outcome place nesting line level operand shortens good fuel ls ts (omega arith)) (operator_at (suc level) tokens) refl

  chain_good : (place : TermPlace) (nesting line level : ℕ) (operand : TermReader) → Shortens limits operand → ((left : List RawNode) → Good (levels nesting) (pair limits) (operand left) (Term place nesting level) line)
      → (left : List RawNode) → Good (levels nesting) (pair limits) (whole_chain_at operand (suc level) left) (More place nesting (suc level) (suc level)) line
  chain_good place nesting line level operand shortens good left = record {
    sample = (left, [], goes_nowhere place nesting (suc level));
    outcome = λ tokens. chain_outcome place nesting line level operand shortens good (suc (length tokens)) left tokens (omega arith);
  }

  -- ---- operands of a level

  -- the parsers of operands of level 0 are those of terms
  abbrev Primaries : TermPlace → ℕ → ℕ → Type 0
  Primaries place nesting line = (before : List RawNode) → Good (levels nesting) (pair limits) (primary_at limits place line nesting before) (Term place nesting 0) line

  behind_good : (place : TermPlace) (nesting line : ℕ) → Primaries place nesting line → (level : ℕ) (left : List RawNode) → Good (levels nesting) (pair limits) (behind_at (primary_at limits place line nesting) level left) (More place nesting 0 level) line
  unfolding behind_at
  behind_good place nesting line primaries zero left = record {
    sample = (left, [], goes_nowhere place nesting 0);
    outcome = λ tokens. passed (levels nesting) (pair limits) (λ ts. Ok (left, ts)) (More place nesting 0 0) line tokens left (goes_nowhere place nesting 0) (λ more alike. refl);
  }
  behind_good place nesting line primaries (suc level) left =
      then (levels nesting) _ {L = More place nesting 0 level} {M = λ x. More place nesting (suc level) (suc level)}
      (λ x y front back one two before is. subst (IsTerm place nesting (suc level)) (append_assoc before front back) (two (before ++ front) (goes_looser place nesting level (before ++ front) (one before is))))
      (behind_good place nesting line primaries level left)
      (λ first. chain_good place nesting line level (operand_at (primary_at limits place line nesting) level) (operand_shorter limits place line nesting level)
      (λ before. then (levels nesting) _ {L = Term place nesting 0} {M = λ x. More place nesting 0 level} (λ x y front back one two. two front one) (primaries before) (λ x. behind_good place nesting line primaries level x)) first)

  operand_good : (place : TermPlace) (nesting line level : ℕ) → Primaries place nesting line → (before : List RawNode) → Good (levels nesting) (pair limits) (operand_at (primary_at limits place line nesting) level before) (Term place nesting level) line
  operand_good place nesting line level primaries before =
      then (levels nesting) _ {L = Term place nesting 0} {M = λ x. More place nesting 0 level} (λ x y front back one two. two front one) (primaries before) (λ x. behind_good place nesting line primaries level x)

  -- ---- what an operand of level 0 begins with

  -- what an operand begins with is read from the first token alone: it is taken, opens a level of nesting, or is
  -- refused
  data Opens (nesting : ℕ) (fits : Fitting) (none : List ℕ → Type 0) (place : TermPlace) (line : ℕ) : Token → Type 0 where
    misfit : (token : Token) → ((more : List Token) → IsErrOn (levels nesting) fits none line (token ∷ more) (start_at limits place line (token ∷ more))) → Opens nesting fits none place line token
    of_leaf : (token : Token) (node : RawNode) → SpellsLeaf limits place node (token ∷ []) → IsOwn limits token → ((more : List Token) → start_at limits place line (token ∷ more) ≡ Ok (Leaf node, more)) → Opens nesting fits none place line token
    of_parenthesis : ((more : List Token) → start_at limits place line (Mark (codes "(") ∷ more) ≡ Ok (Parenthesis, more)) → Opens nesting fits none place line (Mark (codes "("))
    of_prefix : (function : Function) (mark : List ℕ) → IsPrefix function mark → ((more : List Token) → start_at limits place line (Mark mark ∷ more) ≡ Ok (Prefix function, more)) → Opens nesting fits none place line (Mark mark)
    of_call : (function : Function) (word : List ℕ) → IsCalled function word
        → ((more : List Token) → start_at limits place line (Word word ∷ more) ≡ (mark_at (codes "(") line more >>= λ behind. Ok (Call function, behind))) → Opens nesting fits none place line (Word word)
    of_width : ((more : List Token) → start_at limits place line (Word (codes "width") ∷ more) ≡ (mark_at (codes "(") line more >>= λ behind. Ok (Width, behind))) → Opens nesting fits none place line (Word (codes "width"))

  -- the nodes of one token fit here
  abbrev Leaves : TermPlace → Fitting → Type 0
  Leaves place fits = (token : Token) (node : RawNode) → SpellsLeaf limits place node (token ∷ []) → fits token

  constant_fits : (place : TermPlace) (fits : Fitting) → Leaves place fits → fits (Word (codes "C"))
  unfolding is_constant
  constant_fits place fits leaves = leaves (Word (codes "C")) (raw_nodes.Constant (codes "C")) (refl, omega arith, refl)

  noun_fits : (place : TermPlace) (fits : Fitting) → Leaves place fits → NounFits fits
  unfolding is_constant
  noun_fits place fits leaves = (codes "C", kinds.constant refl, constant_fits place fits leaves)

  zero_fits : (place : TermPlace) (fits : Fitting) → Leaves place fits → fits (Number (codes "0"))
  zero_fits place fits leaves = leaves (Number (codes "0")) (raw_nodes.Literal (literal_value (codes "0"))) (codes "0", refl, refl)

  long_constant : (nesting : ℕ) (place : TermPlace) (fits : Fitting) → Leaves place fits → (name : List ℕ) → limits.name_bytes < length name → IsTrue (is_constant name) → IsTooMany (levels nesting) 0 fits (Word name)
  unfolding is_constant
  long_constant nesting place fits leaves name long is = reasons.constant name (codes "C", long, omega arith, is, refl, constant_fits place fits leaves)

  short_choice : IsChoice (codes "t1") 0
  unfolding is_digit
  short_choice = (codes "1", refl, refl, refl, refl)

  long_choice : (nesting : ℕ) (fits : Fitting) → Leaves places.Witness fits → (name : List ℕ) (k : ℕ) → limits.name_bytes < length name → IsChoice name k → IsTooMany (levels nesting) 0 fits (Word name)
  long_choice nesting fits leaves name k long is =
      reasons.choice name (codes "t1", long, omega arith, (k, is), (0, short_choice), leaves (Word (codes "t1")) (raw_nodes.Choice 0) (codes "t1", refl, short_choice, omega arith, refl))

  long_register : (nesting : ℕ) (fits : Fitting) → Leaves places.Witness fits → (name : List ℕ) → limits.name_bytes < length name → IsTooMany (levels nesting) 0 fits (Register name)
  long_register nesting fits leaves name long = reasons.register name (codes "a", long, omega arith, tt, tt, leaves (Register (codes "a")) (raw_nodes.Register (codes "a")) (refl, omega arith, refl))

  opens_word : (nesting : ℕ) (fits : Fitting) (none : List ℕ → Type 0) (place : TermPlace) (line : ℕ) → Leaves place fits → (word : List ℕ) (found : Option Meaning) → meaning_in place word ≡ found → Opens nesting fits none place line (Word word)
  unfolding start_at
  opens_word nesting fits none place line leaves word None f = misfit (Word word) (λ more. (misplaced_word line word, rw f refl, refl, says_misplaced (levels nesting) (noun_fits place fits leaves) line word more))
  opens_word nesting fits none place line leaves word (Some meanings.Width) f =
      subst (λ (w : List ℕ). Opens nesting fits none place line (Word w)) (sym (meaning_in-is place word meanings.Width f)) (of_width (λ more. rw (meaning_in-of place meanings.Width (codes "width") refl) refl))
  opens_word nesting fits none place line leaves word (Some (meanings.Call function)) f = of_call function word (meaning_in-is place word (meanings.Call function) f) (λ more. rw f refl)
  opens_word nesting fits none place line leaves word (Some meanings.Constant) f = by (named limits line word)
    where
      by : Named limits line word → Opens nesting fits none place line (Word word)
      by (is_short le n) = of_leaf (Word word) (raw_nodes.Constant word) (meaning_in-is place word meanings.Constant f, le, refl) (noun_other word (kinds.constant (meaning_in-is place word meanings.Constant f))) (λ more. rw (f, n) refl)
      by (is_long long n) = misfit (Word word) (λ more. (fault line TooMany, rw (f, n) refl, refl, says_too_many (levels nesting) (Word word) more (long_constant nesting place fits leaves word long (meaning_in-is place word meanings.Constant f))))
  opens_word nesting fits none place line leaves word (Some (meanings.Choice k)) f = by (named limits line word)
    where
      m : (place ≡ places.Witness) × IsChoice word k
      m = meaning_in-is place word (meanings.Choice k) f

      by : Named limits line word → Opens nesting fits none place line (Word word)
      by (is_short le n) = of_leaf (Word word) (raw_nodes.Choice k) (word, m.0, m.1, le, refl) (noun_other word (kinds.choice k m.1)) (λ more. rw (f, n) refl)
      by (is_long long n) =
          let witness : Leaves places.Witness fits = subst (λ (p : TermPlace). Leaves p fits) m.0 leaves in
          misfit (Word word) (λ more. (fault line TooMany, rw (f, n) refl, refl, says_too_many (levels nesting) (Word word) more (long_choice nesting fits witness word k long m.1)))

  opens_register : (nesting : ℕ) (fits : Fitting) (none : List ℕ → Type 0) (place : TermPlace) (line : ℕ) → Leaves place fits → (name : List ℕ) → Opens nesting fits none place line (Register name)
  unfolding start_at
  opens_register nesting fits none places.Constant line leaves name = misfit (Register name) (λ more. (fault line Syntax, refl, refl, says_syntax (levels nesting) (Register name) more tt))
  opens_register nesting fits none places.Witness line leaves name = by (named limits line name)
    where
      by : Named limits line name → Opens nesting fits none places.Witness line (Register name)
      by (is_short le n) = of_leaf (Register name) (raw_nodes.Register name) (refl, le, refl) tt (λ more. rw n refl)
      by (is_long long n) = misfit (Register name) (λ more. (fault line TooMany, rw n refl, refl, says_too_many (levels nesting) (Register name) more (long_register nesting fits leaves name long)))

  opens_mark : (nesting : ℕ) (fits : Fitting) (none : List ℕ → Type 0) (place : TermPlace) (line : ℕ) (mark : List ℕ) → Opens nesting fits none place line (Mark mark)
  unfolding start_at opening_in
  opens_mark nesting fits none place line mark = first (bytes_eq mark (codes "(")) refl
    where
      third : (b : Bool) → bytes_eq mark (codes "(") ≡ false → bytes_eq mark (codes "-") ≡ false → bytes_eq mark (codes "~") ≡ b → Opens nesting fits none place line (Mark mark)
      third true g h k = of_prefix Not mark (same_word mark (codes "~") k) (λ more. rw (g, h, k) refl)
      third false g h k = misfit (Mark mark) (λ more. (fault line Syntax, rw (g, h, k) refl, refl, says_syntax (levels nesting) (Mark mark) more tt))

      second : (b : Bool) → bytes_eq mark (codes "(") ≡ false → bytes_eq mark (codes "-") ≡ b → Opens nesting fits none place line (Mark mark)
      second true g h = of_prefix Negate mark (same_word mark (codes "-") h) (λ more. rw (g, h) refl)
      second false g h = third (bytes_eq mark (codes "~")) g h refl

      first : (b : Bool) → bytes_eq mark (codes "(") ≡ b → Opens nesting fits none place line (Mark mark)
      first true g = subst (λ (m : List ℕ). Opens nesting fits none place line (Mark m)) (sym (same_word mark (codes "(") g)) (of_parenthesis (λ more. refl))
      first false g = second (bytes_eq mark (codes "-")) g refl

  opens : (nesting : ℕ) (fits : Fitting) (none : List ℕ → Type 0) (place : TermPlace) (line : ℕ) → Leaves place fits → (token : Token) → Opens nesting fits none place line token
  unfolding start_at
  opens nesting fits none place line leaves (Number text) = of_leaf (Number text) (raw_nodes.Literal (literal_value text)) (text, refl, refl) tt (λ more. refl)
  opens nesting fits none place line leaves (Register name) = opens_register nesting fits none place line leaves name
  opens nesting fits none place line leaves (Word word) = opens_word nesting fits none place line leaves word (meaning_in place word) refl
  opens nesting fits none place line leaves (Mark mark) = opens_mark nesting fits none place line mark
  opens nesting fits none place line leaves token = misfit token (λ more. (unexpected line (token ∷ more), refl, refl, says_unexpected (levels nesting) line token more (λ word is. absurd cc)))

  -- ---- parentheses

  -- a part, and `)` behind it
  abbrev pub Closed : (List Token → Type 0) → List Token → Type 0
  Closed P own = (inside : List Token) × P inside × (own ≡ inside ++ Mark (codes ")") ∷ [])

  -- `)` behind a value that was read
  pub closing : {A : Type 0} (x : A) (nesting line : ℕ) → Good (levels nesting) (pair limits) (λ ts. mark_at (codes ")") line ts >>= λ behind. Ok (x, behind)) (λ y own. (y ≡ x) × (own ≡ Mark (codes ")") ∷ [])) line
  closing x nesting line = then_done (levels nesting) {s = (bare limits)} {L = λ u own. own ≡ Mark (codes ")") ∷ []} (λ u. x) (λ behind. Ok (x, behind)) (λ u rest. refl) (λ u own is. (refl, is)) (mark_good (levels nesting) (codes ")") line)

  inside_good : (place : TermPlace) (nesting line : ℕ) → Primaries place nesting line → (before : List RawNode) → Good (levels nesting) (pair limits) (inside_at line (primary_at limits place line nesting) before) (λ x. Closed (IsTerm place nesting loosest)) line
  inside_good place nesting line primaries before =
      then (levels nesting) _ {L = Term place nesting loosest} {M = λ x y own. (y ≡ x) × (own ≡ Mark (codes ")") ∷ [])} (λ x y front back one two. (front, one, ap (λ (ts : List Token). front ++ ts) two.1))
      (operand_good place nesting line loosest primaries before) (λ x. closing x nesting line)

  -- `(`, and a part behind it
  abbrev pub Entered : {A : Type 0} → Spelling limits A → Spelling limits A
  Entered L x own = (inside : List Token) × L x inside × (own ≡ Mark (codes "(") ∷ inside)

  -- `(`, and the parser of a part one level of nesting further in
  pub entered : {A : Type 0} (nesting line : ℕ) (R : Reader limits (A × List Token)) (L : Spelling limits A) → Good (levels nesting) (pair limits) R L line
      → Good (levels (suc nesting)) (pair limits) (λ ts. mark_at (codes "(") line ts >>= R) (Entered L) line
  unfolding mark_at
  entered {A} nesting line R L good = by_token (levels (suc nesting)) (let s = good.sample in (s.0, Mark (codes "(") ∷ s.1, (s.1, s.2, refl))) branch (fault line Syntax, refl, refl, refl)
    where
      enters : Branch (levels (suc nesting)) (pair limits) (λ ts. mark_at (codes "(") line ts >>= R) (Entered L) line (Mark (codes "("))
      enters = goes_in (levels (suc nesting)) (levels nesting) refl (λ front far. opens_one (codes "(") nesting refl front far) R tt (λ more. refl) (widened (levels nesting) (λ x own is. (own, is, refl)) good)

      branch : (token : Token) → Branch (levels (suc nesting)) (pair limits) (λ ts. mark_at (codes "(") line ts >>= R) (Entered L) line token
      branch (Mark mark) = by (bytes_eq mark (codes "(")) refl
        where
          by : (b : Bool) → bytes_eq mark (codes "(") ≡ b → Branch (levels (suc nesting)) (pair limits) (λ ts. mark_at (codes "(") line ts >>= R) (Entered L) line (Mark mark)
          by true h = subst (λ (m : List ℕ). Branch (levels (suc nesting)) (pair limits) (λ ts. mark_at (codes "(") line ts >>= R) (Entered L) line (Mark m)) (sym (same_word mark (codes "(") h)) enters
          by false h = refuses (λ more. (fault line Syntax, rw h refl, refl, says_syntax (levels (suc nesting)) (Mark mark) more tt))
      branch token = refuses (λ more. (unexpected line (token ∷ more), refl, refl, says_unexpected (levels (suc nesting)) line token more (λ word is. inr (inr (λ noun is_noun others. (unexpected line (Word noun ∷ others), refl))))))

  prefix_opens : (function : Function) (mark : List ℕ) → IsPrefix function mark → openings (Mark mark) ≡ 1
  prefix_opens Negate mark is = rw is refl
  prefix_opens Not mark is = rw is refl
  prefix_opens function mark is = absurd is

  abbrev Measured : Spelling limits (List ℕ)
  Measured name own = (length name ≤ limits.name_bytes) × (own ≡ Register name ∷ Mark (codes ")") ∷ [])

  measured_branch : (nesting line : ℕ) (token : Token) → Branch (levels nesting) (pair limits) (measured_at limits line) Measured line token
  unfolding measured_at
  measured_branch nesting line (Register name) = by (named limits line name)
    where
      by : Named limits line name → Branch (levels nesting) (pair limits) (measured_at limits line) Measured line (Register name)
      by (is_short le n) = goes (λ ts. mark_at (codes ")") line ts >>= λ behind. Ok (name, behind)) tt (λ more. rw n refl)
          (then_done (levels nesting) {s = (bare limits)} {L = λ u own. own ≡ Mark (codes ")") ∷ []} (λ u. name) (λ behind. Ok (name, behind)) (λ u rest. refl) (λ u own is. (le, ap (λ (ts : List Token). Register name ∷ ts) is)) (mark_good (levels nesting) (codes ")") line))
      by (is_long long n) = refuses (λ more. (fault line TooMany, rw n refl, refl, says_too_many (levels nesting) (Register name) more (reasons.register name (codes "a", long, omega arith, tt, tt, (codes "a", Mark (codes ")") ∷ [], (omega arith, refl))))))
  measured_branch nesting line token = refuses (λ more. (unexpected line (token ∷ more), refl, refl, says_unexpected (levels nesting) line token more (λ word is. inr (inr (λ noun is_noun others. (unexpected line (Word noun ∷ others), refl))))))

  measured_good : (nesting line : ℕ) → Good (levels nesting) (pair limits) (measured_at limits line) Measured line
  unfolding measured_at
  measured_good nesting line = by_token (levels nesting) ([], Register [] ∷ Mark (codes ")") ∷ [], (omega arith, refl)) (measured_branch nesting line) (fault line Syntax, refl, refl, refl)

  -- ---- operands of level 0

  enclosed_term : (place : TermPlace) (nesting : ℕ) (own : List Token) → Closed (IsTerm place nesting loosest) own → IsTerm place (suc nesting) 0 (Mark (codes "(") ∷ own)
  enclosed_term place nesting own (inside, is, whole) = λ start.
      let t = is start in
      (t.0, subst (λ (ts : List Token). SpellsTerm limits place (suc nesting) start 0 t.0 (Mark (codes "(") ∷ ts)) (sym whole) (parenthesised t.1))

  called_term : (place : TermPlace) (nesting : ℕ) (function : Function) (word : List ℕ) (own : List Token) → IsCalled function word → Closed (IsTerm place nesting loosest) own → IsTerm place (suc nesting) 0 (Word word ∷ Mark (codes "(") ∷ own)
  called_term place nesting function word own calls (inside, is, whole) = λ start.
      let t = is start in
      let nodes : List RawNode = t.0 ++ raw_nodes.Unary function (last_place (start + length t.0)) ∷ [] in
      (nodes, subst (λ (ts : List Token). SpellsTerm limits place (suc nesting) start 0 nodes (Word word ∷ Mark (codes "(") ∷ ts)) (sym whole) (called function word calls t.1))

  prefixed_term : (place : TermPlace) (nesting : ℕ) (function : Function) (mark : List ℕ) (own : List Token) → IsPrefix function mark → IsTerm place nesting 0 own → IsTerm place (suc nesting) 0 (Mark mark ∷ own)
  prefixed_term place nesting function mark own is h = λ start. let t = h start in (_, prefixed function mark is t.1)

  width_term : (place : TermPlace) (nesting : ℕ) (name : List ℕ) (own : List Token) → Measured name own → IsTerm place (suc nesting) 0 (Word (codes "width") ∷ Mark (codes "(") ∷ own)
  width_term place nesting name own (le, whole) = λ start.
      (raw_nodes.Width name ∷ [], subst (λ (ts : List Token). SpellsTerm limits place (suc nesting) start 0 (raw_nodes.Width name ∷ []) (Word (codes "width") ∷ Mark (codes "(") ∷ ts)) (sym whole) (width name le))

  -- the tokens that fit where an operand begins
  abbrev FitsAt : TermPlace → ℕ → Fitting
  FitsAt place nesting = Takes limits (Term place nesting 0) []

  leaves_at : (place : TermPlace) (nesting : ℕ) → Leaves place (FitsAt place nesting)
  leaves_at place nesting token node is = ([], [], leaf_term place nesting node (token ∷ []) is)

  too_deep : (place : TermPlace) (token : Token) → Nests token → IsTooDeep (levels zero) 0 (FitsAt place zero) token
  too_deep place token nests = (omega arith, nests, zero_fits place (FitsAt place zero) (leaves_at place zero))

  shallow_branch : (place : TermPlace) (line : ℕ) (before : List RawNode) (token : Token) → Opens zero (FitsAt place zero) (Lack limits (primary_at limits place line zero before) []) place line token → Branch (levels zero) (pair limits) (primary_at limits place line zero before) (Term place zero 0) line token
  unfolding primary_at
  shallow_branch place line before token (misfit t h) = refuses (λ more. let e = h more in (e.0, rw e.1 refl, e.2, e.3))
  shallow_branch place line before token (of_leaf t node is stays h) = takes (before ++ node ∷ []) stays (leaf_term place 0 node (t ∷ []) is) (λ more. rw (h more) refl)
  shallow_branch place line before token (of_parenthesis h) =
      refuses (λ more. (fault line TooMany, rw (h more) refl, refl, says_too_many (levels zero) (Mark (codes "(")) more (reasons.nesting (Mark (codes "(")) (too_deep place (Mark (codes "(")) reasons.parenthesis))))
  shallow_branch place line before token (of_prefix function mark is h) =
      refuses (λ more. (fault line TooMany, rw (h more) refl, refl, says_too_many (levels zero) (Mark mark) more (reasons.nesting (Mark mark) (too_deep place (Mark mark) (reasons.sign function mark is)))))
  shallow_branch place line before token (of_call function word is h) = refuses (λ more. by more (mark_at (codes "(") line more) refl)
    where
      by : (more : List Token) (r : Result (List Token) RuleFault) → mark_at (codes "(") line more ≡ r → IsErrOn (levels zero) (FitsAt place zero) (Lack limits (primary_at limits place line zero before) []) line (Word word ∷ more) (primary_at limits place line zero before (Word word ∷ more))
      by more (Ok behind) e = (fault line TooMany, rw (h more, e) refl, refl, says_deep (levels zero) word (too_deep place (Word word) (reasons.function function word is)) more TooMany (inl refl))
      by more (Err f) e = (f, rw (h more, e) refl, on_line (levels zero) (mark_good (levels zero) (codes "(") line) more f e, says_deep (levels zero) word (too_deep place (Word word) (reasons.function function word is)) more f.kind (parenthesis_missed limits line more f e))
  shallow_branch place line before token (of_width h) = refuses (λ more. by more (mark_at (codes "(") line more) refl)
    where
      by : (more : List Token) (r : Result (List Token) RuleFault) → mark_at (codes "(") line more ≡ r → IsErrOn (levels zero) (FitsAt place zero) (Lack limits (primary_at limits place line zero before) []) line (Word (codes "width") ∷ more) (primary_at limits place line zero before (Word (codes "width") ∷ more))
      by more (Ok behind) e = (fault line TooMany, rw (h more, e) refl, refl, says_deep (levels zero) (codes "width") (too_deep place (Word (codes "width")) reasons.width) more TooMany (inl refl))
      by more (Err f) e = (f, rw (h more, e) refl, on_line (levels zero) (mark_good (levels zero) (codes "(") line) more f e, says_deep (levels zero) (codes "width") (too_deep place (Word (codes "width")) reasons.width) more f.kind (parenthesis_missed limits line more f e))

  deep_branch : (place : TermPlace) (line nesting : ℕ) (before : List RawNode) (token : Token) → Primaries place nesting line → Opens (suc nesting) (FitsAt place (suc nesting)) (Lack limits (primary_at limits place line (suc nesting) before) []) place line token → Branch (levels (suc nesting)) (pair limits) (primary_at limits place line (suc nesting) before) (Term place (suc nesting) 0) line token
  unfolding primary_at
  deep_branch place line nesting before token primaries (misfit t h) = refuses (λ more. let e = h more in (e.0, rw e.1 refl, e.2, e.3))
  deep_branch place line nesting before token primaries (of_leaf t node is stays h) = takes (before ++ node ∷ []) stays (leaf_term place (suc nesting) node (t ∷ []) is) (λ more. rw (h more) refl)
  deep_branch place line nesting before token primaries (of_parenthesis h) = goes_in (levels (suc nesting)) (levels nesting) refl (λ front far. opens_one (codes "(") nesting refl front far) (inside_at line (primary_at limits place line nesting) before) tt (λ more. rw (h more) refl)
      (widened (levels nesting) (λ x own is. enclosed_term place nesting own is) (inside_good place nesting line primaries before))
  deep_branch place line nesting before token primaries (of_prefix function mark is h) = goes_in (levels (suc nesting)) (levels nesting) refl (λ front far. opens_one mark nesting (prefix_opens function mark is) front far) (λ ts. primary_at limits place line nesting before ts >>= λ x. Ok (add_unary function x.0, x.1)) tt (λ more. rw (h more) refl)
      (then_done (levels nesting) {s = (pair limits)} {L = Term place nesting 0} (add_unary function) (λ x. Ok (add_unary function x.0, x.1)) (λ x rest. refl) (λ x own t. prefixed_term place nesting function mark own is t) (primaries before))
  deep_branch place line nesting before token primaries (of_call function word is h) =
      goes (λ ts. mark_at (codes "(") line ts >>= λ behind. (inside_at line (primary_at limits place line nesting) before behind >>= λ x. Ok (add_unary function x.0, x.1))) (noun_other word (kinds.function function is))
      (λ more. rw (h more) (bind_named limits (mark_at (codes "(") line more) (Call function) _))
      (widened (levels (suc nesting)) (λ x own c. subst (λ (ts : List Token). IsTerm place (suc nesting) 0 (Word word ∷ ts)) (sym c.2) (called_term place nesting function word c.0 is c.1))
      (entered nesting line (λ behind. inside_at line (primary_at limits place line nesting) before behind >>= λ x. Ok (add_unary function x.0, x.1)) (λ x. Closed (IsTerm place nesting loosest))
      (then_done (levels nesting) {s = (pair limits)} {L = λ x. Closed (IsTerm place nesting loosest)} (add_unary function) (λ x. Ok (add_unary function x.0, x.1)) (λ x rest. refl) (λ x own c. c) (inside_good place nesting line primaries before))))
  deep_branch place line nesting before token primaries (of_width h) =
      goes (λ ts. mark_at (codes "(") line ts >>= λ behind. (measured_at limits line behind >>= λ x. Ok (before ++ raw_nodes.Width x.0 ∷ [], x.1))) (noun_other (codes "width") (kinds.width refl))
      (λ more. rw (h more) (bind_named limits (mark_at (codes "(") line more) Width _))
      (then (levels (suc nesting)) {s = (bare limits)} _ {L = λ u own. own ≡ Mark (codes "(") ∷ []} {M = λ u y own. IsTerm place (suc nesting) 0 (Word (codes "width") ∷ Mark (codes "(") ∷ own)}
      (λ u y front back one two. subst (λ (ts : List Token). IsTerm place (suc nesting) 0 (Word (codes "width") ∷ (ts ++ back))) (sym one) two)
      (mark_good (levels (suc nesting)) (codes "(") line)
      (λ u. then_done (levels (suc nesting)) {s = (pair limits)} {L = Measured} (λ name. before ++ raw_nodes.Width name ∷ []) (λ x. Ok (before ++ raw_nodes.Width x.0 ∷ [], x.1)) (λ x rest. refl) (λ x own m. width_term place nesting x own m) (measured_good (suc nesting) line)))

  zero_term : (place : TermPlace) (nesting : ℕ) → IsTerm place nesting 0 (Number [] ∷ [])
  zero_term place nesting = leaf_term place nesting (raw_nodes.Literal (literal_value [])) (Number [] ∷ []) ([], refl, refl)

  pub primary_good : (place : TermPlace) (line nesting : ℕ) (before : List RawNode) → Good (levels nesting) (pair limits) (primary_at limits place line nesting before) (Term place nesting 0) line
  unfolding primary_at start_at
  primary_good place line zero before = by_token (levels zero) (before, Number [] ∷ [], zero_term place zero) (λ token. shallow_branch place line before token (opens zero (FitsAt place zero) (Lack limits (primary_at limits place line zero before) []) place line (leaves_at place zero) token)) (fault line Syntax, refl, refl, refl)
  primary_good place line (suc nesting) before = by_token (levels (suc nesting)) (before, Number [] ∷ [], zero_term place (suc nesting)) (λ token. deep_branch place line nesting before token (primary_good place line nesting) (opens (suc nesting) (FitsAt place (suc nesting)) (Lack limits (primary_at limits place line (suc nesting) before) []) place line (leaves_at place (suc nesting)) token)) (fault line Syntax, refl, refl, refl)

  pub term_good : (place : TermPlace) (nesting line : ℕ) → Good (levels nesting) (pair limits) (term_at limits place nesting line) (Term place nesting loosest) line
  unfolding term_at
  term_good place nesting line = operand_good place nesting line loosest (primary_good place line nesting) []
