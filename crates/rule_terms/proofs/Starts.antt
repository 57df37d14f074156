-- What an operand begins with: the parser takes it exactly as it is written.
use Rattle.rule_terms.proofs.Common.{◌≡◌, ℕ, ◌≤◌, true, false, cond, List, [], ◌∷◌, ◌++◌, length, Option, Some, None, Ok, refl, sym, ap, subst, ◌∙◌, ⊎_elim, codes, bytes_eq, same_word, Negate, Log2, Abs, Syntax, literal_value, fault, name_within, Token, Register, Word, Number, Mark, name_within-of, bound, read_as, tested, chosen, name_within-is, TermPlace, RawNode, Start, Leaf, Prefix, Parenthesis, Call, Width, Meaning, SpellsLeaf, mark_at, register_in, word_at, opening_in, start_at, measured_at, IsPrefix, IsCalled, meaning_in, Limits}
use Rattle.rule_core.specs.declared.rule.Function.TheVariants.{Not}
use Rattle.rule_terms.specs.declared.place.TermPlace.TheVariants as places
use Rattle.rule_terms.specs.declared.raw.RawNode.TheVariants as raw_nodes
use Rattle.rule_terms.specs.declared.word.Meaning.TheVariants as meanings
use Rattle.rule_terms.specs.TermReaders.{opening_at}
use Rattle.rule_terms.proofs.Meanings.{Means, meaning_in-is, meaning_in-of}

module _ (limits : Limits) where
  -- the tokens are such a beginning, and the rest
  abbrev pub Starts : TermPlace → Start → List Token → List Token → Type 0
  Starts place (Leaf node) tokens rest = (own : List Token) × SpellsLeaf limits place node own × (tokens ≡ own ++ rest)
  Starts place (Prefix function) tokens rest = (mark : List ℕ) × IsPrefix function mark × (tokens ≡ Mark mark ∷ rest)
  Starts place Parenthesis tokens rest = tokens ≡ Mark (codes "(") ∷ rest
  Starts place (Call function) tokens rest = (word : List ℕ) × IsCalled function word × (tokens ≡ Word word ∷ Mark (codes "(") ∷ rest)
  Starts place Width tokens rest = tokens ≡ Word (codes "width") ∷ Mark (codes "(") ∷ rest

  -- ---- what is taken is written so

  pub mark_at-is : (wanted : List ℕ) (line : ℕ) (tokens rest : List Token) → mark_at wanted line tokens ≡ Ok rest → tokens ≡ Mark wanted ∷ rest
  unfolding mark_at
  mark_at-is wanted line (Mark mark ∷ behind) rest e =
      let t = tested (bytes_eq mark wanted) behind rest (fault line Syntax) e in
      ap (λ (m : List ℕ). Mark m ∷ behind) (same_word mark wanted t.0) ∙ ap (λ (ts : List Token). Mark wanted ∷ ts) t.1
  mark_at-is wanted line tokens rest e = absurd cc

  pub measured_at-is : (line : ℕ) (tokens : List Token) (x : List ℕ × List Token) → measured_at limits line tokens ≡ Ok x → (length x.0 ≤ limits.name_bytes) × (tokens ≡ Register x.0 ∷ Mark (codes ")") ∷ x.1)
  unfolding measured_at
  measured_at-is line (Register name ∷ rest) x e =
      bound (name_within limits line name) _ _ e (λ held n e1.
      bound (mark_at (codes ")") line rest) _ _ e1 (λ behind m e2.
      let w = name_within-is limits line name held n in
      read_as (λ (y : List ℕ × List Token). (length y.0 ≤ limits.name_bytes) × (Register name ∷ rest ≡ Register y.0 ∷ Mark (codes ")") ∷ y.1)) (held, behind) x e2
      (w.0, ap (λ (r : List ℕ). Register r ∷ rest) w.1 ∙ ap (λ (ts : List Token). Register held ∷ ts) (mark_at-is (codes ")") line rest behind m))))
  measured_at-is line tokens x e = absurd cc

  abbrev StartsAs : TermPlace → List Token → Start × List Token → Type 0
  StartsAs place tokens x = Starts place x.0 tokens x.1

  register_in-is : (place : TermPlace) (line : ℕ) (name : List ℕ) (rest : List Token) (start : Start) → register_in limits place line name ≡ Ok start → Starts place start (Register name ∷ rest) rest
  register_in-is places.Constant line name rest start e = absurd cc
  register_in-is places.Witness line name rest start e =
      bound (name_within limits line name) _ _ e (λ held n e1.
      let w = name_within-is limits line name held n in
      read_as (λ (s : Start). Starts places.Witness s (Register name ∷ rest) rest) (Leaf (raw_nodes.Register held)) start e1
      (Register held ∷ [], (refl, w.0, refl), ap (λ (r : List ℕ). Register r ∷ rest) w.1))

  word_at-is : (place : TermPlace) (line : ℕ) (word : List ℕ) (found : Option Meaning) (rest : List Token) (x : Start × List Token) → meaning_in place word ≡ found → word_at limits line word found rest ≡ Ok x → StartsAs place (Word word ∷ rest) x
  word_at-is place line word (Some meanings.Width) rest x f e =
      bound (mark_at (codes "(") line rest) _ _ e (λ behind m e1.
      read_as (StartsAs place (Word word ∷ rest)) (Width, behind) x e1
      (ap (λ (w : List ℕ). Word w ∷ rest) (meaning_in-is place word meanings.Width f) ∙ ap (λ (ts : List Token). Word (codes "width") ∷ ts) (mark_at-is (codes "(") line rest behind m)))
  word_at-is place line word (Some (meanings.Call function)) rest x f e =
      bound (mark_at (codes "(") line rest) _ _ e (λ behind m e1.
      read_as (StartsAs place (Word word ∷ rest)) (Call function, behind) x e1
      (word, meaning_in-is place word (meanings.Call function) f, ap (λ (ts : List Token). Word word ∷ ts) (mark_at-is (codes "(") line rest behind m)))
  word_at-is place line word (Some meanings.Constant) rest x f e =
      bound (name_within limits line word) _ _ e (λ held n e1.
      let w = name_within-is limits line word held n in
      read_as (StartsAs place (Word word ∷ rest)) (Leaf (raw_nodes.Constant held), rest) x e1
      (Word held ∷ [], (subst (λ (h : List ℕ). Means place meanings.Constant h) w.1 (meaning_in-is place word meanings.Constant f), w.0, refl), ap (λ (r : List ℕ). Word r ∷ rest) w.1))
  word_at-is place line word (Some (meanings.Choice k)) rest x f e =
      bound (name_within limits line word) _ _ e (λ held n e1.
      let w = name_within-is limits line word held n in
      let m = subst (λ (h : List ℕ). Means place (meanings.Choice k) h) w.1 (meaning_in-is place word (meanings.Choice k) f) in
      read_as (StartsAs place (Word word ∷ rest)) (Leaf (raw_nodes.Choice k), rest) x e1
      (Word held ∷ [], (held, m.0, m.1, w.0, refl), ap (λ (r : List ℕ). Word r ∷ rest) w.1))
  word_at-is place line word None rest x f e = absurd cc

  -- marks are compared one after the other
  tried : (place : TermPlace) (mark wanted : List ℕ) (rest : List Token) (a start : Start) (others : Option Start) → Starts place a (Mark wanted ∷ rest) rest → cond (bytes_eq mark wanted) (Some a) others ≡ Some start → (others ≡ Some start → Starts place start (Mark mark ∷ rest) rest) → Starts place start (Mark mark ∷ rest) rest
  tried place mark wanted rest a start others is e next = ⊎_elim
      (λ (h : (bytes_eq mark wanted ≡ true) × (Some a ≡ Some start)).
      let same : a ≡ start = let taken = h.1 in cc in
      subst (λ (s : Start). Starts place s (Mark mark ∷ rest) rest) same (subst (λ (m : List ℕ). Starts place a (Mark m ∷ rest) rest) (sym (same_word mark wanted h.0)) is))
      (λ (h : (bytes_eq mark wanted ≡ false) × (others ≡ Some start)). next h.1)
      (chosen (bytes_eq mark wanted) (Some a) others (Some start) e)

  opening_in-is : (place : TermPlace) (mark : List ℕ) (rest : List Token) (start : Start) → opening_in mark ≡ Some start → Starts place start (Mark mark ∷ rest) rest
  unfolding opening_in
  opening_in-is place mark rest start e =
      tried place mark (codes "(") rest Parenthesis start _ refl e (λ e1.
      tried place mark (codes "-") rest (Prefix Negate) start _ (codes "-", refl, refl) e1 (λ e2.
      tried place mark (codes "~") rest (Prefix Not) start _ (codes "~", refl, refl) e2 (λ e3. absurd cc)))

  opening_at-is : (place : TermPlace) (line : ℕ) (mark : List ℕ) (found : Option Start) (rest : List Token) (x : Start × List Token) → opening_in mark ≡ found → opening_at line found rest ≡ Ok x → StartsAs place (Mark mark ∷ rest) x
  opening_at-is place line mark (Some start) rest x f e = read_as (StartsAs place (Mark mark ∷ rest)) (start, rest) x e (opening_in-is place mark rest start f)
  opening_at-is place line mark None rest x f e = absurd cc

  pub start_at-is : (place : TermPlace) (line : ℕ) (tokens : List Token) (x : Start × List Token) → start_at limits place line tokens ≡ Ok x → Starts place x.0 tokens x.1
  unfolding start_at
  start_at-is place line (Number text ∷ rest) x e =
      read_as (StartsAs place (Number text ∷ rest)) (Leaf (raw_nodes.Literal (literal_value text)), rest) x e (Number text ∷ [], (text, refl, refl), refl)
  start_at-is place line (Register name ∷ rest) x e =
      bound (register_in limits place line name) _ _ e (λ start r e1.
      read_as (StartsAs place (Register name ∷ rest)) (start, rest) x e1 (register_in-is place line name rest start r))
  start_at-is place line (Word word ∷ rest) x e = word_at-is place line word (meaning_in place word) rest x refl e
  start_at-is place line (Mark mark ∷ rest) x e = opening_at-is place line mark (opening_in mark) rest x refl e
  start_at-is place line tokens x e = absurd cc

  -- ---- what is written so is taken

  pub mark_at-of : (wanted : List ℕ) (line : ℕ) (rest : List Token) → bytes_eq wanted wanted ≡ true → mark_at wanted line (Mark wanted ∷ rest) ≡ Ok rest
  unfolding mark_at
  mark_at-of wanted line rest same = rw same refl

  pub measured_at-of : (line : ℕ) (name : List ℕ) (rest : List Token) → length name ≤ limits.name_bytes → measured_at limits line (Register name ∷ Mark (codes ")") ∷ rest) ≡ Ok (name, rest)
  unfolding measured_at
  measured_at-of line name rest le = rw (name_within-of limits line name le, mark_at-of (codes ")") line rest refl) refl

  leaf_at-of : (place : TermPlace) (line : ℕ) (node : RawNode) (own rest : List Token) → SpellsLeaf limits place node own → start_at limits place line (own ++ rest) ≡ Ok (Leaf node, rest)
  unfolding start_at
  leaf_at-of place line (raw_nodes.Literal z) own rest (text, value, is) = rw (is, value) refl
  leaf_at-of place line (raw_nodes.Constant name) own rest (constant, le, is) = rw (is, meaning_in-of place meanings.Constant name constant, name_within-of limits line name le) refl
  leaf_at-of place line (raw_nodes.Register name) own rest (witness, le, is) = rw (is, witness, name_within-of limits line name le) refl
  leaf_at-of place line (raw_nodes.Choice k) own rest (word, witness, choice, le, is) = rw (is, meaning_in-of place (meanings.Choice k) word (witness, choice), name_within-of limits line word le) refl
  leaf_at-of place line (raw_nodes.Width name) own rest is = absurd is
  leaf_at-of place line (raw_nodes.Unary function a) own rest is = absurd is
  leaf_at-of place line (raw_nodes.Binary op a b) own rest is = absurd is

  pub start_at-of : (place : TermPlace) (line : ℕ) (start : Start) (tokens rest : List Token) → Starts place start tokens rest → start_at limits place line tokens ≡ Ok (start, rest)
  unfolding start_at opening_in
  start_at-of place line (Leaf node) tokens rest (own, leaf, whole) = whole_as whole (leaf_at-of place line node own rest leaf)
    where
      whole_as : tokens ≡ own ++ rest → start_at limits place line (own ++ rest) ≡ Ok (Leaf node, rest) → start_at limits place line tokens ≡ Ok (Leaf node, rest)
      whole_as w e = rw w e
  start_at-of place line (Prefix Negate) tokens rest (mark, is, whole) = rw (whole, is) refl
  start_at-of place line (Prefix Not) tokens rest (mark, is, whole) = rw (whole, is) refl
  start_at-of place line (Prefix Log2) tokens rest (mark, is, whole) = absurd is
  start_at-of place line (Prefix Abs) tokens rest (mark, is, whole) = absurd is
  start_at-of place line Parenthesis tokens rest whole = rw whole refl
  start_at-of place line (Call function) tokens rest (word, is, whole) = rw (whole, meaning_in-of place (meanings.Call function) word is, mark_at-of (codes "(") line rest refl) refl
  start_at-of place line Width tokens rest whole = rw (whole, meaning_in-of place meanings.Width (codes "width") refl, mark_at-of (codes "(") line rest refl) refl
