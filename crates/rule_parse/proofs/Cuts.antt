-- From tokens with the limit back to the text's: those in front of `Excess` are the text's own, and those that count
-- use up the room.
use Rattle.rule_parse.proofs.Common.{◌≡◌, ℕ, zero, suc, ◌+◌, ◌≤◌, Bool, true, false, not, List, [], ◌∷◌, ◌++◌, Option, Some, None, refl, sym, ap, subst, ◌∙◌, append_assoc, arith, codes, if◌then◌else◌, is_among, BitFact, Token, Line, Head, Register, Word, Fact, Number, Arrow, Mark, is_node_word, plain_marks, ends_before_line, one_less, room_behind, or_excess, limited_to}
use Rattle.rule_tokens.specs.Tokens.{Opcode, Excess}

-- ---- tokens of texts

-- a token of a text, which `Excess` is not
abbrev pub IsOfText : Token → Type 0
IsOfText Excess = ⊥
IsOfText token = Unit {0}

abbrev pub AreOfText : List Token → Type 0
AreOfText [] = Unit {0}
AreOfText (token ∷ tokens) = IsOfText token × AreOfText tokens

-- the first token, if there is one, is of a text
abbrev pub BeginsOfText : List Token → Type 0
BeginsOfText [] = Unit {0}
BeginsOfText (token ∷ tokens) = IsOfText token

pub of_both : (front back : List Token) → AreOfText front → AreOfText back → AreOfText (front ++ back)
of_both [] back one two = two
of_both (token ∷ front) back one two = (one.0, of_both front back one.1 two)

pub of_back : (front back : List Token) → AreOfText (front ++ back) → AreOfText back
of_back [] back are = are
of_back (token ∷ front) back are = of_back front back are.1

pub begins_of : (tokens : List Token) → AreOfText tokens → BeginsOfText tokens
begins_of [] are = tt
begins_of (token ∷ tokens) are = are.0

pub first_of : (front back : List Token) → AreOfText front → BeginsOfText back → BeginsOfText (front ++ back)
first_of [] back are begins = begins
first_of (token ∷ front) back are begins = are.0

-- ---- one token of the text, and the room behind it

pub record Step (room : ℕ) (begins : Bool) (token : Token) (rest tokens : List Token) : Type 0 where
  pub left : ℕ
  pub others : List Token
  pub kept : room_behind room begins token ≡ Some left
  pub is : tokens ≡ token ∷ others
  pub limited : rest ≡ limited_to left (ends_before_line token) others

stepped : (token t : Token) (rest : List Token) (found : Option ℕ) (others : ℕ → List Token) → BeginsOfText rest → token ∷ rest ≡ or_excess t found others → (left : ℕ) × (found ≡ Some left) × (t ≡ token) × (rest ≡ others left)
stepped token t rest None others begins e = let cut : rest ≡ Excess ∷ [] = cc in absurd (subst BeginsOfText cut begins)
stepped token t rest (Some left) others begins e = (left, refl, cc, cc)

pub step : (room : ℕ) (begins : Bool) (token : Token) (rest tokens : List Token) → BeginsOfText rest → token ∷ rest ≡ limited_to room begins tokens → Step room begins token rest tokens
unfolding limited_to
step room begins token rest [] first e = absurd cc
step room begins token rest (t ∷ tokens) first e =
    let (left, found, same, limited) = stepped token t rest (room_behind room begins t) (λ n. limited_to n (ends_before_line t) tokens) first e in
    record {
      left = left;
      others = tokens;
      kept = ap (room_behind room begins) (sym same) ∙ found;
      is = ap (λ (s : Token). s ∷ tokens) same;
      limited = limited ∙ ap (λ (s : Token). limited_to left (ends_before_line s) tokens) same;
    }

-- ---- tokens of a part of the grammar, which use up at least w of the room

pub record Cut (w room : ℕ) (own rest tokens : List Token) : Type 0 where
  pub left : ℕ
  pub others : List Token
  pub most : w + left ≤ room
  pub is : tokens ≡ own ++ others
  pub limited : rest ≡ limited_to left false others

-- the tokens use up at least w of the room, where the first one begins its line or not
pub record WeighsFrom (begins : Bool) (w : ℕ) (own : List Token) : Type 0 where
  pub of_text : AreOfText own
  pub cut : (room : ℕ) (rest tokens : List Token) → BeginsOfText rest → own ++ rest ≡ limited_to room begins tokens → Cut w room own rest tokens

abbrev pub Weighs : ℕ → List Token → Type 0
Weighs w own = WeighsFrom false w own

pub nothing : Weighs 0 []
nothing = record { of_text = tt; cut = λ room rest tokens first e. record { left = room; others = tokens; most = omega arith; is = refl; limited = e } }

one : (w : ℕ) (token : Token) → IsOfText token → ends_before_line token ≡ false → ((room left : ℕ) → room_behind room false token ≡ Some left → w + left ≤ room) → Weighs w (token ∷ [])
one w token plain ends counted = record {
  of_text = (plain, tt);
  cut = λ room rest tokens first e.
      let s = step room false token rest tokens first e in
      record { left = s.left; others = s.others; most = counted room s.left s.kept; is = s.is; limited = s.limited ∙ ap (λ (b : Bool). limited_to s.left b s.others) ends };
}

pub join : (v w : ℕ) (xs ys : List Token) → Weighs v xs → Weighs w ys → Weighs (v + w) (xs ++ ys)
join v w xs ys front back = record {
  of_text = of_both xs ys front.of_text back.of_text;
  cut = λ room rest tokens first e.
      let a = front.cut room (ys ++ rest) tokens (first_of ys rest back.of_text first) (sym (append_assoc xs ys rest) ∙ e) in
      let b = back.cut a.left rest a.others first a.limited in
      let one_most = a.most in
      let two_most = b.most in
      record { left = b.left; others = b.others; most = omega (arith, one_most, two_most); is = a.is ∙ ap (λ (ts : List Token). xs ++ ts) b.is ∙ sym (append_assoc xs ys b.others); limited = b.limited };
}

pub at_least : (v w : ℕ) (own : List Token) → v ≤ w → Weighs w own → Weighs v own
at_least v w own less whole = record {
  of_text = whole.of_text;
  cut = λ room rest tokens first e.
      let a = whole.cut room rest tokens first e in
      let most = a.most in
      record { left = a.left; others = a.others; most = omega (arith, less, most); is = a.is; limited = a.limited };
}

-- tokens that use up nothing come first
pub light : (w : ℕ) (xs ys : List Token) → Weighs 0 xs → Weighs w ys → Weighs w (xs ++ ys)
light w xs ys front back = at_least w (0 + w) (xs ++ ys) (omega arith) (join 0 w xs ys front back)

-- ---- single tokens

counted : (room left : ℕ) → one_less room ≡ Some left → 1 + left ≤ room
counted zero left e = absurd cc
counted (suc room) left e = let same : room ≡ left = cc in omega (arith, same)

maybe_counted : (b : Bool) (room left : ℕ) → (if b then one_less room else Some room) ≡ Some left → 0 + left ≤ room
maybe_counted true room left e = let less = counted room left e in omega (arith, less)
maybe_counted false room left e = let same : room ≡ left = cc in omega (arith, same)

pub word : (text : List ℕ) → Weighs 0 (Word text ∷ [])
word text = one 0 (Word text) tt refl (λ room left e. maybe_counted (is_node_word text) room left e)

pub opcode : (text : List ℕ) → Weighs 0 (Opcode text ∷ [])
opcode text = one 0 (Opcode text) tt refl (λ room left e. maybe_counted false room left e)

pub fact : (is : BitFact) → Weighs 1 (Fact is ∷ [])
fact is = one 1 (Fact is) tt refl (λ room left e. counted room left e)

pub mark : (text : List ℕ) → Weighs 0 (Mark text ∷ [])
mark text = one 0 (Mark text) tt refl (λ room left e. maybe_counted (not (is_among plain_marks text)) room left e)

pub number : (text : List ℕ) → Weighs 1 (Number text ∷ [])
number text = one 1 (Number text) tt refl (λ room left e. counted room left e)

pub register : (name : List ℕ) → Weighs 1 (Register name ∷ [])
register name = one 1 (Register name) tt refl (λ room left e. counted room left e)

pub node_word : (text : List ℕ) → is_node_word text ≡ true → Weighs 1 (Word text ∷ [])
node_word text is = one 1 (Word text) tt refl (λ room left e. counted room left (ap (λ (b : Bool). if b then one_less room else Some room) (sym is) ∙ e))

pub operator : (text : List ℕ) → is_among plain_marks text ≡ false → Weighs 1 (Mark text ∷ [])
operator text is = one 1 (Mark text) tt refl (λ room left e. counted room left (ap (λ (b : Bool). if (not b) then one_less room else Some room) (sym is) ∙ e))

pub enclosed : (w : ℕ) (own : List Token) → Weighs w own → Weighs w (Mark (codes "(") ∷ own ++ Mark (codes ")") ∷ [])
enclosed w own inside =
    at_least w (0 + (w + 0)) (Mark (codes "(") ∷ own ++ Mark (codes ")") ∷ []) (omega arith)
    (join 0 (w + 0) (Mark (codes "(") ∷ []) (own ++ Mark (codes ")") ∷ []) (mark (codes "(")) (join w 0 own (Mark (codes ")") ∷ []) inside (mark (codes ")"))))

-- ---- lines

some_same : (a b : ℕ) → Some a ≡ Some b → a ≡ b
some_same a b e = cc

pub behind_one : (token : Token) (tokens others more : List Token) → tokens ≡ token ∷ others → others ≡ more → tokens ≡ token ∷ more
behind_one token tokens others more is same = is ∙ ap (λ (ts : List Token). token ∷ ts) same

-- one token that doesn't count comes first
led : (begins : Bool) (w : ℕ) (token : Token) (own : List Token) → IsOfText token → ((room : ℕ) → room_behind room begins token ≡ Some room) → WeighsFrom (ends_before_line token) w own → WeighsFrom begins w (token ∷ own)
led begins w token own plain free behind = record {
  of_text = (plain, behind.of_text);
  cut = λ room rest tokens first e.
      let a = step room begins token (own ++ rest) tokens (first_of own rest behind.of_text first) e in
      let b = behind.cut a.left rest a.others first a.limited in
      let most = b.most in
      let same : room ≡ a.left = some_same _ _ (sym (free room) ∙ a.kept) in
      record { left = b.left; others = b.others; most = omega (arith, most, same); is = behind_one token tokens a.others (own ++ b.others) a.is b.is; limited = b.limited };
}

-- a statement uses up what is behind its `=`
pub assigned : (w line : ℕ) (name : List ℕ) (op : List Token) → Weighs w op → Weighs w (Line line ∷ Register name ∷ Mark (codes "=") ∷ op)
assigned w line name op behind =
    led false w (Line line) (Register name ∷ Mark (codes "=") ∷ op) tt (λ room. refl)
    (led true w (Register name) (Mark (codes "=") ∷ op) tt (λ room. refl)
    (led false w (Mark (codes "=")) op tt (λ room. refl) behind))

pub precondition_led : (w line : ℕ) (own : List Token) → Weighs w own → Weighs w (Line line ∷ Head (codes "Pre:") ∷ own)
precondition_led w line own behind = led false w (Line line) (Head (codes "Pre:") ∷ own) tt (λ room. refl) (led true w (Head (codes "Pre:")) own tt (λ room. refl) behind)

pub witness_led : (w line : ℕ) (own : List Token) → Weighs w own → Weighs w (Line line ∷ Head (codes "Wit:") ∷ own)
witness_led w line own behind = led false w (Line line) (Head (codes "Wit:") ∷ own) tt (λ room. refl) (led true w (Head (codes "Wit:")) own tt (λ room. refl) behind)

pub arrow_led : (w line : ℕ) (own : List Token) → Weighs w own → Weighs w (Line line ∷ Arrow ∷ own)
arrow_led w line own behind = led false w (Line line) (Arrow ∷ own) tt (λ room. refl) (led true w Arrow own tt (λ room. refl) behind)
