-- How texts are read, where that stops, and that a text has one reading.
use Rattle.proof_text.proofs.Common.{◌≡◌, ◌≢◌, ℕ, ◌+◌, ◌-◌, ◌<◌, ◌≤◌, List, [], ◌∷◌, ◌++◌, length, take, get_or, refl, ap, subst, sym, ◌∙◌, append_assoc, length-append, arith, append-nil, feeds, last_line, Proof, LogFaultKind, Syntax, most_bytes, proof_text, text_of, IsWellFormed, AreWellFormed, LogFault, IsTextOf, Fits, kind_of, IsAtByte, IsAtEnd, IsLogFault, too_long, at_byte, at_end, TextsHaveOneReading, WrittenIsRead, GoesOn, StopsAt, Stops, Proofs, FaultAt}
use Rattle.proof_text.proofs.Lines.{flat_push}
use Rattle.proof_text.proofs.Numerals.{same, longer, shorter, split}
use Rattle.proof_text.proofs.Decodings.{rest_of, one_list}
use Rattle.proof_text.proofs.StepReadings.{all_push}

-- what was read of a text so far
pub record TextSoFar (text rest : List ℕ) (proofs : List Proof) : Type 0 where
  pub all : AreWellFormed proofs
  pub goes : text ≡ text_of proofs ++ rest

-- ---- faults

take_front : (front rest : List ℕ) → take (length front) (front ++ rest) ≡ front
take_front [] rest = refl
take_front (b ∷ front) rest = ap (λ (k : List ℕ). b ∷ k) (take_front front rest)

front_is : (text front rest : List ℕ) → text ≡ front ++ rest → take (length text - length rest) text ≡ front
front_is text front rest e =
    let a : length text ≡ length front + length rest = ap length e ∙ length-append front rest in
    let n : length text - length rest ≡ length front = omega arith in
    ap (λ (k : ℕ). take k text) n ∙ ap (λ (k : List ℕ). take (length front) k) e ∙ take_front front rest

pub fault_at_byte : (text rest : List ℕ) (d : ℕ) (found : LogFault) → 1 ≤ length rest → found.line ≡ feeds (take (length text - length rest) text) + 1 → found.kind ≡ kind_of (get_or rest 0 d) → FaultAt text rest found
fault_at_byte text [] d found some line kind = absurd (omega arith)
fault_at_byte text (b ∷ rest) d found some line kind = (line, kind)

pub fault_at_end : (text rest : List ℕ) (found : LogFault) → length rest < 1 → found.line ≡ last_line text → found.kind ≡ Syntax → FaultAt text rest found
fault_at_end text [] found none line kind = (line, kind)
fault_at_end text (b ∷ rest) found none line kind = absurd (omega arith)

no_end_of : (passed : List ℕ) (b : ℕ) (more : List ℕ) → passed ++ b ∷ more ≡ [] → ⊥
no_end_of [] b more e = cc
no_end_of (p ∷ passed) b more e = cc

-- no proofs go on so
no_proofs : (passed rest behind : List ℕ) (more : List Proof) → StopsAt Proofs passed rest → GoesOn rest behind → AreWellFormed more → passed ++ behind ≡ text_of more → passed ++ behind ≢ [] → ⊥
no_proofs passed rest behind [] s g h e some = some e
no_proofs passed rest behind (q ∷ more) s g h e some = s.none behind (proof_text q) (text_of more) g (q, h.0, refl) e

so_far_fits : (ps : List Proof) (passed rest : List ℕ) → AreWellFormed ps → StopsAt Proofs passed rest → Fits (text_of ps ++ passed)
so_far_fits ps passed rest h s =
    let p = s.fits in (
      s.more,
      ps ++ p.0 ∷ [],
      all_push IsWellFormed ps p.0 h p.1,
      append_assoc (text_of ps) passed s.more ∙ ap (λ (k : List ℕ). text_of ps ++ k) p.2 ∙ sym (flat_push proof_text ps p.0),
    )

pub fault_is : (text mid rest : List ℕ) (ps : List Proof) (found : LogFault) → length text ≤ most_bytes → TextSoFar text mid ps → mid ≢ [] → Stops Proofs mid rest → FaultAt text rest found → IsLogFault text found
fault_is text mid [] ps found short f some s at =
    let whole : text ≡ text_of ps ++ s.passed = f.goes ∙ ap (λ (k : List ℕ). text_of ps ++ k) (s.goes ∙ append-nil s.passed) in
    at_end short (record {
      fits = subst Fits (sym whole) (so_far_fits ps s.passed [] f.all s.stops);
      not_whole = λ qs k e.
          let r = rest_of ps qs mid f.all k (sym f.goes ∙ e) in
          no_proofs s.passed [] [] r.0 s.stops refl r.1 (sym s.goes ∙ r.2) (λ g. some (s.goes ∙ g));
      line = at.0;
      kind = at.1;
    })
fault_is text mid (b ∷ rest) ps found short f some s at =
    let front = text_of ps ++ s.passed in
    let whole : text ≡ front ++ b ∷ rest = f.goes ∙ ap (λ (k : List ℕ). text_of ps ++ k) s.goes ∙ sym (append_assoc (text_of ps) s.passed (b ∷ rest)) in
    at_byte short (record {
      front = front;
      byte = b;
      behind = rest;
      stands = whole;
      fits = so_far_fits ps s.passed (b ∷ rest) f.all s.stops;
      departs = λ d.
          let e : text_of ps ++ (s.passed ++ b ∷ d.0) ≡ text_of d.1 = sym (append_assoc (text_of ps) s.passed (b ∷ d.0)) ∙ sym (append_assoc front (b ∷ []) d.0) ∙ d.3 in
          let r = rest_of ps d.1 (s.passed ++ b ∷ d.0) f.all d.2 e in
          no_proofs s.passed (b ∷ rest) (b ∷ d.0) r.0 s.stops (d.0, refl) r.1 r.2 (λ g. no_end_of s.passed b d.0 g);
      line = at.0 ∙ ap (λ (k : List ℕ). feeds k + 1) (front_is text front (b ∷ rest) whole);
      kind = at.1;
    })

-- ---- one reading

fault_same : (one other : LogFault) → one.line ≡ other.line → one.kind ≡ other.kind → one ≡ other
fault_same one other p q =
    let f : ℕ → LogFault = λ l. record { line = l; kind = one.kind } in
    let g : LogFaultKind → LogFault = λ k. record { line = other.line; kind = k } in
    ap f p ∙ ap g q

front_fits : (front more : List ℕ) → Fits (front ++ more) → Fits front
front_fits front more f = (more ++ f.0, f.1, f.2, sym (append_assoc front more f.0) ∙ f.3)

fits_to : (text front behind : List ℕ) (b : ℕ) → text ≡ front ++ b ∷ behind → Fits text → Fits (front ++ b ∷ [])
fits_to text front behind b e f = front_fits (front ++ b ∷ []) behind (subst Fits (e ∙ sym (append_assoc front (b ∷ []) behind)) f)

same_bytes : (text : List ℕ) (one other : LogFault) → IsAtByte text one → IsAtByte text other → one ≡ other
same_bytes text one other a b =
    elim (split a.front b.front a.behind b.behind a.byte b.byte (sym a.stands ∙ b.stands)) [
      | same p q r ↦ fault_same one other (a.line ∙ ap (λ (k : List ℕ). feeds k + 1) p ∙ sym b.line) (a.kind ∙ ap kind_of q ∙ sym b.kind)
      | longer zs p q ↦ absurd (a.departs (fits_to b.front a.front zs a.byte p b.fits))
      | shorter zs p q ↦ absurd (b.departs (fits_to a.front b.front zs b.byte p a.fits))
    ]

byte_or_end : (text : List ℕ) (one other : LogFault) → IsAtByte text one → IsAtEnd text other → ⊥
byte_or_end text one other a b = a.departs (fits_to text a.front a.behind a.byte a.stands b.fits)

faults_same : (text : List ℕ) (one other : LogFault) → IsLogFault text one → IsLogFault text other → one ≡ other
faults_same text one other (too_long h p) (too_long k q) = p ∙ sym q
faults_same text one other (too_long h p) (at_byte k b) = absurd (omega arith)
faults_same text one other (too_long h p) (at_end k b) = absurd (omega arith)
faults_same text one other (at_byte h a) (too_long k q) = absurd (omega arith)
faults_same text one other (at_byte h a) (at_byte k b) = same_bytes text one other a b
faults_same text one other (at_byte h a) (at_end k b) = absurd (byte_or_end text one other a b)
faults_same text one other (at_end h a) (too_long k q) = absurd (omega arith)
faults_same text one other (at_end h a) (at_byte k b) = absurd (byte_or_end text other one b a)
faults_same text one other (at_end h a) (at_end k b) = fault_same one other (a.line ∙ sym b.line) (a.kind ∙ sym b.kind)

text_fits : (text : List ℕ) (proofs : List Proof) → IsTextOf text proofs → Fits text
text_fits text proofs h = ([], proofs, h.1, append-nil text ∙ h.2)

apart_is : (text : List ℕ) (proofs : List Proof) (found : LogFault) → IsTextOf text proofs → IsLogFault text found → ⊥
apart_is text proofs found h (too_long k p) = let s : length text ≤ most_bytes = h.0 in omega arith
apart_is text proofs found h (at_byte k a) = a.departs (fits_to text a.front a.behind a.byte a.stands (text_fits text proofs h))
apart_is text proofs found h (at_end k a) = a.not_whole proofs h.1 h.2

pub one_reading : TextsHaveOneReading
one_reading = record {
  proofs = λ text one other h k. one_list one other h.1 k.1 (sym h.2 ∙ k.2);
  faults = faults_same;
  apart = λ text proofs found h k. apart_is text proofs found h k;
}

pub written_read : (written : List Proof) → AreWellFormed written → length (text_of written) ≤ most_bytes → WrittenIsRead written
written_read written h short = record {
  read = (short, h, refl);
  only = λ proofs k. one_list proofs written k.1 h (sym k.2);
  faultless = λ found k. apart_is (text_of written) written found (short, h, refl) k;
}
