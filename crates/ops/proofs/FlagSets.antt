-- Equality of sets of flags.
use Rattle.ops.proofs.Common.{◌≡◌, Bool, true, false, ◌&&◌, IsTrue, refl, sym, ◌∙◌, beq, Flags}

pub both : (a b : Bool) → (a && b) ≡ true → (a ≡ true) × (b ≡ true)
both true b e = (refl, e)
both false b e = absurd cc

-- sets that agree in each flag are equal
pub same_set : (f g : Flags) → f.nuw ≡ g.nuw → f.nsw ≡ g.nsw → f.exact ≡ g.exact → f.nneg ≡ g.nneg → f.disjoint ≡ g.disjoint → f.samesign ≡ g.samesign → f ≡ g
same_set f g p q r s t u =
    let same : ◌≡◌ {A = Flags} (record { nuw = f.nuw; nsw = f.nsw; exact = f.exact; nneg = f.nneg; disjoint = f.disjoint; samesign = f.samesign }) (record { nuw = g.nuw; nsw = g.nsw; exact = g.exact; nneg = g.nneg; disjoint = g.disjoint; samesign = g.samesign })
    = cc in same

beq-is : (a b : Bool) → beq a b ≡ true → a ≡ b
beq-is true true e = refl
beq-is true false e = absurd cc
beq-is false true e = absurd cc
beq-is false false e = refl

beq-itself : (a : Bool) → beq a a ≡ true
beq-itself true = refl
beq-itself false = refl

-- the test of each flag in turn
abbrev tested : Flags → Flags → Bool
tested f g = beq f.nuw g.nuw && (beq f.nsw g.nsw && (beq f.exact g.exact && (beq f.nneg g.nneg && (beq f.disjoint g.disjoint && beq f.samesign g.samesign))))

tested-itself : (f : Flags) → tested f f ≡ true
tested-itself f = rw (beq-itself f.nuw, beq-itself f.nsw, beq-itself f.exact, beq-itself f.nneg, beq-itself f.disjoint, beq-itself f.samesign) refl

pub flags_equal : (f g : Flags) (equal : Bool) → equal ≡ tested f g → (IsTrue equal → f ≡ g) × (f ≡ g → IsTrue equal)
flags_equal f g equal is = (
  (λ holds.
      let nuw = both _ _ (sym is ∙ holds) in
      let nsw = both _ _ nuw.1 in
      let exact = both _ _ nsw.1 in
      let nneg = both _ _ exact.1 in
      let disjoint = both _ _ nneg.1 in
      same_set f g (beq-is _ _ nuw.0) (beq-is _ _ nsw.0) (beq-is _ _ exact.0) (beq-is _ _ nneg.0) (beq-is _ _ disjoint.0) (beq-is _ _ disjoint.1)),
  (λ same. is ∙ rw same (tested-itself g)),
)
