use Rattle.readers.proofs.Common.{◌≡◌, ◌+◌, ◌<◌, ◌∙◌, ℕ, List, Vec, Global, Contains, ap, length, sym, subst, take, arith, both_ways, take_all, operands_at, Place}
use Rattle.ir_core.specs.declared.operand.Operand.TheVariants as operands
use Rattle.readers.proofs.Listing.{Kept, kept_more, kept_past}
use Rattle.readers.proofs.uses.readers_among.Goals as goal
use Rattle.readers.proofs.uses.readers_among.Goals.{then-reads, else-reads}

pub loop-index-preserved : goal.loop-index-preserved
loop-index-preserved c =
    let P : Place → Type 0 = λ p. Contains (operands_at c.args.arena.now p) (operands.Register c.args.register) in
    let l = c.loop-index in
    let x = c.index-place.result.now in
    let size = l.invariant.size in
    let fresh = c.into_vec-places.result.ok.0 in
    let now = l.places.ok.0 in
    let same = ap length c.into_vec-places.ensures in
    let end = c.len-index-end.ensures in
    let below = c.loop-index-test.true in
    let within : l.index < length l.places.items = omega arith in
    elim c.if-reads.branch [
      | then-reads w ↦
          subst (λ (n : ℕ). Kept P c.args.places (l.index + 1) n c.if-reads.places.items) (sym w.kept-is)
          (subst (λ (items : List Place). Kept P c.args.places (l.index + 1) (l.kept + 1) items) (sym (ap (λ (v : Vec Place Global). v.items) w.places-is))
          (kept_more P c.args.places l.index l.kept l.places.items x l.invariant within c.index-place.ensures (c.reads.ensures.0 w.if-reads.true)))
      | else-reads w ↦
          subst (λ (n : ℕ). Kept P c.args.places (l.index + 1) n c.if-reads.places.items) (sym w.kept-is)
          (subst (λ (items : List Place). Kept P c.args.places (l.index + 1) l.kept items) (sym (ap (λ (v : Vec Place Global). v.items) w.places-is))
          (kept_past P c.args.places l.index l.kept l.places.items x l.invariant within c.index-place.ensures (λ reads. both_ways c.reads.result w.if-reads.false (c.reads.ensures.1 reads))))
    ]

pub returns : goal.returns
returns c = λ p.
    let l = c.loop-index in
    let size = l.invariant.size in
    let fresh = c.into_vec-places.result.ok.0 in
    let now = l.places.ok.0 in
    let same = ap length c.into_vec-places.ensures in
    let end = c.len-index-end.ensures in
    let past = c.loop-index-test.false in
    let items : c.from_vec.result ≡ take l.kept l.places.items = c.from_vec.ensures ∙ c.truncate.ensures.items in
    let all : take l.index c.args.places ≡ c.args.places = take_all l.index c.args.places (omega arith) in (
      λ h. let (there, reads) = (l.invariant.chosen p).0 (subst (λ (xs : List Place). Contains xs p) items h) in (subst (λ (xs : List Place). Contains xs p) all there, reads),
      λ (there, reads). subst (λ (xs : List Place). Contains xs p) (sym items) ((l.invariant.chosen p).1 (subst (λ (xs : List Place). Contains xs p) (sym all) there, reads)),
    )
