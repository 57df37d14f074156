use Rattle.draft_steps.proofs.Common.{◌≡◌, ℕ, suc, ◌+◌, ◌<◌, ◌≤◌, inl, inr, Bool, List, [], Contains, length, refl, sym, ap, subst, ◌∙◌, arith, cases_lt, get_or_default, ReadsRegister, Reaches, Stands, nowhere, place_at, IsReader, arena_place, Came, CameOnlyTo, IsFurther, IsSameDraft, ReachesOneOf, ReadersCame, ReadsHere, ReadsOneOf, IsSettled, Draft, Place, Walk, arena_place_inst, few_insts, stands_there}
use Rattle.std.proofs.Common.{length-append}
use Rattle.ir_core.specs.declared.operand.Register.TheVariants as registers
use Rattle.draft_steps.proofs.Reaching.{itself, within_more}
use Rattle.draft_steps.proofs.WalkDrafts.{place-further, readers-by, reads-by, same-itself, same-twice}
use Rattle.draft_steps.proofs.WalkSteps.{came-further, only-more}
use Rattle.draft_steps.proofs.walk.Walk.reach.Goals as goal

-- the users of all that was found before are found: of earlier levels, and of the last one
readers_next : (across : Bool) (old mid : Draft) (same : IsSameDraft old mid) (was now : Walk) (next end : ℕ) → IsFurther was now → end ≤ length was.found.items → next ≤ end
    → ((k : ℕ) → k < next → ReadersCame across old was (place_at was.found.items k))
    → ((k : ℕ) → next ≤ k → k < end → ReadersCame across mid now (place_at was.found.items k))
    → (k : ℕ) → k < end → ReadersCame across old now (place_at now.found.items k)
readers_next across old mid same was now next end further within low before at_last k below =
    let is = place-further was now k further (omega arith) in
    subst (ReadersCame across old now) (sym is) (elim (cases_lt k next) [
      | inl early ↦ λ b n scope stands reads. came-further was now b n further (before k early b n scope stands reads)
      | inr late ↦ readers-by across old mid same now (place_at was.found.items k) (at_last k (omega arith) below)
    ])

-- so the instructions are found from which chains of one operand more lead to the places
reached_next : (across : Bool) (d : Draft) (settled : IsSettled d) (was now : Walk) (level c m : ℕ) → IsFurther was now
    → ((k : ℕ) → k < length was.found.items → ReadersCame across d now (place_at now.found.items k))
    → ((b n : ℕ) → Stands d b n → Reaches across d level b n c m → Came was b n)
    → (b n : ℕ) → Stands d b n → Reaches across d (suc level) b n c m → Came now b n
reached_next across d settled was now level c m further readers before b n stands (inl same) =
    came-further was now b n further (before b n stands (subst (λ (x : ℕ). Reaches across d level b n x m) same.0 (subst (λ (y : ℕ). Reaches across d level b n b y) same.1 (itself across d level b n))))
reached_next across d settled was now level c m further readers before b n stands (inr (e, k, i, r, stands_too, is_read, operand, scope, rest)) =
    let p : Place = record { block = b; number = n } in
    let q : Place = record { block = e; number = k } in
    let (block, at, within) = stands_there d settled.whole b n stands in
    let few = few_insts d settled.whole b block at in
    let here : arena_place d.arena p ≡ n = arena_place_inst d.arena p (omega arith) in
    let reads : IsReader d.arena (registers.Result e k) p = subst (λ (x : ℕ). ReadsRegister d.arena b x (registers.Result e k)) (sym here) (record { operand = i; read = r; is_read = is_read; reads = operand }) in
    let there : Came was e k = before e k (settled.read_stands e k p (block, at, inl within) reads) rest in
    let inside = there.1 in
    let found : place_at now.found.items there.0 ≡ q = place-further was now there.0 further there.1 ∙ get_or_default was.found.items there.0 nowhere q there.1 ∙ there.2 in
    subst (ReadersCame across d now) found (readers there.0 there.1) b n scope stands reads

none_there : (places : List Place) (p : Place) → places ≡ [] → ¬ Contains places p
none_there places p none (k, within, is) = let size = ap length none in absurd (omega arith)

-- a user of an instruction reads, by a chain of one operand more, from whatever that reads from
reads_reaches : (across : Bool) (d : Draft) (settled : IsSettled d) (level : ℕ) (places : List Place) (p : Place) (b n : ℕ) → ReachesOneOf across d level places p.block p.number → ReadsHere across d p b n → ReachesOneOf across d (suc level) places b n
reads_reaches across d settled level places p b n (q, among, stood, reaches) (scope, stands, reads) =
    let (block, at, within) = stands_there d settled.whole b n stands in
    let few = few_insts d settled.whole b block at in
    let reader : Place = record { block = b; number = n } in
    let place : arena_place d.arena reader ≡ n = arena_place_inst d.arena reader (omega arith) in
    let read : ReadsRegister d.arena b n (registers.Result p.block p.number) = subst (λ (x : ℕ). ReadsRegister d.arena b x (registers.Result p.block p.number)) place reads in
    (q, among, stands, inr (p.block, p.number, read.operand, read.read, stands, read.is_read, read.reads, scope, reaches))

only_next : (across : Bool) (d : Draft) (settled : IsSettled d) (level : ℕ) (places : List Place) (was now : Walk) → ((b n : ℕ) → Came was b n → ReachesOneOf across d level places b n)
    → CameOnlyTo (ReadsOneOf across d was.found.items) was now → (b n : ℕ) → Came now b n → ReachesOneOf across d (suc level) places b n
only_next across d settled level places was now before only b n came = elim (only b n came) [
  | inl early ↦ let (q, among, stands, reaches) = before b n early in (q, among, stands, within_more across d level (suc level) b n q.block q.number (omega arith) reaches)
  | inr (p, among, reads) ↦ reads_reaches across d settled level places p b n (before p.block p.number among) reads
]

pub loop-level-init : goal.loop-level-init
loop-level-init c = record {
  draft = same-itself c.args.draft.now c.requires.settled.whole;
  walk = c.in_ok-come_to_all.ensures.walk;
  next = omega arith;
  read = λ k below. absurd (omega arith);
  reached = λ p b n there stands reaches.
      let stands_there : Stands c.args.draft.now p.block p.number = subst (λ (x : ℕ). Stands c.args.draft.now x p.number) reaches.0 (subst (Stands c.args.draft.now b) reaches.1 stands) in
      subst (λ (x : ℕ). Came c.come_to_all.new.self x n) (sym reaches.0) (subst (λ (m : ℕ). Came c.come_to_all.new.self p.block m) (sym reaches.1) (c.in_ok-come_to_all.ensures.came p there stands_there));
  only = λ b n came. elim (c.in_ok-come_to_all.ensures.only b n came) [
    | inl before ↦ absurd (none_there c.args.self.now.found.items (record { block = b; number = n }) c.requires.idle.none before)
    | inr (stands, among) ↦ (record { block = b; number = n }, among, stands, (refl, refl))
  ];
}

pub loop-level-preserved : goal.loop-level-preserved
loop-level-preserved c =
    let d = c.args.draft.now in
    let l = c.loop-level in
    let inv = l.invariant in
    let now = c.follow.new.self in
    let on = c.in_ok-follow.ensures in
    let count = l.self.found.ok.0 in
    let found = c.len-end.ensures in
    let end : c.len-end.result ≡ length l.self.found.items = omega arith in
    let low = inv.next in
    let size = ap length on.further.is ∙ length-append l.self.found.items on.further.more in
    let readers : (k : ℕ) → k < length l.self.found.items → ReadersCame c.args.across d now (place_at now.found.items k) =
    readers_next c.args.across d l.draft inv.draft l.self now l.next (length l.self.found.items) on.further (omega arith) inv.next inv.read (λ k above below. on.came k above (omega arith)) in
    let only = only-more (ReadsOneOf c.args.across l.draft l.self.found.items) (ReadsOneOf c.args.across d l.self.found.items) l.self now
    (λ b n it. (it.0, it.1, reads-by c.args.across d l.draft inv.draft it.0 b n it.2)) on.only in
    record {
      draft = same-twice d l.draft c.follow.new.draft inv.draft on.draft;
      walk = on.walk;
      next = omega arith;
      read = λ k below. readers k (omega arith);
      reached = λ p b n there stands reaches.
          let one : l._level + 1 ≡ suc l._level = omega arith in
          reached_next c.args.across d c.requires.settled l.self now l._level p.block p.number on.further readers (λ x m m_stands m_reaches. inv.reached p x m there m_stands m_reaches) b n stands
          (subst (λ (k : ℕ). Reaches c.args.across d k b n p.block p.number) one reaches);
      only = λ b n came.
          let one : suc l._level ≡ l._level + 1 = omega arith in
          subst (λ (k : ℕ). ReachesOneOf c.args.across d k c.args.places.now b n) one (only_next c.args.across d c.requires.settled l._level c.args.places.now l.self now inv.only only b n came);
    }

pub returns-clause-reached : goal.returns-clause-reached
returns-clause-reached c = λ p b n there stands reaches.
    let l = c.loop-level in
    let all : c.args.depth ≡ l._level = omega arith in
    l.invariant.reached p b n there stands (subst (λ (k : ℕ). Reaches c.args.across c.args.draft.now k b n p.block p.number) all reaches)

pub returns-clause-only : goal.returns-clause-only
returns-clause-only c = λ b n came.
    let l = c.loop-level in
    let all : l._level ≡ c.args.depth = omega arith in
    subst (λ (k : ℕ). ReachesOneOf c.args.across c.args.draft.now k c.args.places.now b n) all (l.invariant.only b n came)
