use Rattle.ir_tokens.proofs.Common.{◌∙◌, ◌<◌, ◌≤◌, [], ◌∷◌, ◌++◌, true, false, length, refl, sym, ap, subst, arith, map_push, MayBegin, seen_placed}
use Rattle.std.proofs.Common.{append-nil}
use Rattle.ir_tokens.specs.SeenTokens.{seen}
use Rattle.ir_tokens.proofs.Moving.{token_moves, token_within}
use Rattle.ir_tokens.proofs.OneEntry.{Within, none_taken, none_begins, ends_with, goes_on_with}
use Rattle.ir_tokens.proofs.Passing.{token_passed, last_passed}
use Rattle.ir_tokens.proofs.Pushing.{pushed, kept, one_more, cut}
use Rattle.ir_tokens.proofs.Reading.{SoFar}
use Rattle.ir_tokens.proofs.reader.TokenReader.take_entry.Goals as goal

pub loop-text-init : goal.loop-text-init
loop-text-init c = record {
  cursor = c.requires.cursor;
  within = c.requires.within;
  goes = omega arith;
  entry = ([], sym (append-nil c.args.tokens.now.items), none_taken c.args.self.place);
  so_far = λ text front h. h.leads;
}

pub next-placed-requires-clause-text : goal.next-placed-requires-clause-text
next-placed-requires-clause-text c = c.loop-text.invariant.cursor

pub next-placed-requires-clause-within : goal.next-placed-requires-clause-within
next-placed-requires-clause-within c = c.loop-text.invariant.within

-- the tokens that were appended are cut off again
pub returns-then-is_err-clause-unmoved : goal.returns-then-is_err-clause-unmoved
returns-then-is_err-clause-unmoved c =
    let (taken, are, within) = c.loop-text.invariant.entry in
    let same = kept c.loop-text.tokens.items c.push.new.self.items c.next-placed.result c.is_err.ensures.negation c.if-is_err.true c.push.ensures.items in
    cut c.args.tokens.now.items taken c.push.new.self.items c.truncate.new.self.items (length c.as_slice-count.result.now) (ap length c.as_slice-count.ensures.value) (same ∙ are) c.truncate.ensures.items

-- the reader is behind the token
pub returns-then-is_last-clause-stands : goal.returns-then-is_last-clause-stands
returns-then-is_last-clause-stands c = record {
  of_text = refl;
  cursor = c.next-placed.ensures.text;
  within = token_within c.loop-text.invariant.within c.next-placed.ensures.token;
}

pub returns-then-is_last-clause-come : goal.returns-then-is_last-clause-come
returns-then-is_last-clause-come c = λ text front h.
    let more = pushed c.loop-text.tokens.items c.push.new.self.items c.next-placed.result c.is_err.ensures.negation c.if-is_err.false c.push.ensures.items in
    last_passed text c.args.self.text.now c.loop-text.place c.loop-text.cursor.at c.next-placed.new.cursor.at front (seen c.loop-text.tokens.items) (seen c.push.new.self.items) (seen_placed c.next-placed.result)
    (h.stands.of_text) (ap seen more ∙ map_push seen_placed c.loop-text.tokens.items c.next-placed.result) (c.loop-text.invariant.so_far text front h) c.next-placed.ensures.token (sym c.is_last.ensures ∙ c.if-is_last.true)

pub returns-then-is_last-clause-entry : goal.returns-then-is_last-clause-entry
returns-then-is_last-clause-entry c =
    let (taken, are, within) = c.loop-text.invariant.entry in
    let more = pushed c.loop-text.tokens.items c.push.new.self.items c.next-placed.result c.is_err.ensures.negation c.if-is_err.false c.push.ensures.items in
    let now = taken ++ c.next-placed.result ∷ [] in (
      now,
      one_more c.args.tokens.now.items taken c.loop-text.tokens.items c.push.new.self.items c.next-placed.result are more,
      ends_with c.args.self.place c.loop-text.place (seen taken) (seen now) (seen_placed c.next-placed.result) true within (map_push seen_placed taken c.next-placed.result) (λ goes. cc),
    )

pub returns-in-AtEntry-clause-entry : goal.returns-in-AtEntry-clause-entry
returns-in-AtEntry-clause-entry c =
    let (taken, are, within) = c.loop-text.invariant.entry in
    let more = pushed c.loop-text.tokens.items c.push.new.self.items c.next-placed.result c.is_err.ensures.negation c.if-is_err.false c.push.ensures.items in
    let now = taken ++ c.next-placed.result ∷ [] in (
      now,
      one_more c.args.tokens.now.items taken c.loop-text.tokens.items c.push.new.self.items c.next-placed.result are more,
      ends_with c.args.self.place c.loop-text.place (seen taken) (seen now) (seen_placed c.next-placed.result) false within (map_push seen_placed taken c.next-placed.result)
          (λ _. subst MayBegin (sym c.in-AtEntry.is ∙ c.place_behind-place.ensures) tt),
    )

pub returns-in-AtEntry-clause-stands : goal.returns-in-AtEntry-clause-stands
returns-in-AtEntry-clause-stands c = record {
  of_text = refl;
  cursor = c.next-placed.ensures.text;
  within = token_within c.loop-text.invariant.within c.next-placed.ensures.token;
}

pub returns-in-AtEntry-clause-come : goal.returns-in-AtEntry-clause-come
returns-in-AtEntry-clause-come c = λ text front h.
    let more = pushed c.loop-text.tokens.items c.push.new.self.items c.next-placed.result c.is_err.ensures.negation c.if-is_err.false c.push.ensures.items in
    record {
      stands = record {
        of_text = h.stands.of_text;
        cursor = c.next-placed.ensures.text ∙ h.stands.of_text;
        within = subst (λ t. c.next-placed.new.cursor.at ≤ length t) h.stands.of_text (token_within c.loop-text.invariant.within c.next-placed.ensures.token);
      };
      leads = subst (λ p. SoFar text p c.next-placed.new.cursor.at (front ++ seen c.push.new.self.items)) (sym c.place_behind-place.ensures)
          (token_passed text c.args.self.text.now c.loop-text.place c.loop-text.cursor.at c.next-placed.new.cursor.at front (seen c.loop-text.tokens.items) (seen c.push.new.self.items) (seen_placed c.next-placed.result)
          (h.stands.of_text) (ap seen more ∙ map_push seen_placed c.loop-text.tokens.items c.next-placed.result) (c.loop-text.invariant.so_far text front h) c.next-placed.ensures.token (sym c.is_last.ensures ∙ c.if-is_last.false));
    }

pub returns-in-AtEntry-clause-goes : goal.returns-in-AtEntry-clause-goes
returns-in-AtEntry-clause-goes c = λ e. omega (arith, c.loop-text.invariant.goes, token_moves c.next-placed.ensures.token (sym c.is_last.ensures ∙ c.if-is_last.false))

pub loop-text-smaller : goal.loop-text-smaller
loop-text-smaller c =
    let moves : c.loop-text.cursor.at < c.next-placed.new.cursor.at = token_moves c.next-placed.ensures.token (sym c.is_last.ensures ∙ c.if-is_last.false) in
    let within : c.next-placed.new.cursor.at ≤ length c.args.self.text.now = token_within c.loop-text.invariant.within c.next-placed.ensures.token in
    omega (arith, moves, within)

pub loop-text-preserved : goal.loop-text-preserved
loop-text-preserved c =
    let (taken, are, within) = c.loop-text.invariant.entry in
    let more = pushed c.loop-text.tokens.items c.push.new.self.items c.next-placed.result c.is_err.ensures.negation c.if-is_err.false c.push.ensures.items in
    let now = taken ++ c.next-placed.result ∷ [] in
    record {
      cursor = c.next-placed.ensures.text;
      within = token_within c.loop-text.invariant.within c.next-placed.ensures.token;
      goes = omega (arith, c.loop-text.invariant.goes, token_moves c.next-placed.ensures.token (sym c.is_last.ensures ∙ c.if-is_last.false));
      entry = (
        now,
        one_more c.args.tokens.now.items taken c.loop-text.tokens.items c.push.new.self.items c.next-placed.result are more,
        subst (Within c.args.self.place (seen now)) (sym c.place_behind-place.ensures)
            (goes_on_with c.args.self.place c.loop-text.place (seen taken) (seen now) (seen_placed c.next-placed.result) within (map_push seen_placed taken c.next-placed.result)
            (subst (λ p. ¬ MayBegin p) c.place_behind-place.ensures (none_begins c.place_behind-place.result c.in_default.not-AtEntry))),
      );
      so_far = λ text front h. subst (λ p. SoFar text p c.next-placed.new.cursor.at (front ++ seen c.push.new.self.items)) (sym c.place_behind-place.ensures)
          (token_passed text c.args.self.text.now c.loop-text.place c.loop-text.cursor.at c.next-placed.new.cursor.at front (seen c.loop-text.tokens.items) (seen c.push.new.self.items) (seen_placed c.next-placed.result)
          (h.stands.of_text) (ap seen more ∙ map_push seen_placed c.loop-text.tokens.items c.next-placed.result) (c.loop-text.invariant.so_far text front h) c.next-placed.ensures.token (sym c.is_last.ensures ∙ c.if-is_last.false));
    }
