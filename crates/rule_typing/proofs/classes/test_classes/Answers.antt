use Rattle.rule_typing.proofs.Common.{◌≤◌, ℕ, arith, Rule, HasClasses, HasTooManyClasses}
use Rattle.rule_typing.proofs.Among.{holds, fails}
use Rattle.rule_typing.proofs.classes.test_classes.Goals as goal

few : (rule : Rule) (count : ℕ) → HasClasses rule count → count ≤ 8 → HasTooManyClasses rule → ⊥
few rule count counted at_most (c, among, most) = let less = (counted c).0 among in omega arith

pub returns-then-count-gt-MOST_CLASSES : goal.returns-then-count-gt-MOST_CLASSES
returns-then-count-gt-MOST_CLASSES c = record { ok = tt; fault = (8, (c.requires.count 8).1 c.if-count-gt-MOST_CLASSES.true, omega arith) }

pub returns-then-not-has_typing : goal.returns-then-not-has_typing
returns-then-not-has_typing c =
    record { ok = tt; fault = (few c.args.rule.now c.args.count c.requires.count c.if-count-gt-MOST_CLASSES.false, λ typing typed. fails c.has_typing.result c.has_typing.ensures c.if-not-has_typing.true (typing, typed)) }

pub returns-then-has_open_class : goal.returns-then-has_open_class
returns-then-has_open_class c =
    record {
      ok = tt;
      fault = (
        few c.args.rule.now c.args.count c.requires.count c.if-count-gt-MOST_CLASSES.false,
        λ none. let (widths, typing) = holds c.has_typing.result c.has_typing.ensures c.if-not-has_typing.false in none widths typing,
        holds c.has_open_class.result c.has_open_class.ensures c.if-has_open_class.true,
      );
    }

pub returns : goal.returns
returns c =
    record {
      ok = record {
        few = few c.args.rule.now c.args.count c.requires.count c.if-count-gt-MOST_CLASSES.false;
        typed = λ none. let (widths, typing) = holds c.has_typing.result c.has_typing.ensures c.if-not-has_typing.false in none widths typing;
        closed = fails c.has_open_class.result c.has_open_class.ensures c.if-has_open_class.false;
      };
      fault = tt;
    }
