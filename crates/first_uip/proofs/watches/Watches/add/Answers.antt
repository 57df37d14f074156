use Rattle.first_uip.proofs.Common.{◌≡◌, true, [], ◌∷◌, length, sym, ap, ◌∙◌, subst, inl, is_held, held_one, held_right, held_left, Watches, Watcher, watched_in, numbers_of, watched_literals, AddsNumber, AddsNumbers, KeepsOnly}
use Rattle.first_uip.proofs.Listing.{AddsNumbers-none, AddsNumbers-two}
use Rattle.first_uip.proofs.WatcherLists.{KeepsOnly-two}
use Rattle.first_uip.proofs.watches.Watches.add.Goals as goal
use Rattle.first_uip.proofs.watches.Watches.add.Goals.{in-Two+in_ok-add_number+in_ok-add_number-2, in_default}

pub returns-clause-listed : goal.returns-clause-listed
returns-clause-listed c =
    let old = c.args.self.now in
    let new : Watches → Watches = λ (v : Watches). record { arena = c.push.new.self; lists = v.lists } in
    let number : c.len-number.result ≡ length (watched_in old.arena) = c.len-number.ensures.watched in
    elim c.match-watched.branch [
      | in-Two+in_ok-add_number+in_ok-add_number-2 w ↦
          let a = w.in-Two.first in
          let b = w.in-Two.second in
          let first : AddsNumber old w.add_number.new.self a c.len-number.result = w.in_ok-add_number.ensures.adds in
          let adds : AddsNumber w.add_number.new.self w.add_number-in-Two.new.self b c.len-number.result = w.in_ok-add_number-2.ensures.adds in
          let second : AddsNumber w.add_number.new.self (new w.add_number-in-Two.new.self) b c.len-number.result =
          record { here = adds.here; others = adds.others } in
          let both : AddsNumbers old (new w.add_number-in-Two.new.self) (a ∷ b ∷ []) c.len-number.result =
          AddsNumbers-two old w.add_number.new.self (new w.add_number-in-Two.new.self) a b c.len-number.result first second in
          subst (λ n. AddsNumbers old (new c.match-watched.self) (watched_literals c.args.watched) n) number
          (subst (λ v. AddsNumbers old (new c.match-watched.self) (watched_literals v) c.len-number.result) (sym w.in-Two.is)
          (subst (λ v. AddsNumbers old (new v) (a ∷ b ∷ []) c.len-number.result) (sym w.self-is) both))
      | in_default w ↦
          subst (λ v. AddsNumbers old (new c.match-watched.self) (watched_literals v) (length (watched_in old.arena))) (sym w.in_default.is)
          (AddsNumbers-none old (new c.match-watched.self) (length (watched_in old.arena)) (λ l. ap (λ (v : Watches). numbers_of v l) w.self-is))
    ]

pub returns-clause-only : goal.returns-clause-only
returns-clause-only c =
    let old = c.args.self.now in
    let IsNew : Watcher → Type 0 = λ x. (x.number ≡ length (watched_in old.arena)) × (is_held (watched_literals c.args.watched) x.blocker ≡ true) in
    elim c.match-watched.branch [
      | in-Two+in_ok-add_number+in_ok-add_number-2 w ↦
          let a = w.in-Two.first in
          let b = w.in-Two.second in
          let watches : (x : Watcher) → is_held (a ∷ b ∷ []) x.blocker ≡ true → is_held (watched_literals c.args.watched) x.blocker ≡ true =
          λ x h. ap (λ v. is_held (watched_literals v) x.blocker) w.in-Two.is ∙ h in
          subst (λ v. KeepsOnly old v IsNew) (sym w.self-is)
          (KeepsOnly-two IsNew (λ x. (x.number ≡ c.len-number.result) × (x.blocker ≡ b)) (λ x. (x.number ≡ c.len-number.result) × (x.blocker ≡ a))
          old w.add_number.new.self w.add_number-in-Two.new.self
          (λ x is. (is.0 ∙ c.len-number.ensures.watched, watches x (ap (is_held (a ∷ b ∷ [])) is.1 ∙ held_right (a ∷ []) (b ∷ []) b (held_one b))))
          (λ x is. (is.0 ∙ c.len-number.ensures.watched, watches x (ap (is_held (a ∷ b ∷ [])) is.1 ∙ held_left (a ∷ []) (b ∷ []) a (held_one a))))
          w.in_ok-add_number.ensures.only w.in_ok-add_number-2.ensures.only)
      | in_default w ↦ subst (λ v. KeepsOnly old v IsNew) (sym w.self-is) (λ l x h. inl h)
    ]
