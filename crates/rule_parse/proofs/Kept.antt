-- The loop that keeps tokens up to the first one that passes the limit.
use Rattle.rule_parse.proofs.Common.{◌≡◌, ℕ, ◌+◌, ◌<◌, ◌≤◌, Bool, List, [], ◌∷◌, ◌++◌, length, get_or, drop, Some, None, refl, sym, ap, ◌∙◌, append_assoc, append-nil, map-append, drop_more, drop_all, seen, seen_token, Token, ends_before_line, room_behind, limited_to}
use Rattle.rule_tokens.specs.declared.token.Token.{Token as Scanned}
use Rattle.rule_tokens.specs.declared.token.Token.TheVariants as scanned
use Rattle.rule_tokens.specs.Tokens.{Excess}

pub kept-more : (kept after tokens : List Scanned) (room left i : ℕ) (begins behind : Bool) (d : Scanned) (total : List Token) → i < length tokens
    → Some left ≡ room_behind room begins (seen_token (get_or tokens i d)) → behind ≡ ends_before_line (seen_token (get_or tokens i d)) → after ≡ kept ++ get_or tokens i d ∷ []
    → seen kept ++ limited_to room begins (seen (drop i tokens)) ≡ total → seen after ++ limited_to left behind (seen (drop (i + 1) tokens)) ≡ total
unfolding limited_to
kept-more kept after tokens room left i begins behind d total lt some ends more so_far =
    let one : limited_to room begins (seen (drop i tokens)) ≡ seen_token (get_or tokens i d) ∷ limited_to left behind (seen (drop (i + 1) tokens)) = rw (drop_more tokens i d lt, ← some, ends) refl in
    rw (more, map-append seen_token kept (get_or tokens i d ∷ []), append_assoc (seen kept) (seen_token (get_or tokens i d) ∷ []) (limited_to left behind (seen (drop (i + 1) tokens))))
    (ap (λ (ts : List Token). seen kept ++ ts) (sym one) ∙ so_far)

pub kept-excess : (kept after tokens : List Scanned) (room i : ℕ) (begins : Bool) (d : Scanned) (total : List Token) → i < length tokens
    → None ≡ room_behind room begins (seen_token (get_or tokens i d)) → after ≡ (kept ++ get_or tokens i d ∷ []) ++ scanned.Excess ∷ []
    → seen kept ++ limited_to room begins (seen (drop i tokens)) ≡ total → seen after ≡ total
unfolding limited_to
kept-excess kept after tokens room i begins d total lt none more so_far =
    let t = get_or tokens i d in
    let one : limited_to room begins (seen (drop i tokens)) ≡ seen_token t ∷ Excess ∷ [] = rw (drop_more tokens i d lt, ← none) refl in
    let two : after ≡ kept ++ t ∷ scanned.Excess ∷ [] = more ∙ append_assoc kept (t ∷ []) (scanned.Excess ∷ []) in
    rw (two, map-append seen_token kept (t ∷ scanned.Excess ∷ [])) (ap (λ (ts : List Token). seen kept ++ ts) (sym one) ∙ so_far)

pub kept-all : (kept tokens : List Scanned) (room i : ℕ) (begins : Bool) (total : List Token) → length tokens ≤ i → seen kept ++ limited_to room begins (seen (drop i tokens)) ≡ total → seen kept ≡ total
unfolding limited_to
kept-all kept tokens room i begins total le so_far =
    let one : limited_to room begins (seen (drop i tokens)) ≡ [] = rw (drop_all i tokens le) refl in
    sym (append-nil (seen kept)) ∙ ap (λ (ts : List Token). seen kept ++ ts) (sym one) ∙ so_far
