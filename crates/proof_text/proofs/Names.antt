-- Names at the front of a text, and the last bracket of a line.
use Rattle.proof_text.proofs.Common.{◌≡◌, ◌≢◌, ℕ, zero, suc, ◌+◌, ◌-◌, ◌<◌, ◌≤◌, Bool, true, false, cond, List, [], ◌∷◌, ◌++◌, length, take, drop, get_or, length-append, refl, ap, subst, sym, ◌∙◌, arith, prefix_len, take-append-drop, in_name, IsName, EndsName, Lacks}

pub name_parts : (text : List ℕ) (n : ℕ) → text ≡ take n text ++ drop n text
name_parts text n = sym (take-append-drop n text)

one_more : (k : ℕ) → 1 + k ≡ suc k
one_more k = omega arith

name_of : (b : ℕ) (text : List ℕ) (k : ℕ) (t : Bool) → in_name b ≡ t → IsName (take k text) → IsName (take (cond t (1 + k) 0) (b ∷ text))
name_of b text k true e h =
    let more : IsName (take (suc k) (b ∷ text)) = (e, h) in
    subst (λ (n : ℕ). IsName (take n (b ∷ text))) (sym (one_more k)) more
name_of b text k false e h = tt

name_front : (text : List ℕ) → IsName (take (prefix_len in_name text) text)
name_front [] = tt
name_front (b ∷ text) = name_of b text (prefix_len in_name text) (in_name b) refl (name_front text)

pub name_fits : (text : List ℕ) (n : ℕ) → n ≡ prefix_len in_name text → IsName (take n text)
name_fits text n e = subst (λ (k : ℕ). IsName (take k text)) (sym e) (name_front text)

end_of : (b : ℕ) (text : List ℕ) (k : ℕ) (t : Bool) → in_name b ≡ t → EndsName (drop k text) → EndsName (drop (cond t (1 + k) 0) (b ∷ text))
end_of b text k true e h =
    let more : EndsName (drop (suc k) (b ∷ text)) = h in
    subst (λ (n : ℕ). EndsName (drop n (b ∷ text))) (sym (one_more k)) more
end_of b text k false e h = (e, tt)

name_back : (text : List ℕ) → EndsName (drop (prefix_len in_name text) text)
name_back [] = tt
name_back (b ∷ text) = end_of b text (prefix_len in_name text) (in_name b) refl (name_back text)

pub name_ends : (text : List ℕ) (n : ℕ) → n ≡ prefix_len in_name text → EndsName (drop n text)
name_ends text n e = subst (λ (k : ℕ). EndsName (drop k text)) (sym e) (name_back text)

within_of : (b : ℕ) (text : List ℕ) (k : ℕ) (t : Bool) → k ≤ length text → cond t (1 + k) 0 ≤ length (b ∷ text)
within_of b text k true h = omega arith
within_of b text k false h = omega arith

name_length : (text : List ℕ) → prefix_len in_name text ≤ length text
name_length [] = omega arith
name_length (b ∷ text) = within_of b text (prefix_len in_name text) (in_name b) (name_length text)

pub name_within : (text : List ℕ) (n : ℕ) → n ≡ prefix_len in_name text → n ≤ length text
name_within text n e = subst (λ (k : ℕ). k ≤ length text) (sym e) (name_length text)

-- ---- the last bracket of a line

drop_more : (line : List ℕ) (i d : ℕ) → i < length line → drop i line ≡ get_or line i d ∷ drop (suc i) line
drop_more [] i d h = absurd (omega arith)
drop_more (b ∷ line) zero d h = refl
drop_more (b ∷ line) (suc i) d h = drop_more line i d (omega arith)

drop_next : (line : List ℕ) (i d : ℕ) → i < length line → drop i line ≡ get_or line i d ∷ drop (i + 1) line
drop_next line i d h =
    let n : suc i ≡ i + 1 = omega arith in
    drop_more line i d h ∙ ap (λ (k : ℕ). get_or line i d ∷ drop k line) n

pub lacks_end : (x : ℕ) (line : List ℕ) → Lacks x (drop (length line) line)
lacks_end x [] = tt
lacks_end x (b ∷ line) = lacks_end x line

pub lacks_more : (x d : ℕ) (line : List ℕ) (place next : ℕ) → next + 1 ≡ place → place ≤ length line → get_or line next d ≢ x → Lacks x (drop place line) → Lacks x (drop next line)
lacks_more x d line place next e within other h =
    let n : next < length line = omega arith in
    let tail : Lacks x (drop (next + 1) line) = subst (λ (k : ℕ). Lacks x (drop k line)) (sym e) h in
    subst (λ (l : List ℕ). Lacks x l) (sym (drop_next line next d n)) (other, tail)

pub bracket_at : (x d : ℕ) (line : List ℕ) (place next : ℕ) → next + 1 ≡ place → place ≤ length line → get_or line next d ≡ x → Lacks x (drop place line) → Lacks x (drop (next + 1) line) × (line ≡ take next line ++ x ∷ drop (next + 1) line)
bracket_at x d line place next e within is h =
    let n : next < length line = omega arith in (
      subst (λ (k : ℕ). Lacks x (drop k line)) (sym e) h,
      sym (take-append-drop next line) ∙ ap (λ (l : List ℕ). take next line ++ l) (drop_next line next d n ∙ ap (λ (k : ℕ). k ∷ drop (next + 1) line) is),
    )

-- ---- the last byte of a text

drop_whole : (text : List ℕ) → drop (length text) text ≡ []
drop_whole [] = refl
drop_whole (b ∷ text) = drop_whole text

pub last_byte : (text : List ℕ) (d : ℕ) → 1 ≤ length text → text ≡ take (length text - 1) text ++ get_or text (length text - 1) d ∷ []
last_byte text d h =
    let n = length text - 1 in
    let below : n < length text = omega arith in
    let whole : n + 1 ≡ length text = omega arith in
    sym (take-append-drop n text) ∙ ap (λ (l : List ℕ). take n text ++ l) (drop_next text n d below ∙ ap (λ (k : ℕ). get_or text n d ∷ drop k text) whole ∙ ap (λ (l : List ℕ). get_or text n d ∷ l) (drop_whole text))

get_at : (name : List ℕ) (x d : ℕ) → get_or (name ++ x ∷ []) (length name) d ≡ x
get_at [] x d = refl
get_at (b ∷ name) x d = get_at name x d

last_of : (name : List ℕ) (x d : ℕ) → get_or (name ++ x ∷ []) (length (name ++ x ∷ []) - 1) d ≡ x
last_of name x d =
    let a : length (name ++ x ∷ []) ≡ length name + length (x ∷ []) = length-append name (x ∷ []) in
    let n : length (name ++ x ∷ []) - 1 ≡ length name = omega arith in
    ap (λ (k : ℕ). get_or (name ++ x ∷ []) k d) n ∙ get_at name x d

pub other_last : (text name : List ℕ) (x d : ℕ) → get_or text (length text - 1) d ≢ x → text ≢ name ++ x ∷ []
other_last text name x d deny e = deny (ap (λ (l : List ℕ). get_or l (length l - 1) d) e ∙ last_of name x d)

pub no_last : (text name : List ℕ) (x : ℕ) → length text < 1 → text ≢ name ++ x ∷ []
no_last text name x h e =
    let a : length text ≡ length name + length (x ∷ []) = ap length e ∙ length-append name (x ∷ []) in
    omega arith
