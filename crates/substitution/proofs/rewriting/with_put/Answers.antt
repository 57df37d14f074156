use Rattle.substitution.proofs.Common.{◌≡◌, ◌+◌, ◌-◌, ◌++◌, ◌∙◌, List, [], ap, length, take, drop, arith, vec_len, is_ok, IsOk, cond-true, drop_all, Inst}
use Rattle.substitution.proofs.PuttingIn.{put_in}
use Rattle.substitution.proofs.rewriting.with_put.Goals as goal

pub returns : goal.returns
returns c =
    let all = c.args.insts in
    let p = c.args.place in
    let put_is = c.into_vec-put.ensures in
    let insts_is = c.into_vec-insts.ensures in
    let insts_count = c.into_vec-insts.result.ok.0 in
    let put_count = c.into_vec-put.result.ok.0 in
    let insts_size = ap length insts_is in
    let put_size = ap length put_is in
    let first = c.rotate_left.new.self in
    let first_len = c.rotate_left.ensures.len in
    let first_is : first.items ≡ drop p all ++ take p all = c.rotate_left.ensures.items ∙ ap (λ (l : List Inst). drop p l ++ take p l) insts_is in
    let ok1 : IsOk c.append.result = c.append.ensures.succeeds (omega arith) in
    let len1 : vec_len c.append.new.self ≡ vec_len c.args.room + vec_len c.into_vec-put.result = c.append.ensures.len ∙ cond-true (is_ok c.append.result) _ _ ok1 in
    let is1 : c.append.new.self.items ≡ c.args.room.items ++ c.into_vec-put.result.items = c.append.ensures.items ∙ cond-true (is_ok c.append.result) _ _ ok1 in
    let cap1 = c.append.ensures.capacity in
    let ok2 : IsOk c.append-2.result = c.append-2.ensures.succeeds (omega arith) in
    let len2 : vec_len c.append-2.new.self ≡ vec_len c.append.new.self + vec_len first = c.append-2.ensures.len ∙ cond-true (is_ok c.append-2.result) _ _ ok2 in
    let is2 : c.append-2.new.self.items ≡ c.append.new.self.items ++ first.items = c.append-2.ensures.items ∙ cond-true (is_ok c.append-2.result) _ _ ok2 in
    let room_count = c.args.room.ok.0 in
    let none : c.args.room.items ≡ [] = drop_all 0 c.args.room.items (omega arith) in
    let joined : c.append-2.new.self.items ≡ c.args.put ++ first.items = is2 ∙ ap (λ (l : List Inst). l ++ first.items) (is1 ∙ ap (λ (l : List Inst). l ++ c.into_vec-put.result.items) none ∙ put_is) in
    let counted = c.len-count.ensures in
    let counted2 = c.append-2.new.self.ok.0 in
    c.from_vec.ensures ∙ c.remove.ensures.by_index.2
    ∙ put_in all c.args.put first.items c.append-2.new.self.items c.rotate_right.new.self.items p c.len-count.result (vec_len c.append-2.new.self - p) c.requires.place first_is joined (omega arith) c.rotate_right.ensures.items (omega arith)
