-- Where a rewrite leaves branches and switches what a number chooses there, a folded function is still folded.
use Rattle.strategy.proofs.Common.{◌≡◌, ◌↔◌, ℕ, zero, suc, Bool, true, false, List, [], ◌∷◌, ◌++◌, if◌then◌else◌, length, map, get_or, Option, None, refl, sym, ap, subst, ◌∙◌, Contains, length-map, map-append, first_in, later_in, IsReached, Name, Block, Function, Inst, Op, Binary, Compare, Unary, Select, Convert, Freeze, Phi, Operand, Terminator, Rule, Statement, Binding, Substitution, substituted_end, substituted_entries, substituted_inst, substituted_op, substituted_operand, from_map, Rewrite, is_root, rewritten_insts, rewritten_block, rewritten_blocks, stands_for, class_width, insts_of_op, insts_put, rewrite_of, IsRewritten, IsCleaned, chosen, jump_or, decided_end, decided_block, decided, staying, folded_op, folded_inst, folded_as, folded_block, folded_blocks, choices_of, folded_function, AreReached, IsFolded, IsTidied, HasNothingToFold, CleanedFunctionsStayFolded, all_stay, none_chosen, staying_reached}
use Rattle.ir_core.specs.declared.terminator.Terminator.TheVariants as terminators
use Rattle.rule_core.specs.declared.rule.Op.{Op as RuleOp}
use Rattle.rule_core.specs.declared.rule.Op.TheVariants as rule_ops
use Rattle.strategy.proofs.Reaching.{rewritten_back, rewritten_on}
use Rattle.strategy.proofs.Sizes.{as_many_rewritten}

-- no number chooses where one of these blocks goes
abbrev NoneChosen : List Block → Type 0
NoneChosen blocks = (c : ℕ) → get_or (map (λ (x : Block). chosen x.end) blocks) c None ≡ None

-- ---- then nothing is decided

decided_alone : (block : Block) → chosen block.end ≡ None → decided_block block ≡ block
decided_alone block none = ap (λ choice. record { name = block.name; insts = block.insts; end = jump_or choice block.end }) none

all_decided : (blocks : List Block) → NoneChosen blocks → map decided_block blocks ≡ blocks
all_decided [] none = refl
all_decided (x ∷ blocks) none =
    ap (λ (y : Block). y ∷ map decided_block blocks) (decided_alone x (none 0)) ∙ ap (λ (l : List Block). x ∷ l) (all_decided blocks (λ c. none (suc c)))

is_decided : (f : Function) → NoneChosen f.blocks → decided f ≡ f
is_decided f none = ap (λ (blocks : List Block). record { name = f.name; before = f.before; width = f.width; parameters = f.parameters; after = f.after; blocks = blocks }) (all_decided f.blocks none)

-- ---- what is put has no phi

put_op : (choices : List (Option ℕ)) (reached : List Bool) (b : ℕ) (rule : Rule) (binding : Binding) (name : Name) (N : ℕ) (op : RuleOp)
    → map (folded_inst choices reached b) (insts_of_op rule binding name N op) ≡ insts_of_op rule binding name N op
put_op choices reached b rule binding name N (rule_ops.Binary opcode flags x y) = refl
put_op choices reached b rule binding name N (rule_ops.Compare pred samesign x y) = refl
put_op choices reached b rule binding name N (rule_ops.Unary op truth x) = refl
put_op choices reached b rule binding name N (rule_ops.Select c x y) = refl
put_op choices reached b rule binding name N (rule_ops.Convert cast flags x to) = refl
put_op choices reached b rule binding name N (rule_ops.Freeze x k) = refl
put_op choices reached b rule binding name N (rule_ops.Copy x) = refl

put_stays : (choices : List (Option ℕ)) (reached : List Bool) (b : ℕ) (rule : Rule) (binding : Binding) (name : Name) (statements : List Statement)
    → map (folded_inst choices reached b) (insts_put rule binding name statements) ≡ insts_put rule binding name statements
put_stays choices reached b rule binding name [] = refl
put_stays choices reached b rule binding name (s ∷ []) = put_op choices reached b rule binding name (class_width rule binding s.class) s.op
put_stays choices reached b rule binding name (s ∷ t ∷ statements) =
    let first : List Inst = insts_of_op rule binding None (class_width rule binding s.class) s.op in
    let rest : List Inst = insts_put rule binding name (t ∷ statements) in
    map-append (folded_inst choices reached b) first rest
    ∙ ap (λ (l : List Inst). l ++ map (folded_inst choices reached b) rest) (put_op choices reached b rule binding None (class_width rule binding s.class) s.op)
    ∙ ap (λ (l : List Inst). first ++ l) (put_stays choices reached b rule binding name (t ∷ statements))

-- ---- instructions and blocks that are folded stay so

module _ (choices : List (Option ℕ)) (reached : List Bool) (left : List (Option ℕ)) (none : (c : ℕ) → get_or left c None ≡ None) where
  -- each entry of a folded phi is for a block that is reached
  entry_marked : (to : Substitution) (b : ℕ) (entries : List (Operand × ℕ)) → staying choices reached b [] entries ≡ entries
      → (y : Operand × ℕ) → Contains (substituted_entries to entries) y → get_or reached y.1 false ≡ true
  entry_marked to b entries is y has =
      let (x, among, same) = from_map (λ (e : Operand × ℕ). (substituted_operand to e.0, e.1)) entries y has in
      let mark : get_or reached x.1 false ≡ true = (staying_reached choices reached b [] entries x (subst (λ (l : List (Operand × ℕ)). Contains l x) (sym is) among)).0 in
      subst (λ (z : Operand × ℕ). get_or reached z.1 false ≡ true) (sym same) mark

  op_stays : (to : Substitution) (b : ℕ) (op : Op) → folded_op choices reached b op ≡ op → folded_op left reached b (substituted_op to op) ≡ substituted_op to op
  op_stays to b (Phi entries) is =
      let same : staying choices reached b [] entries ≡ entries = cc in
      ap (λ (l : List (Operand × ℕ)). Phi l) (all_stay choices reached left none b [] (substituted_entries to entries) (entry_marked to b entries same))
  op_stays to b (Binary op flags x y) is = refl
  op_stays to b (Compare pred samesign compared x y) is = refl
  op_stays to b (Unary op truth x) is = refl
  op_stays to b (Select c x y) is = refl
  op_stays to b (Convert cast flags from x) is = refl
  op_stays to b (Freeze x) is = refl

  inst_stays : (to : Substitution) (b : ℕ) (i : Inst) → folded_inst choices reached b i ≡ i → folded_inst left reached b (substituted_inst to i) ≡ substituted_inst to i
  inst_stays to b i is = ap (λ (op : Op). record { name = i.name; width = i.width; op = op }) (op_stays to b i.op (ap (λ (x : Inst). x.op) is))

  module _ (w : Rewrite) (put : (b : ℕ) → map (folded_inst left reached b) w.put ≡ w.put) where
    insts_stay : (b k : ℕ) (insts : List Inst) → map (folded_inst choices reached b) insts ≡ insts → map (folded_inst left reached b) (rewritten_insts w b k insts) ≡ rewritten_insts w b k insts
    insts_stay b k [] is = refl
    insts_stay b k (i ∷ insts) is =
        let own : folded_inst choices reached b i ≡ i = cc in
        let others : map (folded_inst choices reached b) insts ≡ insts = cc in
        by (is_root w b k) own (insts_stay b (suc k) insts others)
      where
        by : (root : Bool) → folded_inst choices reached b i ≡ i → map (folded_inst left reached b) (rewritten_insts w b (suc k) insts) ≡ rewritten_insts w b (suc k) insts
            → map (folded_inst left reached b) ((if root then w.put else substituted_inst (stands_for w) i ∷ []) ++ rewritten_insts w b (suc k) insts)
            ≡ (if root then w.put else substituted_inst (stands_for w) i ∷ []) ++ rewritten_insts w b (suc k) insts
        by true own rest =
            map-append (folded_inst left reached b) w.put (rewritten_insts w b (suc k) insts)
            ∙ ap (λ (l : List Inst). l ++ map (folded_inst left reached b) (rewritten_insts w b (suc k) insts)) (put b) ∙ ap (λ (l : List Inst). w.put ++ l) rest
        by false own rest =
            ap (λ (x : Inst). x ∷ map (folded_inst left reached b) (rewritten_insts w b (suc k) insts)) (inst_stays (stands_for w) b i own)
            ∙ ap (λ (l : List Inst). substituted_inst (stands_for w) i ∷ l) rest

    block_stays : (b : ℕ) (block : Block) (mark : Bool) → folded_as choices reached b mark block ≡ block → chosen (substituted_end (stands_for w) block.end) ≡ None
        → folded_as left reached b mark (rewritten_block w b block) ≡ rewritten_block w b block
    block_stays b block true is unchosen =
        let end : Terminator = substituted_end (stands_for w) block.end in
        ap (λ (l : List Inst). record { name = block.name; insts = l; end = decided_end end }) (insts_stay b 0 block.insts (ap (λ (x : Block). x.insts) is))
        ∙ ap (λ choice. record { name = block.name; insts = rewritten_insts w b 0 block.insts; end = jump_or choice end }) unchosen
    block_stays b block false is unchosen =
        ap (λ (l : List Inst). record { name = block.name; insts = rewritten_insts w b 0 l; end = terminators.Unreachable }) (ap (λ (x : Block). x.insts) is)
        ∙ ap (λ (t : Terminator). record { name = block.name; insts = rewritten_insts w b 0 block.insts; end = substituted_end (stands_for w) t }) (ap (λ (x : Block). x.end) is)

    blocks_stay : (b : ℕ) (blocks : List Block) → folded_blocks choices reached b blocks ≡ blocks → NoneChosen (rewritten_blocks w b blocks)
        → folded_blocks left reached b (rewritten_blocks w b blocks) ≡ rewritten_blocks w b blocks
    blocks_stay b [] is unchosen = refl
    blocks_stay b (x ∷ blocks) is unchosen =
        let own : folded_block choices reached b x ≡ x = cc in
        let others : folded_blocks choices reached (suc b) blocks ≡ blocks = cc in
        ap (λ (y : Block). y ∷ folded_blocks left reached (suc b) (rewritten_blocks w (suc b) blocks)) (block_stays b x (get_or reached b false) own (unchosen 0))
        ∙ ap (λ (l : List Block). rewritten_block w b x ∷ l) (blocks_stay (suc b) blocks others (λ c. unchosen (suc c)))

-- ---- functions

none_left : (f : Function) → IsFolded f f → NoneChosen f.blocks
none_left f folded c = ap (λ (g : Function). get_or (choices_of g) c None) folded.2 ∙ none_chosen (choices_of f) folded.0 0 f.blocks c

module _ (f g : Function) (rule : Rule) (binding : Binding) (is : IsRewritten f binding rule g) (folded : IsFolded f f) (alike : choices_of g ≡ choices_of f) where
  abbrev w : Rewrite
  w = rewrite_of rule binding is.root.name

  none_in : NoneChosen g.blocks
  none_in c = ap (λ (l : List (Option ℕ)). get_or l c None) alike ∙ none_left f folded c

  still_reached : AreReached (decided g) folded.0
  still_reached = subst (λ (x : Function). AreReached x folded.0) (sym (is_decided g none_in)) (
      let was : AreReached f folded.0 = subst (λ (x : Function). AreReached x folded.0) (is_decided f (none_left f folded)) folded.1 in
      record {
        count = was.count ∙ sym (as_many_rewritten w 0 f.blocks) ∙ ap (λ (x : Function). length x.blocks) (sym is.is);
        exact = λ b. (λ mark. rewritten_on f g rule binding is b ((was.exact b).0 mark), λ walk. (was.exact b).1 (rewritten_back f g rule binding is b walk));
      })

  pub stays_folded : IsFolded g g
  stays_folded =
      let blocks : folded_blocks (choices_of g) folded.0 0 (rewritten_blocks w 0 f.blocks) ≡ rewritten_blocks w 0 f.blocks =
      blocks_stay (choices_of f) folded.0 (choices_of g) none_in w (λ b. put_stays (choices_of g) folded.0 b rule binding is.root.name rule.target)
      0 f.blocks (sym (ap (λ (x : Function). x.blocks) folded.2)) (λ c. ap (λ (x : Function). get_or (choices_of x) c None) (sym is.is) ∙ none_in c) in
      let with_blocks : List Block → Function = λ blocks. record { name = f.name; before = f.before; width = f.width; parameters = f.parameters; after = f.after; blocks = blocks } in
      let same : folded_function folded.0 g ≡ g =
      ap (λ (x : Function). with_blocks_of x (folded_blocks (choices_of g) folded.0 0 x.blocks)) is.is ∙ ap with_blocks blocks ∙ sym is.is in
      (folded.0, still_reached, sym same)
    where
      with_blocks_of : Function → List Block → Function
      with_blocks_of x blocks = record { name = x.name; before = x.before; width = x.width; parameters = x.parameters; after = x.after; blocks = blocks }

-- where nothing is folded, a function is tidied as it is cleaned
pub tidied_alone : (f g : Function) → IsFolded f f → IsCleaned f g → IsTidied true f g
tidied_alone f g folded cleaned = (f, folded, cleaned)
