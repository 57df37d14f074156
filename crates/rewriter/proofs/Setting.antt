-- What registers hold where the function comes to the root, and the numbers that were taken for the target's choices,
-- are a setting of the rule that fits.
use Rattle.rewriter.proofs.Common.{◌≡◌, ℕ, ◌<◌, ◌^◌, List, length, Some, None, refl, sym, ap, subst, ◌∙◌, arith, get_or, slice_get, unwrap_or, option_map, length-map, same_Some, slice_get-map, slice_get-get_or, slice_get_within, bits, Number, IsValueOf, Value, MeetsChecks, OperandHasWidth, Read, IsRead, Registers, Function, HoldWidths, place_in, IsRule, TargetMayRead, operands_of, operands_among, choices_among, LeavesOpen, IsOperandAmong, name, reads, reads_constant, chooses, operand, constant_values, value_at, HasNumber, InputsFit, ConstantsFit, SettingFits, Rule, Statement, Term, Contains-from_get, flat_map-from, source_operand, target_operand, constant_values_fit, NumbersFit, IsOfItsWidth, inst_reads, MatchesWhere, known_in, StandsFor, OperandMatches, StatementMatches, Binding}
use Rattle.ops.specs.declared.value.Value.TheVariants as values
use Rattle.ir_core.specs.declared.operand.Operand.{Operand}
use Rattle.ir_core.specs.declared.operand.Operand.TheVariants as operands
use Rattle.rule_core.specs.declared.rule.Argument.TheVariants as arguments
use Rattle.rule_core.specs.declared.rule.Name.TheVariants as rule_names
use Rattle.rule_core.specs.declared.rule.Node.TheVariants as nodes
use Rattle.rule_core.specs.declared.rule.Operand.{Operand as RuleOperand}
use Rattle.rule_core.specs.declared.rule.Register.TheVariants as names
use Rattle.rewriter.proofs.Matched.{read_there}
use Rattle.rewriter.proofs.Source.{input_value, input_values}
use Rattle.rewriter.proofs.Target.{TermFits}

-- an operand of the source stands for an operand that an instruction reads
pub record SourceRead (f : Function) (binding : Binding) (o : RuleOperand) : Type 0 where
  pub read : Read
  pub block : ℕ
  pub place : ℕ
  pub index : ℕ
  pub is_read : IsRead f block place index read
  pub matches : OperandMatches binding o read

-- a number that is read is of its width
pub number_own : (a : Operand) → ((n : Number) → a ≡ operands.Number n → n.number < 2 ^ n.width) → IsOfItsWidth a
number_own (operands.Register r) own = tt
number_own (operands.Number n) own = own n refl
number_own operands.Undef own = tt
number_own operands.Poison own = tt

pub input_fits : (f : Function) (held : Registers) (w : ℕ) (a : Operand) → HoldWidths f held → OperandHasWidth f w a → IsOfItsWidth a → IsValueOf w (input_value held a)
input_fits f held w (operands.Register r) widths has own =
    elim (held r) as (λ o. held r ≡ o → IsValueOf w (unwrap_or o values.Poison)) [ None ↦ λ is. tt | Some v ↦ λ is. widths r w v has is ] refl
input_fits f held w (operands.Number n) widths has own = (has, subst (λ x. n.number < 2 ^ x) has own)
input_fits f held w operands.Undef widths has own = tt
input_fits f held w operands.Poison widths has own = tt

module _ {Before : ℕ → ℕ → ℕ → ℕ → Type 0} (f : Function) (b k : ℕ) (rule : Rule) (binding : Binding) (checked : IsRule rule) (meets : MeetsChecks f) (numbers : NumbersFit f) (match : MatchesWhere Before (known_in f) f b k rule binding) where
  -- each operand of the source stands for one that is read so
  pub source_read : (o : RuleOperand) → IsOperandAmong rule.source o → SourceRead f binding o
  source_read o among =
      let from = flat_map-from (λ (s : Statement). operands_of s.op) rule.source o among in
      let m : StatementMatches f rule binding from.0 from.1 = match.statements from.0 from.1 from.2 in
      let n = place_in (operands_of from.1.op) o from.3 in
      let r = read_there f m.block m.place m.inst.width from.1.op m.inst.op m.matches.operation n.0 o n.1 in
      let is_read : IsRead f m.block m.place n.0 r.0 = ap (λ (l : List Read). slice_get l n.0) (inst_reads f m.block m.place m.inst m.is_inst) ∙ r.1 in
      record { read = r.0; block = m.block; place = m.place; index = n.0; is_read = is_read; matches = m.matches.operands n.0 o r.0 n.1 is_read }

  -- each input and each constant is bound to one that is read so
  pub input_read : (i : ℕ) (a : Operand) → slice_get binding.inputs i ≡ Some a → (o : RuleOperand) × (s : SourceRead f binding o) × IsOperandAmong rule.source o × (o.value ≡ arguments.Register (names.Input i)) × (s.read.operand ≡ a)
  input_read i a at =
      let within : i < length binding.inputs = slice_get_within binding.inputs i a at in
      let count : length binding.inputs ≡ length rule.inputs = match.input_count in
      let found = checked.inputs_read i (omega arith) in
      let q = found.1 in
      let among : IsOperandAmong rule.source q.0 = Contains-from_get (operands_among rule.source) found.0 q.0 q.1 in
      let s : SourceRead f binding q.0 = source_read q.0 among in
      let for : StandsFor binding s.read.width (arguments.Register (names.Input i)) s.read.operand = subst (λ x. StandsFor binding s.read.width x s.read.operand) q.2 s.matches.value in
      (q.0, s, among, q.2, same_Some s.read.operand a (sym for ∙ at))

  constant_read : (c : ℕ) (n : Number) → slice_get binding.constants c ≡ Some n → (o : RuleOperand) × (s : SourceRead f binding o) × IsOperandAmong rule.source o × (o.value ≡ arguments.Constant c) × (s.read.operand ≡ operands.Number n)
  constant_read c n at =
      let within : c < length binding.constants = slice_get_within binding.constants c n at in
      let count : length binding.constants ≡ length rule.constants = match.constant_count in
      let found = checked.constants_read c (omega arith) in
      let q = found.1 in
      let among : IsOperandAmong rule.source q.0 = Contains-from_get (operands_among rule.source) found.0 q.0 q.1 in
      let s : SourceRead f binding q.0 = source_read q.0 among in
      let for : StandsFor binding s.read.width (arguments.Constant c) s.read.operand = subst (λ x. StandsFor binding s.read.width x s.read.operand) q.2 s.matches.value in
      (q.0, s, among, q.2, for.3 ∙ ap operands.Number (same_Some for.0 n (sym for.1 ∙ at)))

  pub inputs_fit : (held : Registers) → HoldWidths f held → InputsFit rule binding.typing (input_values held binding)
  inputs_fit held widths =
      record {
        count = length-map binding.inputs (input_value held) ∙ match.input_count;
        widths = λ i c N v named width at.
            let within : i < length binding.inputs = omega (arith, slice_get_within (input_values held binding) i v at, length-map binding.inputs (input_value held)) in
            let a : Operand = get_or binding.inputs i operands.Poison in
            let there : slice_get binding.inputs i ≡ Some a = slice_get-get_or binding.inputs i operands.Poison within in
            let is : input_value held a ≡ v = same_Some (input_value held a) v (sym (slice_get-map (input_value held) binding.inputs i ∙ ap (option_map (input_value held)) there) ∙ at) in
            let r = input_read i a there in
            let s : SourceRead f binding r.0 = r.1 in
            let has : OperandHasWidth f s.read.width s.read.operand = meets.formed.operands s.block s.place s.index s.read s.is_read in
            let own : IsOfItsWidth s.read.operand = number_own s.read.operand (λ n. numbers s.block s.place s.index s.read n s.is_read) in
            let same = match.typing.same r.0.class c (name {n = rule_names.Register (names.Input i)} (reads (source_operand rule r.0 r.2) r.3) named) in
            let w : s.read.width ≡ N = same_Some s.read.width N (sym s.matches.width ∙ same ∙ width) in
            subst (λ n. IsValueOf n v) w (subst (λ x. IsValueOf s.read.width x) is (subst (λ x. IsValueOf s.read.width (input_value held x)) r.4 (input_fits f held s.read.width s.read.operand widths has own)));
      }

  pub constants_fit : ConstantsFit rule binding.typing binding.constants
  constants_fit =
      record {
        count = match.constant_count;
        widths = λ i c N n named width at.
            let r = constant_read i n at in
            let s : SourceRead f binding r.0 = r.1 in
            let has : OperandHasWidth f s.read.width (operands.Number n) = subst (λ x. OperandHasWidth f s.read.width x) r.4 (meets.formed.operands s.block s.place s.index s.read s.is_read) in
            let own : n.number < 2 ^ n.width = subst (λ x. IsOfItsWidth x) r.4 (number_own s.read.operand (λ n. numbers s.block s.place s.index s.read n s.is_read)) in
            let same = match.typing.same r.0.class c (name {n = rule_names.Constant i} (reads_constant (source_operand rule r.0 r.2) r.3) named) in
            let w : s.read.width ≡ N = same_Some s.read.width N (sym s.matches.width ∙ same ∙ width) in
            let n_is : n.width ≡ N = has ∙ w in
            (n_is, subst (λ x. n.number < 2 ^ x) n_is own);
      }

  -- the numbers are those of the target's choices, and of their widths
  abbrev pub ChosenFit : List Number → Type 0
  ChosenFit chosen = (q : ℕ) (n : Number) → slice_get chosen q ≡ Some n → (c : ℕ) × LeavesOpen rule.target q c × ((N : ℕ) → slice_get binding.typing c ≡ Some N → IsValueOf N (values.Bits n))

  pub setting_fits : (held : Registers) (chosen : List Number) → HoldWidths f held → length chosen ≡ length (choices_among rule.target) → ChosenFit chosen
      → SettingFits rule binding.typing (record { inputs = input_values held binding; constants = binding.constants; target_choices = chosen })
  setting_fits held chosen widths count fit =
      record {
        inputs = inputs_fit held widths;
        constants = constants_fit;
        target_choices = record {
          count = count;
          widths = λ i c N n named width at.
              let r = fit i n at in
              let same = match.typing.same r.0 c (name {n = rule_names.Choice i} (chooses r.1) named) in
              r.2 N (same ∙ width);
        };
      }

  -- a constant term with a value has a number of its width
  number_of_term : (n N : ℕ) (v : Value) → HasNumber v → IsValueOf N v → (m : ℕ) × (v ≡ bits N m)
  number_of_term n N values.Poison has fits = absurd has
  number_of_term n N (values.Bits m) has fits = (m.number, ap (λ (w : ℕ). bits w m.number) fits.0)

  pub terms_fit : (o : RuleOperand) (n N : ℕ) → IsOperandAmong rule.target o → o.value ≡ arguments.Term n → slice_get binding.typing o.class ≡ Some N → TermFits rule binding n N
  terms_fit o n N among is width =
      let from = flat_map-from (λ (s : Statement). operands_of s.op) rule.target o among in
      let within : n < length rule.terms = subst (TargetMayRead rule from.0) is (checked.target_reads from.0 from.1 o from.2 from.3) in
      let none : Term = record { class = 0; node = nodes.Constant 0 } in
      let t : Term = get_or rule.terms n none in
      let there : slice_get rule.terms n ≡ Some t = slice_get-get_or rule.terms n none within in
      let fits = constant_values_fit rule binding.typing binding.constants checked match.typing constants_fit in
      let all : List Value = constant_values binding.typing binding.constants rule in
      let count : length all ≡ length rule.terms = fits.0 in
      let v : Value = value_at all n in
      let at : slice_get all n ≡ Some v = slice_get-get_or all n values.Poison (omega arith) in
      let class : slice_get binding.typing t.class ≡ Some N = sym (match.typing.same o.class t.class (operand (target_operand rule o among) is there)) ∙ width in
      number_of_term n N v (match.precondition.values n v at) (fits.1 n t v N there at class)
