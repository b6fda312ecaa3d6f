-- Operands of a folded function have the types of those for which they stand, and what its lines name exists.
use Rattle.std.proofs.Common.{◌≡◌, ℕ, ◌<◌, true, false, not, List, [], ◌∷◌, ◌++◌, length, map, refl, sym, ap, subst, ◌∙◌, arith}
use Rattle.std.specs.Prelude.{Option, Some, None, filter, is_some, slice_get}
use Rattle.std.specs.List.{All, Contains, filter_map, flat_map}
use Rattle.std.proofs.lemmas.Bool.{false≢true}
use Rattle.std.proofs.lemmas.List.{length-map}
use Rattle.std.proofs.lemmas.List.Elements.{All-append, All-filter, All-map}
use Rattle.std.proofs.lemmas.Option.{none-some, slice_get_within}
use Rattle.list_laws.proofs.Contents.{all_at, all_back, all_from_at, all_front, contains_get, get_contained}
use Rattle.list_laws.proofs.Places.{filter_map_back, filter_map_forth, map_back}
use Rattle.sp_ids.specs.declared.ids.ValueId.{ValueId}
use Rattle.ir_ast.specs.declared.types.Ty.{Ty}
use Rattle.ir_ast.specs.declared.types.Ty.TheVariants as types
use Rattle.ir_ast.specs.declared.ops.Op.{Op}
use Rattle.ir_ast.specs.declared.ops.Op.TheVariants as ops
use Rattle.ir_ast.specs.declared.ops.Operand.{Operand}
use Rattle.ir_ast.specs.declared.ops.Operand.TheVariants.{Fun, Int, Null, Value}
use Rattle.ir_ast.specs.declared.funcs.Arg.{Arg}
use Rattle.ir_ast.specs.Funcs.{Function, instructions_of}
use Rattle.ir_ast.specs.Insts.{Instruction}
use Rattle.ir_ast.specs.Lines.{IsLine, LineOf}
use Rattle.ir_ast.specs.Modules.{ModuleContent}
use Rattle.ir_ast.specs.Operands.{is_value, named, operands_of, value_in}
use Rattle.ir_ast.specs.Scope.{scope_of}
use Rattle.ir_ast.specs.Types.{is_first_class, is_integer, is_pointer, is_void}
use Rattle.ir_ast.specs.Values.{Definition, argument, definition_type, definitions_of, outcome, outcome_type, value_types}
use Rattle.ir_ast.specs.Widths.{line_widths, operator_widths, type_widths}
use Rattle.ir_ast.specs.Faults.GroupShape.{number_at}
use Rattle.ir_ast.specs.Faults.TypeClash.{Fits, IsTyped}
use Rattle.ir_ast.specs.Faults.UnknownName.{NamesOfModule}
use Rattle.ir_cfg.proofs.KeepsPlaces.{kept_get, marks_before}
use Rattle.ir_cfg.proofs.UsedLaws.{used_type}
use Rattle.folded_forms.specs.Folded.{Table, folded, folded_line, folded_operand, numbered, stands_for, stays}
use Rattle.folded_source.proofs.FormLaws.{Carries}
use Rattle.base_definite.proofs.base_paths.GivesLaws.{given_named}
use Rattle.folded_source.proofs.LineLaws.{line_stays}
use Rattle.folded_source.proofs.Settled.{IsSettled, IsSettledOperand, operands_folded}
use Rattle.folded_source.proofs.ValueLaws.{new_types, value_counted, value_marked, value_marks}
use Rattle.object_meaning.proofs.GivenLaws.{has_result}

-- ---- no value is void

first_class_there : (ty : Ty) → is_first_class ty ≡ true → is_void ty ≡ false
first_class_there types.Void is = absurd (false≢true is)
first_class_there (types.Int width) is = refl
first_class_there types.Ptr is = refl
first_class_there types.Token is = refl

integer_there : (ty : Ty) → is_integer ty ≡ true → is_void ty ≡ false
integer_there types.Void is = absurd (false≢true is)
integer_there (types.Int width) is = refl
integer_there types.Ptr is = refl
integer_there types.Token is = refl

pointer_there : (ty : Ty) → is_pointer ty ≡ true → is_void ty ≡ false
pointer_there types.Void is = absurd (false≢true is)
pointer_there (types.Int width) is = refl
pointer_there types.Ptr is = refl
pointer_there types.Token is = refl

answer_there : (ty : Ty) → not (is_void ty) ≡ true → is_void ty ≡ false
answer_there types.Void is = absurd (false≢true is)
answer_there (types.Int width) is = refl
answer_there types.Ptr is = refl
answer_there types.Token is = refl

no_result : {A : Type 0} (inst : Instruction) → is_some inst.result ≡ false → is_some inst.result ≡ true → A
no_result inst none some = absurd (false≢true (sym none ∙ some))

outcome_there : (op : Op) (inst : Instruction) → LineOf op inst → is_some inst.result ≡ true → is_void (outcome_type op inst.ty) ≡ false
outcome_there ops.Add inst line some = integer_there inst.ty line.type
outcome_there ops.Sub inst line some = integer_there inst.ty line.type
outcome_there ops.Mul inst line some = integer_there inst.ty line.type
outcome_there ops.Udiv inst line some = integer_there inst.ty line.type
outcome_there ops.Sdiv inst line some = integer_there inst.ty line.type
outcome_there ops.Urem inst line some = integer_there inst.ty line.type
outcome_there ops.Srem inst line some = integer_there inst.ty line.type
outcome_there ops.And inst line some = integer_there inst.ty line.type
outcome_there ops.Or inst line some = integer_there inst.ty line.type
outcome_there ops.Xor inst line some = integer_there inst.ty line.type
outcome_there ops.Shl inst line some = integer_there inst.ty line.type
outcome_there ops.Lshr inst line some = integer_there inst.ty line.type
outcome_there ops.Ashr inst line some = integer_there inst.ty line.type
outcome_there (ops.Icmp pred) inst line some = refl
outcome_there (ops.Trunc width) inst line some = refl
outcome_there (ops.Zext width) inst line some = refl
outcome_there (ops.Sext width) inst line some = refl
outcome_there ops.Select inst line some = first_class_there inst.ty line.type
outcome_there ops.Phi inst line some = first_class_there inst.ty (line.0).type
outcome_there (ops.Gep elem index_width place) inst line some = pointer_there inst.ty (line.0).type
outcome_there ops.Load inst line some = first_class_there inst.ty line.type
outcome_there ops.Store inst line some = no_result inst line.result some
outcome_there (ops.Call callee types) inst line some = answer_there inst.ty (sym line.result ∙ some)
outcome_there (ops.Statepoint id callee types) inst line some = refl
outcome_there ops.GcResult inst line some = first_class_there inst.ty (line.0).type
outcome_there ops.GcRelocate inst line some = pointer_there inst.ty (line.0).type
outcome_there ops.Br inst line some = no_result inst line.result some
outcome_there ops.CondBr inst line some = no_result inst line.result some
outcome_there ops.Switch inst line some = no_result inst (line.0).result some
outcome_there ops.Ret inst line some = no_result inst line.result some
outcome_there ops.Unreachable inst line some = no_result inst line.result some

abbrev IsGood : Definition → Type 0
IsGood (argument arg) = is_first_class arg.ty ≡ true
IsGood (outcome inst) = IsLine inst

good_there : (func : Function) (value : ℕ) (given : Definition) → slice_get (definitions_of func) value ≡ Some given → IsGood given → is_void (definition_type given) ≡ false
good_there func value (argument arg) at good = first_class_there arg.ty good
good_there func value (outcome inst) at good = outcome_there inst.op inst good (given_named func value inst at)

pub no_void : (func : Function) → All (λ (arg : Arg). is_first_class arg.ty ≡ true) func.args → All IsLine (instructions_of func.blocks)
    → (value : ℕ) (ty : Ty) → slice_get (value_types func) value ≡ Some ty → is_void ty ≡ false
no_void func args lines value ty at =
    let results = filter has_result (instructions_of func.blocks) in
    let good : All IsGood (definitions_of func) =
    All-append IsGood (map argument func.args) (map outcome results) (All-map IsGood argument func.args args)
    (All-map IsGood outcome results (All-filter has_result IsLine (instructions_of func.blocks) lines)) in
    let from = map_back definition_type (definitions_of func) value ty at in
    ap is_void from.is ∙ good_there func value from.before from.stands (all_at IsGood (definitions_of func) value from.before good from.stands)

-- ---- operands under the table

no_function : (one : Operand) (values : List Ty) (ty : Ty) → Fits values one ty → is_void ty ≡ false → is_value one ≡ true
no_function (Value id) values ty fits some = refl
no_function (Int number) values ty fits some = refl
no_function Null values ty fits some = refl
no_function (Fun called) values ty fits some = absurd (false≢true (sym some ∙ ap is_void fits))

number_value : (table : Table) (one : Operand) → is_value (numbered table one) ≡ is_value one
number_value table (Value id) = refl
number_value table (Int number) = refl
number_value table Null = refl
number_value table (Fun called) = refl

plain_stays : (table : Table) (one : Operand) → value_in one ≡ None → folded_operand table one ≡ one
plain_stays table (Value id) none = absurd (none-some id.0 (sym none))
plain_stays table (Int number) none = refl
plain_stays table Null none = refl
plain_stays table (Fun called) none = refl

module _ (content : ModuleContent) (func : Function) (table : Table) (settled : IsSettled func table)
    (args : All (λ (arg : Arg). is_first_class arg.ty ≡ true) func.args) (lines : All IsLine (instructions_of func.blocks)) where
  number_fits : (one : Operand) (ty : Ty) → ((to : ℕ) → one ≡ named to → stays table to ≡ true) → Fits (value_types func) one ty → Fits (value_types (folded func table)) (numbered table one) ty
  number_fits (Value id) ty stay fits =
      let within = slice_get_within (value_types func) id.0 ty fits in
      let long = length-map (definitions_of func) definition_type in
      let below : id.0 < length (definitions_of func) = omega (arith, within, long) in
      let marked = value_marked func table settled.arguments id.0 below (stay id.0 refl) in
      ap (slice_get (value_types (folded func table))) (value_counted func table settled.arguments id.0 (omega (arith, below)))
      ∙ (ap (λ (all : List Ty). slice_get all (marks_before (value_marks table func) id.0)) (new_types func table settled.arguments)
      ∙ kept_get (value_marks table func) (value_types func) id.0 ty marked fits)
  number_fits (Int number) ty stay fits = fits
  number_fits Null ty stay fits = fits
  number_fits (Fun called) ty stay fits = fits

  value_there : (one : Operand) → IsSettledOperand func table one → (ty : Ty) → Fits (value_types func) one ty → is_value one ≡ true → is_value (folded_operand table one) ≡ true
  value_there (Value id) own ty fits value =
      number_value table (stands_for table (Value id)) ∙ no_function (stands_for table (Value id)) (value_types func) ty (own.fits ty fits) (no_void func args lines id.0 ty fits)
  value_there (Int number) own ty fits value = refl
  value_there Null own ty fits value = refl
  value_there (Fun called) own ty fits value = absurd (false≢true value)

  pub carried : (place : ℕ) (inst : Instruction) → slice_get (instructions_of func.blocks) place ≡ Some inst → line_stays table (number_at func place) inst ≡ true
      → IsTyped (scope_of content func) inst → (one : Operand) → Contains (operands_of inst) one → Carries (value_types func) (value_types (folded func table)) one (folded_operand table one)
  carried place inst at stay typed one inside =
      let own = settled.operands place inst at stay one inside in
      let at = get_contained (operands_of inst) one inside in
      let type = used_type (scope_of content func) inst typed at.0 one at.1 in
      record {
        fits = λ ty fits. number_fits (stands_for table one) ty own.stays_here (own.fits ty fits);
        plain = plain_stays table one;
        value = value_there one own type.0 type.1;
      }

-- ---- the functions and the widths that a folded line names

items_there : (P : ℕ → Type 0) (h : Operand → Option ℕ) → ((id : ValueId) → h (Value id) ≡ None) → ((number : ℕ) → h (Int number) ≡ None) → h Null ≡ None
    → (f : Operand → Operand) (all : List Operand) → ((one : Operand) → Contains all one → (value_in one ≡ None → f one ≡ one) × (is_value one ≡ true → is_value (f one) ≡ true))
    → All P (filter_map h all) → All P (filter_map h (map f all))
items_there P h values numbers null f all each known = all_from_at P (filter_map h (map f all)) (λ place item at.
    let from = filter_map_back h (map f all) item place at in
    let image = map_back f all from.place from.item from.stands in
    let own = each image.before (contains_get all from.place image.before image.stands) in
    same_there image.before own item from.place image.stands (ap h (sym image.is) ∙ from.gives))
  where
    none_of : (one : Operand) → is_value one ≡ true → h one ≡ None
    none_of (Value id) value = values id
    none_of (Int number) value = numbers number
    none_of Null value = null
    none_of (Fun called) value = absurd (false≢true value)

    same_there : (one : Operand) → (value_in one ≡ None → f one ≡ one) × (is_value one ≡ true → is_value (f one) ≡ true) → (item place : ℕ) → slice_get all place ≡ Some one → h (f one) ≡ Some item → P item
    same_there (Fun called) own item place at gives =
        let forth = filter_map_forth h all place (Fun called) item at (ap h (sym (own.0 refl)) ∙ gives) in all_at P (filter_map h all) forth.0 item known forth.1
    same_there (Value id) own item place at gives = absurd (none-some item (sym (none_of (f (Value id)) (own.1 refl)) ∙ gives))
    same_there (Int number) own item place at gives = absurd (none-some item (sym (none_of (f (Int number)) (own.1 refl)) ∙ gives))
    same_there Null own item place at gives = absurd (none-some item (sym (none_of (f Null) (own.1 refl)) ∙ gives))

line_items : (P : ℕ → Type 0) (h : Operand → Option ℕ) → ((id : ValueId) → h (Value id) ≡ None) → ((number : ℕ) → h (Int number) ≡ None) → h Null ≡ None
    → (table : Table) (inst : Instruction)
    → ((one : Operand) → Contains (operands_of inst) one → (value_in one ≡ None → folded_operand table one ≡ one) × (is_value one ≡ true → is_value (folded_operand table one) ≡ true))
    → All P (filter_map h (operands_of inst)) → All P (filter_map h (operands_of (folded_line table inst)))
line_items P h values numbers null table inst each known =
    subst (λ (os : List Operand). All P (filter_map h os)) (sym (operands_folded table inst)) (items_there P h values numbers null (folded_operand table) (operands_of inst) each known)

pub functions_there : (content : ModuleContent) (table : Table) (inst : Instruction)
    → ((one : Operand) → Contains (operands_of inst) one → (value_in one ≡ None → folded_operand table one ≡ one) × (is_value one ≡ true → is_value (folded_operand table one) ≡ true))
    → NamesOfModule content inst → NamesOfModule content (folded_line table inst)
functions_there content table inst each known = record {
  layouts = known.layouts;
  functions =
      let P : ℕ → Type 0 = λ each. each < length content.funcs in
      All-append P _ _ (all_front P _ _ known.functions)
      (line_items P _ (λ id. refl) (λ number. refl) refl table inst each (all_back P _ _ known.functions));
}

pub widths_there : (table : Table) (inst : Instruction) → line_widths (folded_line table inst) ≡ line_widths inst
widths_there table inst = ap (λ (ws : List ℕ). operator_widths inst.op ++ type_widths inst.ty ++ ws) (each inst.bundle)
  where
    each : (bundle : List (Ty × Operand)) → flat_map (λ (entry : Ty × Operand). type_widths entry.0) (map (λ (entry : Ty × Operand). (let e : Ty × Operand = (entry.0, folded_operand table entry.1) in e)) bundle)
        ≡ flat_map (λ (entry : Ty × Operand). type_widths entry.0) bundle
    each [] = refl
    each (entry ∷ bundle) = ap (λ (ws : List ℕ). type_widths entry.0 ++ ws) (each bundle)
