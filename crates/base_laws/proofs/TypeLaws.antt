-- A value with a mark is a pointer.
use Rattle.std.proofs.Common.{◌≡◌, ℕ, zero, suc, Bool, true, false, ◌||◌, ◌&&◌, if◌then◌else◌, List, [], ◌∷◌, ◌++◌, length, map, refl, sym, ap, subst, ◌∙◌, append-nil, inl, inr}
use Rattle.std.specs.Prelude.{Some, slice_get, slice_index_or, filter}
use Rattle.std.specs.List.{All, AllZip, filter_map, list_any}
use Rattle.std.proofs.lemmas.List.Elements.{All-head, All-tail}
use Rattle.list_laws.proofs.Places.{get_filled, get_map}
use Rattle.renaming_laws.proofs.StepLaws.{merge_is}
use Rattle.ir_ast.specs.declared.funcs.Arg.{Arg}
use Rattle.ir_ast.specs.declared.types.Ty.{Ty}
use Rattle.ir_ast.specs.declared.types.Ty.TheVariants as types
use Rattle.ir_ast.specs.declared.ops.Pred.{Pred}
use Rattle.ir_ast.specs.declared.ops.Op.{Op}
use Rattle.ir_ast.specs.declared.ops.Op.TheVariants as ops
use Rattle.ir_ast.specs.declared.ops.Operand.{Operand}
use Rattle.ir_ast.specs.declared.ops.Operand.TheVariants as operands
use Rattle.ir_ast.specs.Insts.{Instruction}
use Rattle.ir_ast.specs.Funcs.{Function, instructions_of}
use Rattle.ir_ast.specs.Lines.{IsLine, LineOf}
use Rattle.ir_ast.specs.Operands.{value_in}
use Rattle.ir_ast.specs.Values.{Definition, Gives, argument, definition_type, definitions_of, outcome, outcome_type, value_types}
use Rattle.ir_ast.specs.Derived.{is_merge, is_step}
use Rattle.ir_ast.specs.Faults.TypeClash.{Fits, asked}
use Rattle.base_forms.specs.DerivedMarks.{derived_marks, derives, has_mark, marks_after, uses_marked}
use Rattle.ir_ast.proofs.OpLaws.{pointer_is}
use Rattle.object_meaning.proofs.GivenLaws.{has_result}

-- what is asked of an instruction here: its form, and that its operands have their types
pub record IsTypedLine (func : Function) (inst : Instruction) : Type 0 where
  pub line : IsLine inst
  pub fits : AllZip (Fits (value_types func)) inst.operands (asked inst.op inst.ty (length inst.operands))

abbrev pub TypedLines : Function → Type 0
TypedLines func = All (IsTypedLine func) (instructions_of func.blocks)

-- the values with a mark are pointers
abbrev pub MarksPointers : Function → List Bool → Type 0
MarksPointers func marks = (value : ℕ) → has_mark marks value ≡ true → slice_get (value_types func) value ≡ Some types.Ptr

-- ---- what gives a value

given_in : (P : Instruction → Type 0) (insts : List Instruction) (place : ℕ) (inst : Instruction) → slice_get (map outcome (filter has_result insts)) place ≡ Some (outcome inst)
    → All P insts → P inst
given_in P [] place inst is all = absurd cc
given_in P (first ∷ insts) place inst is all =
    by (has_result first) place is (λ k found. given_in P insts k inst found (All-tail P first insts all))
  where
    by : (b : Bool) (place : ℕ) → slice_get (map outcome (if b then first ∷ filter has_result insts else filter has_result insts)) place ≡ Some (outcome inst)
        → ((k : ℕ) → slice_get (map outcome (filter has_result insts)) k ≡ Some (outcome inst) → P inst) → P inst
    by false place is further = further place is
    by true zero is further = let same : first ≡ inst = cc in subst P same (All-head P first insts all)
    by true (suc place) is further = further place is

past_arguments : (args : List Arg) (rest : List Definition) (value : ℕ) (inst : Instruction) → slice_get (map argument args ++ rest) value ≡ Some (outcome inst)
    → (place : ℕ) × (slice_get rest place ≡ Some (outcome inst))
past_arguments [] rest value inst is = (value, is)
past_arguments (arg ∷ args) rest zero inst is = absurd cc
past_arguments (arg ∷ args) rest (suc value) inst is = past_arguments args rest value inst is

pub all_given : (P : Instruction → Type 0) (func : Function) → All P (instructions_of func.blocks) → (value : ℕ) (inst : Instruction) → Gives func value inst → P inst
all_given P func all value inst given =
    let found = past_arguments func.args (map outcome (filter has_result (instructions_of func.blocks))) value inst given in
    given_in P (instructions_of func.blocks) found.0 inst found.1 all

pub type_of_given : (func : Function) (value : ℕ) (given : Definition) → slice_get (definitions_of func) value ≡ Some given → slice_get (value_types func) value ≡ Some (definition_type given)
type_of_given func value given is = get_map definition_type (definitions_of func) value given is

-- ---- an operand with a mark

-- of operands that fit these types one has a mark: so one of the types is that of pointers
marked_type : (func : Function) (marks : List Bool) → MarksPointers func marks → (given : List Operand) (wanted : List Ty) → AllZip (Fits (value_types func)) given wanted
    → list_any (has_mark marks) (filter_map value_in given) ≡ true → (place : ℕ) × (slice_get wanted place ≡ Some types.Ptr)
marked_type func marks pointers [] wanted fits marked = absurd cc
marked_type func marks pointers (each ∷ given) [] fits marked = absurd fits
marked_type func marks pointers (operands.Value id ∷ given) (ty ∷ wanted) fits marked =
    by (has_mark marks id.0) refl marked (λ rest. marked_type func marks pointers given wanted fits.1 rest)
  where
    by : (b : Bool) → has_mark marks id.0 ≡ b → b || list_any (has_mark marks) (filter_map value_in given) ≡ true
        → (list_any (has_mark marks) (filter_map value_in given) ≡ true → (place : ℕ) × (slice_get wanted place ≡ Some types.Ptr))
        → (place : ℕ) × (slice_get (ty ∷ wanted) place ≡ Some types.Ptr)
    by true is rest further = (0, sym fits.0 ∙ pointers id.0 is)
    by false is rest further = let found = further rest in (suc found.0, found.1)
marked_type func marks pointers (operands.Int literal ∷ given) (ty ∷ wanted) fits marked = let found = marked_type func marks pointers given wanted fits.1 marked in (suc found.0, found.1)
marked_type func marks pointers (operands.Null ∷ given) (ty ∷ wanted) fits marked = let found = marked_type func marks pointers given wanted fits.1 marked in (suc found.0, found.1)
marked_type func marks pointers (operands.Fun called ∷ given) (ty ∷ wanted) fits marked = let found = marked_type func marks pointers given wanted fits.1 marked in (suc found.0, found.1)

-- an instruction without a bundle uses its operands
pub uses_operands : (marks : List Bool) (inst : Instruction) → inst.bundle ≡ [] → uses_marked marks inst ≡ list_any (has_mark marks) (filter_map value_in inst.operands)
uses_operands marks inst bare =
    ap (λ bundle. list_any (has_mark marks) (filter_map value_in (inst.operands ++ map (λ (entry : Ty × Operand). entry.1) bundle))) bare
    ∙ ap (λ all. list_any (has_mark marks) (filter_map value_in all)) (append-nil inst.operands)

-- a phi, a select or a compare with an operand that has a mark is one of pointers
module _ (func : Function) (marks : List Bool) (pointers : MarksPointers func marks) (inst : Instruction) (typed : IsTypedLine func inst) (marked : uses_marked marks inst ≡ true) where
  asked_of : (op : Op) → inst.op ≡ op → inst.bundle ≡ [] → (place : ℕ) × (slice_get (asked op inst.ty (length inst.operands)) place ≡ Some types.Ptr)
  asked_of op is bare =
      marked_type func marks pointers inst.operands (asked op inst.ty (length inst.operands))
      (subst (λ (each : Op). AllZip (Fits (value_types func)) inst.operands (asked each inst.ty (length inst.operands))) is typed.fits)
      (sym (uses_operands marks inst bare) ∙ marked)

  line_as : (op : Op) → inst.op ≡ op → LineOf op inst
  line_as op is = subst (λ (each : Op). LineOf each inst) is typed.line

  pub compares_pointers : (pred : Pred) → inst.op ≡ ops.Icmp pred → inst.ty ≡ types.Ptr
  compares_pointers pred is =
      let found = asked_of (ops.Icmp pred) is (line_as (ops.Icmp pred) is).no_bundle in
      sym (get_filled (length inst.operands) inst.ty found.0 types.Ptr found.1)

  pub phi_of_pointers : inst.op ≡ ops.Phi → inst.ty ≡ types.Ptr
  phi_of_pointers is =
      let found = asked_of ops.Phi is ((line_as ops.Phi is).0).no_bundle in
      sym (get_filled (length inst.operands) inst.ty found.0 types.Ptr found.1)

  pub select_of_pointers : inst.op ≡ ops.Select → inst.ty ≡ types.Ptr
  select_of_pointers is =
      let found = asked_of ops.Select is (line_as ops.Select is).no_bundle in
      by found.0 found.1
    where
      by : (place : ℕ) → slice_get (types.Int 1 ∷ inst.ty ∷ inst.ty ∷ []) place ≡ Some types.Ptr → inst.ty ≡ types.Ptr
      by zero is = absurd cc
      by (suc zero) is = cc
      by (suc (suc zero)) is = cc
      by (suc (suc (suc place))) is = absurd cc

  pub merges_pointers : is_merge inst.op ≡ true → outcome_type inst.op inst.ty ≡ types.Ptr
  merges_pointers kind = elim (merge_is inst.op kind) [
    | inl is ↦ ap (λ op. outcome_type op inst.ty) is ∙ phi_of_pointers is
    | inr is ↦ ap (λ op. outcome_type op inst.ty) is ∙ select_of_pointers is
  ]

-- ---- all marks

step_gives : (inst : Instruction) → IsLine inst → (op : Op) → inst.op ≡ op → is_step op ≡ true → outcome_type op inst.ty ≡ types.Ptr
step_gives inst line (ops.Gep elem width place) is step = pointer_is inst.ty ((subst (λ (op : Op). LineOf op inst) is line).0).type
step_gives inst line op is step = absurd cc

pub mapped_mark : (derived : Definition → Bool) (all : List Definition) (value : ℕ) → slice_index_or (map derived all) value false ≡ true
    → (given : Definition) × (slice_get all value ≡ Some given) × (derived given ≡ true)
mapped_mark derived [] value is = absurd cc
mapped_mark derived (given ∷ all) zero is = (given, refl, is)
mapped_mark derived (given ∷ all) (suc value) is = mapped_mark derived all value is

derives_pointer : (func : Function) (marks : List Bool) → MarksPointers func marks → TypedLines func → (value : ℕ) (given : Definition) → slice_get (definitions_of func) value ≡ Some given
    → derives marks given ≡ true → definition_type given ≡ types.Ptr
derives_pointer func marks pointers typed value (argument arg) is derived = absurd cc
derives_pointer func marks pointers typed value (outcome inst) is derived = by (is_step inst.op) refl derived
  where
    here : IsTypedLine func inst
    here = all_given (IsTypedLine func) func typed value inst is

    merge_by : (a b : Bool) → is_merge inst.op ≡ a → uses_marked marks inst ≡ b → a && b ≡ true → outcome_type inst.op inst.ty ≡ types.Ptr
    merge_by true true kind marked both = merges_pointers func marks pointers inst here marked kind
    merge_by true false kind marked both = absurd cc
    merge_by false b kind marked both = absurd cc

    by : (b : Bool) → is_step inst.op ≡ b → b || (is_merge inst.op && uses_marked marks inst) ≡ true → outcome_type inst.op inst.ty ≡ types.Ptr
    by true step either = step_gives inst here.line inst.op refl step
    by false step either = merge_by (is_merge inst.op) (uses_marked marks inst) refl refl either

marks_after_are : (func : Function) → TypedLines func → (rounds : ℕ) → MarksPointers func (marks_after func rounds)
marks_after_are func typed zero = λ value marked. absurd cc
marks_after_are func typed (suc rounds) = λ value marked.
    let found = mapped_mark (derives (marks_after func rounds)) (definitions_of func) value marked in
    type_of_given func value found.0 found.1
    ∙ ap (λ (ty : Ty). Some ty) (derives_pointer func (marks_after func rounds) (marks_after_are func typed rounds) typed value found.0 found.1 found.2)

-- derived values are pointers
pub derived_are_pointers : (func : Function) → TypedLines func → MarksPointers func (derived_marks func)
unfolding derived_marks
derived_are_pointers func typed = marks_after_are func typed (suc (length (definitions_of func)))
