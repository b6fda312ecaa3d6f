-- The bundle of a line: values of value types, at most 64, that name no function; a leaf has none.
use Rattle.std.proofs.Common.{◌≡◌, ◌≤◌, ℕ, Bool, true, false, ◌&&◌, ◌||◌, if◌then◌else◌, List, [], ◌∷◌, map, length, drop, refl, ap, arith}
use Rattle.std.specs.Prelude.{Option, Some, None, flat_map, codes}
use Rattle.std.specs.List.{All, AllByRecursion}
use Rattle.std.specs.Str.{bytes_eq}
use Rattle.std.proofs.lemmas.Bool.{and_from}
use Rattle.std.proofs.lemmas.List.{length-map}
use Rattle.std.proofs.lemmas.List.Elements.{All-nil, All-append, recursion_from_All}
use Rattle.ir_ast.specs.declared.types.Ty.{Ty}
use Rattle.ir_ast.specs.declared.ops.Op.{Op}
use Rattle.ir_ast.specs.declared.ops.Op.TheVariants as ops
use Rattle.ir_ast.specs.declared.ops.Operand.{Operand}
use Rattle.ir_ast.specs.declared.ops.Operand.TheVariants as operands
use Rattle.ir_ast.specs.declared.ops.Callee.TheVariants as callees
use Rattle.ir_ast.specs.Callees.{is_leaf}
use Rattle.ir_ast.specs.Types.{is_first_class}
use Rattle.ir_ast.specs.Lines.{is_bundle}
use Rattle.ir_ast.specs.Operands.{is_value, functions_named as functions_in}
use Rattle.ir_ast.specs.Widths.{IsWidth, type_widths}
use Rattle.line_parts.specs.Types.{TypeWord}
use Rattle.line_parts.specs.Parts.{Val}
use Rattle.ir_lines.specs.Statements.{Called, is_leaf_name, kept_by}
use Rattle.ir_lines.specs.Places.{place_in, number_in}
use Rattle.ir_lines.specs.Modules.{Known, type_of, used_operand, kept_entry, callee_at, callee_of, external_callee, instruction, keeping}
use Rattle.ir_lines.specs.ReadLines.{IsValueType, IsReadBundle}
use Rattle.list_laws.proofs.Booleans.{second_true}
use Rattle.module_laws.proofs.LawLines.{is_value_in}
use Rattle.module_laws.proofs.LawCalls.{first_class, over}
use Rattle.module_laws.proofs.LawTyped.{type_width}

-- ---- its entries

-- what a bundle has, so that a line may keep it
pub record IsGoodBundle (bundle : List (Ty × Operand)) : Type 0 where
  pub typed : is_bundle bundle ≡ true
  pub few : length bundle ≤ 64
  pub widths : All IsWidth (flat_map (λ entry. type_widths entry.0) bundle)

entries_typed : (known : Known) (kept : List (Val × TypeWord)) → AllByRecursion (λ used. IsValueType used.1) kept → is_bundle (map (kept_entry known) kept) ≡ true
entries_typed known [] read = refl
entries_typed known (used ∷ kept) read =
    and_from (is_first_class (type_of used.1) && is_value (used_operand known used)) (is_bundle (map (kept_entry known) kept))
    (and_from (is_first_class (type_of used.1)) (is_value (used_operand known used)) (first_class used.1 read.0) (is_value_in known.values used.1 used.0))
    (entries_typed known kept read.1)

entries_widths : (known : Known) (kept : List (Val × TypeWord)) → AllByRecursion (λ used. IsValueType used.1) kept
    → All IsWidth (flat_map (λ entry. type_widths entry.0) (map (kept_entry known) kept))
entries_widths known [] read = All-nil IsWidth
entries_widths known (used ∷ kept) read =
    All-append IsWidth (type_widths (type_of used.1)) (flat_map (λ (entry : Ty × Operand). type_widths entry.0) (map (kept_entry known) kept))
    (type_width used.1 read.0) (entries_widths known kept read.1)

pub good_bundle : (known : Known) (kept : List (Val × TypeWord)) → IsReadBundle kept → IsGoodBundle (map (kept_entry known) kept)
good_bundle known kept read =
    let typed = recursion_from_All (λ (used : Val × TypeWord). IsValueType used.1) kept read.typed in
    record {
      typed = entries_typed known kept typed;
      few = (let few = read.few in omega (arith, few, length-map kept (kept_entry known)));
      widths = entries_widths known kept typed;
    }

-- ---- what a call keeps of it

kept_if : (leaf : Bool) (kept : List (Val × TypeWord)) → IsReadBundle kept → IsReadBundle (if leaf then [] else kept)
kept_if true kept read = record { typed = All-nil (λ (used : Val × TypeWord). IsValueType used.1); few = omega arith }
kept_if false kept read = read

pub kept_read : (made : Called) → IsReadBundle made.kept → IsReadBundle (kept_by made)
kept_read made read = kept_if (is_leaf_name made.callee) made.kept read

-- a leaf is one of four names
leaf_external : (known : Known) (name : List ℕ) → is_leaf (external_callee known name) ≡ true → is_leaf_name name ≡ true
leaf_external known name leaf = by (bytes_eq name (codes "print_i64")) (bytes_eq name (codes "read_i64")) (bytes_eq name (codes "task_start"))
    (bytes_eq name (codes "gc.safepoint_poll")) (bytes_eq name (codes "gc_check")) (bytes_eq name (codes "gc_same")) leaf
  where
    by : (print read start poll check same : Bool)
        → is_leaf (if print then callees.Print else if read then callees.Read else if start then callees.TaskStart else if poll then callees.Poll
        else if check then callees.Check else if same then callees.Same else callees.New (number_in known.layouts (drop 7 name))) ≡ true
        → (print || read || check || same) ≡ true
    by true read start poll check same is = refl
    by false true start poll check same is = refl
    by false false true poll check same is = absurd (let bad : false ≡ true = is in cc)
    by false false false true check same is = absurd (let bad : false ≡ true = is in cc)
    by false false false false true same is = refl
    by false false false false false true is = refl
    by false false false false false false is = absurd (let bad : false ≡ true = is in cc)

leaf_at : (known : Known) (name : List ℕ) (place : Option ℕ) → is_leaf (callee_at known name place) ≡ true → is_leaf_name name ≡ true
leaf_at known name None leaf = leaf_external known name leaf
leaf_at known name (Some place) leaf = absurd (let bad : false ≡ true = leaf in cc)

pub leaf_keeps_none : (known : Known) (made : Called) → is_leaf (callee_of known made.callee) ≡ true → map (kept_entry known) (kept_by made) ≡ []
leaf_keeps_none known made leaf =
    ap (λ (spelled : Bool). map (kept_entry known) (if spelled then [] else made.kept)) (leaf_at known made.callee (place_in known.functions made.callee) leaf)

-- ---- the functions that a line names are none of its bundle's

bundle_over : (bundle : List (Ty × Operand)) → is_bundle bundle ≡ true → functions_in (keeping bundle (over [])) ≡ []
bundle_over [] good = refl
bundle_over ((ty, operands.Value value) ∷ bundle) good = bundle_over bundle (second_true (is_first_class ty && true) (is_bundle bundle) good)
bundle_over ((ty, operands.Int number) ∷ bundle) good = bundle_over bundle (second_true (is_first_class ty && true) (is_bundle bundle) good)
bundle_over ((ty, operands.Null) ∷ bundle) good = bundle_over bundle (second_true (is_first_class ty && true) (is_bundle bundle) good)
bundle_over ((ty, operands.Fun func) ∷ bundle) good = absurd (none (is_first_class ty) good)
  where
    none : (b : Bool) → ((b && false) && is_bundle bundle) ≡ true → ⊥
    none true e = let bad : false ≡ true = e in cc
    none false e = let bad : false ≡ true = e in cc

named_over : (bundle : List (Ty × Operand)) → is_bundle bundle ≡ true → (os : List Operand) → functions_in (keeping bundle (over os)) ≡ functions_in (over os)
named_over bundle good [] = bundle_over bundle good
named_over bundle good (operands.Value value ∷ os) = named_over bundle good os
named_over bundle good (operands.Int number ∷ os) = named_over bundle good os
named_over bundle good (operands.Null ∷ os) = named_over bundle good os
named_over bundle good (operands.Fun func ∷ os) = ap (λ (named : List ℕ). func.0 ∷ named) (named_over bundle good os)

pub named_same : (bundle : List (Ty × Operand)) → is_bundle bundle ≡ true → (result : Option (List ℕ)) (op : Op) (ty : Ty) (os : List Operand)
    → functions_in (keeping bundle (instruction result op ty os [])) ≡ functions_in (instruction result op ty os [])
named_same bundle good result (ops.Call (callees.Fun func) types) ty os = ap (λ (named : List ℕ). func.0 ∷ named) (named_over bundle good os)
named_same bundle good result (ops.Call callee types) ty os = named_over bundle good os
named_same bundle good result (ops.Statepoint id (callees.Fun func) types) ty os = ap (λ (named : List ℕ). func.0 ∷ named) (named_over bundle good os)
named_same bundle good result (ops.Statepoint id callee types) ty os = named_over bundle good os
named_same bundle good result op ty os = named_over bundle good os
