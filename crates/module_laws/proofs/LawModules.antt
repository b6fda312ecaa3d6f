-- The module of faultless lines that were read: its names, its layouts and its limits.
use Rattle.std.proofs.Common.{◌≡◌, ◌∙◌, ℕ, ◌<◌, ◌≤◌, true, false, not, List, [], ◌∷◌, map, length, refl, ap, sym, subst, arith, length-append}
use Rattle.std.specs.Prelude.{flat_map}
use Rattle.std.specs.List.{All, sum_by}
use Rattle.std.proofs.lemmas.List.{length-map}
use Rattle.std.proofs.lemmas.List.Sums.{sum_by-cons}
use Rattle.std.proofs.lemmas.List.Folds.{flat_map-map}
use Rattle.std.proofs.lemmas.List.Elements.{All-map, All-contains}
use Rattle.list_laws.proofs.Contents.{all_contained}
use Rattle.ir_ast.specs.Blocks.{BasicBlock}
use Rattle.ir_ast.specs.Funcs.{Function, instructions_of}
use Rattle.ir_ast.specs.Layouts.{ObjectLayout}
use Rattle.ir_ast.specs.Values as defs
use Rattle.ir_ast.specs.Lists.{Distinct}
use Rattle.ir_ast.specs.Faults.NameTwice.{NamesAreDistinct}
use Rattle.ir_ast.specs.Faults.TypeClash.{FunctionIsTyped, ModuleIsTyped}
use Rattle.ir_ast.specs.Faults.BadLayout.{LayoutsHaveFields}
use Rattle.ir_ast.specs.Faults.Reserved.{IsExternalName, FunctionNamesAreFree}
use Rattle.ir_ast.specs.declared.modules.Form.{Form}
use Rattle.ir_cfg.specs.Limits.{IsName, IsWithinLimits}
use Rattle.line_parts.specs.Types.{TypeWord}
use Rattle.ir_lines.specs.Statements.{Line}
use Rattle.ir_lines.specs.Sections.{Definition, LayoutLine, BlockLines, layouts_of, definitions_of, blocks_of, arguments_named}
use Rattle.ir_lines.specs.Modules.{known_of, cell_of, layout_of, argument_of, block_of, function_of}
use Rattle.ir_resolve.specs.TextFaults.{bad_layout, reserved}
use Rattle.ir_resolve.specs.FaultSet.{HasNoResolvedFault, of_text}
use Rattle.ir_lines.specs.Faults.BadLayout.{is_bad_layout, are_cells}
use Rattle.ir_lines.specs.Faults.Reserved.{defines_external}
use Rattle.ir_lines.specs.InBody.{InText}
use Rattle.ir_lines.specs.ReadLines.{IsReadLines, IsReadHead, SaysRead, instruction_count}
use Rattle.module_laws.proofs.LawBodies.{body_insts}
use Rattle.module_laws.proofs.LawHeads.{SaysOf, says-defined, says-layouts, layouts-distinct, definitions-distinct, values-distinct, blocks-distinct}
use Rattle.module_laws.proofs.LawValues.{few_insts}
use Rattle.module_laws.proofs.LawLines.{InLaw, made, names-are, all_lines}
use Rattle.module_laws.proofs.LawTyped.{content}
use Rattle.module_laws.proofs.LawFunctions.{function_typed}
use Rattle.ir_resolve.proofs.Booleans.{not-true}
use Rattle.ir_lines.proofs.TableLemmas.{length-arguments}

-- ---- each function

pub each_function : (form : Form) (lines : List Line) → IsReadLines form lines → HasNoResolvedFault form lines → (P : Function → Type 0)
    → ((func : Definition) → InLaw form lines func → P (made lines func)) → All P (content form lines).funcs
each_function form lines read none P f =
    All-map P (λ (func : Definition). function_of (known_of lines func) func) (definitions_of lines)
    (all_contained (λ (func : Definition). P (made lines func)) (definitions_of lines) (λ func inside. f func (record { read = read; none = none; defined = inside })))

-- ---- layouts

pub layouts_filled : (form : Form) (lines : List Line) → HasNoResolvedFault form lines → LayoutsHaveFields (content form lines)
layouts_filled form lines none =
    All-map (λ (one : ObjectLayout). 0 < length one.fields) layout_of (layouts_of lines)
    (says-layouts (λ one. 0 < length (map cell_of one.fields)) (λ s. is_bad_layout s ≡ false) (λ n name fields e. filled fields e) lines
    (all_lines (λ (l : Line). is_bad_layout l.says ≡ false) lines (λ l inside.
    not-true (is_bad_layout l.says) (λ bad.
    let told : InText lines l.number is_bad_layout = record { found = l; inside = inside; number = refl; faulty = bad } in
    none l.number 13 (of_text (bad_layout told))))))
  where
    filled : (fields : List TypeWord) → not (are_cells fields) ≡ false → 0 < length (map cell_of fields)
    filled [] e = absurd (let bad : true ≡ false = e in cc)
    filled (f ∷ fs) e = omega arith

pub layouts_typed : (form : Form) (lines : List Line) → IsReadLines form lines → All (λ one. IsName one.name) (content form lines).layouts
layouts_typed form lines read =
    All-map (λ (one : ObjectLayout). IsName one.name) layout_of (layouts_of lines)
    (says-layouts (λ one. IsName one.name) SaysRead (λ n name fields e. e.0) lines read.says)

pub layouts_short : (form : Form) (lines : List Line) → IsReadLines form lines → All (λ one. length one.name ≤ 4096) (content form lines).layouts
layouts_short form lines read =
    All-map (λ (one : ObjectLayout). length one.name ≤ 4096) layout_of (layouts_of lines)
    (says-layouts (λ one. length one.name ≤ 4096) SaysRead (λ n name fields e. e.1) lines read.says)

pub layouts_few : (form : Form) (lines : List Line) → IsReadLines form lines → All (λ one. length one.fields ≤ 64) (content form lines).layouts
layouts_few form lines read =
    All-map (λ (one : ObjectLayout). length one.fields ≤ 64) layout_of (layouts_of lines)
    (says-layouts (λ one. length (map cell_of one.fields) ≤ 64) SaysRead (λ n name fields e. (let few = e.2 in omega (arith, length-map fields cell_of))) lines read.says)

-- ---- heads

pub head_of_function : (form : Form) (lines : List Line) (func : Definition) → InLaw form lines func → IsReadHead func.answer func.name func.arguments
head_of_function form lines func law =
    (All-contains (SaysOf SaysRead) (definitions_of lines) func (says-defined SaysRead lines law.read.says) law.defined).head

pub limits_kept : (form : Form) (lines : List Line) → IsReadLines form lines → HasNoResolvedFault form lines → IsWithinLimits (content form lines)
limits_kept form lines read none = record {
  layouts = (let few = read.few_layouts in omega (arith, length-map (layouts_of lines) layout_of));
  functions = (let few = read.few_functions in omega (arith, length-map (definitions_of lines) (λ (func : Definition). function_of (known_of lines func) func)));
  layout_names = layouts_short form lines read;
  function_names = each_function form lines read none (λ func. length func.name ≤ 4096) (λ func law. (head_of_function form lines func law).short);
  fields = layouts_few form lines read;
  arguments = each_function form lines read none (λ func. length func.args ≤ 64) (λ func law.
      (let few = (head_of_function form lines func law).few in omega (arith, length-map (arguments_named func.line [] func.arguments) argument_of, length-arguments func.line [] func.arguments)));
}

-- ---- names

names_mapped : {A B : Type 0} (f : A → B) (of_new : B → List ℕ) (of_old : A → List ℕ) → ((x : A) → of_new (f x) ≡ of_old x) → (xs : List A)
    → map of_new (map f xs) ≡ map of_old xs
names_mapped f of_new of_old same [] = refl
names_mapped f of_new of_old same (x ∷ xs) = ap (λ (n : List ℕ). n ∷ map of_new (map f xs)) (same x) ∙ ap (λ (ns : List (List ℕ)). of_old x ∷ ns) (names_mapped f of_new of_old same xs)

pub names_once : (form : Form) (lines : List Line) → IsReadLines form lines → HasNoResolvedFault form lines → NamesAreDistinct (content form lines)
names_once form lines read none = record {
  layouts = subst Distinct (sym (names_mapped layout_of (λ (one : ObjectLayout). one.name) (λ (one : LayoutLine). one.name) (λ x. refl) (layouts_of lines))) (layouts-distinct form lines none);
  functions = subst Distinct (sym (names_mapped (λ (func : Definition). function_of (known_of lines func) func) (λ (one : Function). one.name) (λ (one : Definition). one.name) (λ x. refl) (definitions_of lines)))
      (definitions-distinct form lines none);
  labels = each_function form lines read none (λ func. Distinct (map (λ block. block.name) func.blocks)) (λ func law.
      subst Distinct (sym (names_mapped (block_of (known_of lines func)) (λ (one : BasicBlock). one.name) (λ (one : BlockLines). one.name) (λ x. refl) (blocks_of func)))
      (blocks-distinct form lines none func law.defined));
  values = each_function form lines read none (λ func. Distinct (map defs.definition_name (defs.definitions_of func))) (λ func law.
      subst Distinct (sym (names-are lines func)) (values-distinct form lines none func law.defined));
}

pub names_free : (form : Form) (lines : List Line) → IsReadLines form lines → HasNoResolvedFault form lines → FunctionNamesAreFree (content form lines)
names_free form lines read none =
    each_function form lines read none (λ func. ¬ (IsExternalName func.name)) (λ func law bad. none func.line 14 (of_text (reserved (defines_external func law.defined refl bad))))

-- ---- how many instructions

total : (lines : List Line) (defs : List Definition)
    → length (flat_map (λ (func : Definition). instructions_of (function_of (known_of lines func) func).blocks) defs) ≤ sum_by (λ func. instruction_count func.body) defs
total lines [] = omega arith
total lines (d ∷ ds) =
    let here : length (instructions_of (function_of (known_of lines d) d).blocks) ≤ instruction_count d.body =
    (let few = few_insts (known_of lines d) d.body in omega (arith, ap length (body_insts (known_of lines d) d))) in
    let more = total lines ds in
    omega (
      arith,
      length-append (instructions_of (function_of (known_of lines d) d).blocks) (flat_map (λ (func : Definition). instructions_of (function_of (known_of lines func) func).blocks) ds),
      sum_by-cons (λ (func : Definition). instruction_count func.body) d ds,
    )

pub total_made : (form : Form) (lines : List Line)
    → length (flat_map (λ func. instructions_of func.blocks) (content form lines).funcs) ≤ sum_by (λ func. instruction_count func.body) (definitions_of lines)
total_made form lines =
    let all = total lines (definitions_of lines) in
    omega (arith, ap length (flat_map-map (λ (func : Function). instructions_of func.blocks) (λ (func : Definition). function_of (known_of lines func) func) (definitions_of lines)))

-- ---- its types

pub module_typed : (form : Form) (lines : List Line) → IsReadLines form lines → HasNoResolvedFault form lines → ModuleIsTyped (content form lines)
module_typed form lines read none =
    each_function form lines read none (λ func. FunctionIsTyped (Rattle.ir_ast.specs.Scope.scope_of (content form lines) func) func) (λ func law. function_typed form lines func law)
