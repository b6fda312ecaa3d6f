-- The lines of a statepoint group: a statepoint, a result and a relocate.
use Rattle.std.proofs.Common.{◌≡◌, ◌∙◌, ℕ, ◌^◌, ◌<◌, true, List, [], ◌∷◌, ◌++◌, map, length, refl, ap, sym, subst, arith}
use Rattle.std.specs.Prelude.{Some, take, drop}
use Rattle.std.specs.List.{AllByRecursion, AllZip, zip}
use Rattle.std.proofs.lemmas.List.{nil_from_length, take-append-drop}
use Rattle.std.proofs.lemmas.List.Elements.{All-from_recursion}
use Rattle.sp_ids.specs.declared.ids.ValueId.{ValueId}
use Rattle.sp_ids.specs.Numbers.{signed}
use Rattle.ir_ast.specs.declared.types.Ty.{Ty}
use Rattle.ir_ast.specs.declared.types.Ty.TheVariants as tys
use Rattle.ir_ast.specs.declared.ops.Op.TheVariants as ops
use Rattle.ir_ast.specs.declared.ops.Operand.{Operand}
use Rattle.ir_ast.specs.declared.ops.Operand.TheVariants as operands
use Rattle.ir_ast.specs.declared.ops.Callee.{Callee}
use Rattle.ir_ast.specs.Insts.{Instruction}
use Rattle.ir_ast.specs.Values.{value_types}
use Rattle.ir_ast.specs.Types.{is_pointer, is_first_class}
use Rattle.ir_ast.specs.Lines.{Has, IsStatepoint, StartsWithToken, IsRelocated}
use Rattle.ir_ast.specs.Widths.{IsWidth}
use Rattle.ir_ast.specs.Faults.TypeClash.{Fits}
use Rattle.ir_printer.specs.Names.{Names}
use Rattle.ir_printer.specs.Operands.{operand_at}
use Rattle.ir_printer.specs.Calls.{callee_name}
use Rattle.line_parts.specs.Lists.{Given}
use Rattle.ir_lines.specs.Statements.{Line}
use Rattle.ir_lines.specs.Parts.{live_use, token_use, index_use}
use Rattle.ir_lines.specs.Modules.{Known, type_of, instruction_said, passed_operand, used_operand, kept_entry, given_type, callee_of, wrapped}
use Rattle.read_back.specs.Said.{word_of, literal_of, result_of, value_says, passed_says, kept_says, token_says, number_says, statepoint_says, gc_result_says, gc_relocate_says}
use Rattle.read_back.proofs.BackLiterals.{literal-back}
use Rattle.read_back.proofs.BackNames.{Setting, Good, IsKept, operand-back}
use Rattle.read_back.proofs.BackLines.{at, by_parts, same-inst, result-is, pointer-is, word-type}
use Rattle.read_back.proofs.BackLists.{Passes, passed_is, NamesAreFree, CalleeBelow, callee-back, kept-back, answer-type}
use Rattle.read_back.proofs.Fronts.{zip_take}

-- ---- statepoints

abbrev IsEntry : Names → Operand → Type 0
IsEntry names operand = Good names operand tys.Ptr

live-back : (names : Names) (known : Known) → Setting names known → (os : List Operand) → AllByRecursion (IsEntry names) os
    → map (used_operand known) (map live_use (map (value_says names tys.Ptr) os)) ≡ os
live-back names known s [] good = refl
live-back names known s (o ∷ os) good =
    ap (λ (x : Operand). x ∷ map (used_operand known) (map live_use (map (value_says names tys.Ptr) os))) (operand-back names known s tys.Ptr o good.0)
    ∙ ap (λ (xs : List Operand). o ∷ xs) (live-back names known s os good.1)

pub statepoint-back : (names : Names) (known : Known) → Setting names known → NamesAreFree names → (id : ℕ) (callee : Callee) (ts : List Ty) (rest : List Line) (inst : Instruction)
    → ops.Statepoint id callee ts ≡ inst.op → IsStatepoint callee ts inst → AllByRecursion (IsKept names) inst.bundle → id < 2 ^ 64 → CalleeBelow names callee
    → AllZip (Passes names) (take (length ts) inst.operands) ts → AllByRecursion (λ (o : Operand). Good names o tys.Ptr) (drop (length ts) inst.operands)
    → instruction_said known rest (statepoint_says names id callee ts inst) ≡ Some inst
statepoint-back names known s free id callee ts rest inst o line kept word below passes entries =
    let said : List (Ty × Operand) → List Given = map (λ (argument : Ty × Operand). passed_says names argument.0 argument.1) in
    let arguments : List Operand = take (length ts) inst.operands in
    let live : List Operand = drop (length ts) inst.operands in
    let lived = map (used_operand known) (map live_use (map (value_says names tys.Ptr) live)) in
    let givens = said (zip ts inst.operands) in
    let same : zip ts inst.operands ≡ zip ts arguments = sym (zip_take ts inst.operands) in
    let p = passed_is names known s arguments ts passes in
    let number = wrapped 64 (literal_of (signed 64 id)) in
    ap (λ (x : Instruction). Some x) (by_parts inst (Some (result_of inst)) (ops.Statepoint number (callee_of known (callee_name names callee)) (map given_type givens)) (type_of (word_of inst.ty))
    (map (passed_operand known) givens ++ lived) [] (map (kept_entry known) (map (kept_says names) inst.bundle))
    (result-is inst.result line.result)
    (ap (λ (n : ℕ). ops.Statepoint n (callee_of known (callee_name names callee)) (map given_type givens)) (literal-back 64 id (omega arith) (omega arith) word)
    ∙ ap (λ (c : Callee). ops.Statepoint id c (map given_type givens)) (callee-back names known s free callee below)
    ∙ ap (ops.Statepoint id callee) (ap (λ (z : List (Ty × Operand)). map given_type (said z)) same ∙ p.1) ∙ o)
    (answer-type inst.ty line.type)
    (ap (λ (z : List (Ty × Operand)). map (passed_operand known) (said z) ++ lived) same
    ∙ ap (λ (os : List Operand). os ++ lived) p.0
    ∙ ap (λ (os : List Operand). arguments ++ os) (live-back names known s live entries)
    ∙ take-append-drop (length ts) inst.operands)
    (sym line.no_labels) (kept-back names known s inst.bundle kept))

-- ---- results and relocates

token-back : (names : Names) (known : Known) → Setting names known → (token : ValueId) → Fits (value_types names.func) (operands.Value token) tys.Token
    → used_operand known (token_use (token_says names (operands.Value token))) ≡ operands.Value token
token-back names known s token fits =
    operand-back names known s tys.Token (operands.Value token) (record { fits = fits; value = refl; widths = All-from_recursion IsWidth [] tt })

pub result-back : (names : Names) (known : Known) → Setting names known → (rest : List Line) (inst : Instruction)
    → ops.GcResult ≡ inst.op → Has true is_first_class 1 0 inst → StartsWithToken inst.operands []
    → AllZip (Fits (value_types names.func)) inst.operands (tys.Token ∷ [])
    → instruction_said known rest (gc_result_says names inst) ≡ Some inst
result-back names known s rest inst o has token fit =
    let fits = (subst (λ (os : List Operand). AllZip (Fits (value_types names.func)) os (tys.Token ∷ [])) token.1 fit).0 in
    same-inst inst (Some (result_of inst)) ops.GcResult (type_of (word_of inst.ty)) (used_operand known (token_use (token_says names (operand_at inst 0))) ∷ []) []
    (result-is inst.result has.result) o (word-type inst.ty has.type)
    (ap (λ (os : List Operand). used_operand known (token_use (token_says names (at os 0))) ∷ []) token.1
    ∙ ap (λ (x : Operand). x ∷ []) (token-back names known s token.0 fits) ∙ sym token.1)
    (sym (nil_from_length inst.labels has.label_count)) has.no_bundle

pub relocate-back : (names : Names) (known : Known) → Setting names known → (rest : List Line) (inst : Instruction)
    → ops.GcRelocate ≡ inst.op → Has true is_pointer 3 0 inst → IsRelocated inst.operands
    → AllZip (Fits (value_types names.func)) inst.operands (tys.Token ∷ tys.Int 32 ∷ tys.Int 32 ∷ [])
    → instruction_said known rest (gc_relocate_says names inst) ≡ Some inst
relocate-back names known s rest inst o has (base, derived, (token, are)) fit =
    let fits = subst (λ (os : List Operand). AllZip (Fits (value_types names.func)) os (tys.Token ∷ tys.Int 32 ∷ tys.Int 32 ∷ [])) are fit in
    let place : ℕ → Operand = λ at_place. used_operand known (index_use (number_says 32 (operands.Int at_place))) in
    same-inst inst (Some (result_of inst)) ops.GcRelocate tys.Ptr (used inst.operands) []
    (result-is inst.result has.result) o (pointer-is inst.ty has.type)
    (ap used are
    ∙ ap (λ (x : Operand). x ∷ place base ∷ place derived ∷ []) (token-back names known s token fits.0)
    ∙ ap (λ (n : ℕ). operands.Value token ∷ operands.Int n ∷ place derived ∷ []) (index base fits.1.0)
    ∙ ap (λ (n : ℕ). operands.Value token ∷ operands.Int base ∷ operands.Int n ∷ []) (index derived fits.1.1.0)
    ∙ sym are)
    (sym (nil_from_length inst.labels has.label_count)) has.no_bundle
  where
    used : List Operand → List Operand
    used os =
        used_operand known (token_use (token_says names (at os 0)))
        ∷ used_operand known (index_use (number_says 32 (at os 1)))
        ∷ used_operand known (index_use (number_says 32 (at os 2))) ∷ []

    index : (n : ℕ) → Fits (value_types names.func) (operands.Int n) (tys.Int 32) → wrapped 32 (literal_of (signed 32 n)) ≡ n
    index n fits =
        let width : fits.0 ≡ 32 = (let e = fits.1 in grind (arith, e)) in
        literal-back 32 n (omega arith) (omega arith) (subst (λ (k : ℕ). n < 2 ^ k) width fits.2)
