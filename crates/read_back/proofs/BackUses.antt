-- Each value that a printed line uses is what is printed of an operand, which fits the type that the line asks of it.
use Rattle.std.proofs.Common.{◌≡◌, ℕ, Bool, true, false, if◌then◌else◌, List, [], ◌∷◌, ◌++◌, map, length, drop, replicate, refl, sym, subst, arith}
use Rattle.std.specs.Prelude.{Option, take, filter_map}
use Rattle.std.specs.List.{AllByRecursion, AllZip, list_all, zip}
use Rattle.std.proofs.lemmas.List.Elements.{All-from_recursion, recursion_from_All}
use Rattle.sp_ids.specs.declared.ids.BlockId.{BlockId}
use Rattle.ir_ast.specs.declared.modules.Form.{Form}
use Rattle.ir_ast.specs.declared.types.Ty.{Ty}
use Rattle.ir_ast.specs.declared.types.Ty.TheVariants as tys
use Rattle.ir_ast.specs.declared.ops.Op.{Op}
use Rattle.ir_ast.specs.declared.ops.Op.TheVariants as ops
use Rattle.ir_ast.specs.declared.ops.Elem.{Elem}
use Rattle.ir_ast.specs.declared.ops.Elem.TheVariants as elements
use Rattle.ir_ast.specs.declared.ops.Operand.{Operand}
use Rattle.ir_ast.specs.declared.ops.Operand.TheVariants as operands
use Rattle.ir_ast.specs.declared.ops.Callee.{Callee}
use Rattle.ir_ast.specs.Insts.{Instruction}
use Rattle.ir_ast.specs.Types.{is_void, is_integer, is_answer}
use Rattle.ir_ast.specs.Operands.{is_value}
use Rattle.ir_ast.specs.Lines.{Has, IsRelocated}
use Rattle.ir_ast.specs.Widths.{IsWidth, operator_widths}
use Rattle.ir_ast.specs.Values.{value_types}
use Rattle.ir_ast.specs.Faults.TypeClash.{Fits}
use Rattle.ir_printer.specs.Names.{Names}
use Rattle.ir_printer.specs.Operands.{operand_at}
use Rattle.ir_printer.specs.Calls.{callee_name}
use Rattle.line_parts.specs.Types.{TypeWord}
use Rattle.line_parts.specs.Types as types
use Rattle.line_tokens.specs.declared.words.Binary.TheVariants as binaries
use Rattle.line_parts.specs.Lists.{Given}
use Rattle.line_parts.specs.Parts.{Val}
use Rattle.ir_lines.specs.Statements.{Statement, switch_end, is_leaf_name}
use Rattle.ir_lines.specs.Parts.{uses, passed_value, entry_use, live_use, token_use, index_use}
use Rattle.read_back.specs.Said.{word_of, width_in, value_says, passed_says, kept_says, call_says, value_at, entry_says, binary_says, number_says, token_says, step_says, statepoint_says, gc_relocate_says, case_says, return_says, operator_says}
use Rattle.read_back.proofs.BackLines.{at, integer-word, condition-is, one_given, two_given, three_given}
use Rattle.read_back.proofs.BackLists.{each_given, Passes}
use Rattle.read_back.proofs.BackBlocks.{all_append}
use Rattle.read_back.proofs.BackNames.{Good, IsKept}
use Rattle.read_back.proofs.BackInsts.{IsPrintedIn, WidthsOf, good_zip, same_good, one_width, pointer_width, passing, guards, kept_of, first_of}
use Rattle.read_back.proofs.Fronts.{zip_take}

pub record IsUse (names : Names) (used : Val × TypeWord) : Type 0 where
  pub ty : Ty
  pub operand : Operand
  pub good : Good names operand ty
  pub is : (value_says names ty operand, word_of ty) ≡ used

abbrev pub Uses : Names → Statement → Type 0
Uses names s = AllByRecursion (IsUse names) (uses s)

use_of : (names : Names) (ty : Ty) (o : Operand) → Good names o ty → IsUse names (value_says names ty o, word_of ty)
use_of names ty o g = record { ty = ty; operand = o; good = g; is = refl }

integer_use : (names : Names) (ty : Ty) (o : Operand) → Good names o ty → is_integer ty ≡ true → IsUse names (value_says names ty o, types.Int (width_in ty))
integer_use names ty o g is = subst (λ (w : TypeWord). IsUse names (value_says names ty o, w)) (sym (integer-word ty is)) (use_of names ty o g)

-- ---- the lines by their forms

all_good : (names : Names) (inst : Instruction) → list_all is_value inst.operands ≡ true → WidthsOf inst.ty
    → AllZip (Fits (value_types names.func)) inst.operands (replicate (length inst.operands) inst.ty)
    → AllByRecursion (λ o. Good names o inst.ty) inst.operands
all_good names inst values width fit =
    each_given (Good names) inst.ty inst.operands (same_good names inst (length inst.operands) refl values width fit)

-- of two integers
binary_uses : (names : Names) (inst : Instruction) → Has true is_integer 2 0 inst → WidthsOf inst.ty
    → AllZip (Fits (value_types names.func)) inst.operands (replicate (length inst.operands) inst.ty) → Uses names (binary_says names binaries.Add inst)
binary_uses names inst has width fit =
    let two = two_given (Good names) inst.operands inst.ty inst.ty (same_good names inst 2 has.operand_count has.values width fit) in
    (integer_use names inst.ty (operand_at inst 0) two.first has.type, (integer_use names inst.ty (operand_at inst 1) two.second has.type, tt))

convert_uses : (names : Names) (inst : Instruction) → Has true is_integer 1 0 inst → WidthsOf inst.ty
    → AllZip (Fits (value_types names.func)) inst.operands (replicate (length inst.operands) inst.ty)
    → IsUse names (value_at names inst.ty inst 0, types.Int (width_in inst.ty))
convert_uses names inst has width fit =
    let one = one_given (Good names) inst.operands inst.ty (same_good names inst 1 has.operand_count has.values width fit) in
    integer_use names inst.ty (operand_at inst 0) one.first has.type

entries_uses : (names : Names) (ty : Ty) (os : List Operand) (ls : List BlockId) → AllByRecursion (λ o. Good names o ty) os
    → AllByRecursion (IsUse names) (map (entry_use (word_of ty)) (map (entry_says names ty) (zip os ls)))
entries_uses names ty [] ls good = tt
entries_uses names ty (o ∷ os) [] good = tt
entries_uses names ty (o ∷ os) (l ∷ ls) good = (use_of names ty o good.0, entries_uses names ty os ls good.1)

cases_uses : (names : Names) (ty : Ty) (os : List Operand) (ls : List BlockId) → is_integer ty ≡ true
    → AllByRecursion (λ o. Good names o ty) os → AllByRecursion (Uses names) (map (case_says names ty) (zip os ls) ++ switch_end ∷ [])
cases_uses names ty [] ls is good = (tt, tt)
cases_uses names ty (o ∷ os) [] is good = (tt, tt)
cases_uses names ty (o ∷ os) (l ∷ ls) is good = ((integer_use names ty o good.0 is, tt), cases_uses names ty os ls is good.1)

index_widths : (elem : Elem) (width : ℕ) (place : Option ℕ) → AllByRecursion IsWidth (operator_widths (ops.Gep elem width place)) → WidthsOf (tys.Int width)
index_widths (elements.Int w) width place h = All-from_recursion IsWidth (width ∷ []) h.1
index_widths elements.Ptr width place h = All-from_recursion IsWidth (width ∷ []) h
index_widths (elements.Layout l) width place h = All-from_recursion IsWidth (width ∷ []) h

step_uses : (names : Names) (elem : Elem) (width : ℕ) (place : Option ℕ) (inst : Instruction)
    → AllZip (Good names) inst.operands (tys.Ptr ∷ tys.Int width ∷ []) → Uses names (step_says names elem width place inst)
step_uses names elem width place inst good = by elem
  where
    both : AllByRecursion (IsUse names) ((value_at names tys.Ptr inst 0, types.Managed) ∷ (value_at names (tys.Int width) inst 1, types.Int width) ∷ [])
    both =
        let two = two_given (Good names) inst.operands tys.Ptr (tys.Int width) good in
        (use_of names tys.Ptr (operand_at inst 0) two.first, (use_of names (tys.Int width) (operand_at inst 1) two.second, tt))

    by : (elem : Elem) → Uses names (step_says names elem width place inst)
    by (elements.Int w) = both
    by elements.Ptr = both
    by (elements.Layout l) = both

return_uses : (names : Names) (ty : Ty) (inst : Instruction) → is_answer ty ≡ true → length inst.operands ≡ (if is_void ty then 0 else 1)
    → AllByRecursion (λ o. Good names o ty) inst.operands → Uses names (return_says names ty inst)
return_uses names tys.Void inst answer count good = tt
return_uses names (tys.Int w) inst answer count good =
    (use_of names (tys.Int w) (operand_at inst 0) (first_of inst.operands operands.Null (λ o. Good names o (tys.Int w)) (omega arith) good).0, tt)
return_uses names tys.Ptr inst answer count good =
    (use_of names tys.Ptr (operand_at inst 0) (first_of inst.operands operands.Null (λ o. Good names o tys.Ptr) (omega arith) good).0, tt)
return_uses names tys.Token inst answer count good = absurd (let bad : false ≡ true = answer in cc)

-- ---- calls and statepoints

one_use : (names : Names) (o : Operand) (ty : Ty) → is_value o ≡ true → Passes names o ty → IsUse names (value_says names ty o, word_of ty)
one_use names o ty is p = use_of names ty o (record { fits = p.fits; value = is; widths = p.widths })

passed_uses : (names : Names) (os : List Operand) (ts : List Ty) → AllZip (Passes names) os ts
    → AllByRecursion (IsUse names) (filter_map passed_value (map (λ (argument : Ty × Operand). passed_says names argument.0 argument.1) (zip ts os)))
passed_uses names [] [] p = tt
passed_uses names [] (t ∷ ts) p = tt
passed_uses names (o ∷ os) [] p = tt
passed_uses names (operands.Value v ∷ os) (t ∷ ts) p = (one_use names (operands.Value v) t refl p.0, passed_uses names os ts p.1)
passed_uses names (operands.Int n ∷ os) (t ∷ ts) p = (one_use names (operands.Int n) t refl p.0, passed_uses names os ts p.1)
passed_uses names (operands.Null ∷ os) (t ∷ ts) p = (one_use names operands.Null t refl p.0, passed_uses names os ts p.1)
passed_uses names (operands.Fun f ∷ os) (t ∷ ts) p = passed_uses names os ts p.1

live_uses : (names : Names) (os : List Operand) → AllByRecursion (λ (o : Operand). Good names o tys.Ptr) os
    → AllByRecursion (IsUse names) (map live_use (map (value_says names tys.Ptr) os))
live_uses names [] good = tt
live_uses names (o ∷ os) good = (use_of names tys.Ptr o good.0, live_uses names os good.1)

kept_uses : (names : Names) (bundle : List (Ty × Operand)) → AllByRecursion (IsKept names) bundle → AllByRecursion (IsUse names) (map (kept_says names) bundle)
kept_uses names [] kept = tt
kept_uses names (entry ∷ bundle) kept = (use_of names entry.0 entry.1 kept.0.good, kept_uses names bundle kept.1)

-- all of them, or none
if_kept : (P : Val × TypeWord → Type 0) (none : Bool) (kept : List (Val × TypeWord)) → AllByRecursion P kept → AllByRecursion P (if none then [] else kept)
if_kept P true kept all = tt
if_kept P false kept all = all

call_uses : {of : Form} (names : Names) (callee : Callee) (ts : List Ty) (inst : Instruction) → IsPrintedIn of names (ops.Call callee ts) inst → Uses names (call_says names callee ts inst)
call_uses names callee ts inst p =
    let said : List (Val × TypeWord) = map (kept_says names) inst.bundle in
    all_append (IsUse names) (filter_map passed_value (map (λ (argument : Ty × Operand). passed_says names argument.0 argument.1) (zip ts inst.operands)))
    (if is_leaf_name (callee_name names callee) then [] else said)
    (passed_uses names inst.operands ts (passing names callee ts inst p).passes)
    (if_kept (IsUse names) (is_leaf_name (callee_name names callee)) said (kept_uses names inst.bundle (kept_of names (ops.Call callee ts) inst p p.line.bundle)))

statepoint_uses : {of : Form} (names : Names) (id : ℕ) (callee : Callee) (ts : List Ty) (inst : Instruction)
    → IsPrintedIn of names (ops.Statepoint id callee ts) inst → Uses names (statepoint_says names id callee ts inst)
statepoint_uses names id callee ts inst p =
    let g = guards names id callee ts inst p in
    let live : List Operand = drop (length ts) inst.operands in
    let said : List (Ty × Operand) → List Given = map (λ (argument : Ty × Operand). passed_says names argument.0 argument.1) in
    let lived : List (Val × TypeWord) = map live_use (map (value_says names tys.Ptr) live) in
    all_append (IsUse names) (filter_map passed_value (said (zip ts inst.operands)) ++ lived) (map (kept_says names) inst.bundle)
    (all_append (IsUse names) (filter_map passed_value (said (zip ts inst.operands))) lived
    (subst (λ (z : List (Ty × Operand)). AllByRecursion (IsUse names) (filter_map passed_value (said z))) (zip_take ts inst.operands)
    (passed_uses names (take (length ts) inst.operands) ts g.passes))
    (live_uses names live g.live))
    (kept_uses names inst.bundle (kept_of names (ops.Statepoint id callee ts) inst p p.line.bundle))

index_width : WidthsOf (tys.Int 32)
index_width = All-from_recursion IsWidth (32 ∷ []) ((omega arith, omega arith), tt)

relocate_uses : (names : Names) (inst : Instruction) → IsRelocated inst.operands → AllZip (Good names) inst.operands (tys.Token ∷ tys.Int 32 ∷ tys.Int 32 ∷ [])
    → Uses names (gc_relocate_says names inst)
relocate_uses names inst (base, derived, (token, are)) good =
    let own = subst (λ (os : List Operand). AllZip (Good names) os (tys.Token ∷ tys.Int 32 ∷ tys.Int 32 ∷ [])) are good in
    subst (λ (os : List Operand). AllByRecursion (IsUse names) (token_use (token_says names (at os 0)) ∷ index_use (number_says 32 (at os 1)) ∷ index_use (number_says 32 (at os 2)) ∷ [])) (sym are) (
      use_of names tys.Token (operands.Value token) own.0,
      (use_of names (tys.Int 32) (operands.Int base) own.1.0, (use_of names (tys.Int 32) (operands.Int derived) own.1.1.0, tt)),
    )

-- ---- any instruction

pub inst_uses : {of : Form} (names : Names) (op : Op) (inst : Instruction) → IsPrintedIn of names op inst → AllByRecursion (Uses names) (operator_says names op inst)
inst_uses names (ops.Icmp pred) inst p =
    let two = two_given (Good names) inst.operands inst.ty inst.ty (same_good names inst 2 p.line.operand_count p.line.values p.widths p.fits) in
    ((use_of names inst.ty (operand_at inst 0) two.first, (use_of names inst.ty (operand_at inst 1) two.second, tt)), tt)
inst_uses names (ops.Trunc to) inst p = ((convert_uses names inst p.line p.widths p.fits, tt), tt)
inst_uses names (ops.Zext to) inst p = ((convert_uses names inst p.line p.widths p.fits, tt), tt)
inst_uses names (ops.Sext to) inst p = ((convert_uses names inst p.line p.widths p.fits, tt), tt)
inst_uses names ops.Select inst p =
    let three = three_given (Good names) inst.operands (tys.Int 1) inst.ty inst.ty
    (good_zip names inst.operands (tys.Int 1 ∷ inst.ty ∷ inst.ty ∷ []) p.fits p.line.values (one_width, (p.widths, (p.widths, tt)))) in (
      (
        use_of names (tys.Int 1) (operand_at inst 0) three.first,
        (use_of names inst.ty (operand_at inst 1) three.second, (use_of names inst.ty (operand_at inst 2) three.third, tt)),
      ),
      tt,
    )
inst_uses names ops.Phi inst p =
    (entries_uses names inst.ty inst.operands inst.labels (all_good names inst p.line.0.values p.widths p.fits), tt)
inst_uses names (ops.Gep elem width place) inst p = (
  step_uses names elem width place inst
      (good_zip names inst.operands (tys.Ptr ∷ tys.Int width ∷ []) p.fits p.line.0.values
      (pointer_width, (index_widths elem width place (recursion_from_All IsWidth (operator_widths (ops.Gep elem width place)) p.own_widths), tt))),
  tt,
)
inst_uses names ops.Load inst p =
    let one = one_given (Good names) inst.operands tys.Ptr (good_zip names inst.operands (tys.Ptr ∷ []) p.fits p.line.values (pointer_width, tt)) in
    ((use_of names tys.Ptr (operand_at inst 0) one.first, tt), tt)
inst_uses names ops.Store inst p =
    let two = two_given (Good names) inst.operands inst.ty tys.Ptr
    (good_zip names inst.operands (inst.ty ∷ tys.Ptr ∷ []) p.fits p.line.values (p.widths, (pointer_width, tt))) in
    ((use_of names inst.ty (operand_at inst 0) two.first, (use_of names tys.Ptr (operand_at inst 1) two.second, tt)), tt)
inst_uses names (ops.Call callee ts) inst p = (call_uses names callee ts inst p, tt)
inst_uses names (ops.Statepoint id callee ts) inst p = (statepoint_uses names id callee ts inst p, tt)
inst_uses names ops.GcResult inst p =
    let one = one_given (Good names) inst.operands tys.Token (good_zip names inst.operands (tys.Token ∷ []) p.fits p.line.0.values (pointer_width, tt)) in
    let starts = p.line.1 in (
      (
        subst (λ (os : List Operand). IsUse names (token_use (token_says names (at os 0)))) (sym starts.1)
            (use_of names tys.Token (operands.Value starts.0) (subst (λ (os : List Operand). Good names (at os 0) tys.Token) starts.1 one.first)),
        tt,
      ),
      tt,
    )
inst_uses names ops.GcRelocate inst p = (
  relocate_uses names inst p.line.1
      (good_zip names inst.operands (tys.Token ∷ tys.Int 32 ∷ tys.Int 32 ∷ []) p.fits p.line.0.values (pointer_width, (index_width, (index_width, tt)))),
  tt,
)
inst_uses names ops.Br inst p = (tt, tt)
inst_uses names ops.CondBr inst p =
    let one = one_given (Good names) inst.operands inst.ty (same_good names inst 1 p.line.operand_count p.line.values p.widths p.fits) in
    let given : Good names (operand_at inst 0) (tys.Int 1) = subst (λ (t : Ty). Good names (operand_at inst 0) t) (sym (condition-is inst.ty p.line.type)) one.first in
    ((use_of names (tys.Int 1) (operand_at inst 0) given, tt), tt)
inst_uses names ops.Switch inst p =
    let parts = first_of inst.operands operands.Null (λ o. Good names o inst.ty) p.line.1 (all_good names inst p.line.0.values p.widths p.fits) in (
      (integer_use names inst.ty (operand_at inst 0) parts.0 p.line.0.type, tt),
      cases_uses names inst.ty (drop 1 inst.operands) (drop 1 inst.labels) p.line.0.type parts.1,
    )
inst_uses names ops.Ret inst p =
    (return_uses names inst.ty inst p.line.type p.line.operand_count (all_good names inst p.line.values p.widths p.fits), tt)
inst_uses names ops.Unreachable inst p = (tt, tt)
inst_uses names _ inst p = (binary_uses names inst p.line p.widths p.fits, tt)
