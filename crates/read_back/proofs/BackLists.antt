-- Instructions with lists: phis, calls, and switches with their cases.
use Rattle.std.proofs.Common.{◌≡◌, ◌∙◌, ◌≢◌, ℕ, zero, suc, ◌<◌, Bool, true, false, ◌&&◌, inl, inr, if◌then◌else◌, List, [], ◌∷◌, ◌++◌, map, length, replicate, refl, ap, sym, subst, arith, codes}
use Rattle.std.specs.Prelude.{Some, None, filter_map, ⊤, ◌⊎◌}
use Rattle.std.specs.List.{All, AllByRecursion, AllZip, zip}
use Rattle.std.specs.Str.{bytes_eq}
use Rattle.std.proofs.lemmas.Slice.Eq.{bytes_eq-Decides}
use Rattle.sp_ids.specs.declared.ids.BlockId.{BlockId}
use Rattle.sp_ids.specs.declared.ids.FuncId.{FuncId}
use Rattle.ir_ast.specs.declared.types.Ty.{Ty}
use Rattle.ir_ast.specs.declared.types.Ty.TheVariants as tys
use Rattle.ir_ast.specs.declared.ops.Op.TheVariants as ops
use Rattle.ir_ast.specs.declared.ops.Operand.{Operand}
use Rattle.ir_ast.specs.declared.ops.Operand.TheVariants as operands
use Rattle.ir_ast.specs.declared.ops.Callee.{Callee}
use Rattle.ir_ast.specs.declared.ops.Callee.TheVariants as callees
use Rattle.ir_ast.specs.Insts.{Instruction}
use Rattle.ir_ast.specs.Values.{value_types}
use Rattle.ir_ast.specs.Types.{is_integer, is_first_class, is_answer}
use Rattle.ir_ast.specs.Operands.{is_value}
use Rattle.ir_ast.specs.Callees.{is_leaf}
use Rattle.ir_ast.specs.Funcs.{Function}
use Rattle.ir_ast.specs.Lines.{Has, IsCall}
use Rattle.ir_ast.specs.Widths.{IsWidth, type_widths}
use Rattle.ir_ast.specs.Faults.TypeClash.{Fits}
use Rattle.ir_ast.specs.Faults.Reserved.{IsExternalName}
use Rattle.ir_printer.specs.Names.{Names, function_name, layout_name}
use Rattle.ir_printer.specs.Calls.{callee_name}
use Rattle.line_parts.specs.Types.{TypeWord}
use Rattle.line_parts.specs.Parts.{Val}
use Rattle.ir_lines.specs.Statements.{Line, Statement, switch_end, is_leaf_name}
use Rattle.ir_lines.specs.Sections.{cases_of}
use Rattle.ir_lines.specs.Places.{place_in, number_of}
use Rattle.ir_lines.specs.Modules.{Known, type_of, operand_in, instruction_said, insts_of, entry_operand, entry_label, passed_operand, kept_entry, given_type, callee_of, callee_at, case_value, case_label}
use Rattle.module_laws.proofs.LawBodies.{insts-cons}
use Rattle.read_back.specs.Said.{word_of, width_in, result_of, value_says, entry_says, phi_says, passed_says, kept_says, call_says, case_says}
use Rattle.read_back.proofs.BackNames.{Setting, Good, IsKept, operand-back, label-back, layout-number, function-placed, function-number, unplaced-by}
use Rattle.read_back.proofs.BackLines.{said, cons_parts, by_parts, same-inst, result-is, integer-word, word-type}
use Rattle.list_laws.proofs.Booleans.{first_true, second_true}
use Rattle.ir_resolve.proofs.Booleans.{not-true}

-- ---- phis

abbrev pub Below : Names → BlockId → Type 0
Below names label = label.0 < length names.func.blocks

entry_operands : (names : Names) (known : Known) → Setting names known → (ty : Ty) (os : List Operand) (labels : List BlockId) → length labels ≡ length os
    → AllByRecursion (λ o. Good names o ty) os
    → map (entry_operand known.values (word_of ty)) (map (entry_says names ty) (zip os labels)) ≡ os
entry_operands names known s ty [] labels n good = refl
entry_operands names known s ty (o ∷ os) [] n good = absurd (omega arith)
entry_operands names known s ty (o ∷ os) (l ∷ labels) n good =
    ap (λ (x : Operand). x ∷ map (entry_operand known.values (word_of ty)) (map (entry_says names ty) (zip os labels))) (operand-back names known s ty o good.0)
    ∙ ap (λ (xs : List Operand). o ∷ xs) (entry_operands names known s ty os labels (omega arith) good.1)

entry_labels : (names : Names) (known : Known) → Setting names known → (ty : Ty) (os : List Operand) (labels : List BlockId) → length labels ≡ length os
    → AllByRecursion (Below names) labels
    → map (entry_label known.blocks) (map (entry_says names ty) (zip os labels)) ≡ labels
entry_labels names known s ty [] [] n below = refl
entry_labels names known s ty [] (l ∷ labels) n below = absurd (omega arith)
entry_labels names known s ty (o ∷ os) [] n below = absurd (omega arith)
entry_labels names known s ty (o ∷ os) (l ∷ labels) n below =
    ap (λ (x : BlockId). x ∷ map (entry_label known.blocks) (map (entry_says names ty) (zip os labels))) (label-back names known s l below.0)
    ∙ ap (λ (xs : List BlockId). l ∷ xs) (entry_labels names known s ty os labels (omega arith) below.1)

-- operands that all are asked for one type
pub each_given : (R : Operand → Ty → Type 0) (ty : Ty) (os : List Operand) → AllZip R os (replicate (length os) ty) → AllByRecursion (λ o. R o ty) os
each_given R ty [] h = tt
each_given R ty (o ∷ os) h = (h.0, each_given R ty os h.1)

pub phi-back : (names : Names) (known : Known) → Setting names known → (rest : List Line) (inst : Instruction)
    → ops.Phi ≡ inst.op → Has true is_first_class (length inst.operands) (length inst.operands) inst
    → AllZip (Good names) inst.operands (replicate (length inst.operands) inst.ty) → AllByRecursion (Below names) inst.labels
    → instruction_said known rest (phi_says names inst) ≡ Some inst
phi-back names known s rest inst o has good below =
    let entries = map (entry_says names inst.ty) (zip inst.operands inst.labels) in
    same-inst inst (Some (result_of inst)) ops.Phi (type_of (word_of inst.ty))
    (map (entry_operand known.values (word_of inst.ty)) entries) (map (entry_label known.blocks) entries)
    (result-is inst.result has.result) o (word-type inst.ty has.type)
    (entry_operands names known s inst.ty inst.operands inst.labels has.label_count (each_given (Good names) inst.ty inst.operands good))
    (entry_labels names known s inst.ty inst.operands inst.labels has.label_count below)
    has.no_bundle

-- ---- calls

-- an argument of a call: a value that fits, or a function
pub record Passes (names : Names) (operand : Operand) (ty : Ty) : Type 0 where
  pub fits : Fits (value_types names.func) operand ty
  pub argument : (is_value operand && is_first_class ty) ≡ true ⊎ ((func : FuncId) × (operand ≡ operands.Fun func))
  pub function : (func : FuncId) → operand ≡ operands.Fun func → func.0 < length names.funcs
  pub widths : All IsWidth (type_widths ty)

value_passed : (names : Names) (known : Known) → Setting names known → (ty : Ty) (operand : Operand) → is_value operand ≡ true → Good names operand ty
    → is_first_class ty ≡ true
    → (passed_operand known (passed_says names ty operand) ≡ operand) × (given_type (passed_says names ty operand) ≡ ty)
value_passed names known s ty (operands.Value v) is good first = (operand-back names known s ty (operands.Value v) good, word-type ty first)
value_passed names known s ty (operands.Int n) is good first = (operand-back names known s ty (operands.Int n) good, word-type ty first)
value_passed names known s ty operands.Null is good first = (refl, word-type ty first)
value_passed names known s ty (operands.Fun func) is good first = absurd (let bad : false ≡ true = is in cc)

function_passed : (names : Names) (known : Known) → Setting names known → (ty : Ty) (func : FuncId) → func.0 < length names.funcs → ty ≡ tys.Void
    → (passed_operand known (passed_says names ty (operands.Fun func)) ≡ operands.Fun func) × (given_type (passed_says names ty (operands.Fun func)) ≡ ty)
function_passed names known s ty func below void =
    (ap (λ (n : ℕ). operands.Fun (record { 0 = n })) (function-number names known s func.0 below), sym void)

argument-back : (names : Names) (known : Known) → Setting names known → (ty : Ty) (operand : Operand) → Passes names operand ty
    → (passed_operand known (passed_says names ty operand) ≡ operand) × (given_type (passed_says names ty operand) ≡ ty)
argument-back names known s ty operand p = by p.argument
  where
    by : (is_value operand && is_first_class ty) ≡ true ⊎ ((func : FuncId) × (operand ≡ operands.Fun func))
        → (passed_operand known (passed_says names ty operand) ≡ operand) × (given_type (passed_says names ty operand) ≡ ty)
    by (inl e) =
        let value = first_true (is_value operand) (is_first_class ty) e in
        value_passed names known s ty operand value (record { fits = p.fits; value = value; widths = p.widths }) (second_true (is_value operand) (is_first_class ty) e)
    by (inr f) =
        let void : ty ≡ tys.Void = subst (λ (o : Operand). Fits (value_types names.func) o ty) f.1 p.fits in
        subst (λ (o : Operand). (passed_operand known (passed_says names ty o) ≡ o) × (given_type (passed_says names ty o) ≡ ty)) (sym f.1)
        (function_passed names known s ty f.0 (p.function f.0 f.1) void)

pub passed_is : (names : Names) (known : Known) → Setting names known → (os : List Operand) (ts : List Ty) → AllZip (Passes names) os ts
    → (map (passed_operand known) (map (λ (argument : Ty × Operand). passed_says names argument.0 argument.1) (zip ts os)) ≡ os)
    × (map given_type (map (λ (argument : Ty × Operand). passed_says names argument.0 argument.1) (zip ts os)) ≡ ts)
passed_is names known s [] [] p = (refl, refl)
passed_is names known s [] (t ∷ ts) p = absurd p
passed_is names known s (o ∷ os) [] p = absurd p
passed_is names known s (o ∷ os) (t ∷ ts) p =
    let here = argument-back names known s t o p.0 in
    let more = passed_is names known s os ts p.1 in
    let givens = map (λ (argument : Ty × Operand). passed_says names argument.0 argument.1) (zip ts os) in (
      ap (λ (x : Operand). x ∷ map (passed_operand known) givens) here.0 ∙ ap (λ (xs : List Operand). o ∷ xs) more.0,
      ap (λ (x : Ty). x ∷ map given_type givens) here.1 ∙ ap (λ (xs : List Ty). t ∷ xs) more.1,
    )

-- no function has the name of an external
abbrev pub NamesAreFree : Names → Type 0
NamesAreFree names = AllByRecursion (λ func. ¬ (IsExternalName func.name)) names.funcs

not_function : (names : Names) (known : Known) → Setting names known → NamesAreFree names → (name : List ℕ) → IsExternalName name
    → place_in known.functions name ≡ None
not_function names known s free name external =
    ap (λ (ns : List (List ℕ)). place_in ns name) s.functions ∙ unplaced-by (map (λ func. func.name) names.funcs) name (each names.funcs free)
  where
    each : (fs : List Function) → AllByRecursion (λ func. ¬ (IsExternalName func.name)) fs
        → AllByRecursion (λ one. ¬ (one ≡ name)) (map (λ func. func.name) fs)
    each [] free = tt
    each (f ∷ fs) free = (λ e. free.0 (subst IsExternalName (sym e) external), each fs free.1)

-- the callee exists
abbrev pub CalleeBelow : Names → Callee → Type 0
CalleeBelow names (callees.Fun func) = func.0 < length names.funcs
CalleeBelow names (callees.New layout) = layout < length names.layouts
CalleeBelow names _ = ⊤

pub callee-back : (names : Names) (known : Known) → Setting names known → NamesAreFree names → (callee : Callee) → CalleeBelow names callee
    → callee_of known (callee_name names callee) ≡ callee
callee-back names known s free (callees.Fun func) below =
    let few = s.few_functions in
    ap (callee_at known (function_name names.funcs func.0)) (function-placed names known s func.0 below)
    ∙ ap (λ (n : ℕ). callees.Fun (record { 0 = n })) (let e : number_of (Some func.0) ≡ func.0 = omega arith in e)
callee-back names known s free (callees.New layout) below =
    let name = codes "gc_new." ++ layout_name names.layouts layout in
    ap (callee_at known name) (not_function names known s free name (inr (inl (layout_name names.layouts layout, refl))))
    ∙ ap callees.New (layout-number names known s layout below)
callee-back names known s free callees.Print below =
    ap (callee_at known (codes "print_i64")) (not_function names known s free (codes "print_i64") (inl (0, (omega arith), refl)))
callee-back names known s free callees.Read below =
    ap (callee_at known (codes "read_i64")) (not_function names known s free (codes "read_i64") (inl (1, (omega arith), refl)))
callee-back names known s free callees.TaskStart below =
    ap (callee_at known (codes "task_start")) (not_function names known s free (codes "task_start") (inl (2, (omega arith), refl)))
callee-back names known s free callees.Poll below =
    ap (callee_at known (codes "gc.safepoint_poll")) (not_function names known s free (codes "gc.safepoint_poll") (inl (3, (omega arith), refl)))
callee-back names known s free callees.Check below =
    ap (callee_at known (codes "gc_check")) (not_function names known s free (codes "gc_check") (inl (4, (omega arith), refl)))
callee-back names known s free callees.Same below =
    ap (callee_at known (codes "gc_same")) (not_function names known s free (codes "gc_same") (inl (5, (omega arith), refl)))

pub answer-type : (ty : Ty) → is_answer ty ≡ true → type_of (word_of ty) ≡ ty
answer-type tys.Void e = refl
answer-type (tys.Int w) e = refl
answer-type tys.Ptr e = refl
answer-type tys.Token e = absurd (let bad : false ≡ true = e in cc)

-- an entry of a bundle is what was printed of it
pub kept-back : (names : Names) (known : Known) → Setting names known → (bundle : List (Ty × Operand)) → AllByRecursion (IsKept names) bundle
    → map (kept_entry known) (map (kept_says names) bundle) ≡ bundle
kept-back names known s [] kept = refl
kept-back names known s (entry ∷ bundle) kept =
    let rest = map (kept_entry known) (map (kept_says names) bundle) in
    ap (λ (t : Ty). (t, operand_in known.values (word_of entry.0) (value_says names entry.0 entry.1)) ∷ rest) (word-type entry.0 kept.0.first_class)
    ∙ ap (λ (o : Operand). (entry.0, o) ∷ rest) (operand-back names known s entry.0 entry.1 kept.0.good)
    ∙ ap (λ (more : List (Ty × Operand)). entry ∷ more) (kept-back names known s bundle kept.1)

-- ---- which calls keep their bundle

free_at : (fs : List Function) (k : ℕ) → AllByRecursion (λ (func : Function). ¬ (IsExternalName func.name)) fs → k < length fs → ¬ (IsExternalName (function_name fs k))
free_at [] k free below = absurd (omega arith)
free_at (f ∷ fs) zero free below = free.0
free_at (f ∷ fs) (suc k) free below = free_at fs k free.1 (omega arith)

pub other_name : (name due : List ℕ) → name ≢ due → bytes_eq name due ≡ false
other_name name due other = not-true (bytes_eq name due) (λ is. other ((bytes_eq-Decides name due).0 is))

-- the name of a function of the module, or that of another external, is no leaf's
not_leaf : (names : Names) → NamesAreFree names → (callee : Callee) → CalleeBelow names callee → is_leaf callee ≡ false → is_leaf_name (callee_name names callee) ≡ false
not_leaf names free (callees.Fun func) below other =
    let name = function_name names.funcs func.0 in
    let own : ¬ (IsExternalName name) = free_at names.funcs func.0 free below in
    rw (
      other_name name (codes "print_i64") (λ same. own (inl (0, omega arith, sym same))),
      other_name name (codes "read_i64") (λ same. own (inl (1, omega arith, sym same))),
      other_name name (codes "gc_check") (λ same. own (inl (4, omega arith, sym same))),
      other_name name (codes "gc_same") (λ same. own (inl (5, omega arith, sym same))),
    ) refl
not_leaf names free (callees.New layout) below other = refl
not_leaf names free callees.TaskStart below other = refl
not_leaf names free callees.Poll below other = refl
not_leaf names free callees.Print below other = absurd (let bad : true ≡ false = other in cc)
not_leaf names free callees.Read below other = absurd (let bad : true ≡ false = other in cc)
not_leaf names free callees.Check below other = absurd (let bad : true ≡ false = other in cc)
not_leaf names free callees.Same below other = absurd (let bad : true ≡ false = other in cc)

none_of_none : (b : Bool) (kept : List (Val × TypeWord)) → kept ≡ [] → (if b then [] else kept) ≡ kept
none_of_none true kept none = sym none
none_of_none false kept none = refl

-- what a printed call says that it keeps, it keeps: a leaf has nothing
pub kept_is : (names : Names) → NamesAreFree names → (callee : Callee) (inst : Instruction) → CalleeBelow names callee → (is_leaf callee ≡ true → inst.bundle ≡ [])
    → (if is_leaf_name (callee_name names callee) then [] else map (kept_says names) inst.bundle) ≡ map (kept_says names) inst.bundle
kept_is names free callee inst below none = by (is_leaf callee) refl
  where
    said : List (Val × TypeWord)
    said = map (kept_says names) inst.bundle

    by : (leaf : Bool) → is_leaf callee ≡ leaf → (if is_leaf_name (callee_name names callee) then [] else said) ≡ said
    by true is = none_of_none (is_leaf_name (callee_name names callee)) said (ap (map (kept_says names)) (none is))
    by false is = ap (λ (b : Bool). if b then [] else said) (not_leaf names free callee below is)

pub call-back : (names : Names) (known : Known) → Setting names known → NamesAreFree names → (callee : Callee) (ts : List Ty) (rest : List Line) (inst : Instruction)
    → ops.Call callee ts ≡ inst.op → IsCall callee ts inst → AllByRecursion (IsKept names) inst.bundle → CalleeBelow names callee
    → AllZip (Passes names) inst.operands ts
    → instruction_said known rest (call_says names callee ts inst) ≡ Some inst
call-back names known s free callee ts rest inst o call kept below passes =
    let givens = map (λ (argument : Ty × Operand). passed_says names argument.0 argument.1) (zip ts inst.operands) in
    let p = passed_is names known s inst.operands ts passes in
    ap (λ (x : Instruction). Some x) (by_parts inst inst.result (ops.Call (callee_of known (callee_name names callee)) (map given_type givens)) (type_of (word_of inst.ty))
    (map (passed_operand known) givens) []
    (map (kept_entry known) (if is_leaf_name (callee_name names callee) then [] else map (kept_says names) inst.bundle))
    refl
    (ap (λ (c : Callee). ops.Call c (map given_type givens)) (callee-back names known s free callee below) ∙ ap (ops.Call callee) p.1 ∙ o)
    (answer-type inst.ty call.type) p.0 (sym call.no_labels)
    (ap (map (kept_entry known)) (kept_is names free callee inst below call.leaf) ∙ kept-back names known s inst.bundle kept))

-- ---- switches

pub record Cases (names : Names) (known : Known) (ty : Ty) (os : List Operand) (labels : List BlockId) (here rest : List Line) : Type 0 where
  pub values : filter_map (λ (l : Line). case_value known.values (width_in ty) l.says) (cases_of (here ++ rest)) ≡ os
  pub targets : filter_map (λ (l : Line). case_label known.blocks l.says) (cases_of (here ++ rest)) ≡ labels
  pub behind : insts_of known (here ++ rest) ≡ insts_of known rest

cases_end : (names : Names) (known : Known) (ty : Ty) (n : ℕ) (rest : List Line) → Cases names known ty [] [] (record { number = n; says = switch_end } ∷ []) rest
cases_end names known ty n rest = record {
  values = refl;
  targets = refl;
  behind = insts-cons known (record { number = n; says = switch_end }) rest;
}

cases_more : (names : Names) (known : Known) → Setting names known → (ty : Ty) → is_integer ty ≡ true → (o : Operand) (l : BlockId) (os : List Operand) (labels : List BlockId) (n : ℕ) (here rest : List Line)
    → Good names o ty → Below names l → Cases names known ty os labels here rest
    → Cases names known ty (o ∷ os) (l ∷ labels) (record { number = n; says = case_says names ty (o, l) } ∷ here) rest
cases_more names known s ty int o l os labels n here rest good below more = record {
  values =
      ap (λ (w : TypeWord). operand_in known.values w (value_says names ty o) ∷ filter_map (λ (k : Line). case_value known.values (width_in ty) k.says) (cases_of (here ++ rest))) (integer-word ty int)
      ∙ ap (λ (x : Operand). x ∷ filter_map (λ (k : Line). case_value known.values (width_in ty) k.says) (cases_of (here ++ rest))) (operand-back names known s ty o good)
      ∙ ap (λ (xs : List Operand). o ∷ xs) more.values;
  targets =
      ap (λ (x : BlockId). x ∷ filter_map (λ (k : Line). case_label known.blocks k.says) (cases_of (here ++ rest))) (label-back names known s l below)
      ∙ ap (λ (xs : List BlockId). l ∷ xs) more.targets;
  behind = insts-cons known (record { number = n; says = case_says names ty (o, l) }) (here ++ rest) ∙ more.behind;
}

pub cases-back : (names : Names) (known : Known) → Setting names known → (ty : Ty) → is_integer ty ≡ true → (os : List Operand) (labels : List BlockId) (here rest : List Line)
    → length labels ≡ length os → AllByRecursion (λ o. Good names o ty) os → AllByRecursion (Below names) labels
    → said here ≡ map (case_says names ty) (zip os labels) ++ switch_end ∷ []
    → Cases names known ty os labels here rest
cases-back names known s ty int os labels [] rest n good below e = absurd (none os labels e)
  where
    none : (os : List Operand) (labels : List BlockId) → [] ≡ map (case_says names ty) (zip os labels) ++ switch_end ∷ [] → ⊥
    none [] labels e = let bad : [] ≡ switch_end ∷ [] = e in cc
    none (o ∷ os) [] e = let bad : [] ≡ switch_end ∷ [] = e in cc
    none (o ∷ os) (l ∷ labels) e = let bad : [] ≡ case_says names ty (o, l) ∷ (map (case_says names ty) (zip os labels) ++ switch_end ∷ []) = e in cc
cases-back names known s ty int [] [] (k ∷ ks) rest n good below e =
    let parts = cons_parts k.says (said ks) switch_end [] e in
    last ks parts.1 parts.0
  where
    last : (ks : List Line) → said ks ≡ [] → k.says ≡ switch_end → Cases names known ty [] [] (k ∷ ks) rest
    last [] none is = subst (λ (t : Statement). Cases names known ty [] [] (record { number = k.number; says = t } ∷ []) rest)
        (sym is) (cases_end names known ty k.number rest)
    last (j ∷ js) none is = absurd (let bad : j.says ∷ said js ≡ [] = none in cc)
cases-back names known s ty int [] (l ∷ labels) (k ∷ ks) rest n good below e = absurd (omega arith)
cases-back names known s ty int (o ∷ os) [] (k ∷ ks) rest n good below e = absurd (omega arith)
cases-back names known s ty int (o ∷ os) (l ∷ labels) (k ∷ ks) rest n good below e =
    let parts = cons_parts k.says (said ks) (case_says names ty (o, l)) (map (case_says names ty) (zip os labels) ++ switch_end ∷ []) e in
    subst (λ (t : Statement). Cases names known ty (o ∷ os) (l ∷ labels) (record { number = k.number; says = t } ∷ ks) rest) (sym parts.0)
    (cases_more names known s ty int o l os labels k.number ks rest good.0 below.0
    (cases-back names known s ty int os labels ks rest (omega arith) good.1 below.1 parts.1))
