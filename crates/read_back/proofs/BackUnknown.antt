-- The lines that a module is printed as name what there is.
use Rattle.std.proofs.Common.{◌≡◌, ◌∙◌, ℕ, zero, suc, ◌+◌, ◌<◌, Bool, true, false, not, ◌||◌, ◌==◌, if◌then◌else◌, List, [], ◌∷◌, ◌++◌, map, length, drop, refl, ap, sym, subst, arith}
use Rattle.std.specs.Prelude.{Option, Some, None, IfSome, is_none, unwrap_or, find, flat_map, take, slice_get, filter_map}
use Rattle.std.specs.Option.{option_map_or}
use Rattle.std.specs.Str.{bytes_eq}
use Rattle.std.specs.List.{AllByRecursion, AllZip, Contains, list_any, cons_option, zip, range_with_len}
use Rattle.std.proofs.lemmas.Bool.Decides.{Decides-eqb}
use Rattle.std.proofs.lemmas.Option.{slice_get_within}
use Rattle.std.proofs.lemmas.List.{length-map}
use Rattle.std.proofs.lemmas.List.Elements.{recursion_from_All, Contains-append_left, Contains-append_right}
use Rattle.sp_ids.specs.Numbers.{wrapped, signed}
use Rattle.sp_ids.specs.declared.ids.BlockId.{BlockId}
use Rattle.ir_ast.specs.declared.modules.Form.{Form}
use Rattle.ir_ast.specs.declared.types.Ty.{Ty}
use Rattle.ir_ast.specs.declared.types.Ty.TheVariants as tys
use Rattle.ir_ast.specs.declared.ops.Op.{Op}
use Rattle.ir_ast.specs.declared.ops.Op.TheVariants as ops
use Rattle.ir_ast.specs.declared.ops.Elem.{Elem}
use Rattle.ir_ast.specs.declared.ops.Elem.TheVariants as elements
use Rattle.ir_ast.specs.declared.ops.Operand.{Operand}
use Rattle.ir_ast.specs.declared.ops.Operand.TheVariants as operands
use Rattle.ir_ast.specs.declared.ops.Callee.{Callee}
use Rattle.ir_ast.specs.declared.ops.Callee.TheVariants as callees
use Rattle.ir_ast.specs.Insts.{Instruction}
use Rattle.ir_ast.specs.Blocks.{BasicBlock}
use Rattle.ir_ast.specs.Layouts.{ObjectLayout}
use Rattle.ir_ast.specs.Funcs.{Function, instructions_of}
use Rattle.ir_ast.specs.Modules.{ModuleContent}
use Rattle.ir_ast.specs.Values.{definition_name, definition_type, value_types}
use Rattle.ir_ast.specs.Values as defs
use Rattle.ir_printer.specs.Names.{Names, value_name, block_name, function_name, layout_name}
use Rattle.ir_printer.specs.Calls.{callee_name}
use Rattle.ir_printer.specs.Operands.{label_at}
use Rattle.ir_printer.specs.Declarations.{is_callee, is_statepoints, is_call_of, calls, externals, fixed_externals, integer_widths}
use Rattle.print_tables.specs.declared.externals.External.TheVariants as externs
use Rattle.line_parts.specs.Parts as values
use Rattle.print_tables.specs.declared.externals.External.{External}
use Rattle.line_parts.specs.Parts.{Val}
use Rattle.line_parts.specs.Types.{TypeWord}
use Rattle.line_parts.specs.Lists.{Given}
use Rattle.ir_lines.specs.Statements.{Line, Statement, switch_end}
use Rattle.ir_lines.specs.Parts.{uses, targets, entry_labels, functions_named, layouts_named, local_name, passed_function}
use Rattle.ir_lines.specs.Sections.{LayoutLine, Head, Definition, Naming, BlockLines, layouts_of, heads_of, values_of, blocks_of}
use Rattle.ir_lines.specs.Scope.{Scope, scope_of, value_named, block_named, head_named, layout_named}
use Rattle.ir_lines.specs.Faults.UnknownName.{names_unknown, UnknownName}
use Rattle.std.proofs.lemmas.List.FromFn.{length-range_with_len, get_or-range_with_len}
use Rattle.list_laws.proofs.Contents.{contains_joined, joined_contains, all_contained}
use Rattle.ir_lines.proofs.LawNames.{get_some, contains_get, contains_map}
use Rattle.module_laws.proofs.LawCalls.{found_by_name, contains_mapped}
use Rattle.read_back.specs.Said.{literal_of, value_says, passed_says, target_at, entry_says, step_says, case_says, return_says, operator_says, declaration_says, said_by}
use Rattle.read_back.proofs.BackLines.{said}
use Rattle.read_back.proofs.BackBlocks.{weaker}
use Rattle.read_back.proofs.BackNames.{Good}
use Rattle.read_back.proofs.BackUses.{IsUse, Uses, inst_uses}
use Rattle.read_back.proofs.BackLists.{Below, Passes, CalleeBelow}
use Rattle.read_back.proofs.BackInsts.{IsPrintedIn, passing, guards}
use Rattle.read_back.proofs.Fronts.{zip_take}
use Rattle.read_back.proofs.BackSections.{SaysDefinition, layout-names}
use Rattle.read_back.proofs.BackModules.{IsShaped, names_in, shaped_inst}
use Rattle.read_back.proofs.BackFaults.{From, no_body_fault}
use Rattle.read_back.proofs.BackTops.{names_of_values, names_of_blocks}
use Rattle.read_back.proofs.BackOnce.{head_names, declared_names, names_if, all_names, names_are}
use Rattle.std.proofs.lemmas.Bool.{or_right}
use Rattle.list_laws.proofs.Tests.{contained_any}

-- ---- what is found

abbrev pub ValueFound : Scope → List ℕ → Type 0
ValueFound scope name = is_none (value_named scope name) ≡ false

abbrev pub BlockFound : Scope → List ℕ → Type 0
BlockFound scope name = is_none (block_named scope name) ≡ false

abbrev pub HeadFound : Scope → List ℕ → Type 0
HeadFound scope name = is_none (head_named scope name) ≡ false

abbrev pub LayoutFound : Scope → List ℕ → Type 0
LayoutFound scope name = is_none (layout_named scope name) ≡ false

-- a value is no name, or one that is found
abbrev pub UseFound : Scope → Val → Type 0
UseFound scope value = IfSome (local_name value) (ValueFound scope)

pub any_none : {X : Type 0} (p : X → Bool) (xs : List X) → AllByRecursion (λ x. p x ≡ false) xs → list_any p xs ≡ false
any_none p [] h = refl
any_none p (x ∷ xs) h = ap (λ (b : Bool). b || list_any p xs) h.0 ∙ any_none p xs h.1

names_found : {X : Type 0} (P : List ℕ → Type 0) (f : X → Option (List ℕ)) (xs : List X) → AllByRecursion (λ x. IfSome (f x) P) xs
    → AllByRecursion P (filter_map f xs)
names_found P f [] h = tt
names_found {X} P f (x ∷ xs) h = by (f x) h.0 (names_found P f xs h.1)
  where
    by : (o : Option (List ℕ)) → IfSome o P → AllByRecursion P (filter_map f xs) → AllByRecursion P (cons_option o (filter_map f xs))
    by None k more = more
    by (Some name) k more = (k, more)

none_of : (a b c d : Bool) → a ≡ false → b ≡ false → c ≡ false → d ≡ false → (a || b || c || d) ≡ false
none_of false false false false p q r s = refl
none_of true b c d p q r s = absurd (let bad : true ≡ false = p in cc)
none_of false true c d p q r s = absurd (let bad : true ≡ false = q in cc)
none_of false false true d p q r s = absurd (let bad : true ≡ false = r in cc)
none_of false false false true p q r s = absurd (let bad : true ≡ false = s in cc)

clear_by : (scope : Scope) (s : Statement) → AllByRecursion (λ used. UseFound scope used.0) (uses s)
    → AllByRecursion (BlockFound scope) (targets s ++ entry_labels s) → AllByRecursion (HeadFound scope) (functions_named s)
    → AllByRecursion (LayoutFound scope) (layouts_named s) → names_unknown scope s ≡ false
clear_by scope s values blocks heads layouts =
    none_of (list_any (λ name. is_none (value_named scope name)) (filter_map (λ (used : Val × TypeWord). local_name used.0) (uses s)))
    (list_any (λ name. is_none (block_named scope name)) (targets s ++ entry_labels s))
    (list_any (λ name. is_none (head_named scope name)) (functions_named s))
    (list_any (λ name. is_none (layout_named scope name)) (layouts_named s))
    (any_none (λ name. is_none (value_named scope name)) (filter_map (λ (used : Val × TypeWord). local_name used.0) (uses s))
    (names_found (ValueFound scope) (λ (used : Val × TypeWord). local_name used.0) (uses s) values))
    (any_none (λ name. is_none (block_named scope name)) (targets s ++ entry_labels s) blocks)
    (any_none (λ name. is_none (head_named scope name)) (functions_named s) heads)
    (any_none (λ name. is_none (layout_named scope name)) (layouts_named s) layouts)

-- what a function can name is found
pub record Knows (scope : Scope) (names : Names) : Type 0 where
  pub has_block : 0 < length names.func.blocks
  pub value : (k : ℕ) → k < length (defs.definitions_of names.func) → ValueFound scope (value_name names.func k)
  pub block : (k : ℕ) → k < length names.func.blocks → BlockFound scope (block_name names.func k)
  pub function : (k : ℕ) → k < length names.funcs → HeadFound scope (function_name names.funcs k)
  pub layout : (k : ℕ) → k < length names.layouts → LayoutFound scope (layout_name names.layouts k)
  pub declared : (e : External) → Contains (externals names.layouts) e → calls names.funcs e ≡ true
      → AllByRecursion (HeadFound scope) (declared_names names.layouts e)

-- ---- operands and labels

at_place : {X : Type 0} (P : X → Type 0) (xs : List X) (i : ℕ) (other : X) → AllByRecursion P xs → P other → P (unwrap_or (slice_get xs i) other)
at_place P [] i other h o = o
at_place P (x ∷ xs) zero other h o = h.0
at_place P (x ∷ xs) (suc i) other h o = at_place P xs i other h.1 o

value_found : (scope : Scope) (names : Names) → Knows scope names → (ty : Ty) (o : Operand) → Good names o ty → UseFound scope (value_says names ty o)
value_found scope names k ty (operands.Value v) g =
    let within = slice_get_within (value_types names.func) v.0 ty g.fits in
    k.value v.0 (omega (arith, length-map (defs.definitions_of names.func) definition_type))
value_found scope names k ty operands.Null g = tt
value_found scope names k ty (operands.Fun f) g = tt
value_found scope names k tys.Void (operands.Int n) g = tt
value_found scope names k tys.Ptr (operands.Int n) g = tt
value_found scope names k tys.Token (operands.Int n) g = tt
value_found scope names k (tys.Int w) (operands.Int n) g = by (w == 1)
  where
    by : (b : Bool) → UseFound scope (if b then values.truth (not (wrapped 1 n == 0)) else values.number (literal_of (signed w n)))
    by true = tt
    by false = tt

found : (scope : Scope) (names : Names) → Knows scope names → (used : Val × TypeWord) → IsUse names used → UseFound scope used.0
found scope names k used u = subst (λ (one : Val × TypeWord). UseFound scope one.0) u.is (value_found scope names k u.ty u.operand u.good)

target_found : (scope : Scope) (names : Names) → Knows scope names → (inst : Instruction) → AllByRecursion (Below names) inst.labels
    → (i : ℕ) → BlockFound scope (target_at names inst i)
target_found scope names k inst below i = k.block (label_at inst i).0 (at_place (Below names) inst.labels i (record { 0 = 0 }) below k.has_block)

-- ---- what a line names besides values: labels, heads and layouts

abbrev Others : Scope → Statement → Type 0
Others scope s =
    AllByRecursion (BlockFound scope) (targets s ++ entry_labels s) × AllByRecursion (HeadFound scope) (functions_named s) × AllByRecursion (LayoutFound scope) (layouts_named s)

entry_blocks : (scope : Scope) (names : Names) → Knows scope names → (ty : Ty) (os : List Operand) (ls : List BlockId) → AllByRecursion (Below names) ls
    → AllByRecursion (BlockFound scope) (map (λ (entry : Val × List ℕ). entry.1) (map (entry_says names ty) (zip os ls)))
entry_blocks scope names k ty [] ls below = tt
entry_blocks scope names k ty (o ∷ os) [] below = tt
entry_blocks scope names k ty (o ∷ os) (l ∷ ls) below = (k.block l.0 below.0, entry_blocks scope names k ty os ls below.1)

cases_others : (scope : Scope) (names : Names) → Knows scope names → (ty : Ty) (os : List Operand) (ls : List BlockId)
    → AllByRecursion (Below names) ls → AllByRecursion (Others scope) (map (case_says names ty) (zip os ls) ++ switch_end ∷ [])
cases_others scope names k ty [] ls below = ((tt, tt, tt), tt)
cases_others scope names k ty (o ∷ os) [] below = ((tt, tt, tt), tt)
cases_others scope names k ty (o ∷ os) (l ∷ ls) below = (((k.block l.0 below.0, tt), tt, tt), cases_others scope names k ty os ls below.1)

dropped : {X : Type 0} (P : X → Type 0) (xs : List X) → AllByRecursion P xs → AllByRecursion P (drop 1 xs)
dropped P [] h = tt
dropped P (x ∷ xs) h = h.1

step_others : {of : Form} (scope : Scope) (names : Names) → Knows scope names → (elem : Elem) (width : ℕ) (place : Option ℕ) (inst : Instruction)
    → IsPrintedIn of names (ops.Gep elem width place) inst → Others scope (step_says names elem width place inst)
step_others scope names k (elements.Int w) width place inst p = (tt, tt, tt)
step_others scope names k elements.Ptr width place inst p = (tt, tt, tt)
step_others scope names k (elements.Layout l) width place inst p = (tt, tt, (k.layout l p.layouts.0, tt))

return_others : (scope : Scope) (names : Names) (ty : Ty) (inst : Instruction) → Others scope (return_says names ty inst)
return_others scope names tys.Void inst = (tt, tt, tt)
return_others scope names (tys.Int w) inst = (tt, tt, tt)
return_others scope names tys.Ptr inst = (tt, tt, tt)
return_others scope names tys.Token inst = (tt, tt, tt)

-- ---- calls

made_external : (layouts : List ObjectLayout) (k : ℕ) → k < length layouts → Contains (externals layouts) (externs.New k)
made_external layouts k below =
    Contains-append_left (map externs.New (range_with_len 0 (length layouts))) (fixed_externals ++ (map externs.ResultOf integer_widths ++ externs.ResultPointer ∷ [])) (externs.New k)
    (contains_map externs.New (range_with_len 0 (length layouts)) k
    (k, omega (arith, length-range_with_len 0 (length layouts)), get_or-range_with_len 0 (length layouts) k k below ∙ (let e : 0 + k ≡ k = omega arith in e)))

fixed_external : (layouts : List ObjectLayout) (i : ℕ) (e : External) → slice_get fixed_externals i ≡ Some e → Contains (externals layouts) e
fixed_external layouts i e at =
    Contains-append_right (map externs.New (range_with_len 0 (length layouts))) (fixed_externals ++ (map externs.ResultOf integer_widths ++ externs.ResultPointer ∷ [])) e
    (Contains-append_left fixed_externals (map externs.ResultOf integer_widths ++ externs.ResultPointer ∷ []) e (contains_get fixed_externals i e at))

pub callee_found : (scope : Scope) (names : Names) → Knows scope names → (callee : Callee) → CalleeBelow names callee
    → ((e : External) → is_callee e callee ≡ true → calls names.funcs e ≡ true) → HeadFound scope (callee_name names callee)
unfolding fixed_externals
callee_found scope names k (callees.Fun f) below called = k.function f.0 below
callee_found scope names k (callees.New l) below called =
    (k.declared (externs.New l) (made_external names.layouts l below) (called (externs.New l) ((Decides-eqb l l).1 refl))).0
callee_found scope names k callees.Print below called = (k.declared externs.Print (fixed_external names.layouts 0 externs.Print refl) (called externs.Print refl)).0
callee_found scope names k callees.Read below called = (k.declared externs.Read (fixed_external names.layouts 1 externs.Read refl) (called externs.Read refl)).0
callee_found scope names k callees.TaskStart below called = (k.declared externs.TaskStart (fixed_external names.layouts 2 externs.TaskStart refl) (called externs.TaskStart refl)).0
callee_found scope names k callees.Poll below called = (k.declared externs.Poll (fixed_external names.layouts 3 externs.Poll refl) (called externs.Poll refl)).0
callee_found scope names k callees.Check below called = (k.declared externs.Check (fixed_external names.layouts 4 externs.Check refl) (called externs.Check refl)).0
callee_found scope names k callees.Same below called = (k.declared externs.Same (fixed_external names.layouts 5 externs.Same refl) (called externs.Same refl)).0

passed_heads : (scope : Scope) (names : Names) → Knows scope names → (os : List Operand) (ts : List Ty) → AllZip (Passes names) os ts
    → AllByRecursion (HeadFound scope) (filter_map passed_function (map (λ (argument : Ty × Operand). passed_says names argument.0 argument.1) (zip ts os)))
passed_heads scope names k [] [] p = tt
passed_heads scope names k [] (t ∷ ts) p = tt
passed_heads scope names k (o ∷ os) [] p = tt
passed_heads scope names k (operands.Value v ∷ os) (t ∷ ts) p = passed_heads scope names k os ts p.1
passed_heads scope names k (operands.Int n ∷ os) (t ∷ ts) p = passed_heads scope names k os ts p.1
passed_heads scope names k (operands.Null ∷ os) (t ∷ ts) p = passed_heads scope names k os ts p.1
passed_heads scope names k (operands.Fun f ∷ os) (t ∷ ts) p = (k.function f.0 (p.0.function f refl), passed_heads scope names k os ts p.1)

-- ---- any instruction

inst_others : {of : Form} (scope : Scope) (names : Names) → Knows scope names → (op : Op) (inst : Instruction) → IsPrintedIn of names op inst
    → ((e : External) → is_call_of e op inst.ty ≡ true → calls names.funcs e ≡ true) → AllByRecursion (Others scope) (operator_says names op inst)
inst_others scope names k ops.Phi inst p called = ((entry_blocks scope names k inst.ty inst.operands inst.labels p.labels, tt, tt), tt)
inst_others scope names k (ops.Gep elem width place) inst p called = (step_others scope names k elem width place inst p, tt)
inst_others scope names k (ops.Call callee ts) inst p called =
    let own = passing names callee ts inst p in
    ((tt, (callee_found scope names k callee own.below called, passed_heads scope names k inst.operands ts own.passes), tt), tt)
inst_others scope names k (ops.Statepoint id callee ts) inst p called =
    let g = guards names id callee ts inst p in
    let said : List (Ty × Operand) → List Given = map (λ (argument : Ty × Operand). passed_says names argument.0 argument.1) in (
      (
        tt,
        (
          callee_found scope names k callee g.below (λ e is. called e (or_right (is_statepoints e) (is_callee e callee) is)),
          subst (λ (z : List (Ty × Operand)). AllByRecursion (HeadFound scope) (filter_map passed_function (said z))) (zip_take ts inst.operands)
              (passed_heads scope names k (take (length ts) inst.operands) ts g.passes),
        ),
        tt,
      ),
      tt,
    )
inst_others scope names k ops.Br inst p called = (((target_found scope names k inst p.labels 0, tt), tt, tt), tt)
inst_others scope names k ops.CondBr inst p called = (((target_found scope names k inst p.labels 0, (target_found scope names k inst p.labels 1, tt)), tt, tt), tt)
inst_others scope names k ops.Switch inst p called = (
  ((target_found scope names k inst p.labels 0, tt), tt, tt),
  cases_others scope names k inst.ty (drop 1 inst.operands) (drop 1 inst.labels) (dropped (Below names) inst.labels p.labels),
)
inst_others scope names k ops.Ret inst p called = (return_others scope names inst.ty inst, tt)
inst_others scope names k _ inst p called = ((tt, tt, tt), tt)

all_clear : (scope : Scope) (names : Names) → Knows scope names → (ss : List Statement) → AllByRecursion (Uses names) ss → AllByRecursion (Others scope) ss
    → AllByRecursion (λ s. names_unknown scope s ≡ false) ss
all_clear scope names k [] used others = tt
all_clear scope names k (s ∷ ss) used others = (
  clear_by scope s (weaker (IsUse names) (λ one. UseFound scope one.0) (found scope names k) (uses s) used.0) others.0.0 others.0.1 others.0.2,
  all_clear scope names k ss used.1 others.1,
)

-- ---- what a function of a module can name is found in its lines

named_there : {X Y : Type 0} (f : X → List ℕ) (g : Y → List ℕ) (xs : List X) (ys : List Y) (k : ℕ) → map f xs ≡ map g ys → k < length ys
    → is_none (find (λ x. bytes_eq (option_map_or g (slice_get ys k) []) (f x)) xs) ≡ false
named_there {X} {Y} f g xs ys k same below =
    let y = get_some ys k below in
    let name : option_map_or g (slice_get ys k) [] ≡ g y.0 = ap (λ (o : Option Y). option_map_or g o []) y.1 in
    let there : Contains (map f xs) (g y.0) = subst (λ (ns : List (List ℕ)). Contains ns (g y.0)) (sym same) (contains_map g ys y.0 (contains_get ys k y.0 y.1)) in
    let x = contains_mapped f xs (g y.0) there in
    subst (λ (n : List ℕ). is_none (find (λ x. bytes_eq n (f x)) xs) ≡ false) (sym name) (found_by_name f xs x.0 (g y.0) x.1 x.2)

head_there : (content : ModuleContent) (lines : List Line) → said lines ≡ said_by content → (one : Definition) (name : List ℕ)
    → Contains (all_names content.layouts content.funcs (externals content.layouts) ++ map (λ (f : Function). f.name) content.funcs) name
    → HeadFound (scope_of lines one) name
head_there content lines e one name c =
    let there : Contains (map (λ (h : Head). h.name) (heads_of lines)) name =
    subst (λ (ns : List (List ℕ)). Contains ns name) (sym (names_are content lines e)) c in
    let h = contains_mapped (λ (h : Head). h.name) (heads_of lines) name there in
    found_by_name (λ (h : Head). h.name) (heads_of lines) h.0 name h.1 h.2

called_name : (layouts : List ObjectLayout) (funcs : List Function) (es : List External) (e : External) (name : List ℕ) → Contains es e → calls funcs e ≡ true
    → Contains (declared_names layouts e) name → Contains (all_names layouts funcs es) name
called_name layouts funcs es e name c called d =
    joined_contains (names_if layouts funcs) es e name c
    (subst (λ (b : Bool). Contains (flat_map head_names (if b then declaration_says layouts e else [])) name) (sym called) d)

-- an instruction stands in a block
pub some_block : (blocks : List BasicBlock) (inst : Instruction) → Contains (instructions_of blocks) inst → 0 < length blocks
some_block [] inst c = absurd (omega (arith, c.1))
some_block (b ∷ bs) inst c = omega arith

pub knows : (content : ModuleContent) → IsShaped content → (lines : List Line) → said lines ≡ said_by content → (one : Definition) (func : Function)
    → SaysDefinition content.layouts content.funcs one func → Contains content.funcs func → 0 < length func.blocks → Knows (scope_of lines one) (names_in content func)
unfolding value_name
knows content shaped lines e one func says c some =
    let from : From content one = record { func = func; stands = c; says = says } in
    record {
      has_block = some;
      value = λ k below. named_there (λ (v : Naming). v.name) definition_name (values_of one) (defs.definitions_of func) k (names_of_values content shaped one from) below;
      block = λ k below. named_there (λ (b : BlockLines). b.name) (λ (b : BasicBlock). b.name) (blocks_of one) func.blocks k (names_of_blocks content one from) below;
      function = λ k below.
          let f = get_some content.funcs k below in
          let name : function_name content.funcs k ≡ f.0.name = ap (λ (o : Option Function). option_map_or (λ (g : Function). g.name) o []) f.1 in
          head_there content lines e one (function_name content.funcs k)
          (Contains-append_right (all_names content.layouts content.funcs (externals content.layouts)) (map (λ (g : Function). g.name) content.funcs) (function_name content.funcs k)
          (subst (λ (n : List ℕ). Contains (map (λ (g : Function). g.name) content.funcs) n) (sym name)
          (contains_map (λ (g : Function). g.name) content.funcs f.0 (contains_get content.funcs k f.0 f.1))));
      layout = λ k below. named_there (λ (l : LayoutLine). l.name) (λ (l : ObjectLayout). l.name) (layouts_of lines) content.layouts k (layout-names content lines e) below;
      declared = λ x there called. recursion_from_All (HeadFound (scope_of lines one)) (declared_names content.layouts x)
          (all_contained (HeadFound (scope_of lines one)) (declared_names content.layouts x) (λ name d.
          head_there content lines e one name
          (Contains-append_left (all_names content.layouts content.funcs (externals content.layouts)) (map (λ (g : Function). g.name) content.funcs) name
          (called_name content.layouts content.funcs (externals content.layouts) x name there called d))));
    }

-- ---- what a line calls is called

pub is_called : (funcs : List Function) (func : Function) (inst : Instruction) (e : External) → Contains funcs func → Contains (instructions_of func.blocks) inst
    → is_call_of e inst.op inst.ty ≡ true → calls funcs e ≡ true
unfolding calls
is_called funcs func inst e c d is =
    let b = contains_joined (λ (block : BasicBlock). block.insts) func.blocks inst d in
    contained_any (λ (f : Function). list_any (λ (block : BasicBlock). list_any (λ (i : Instruction). is_call_of e i.op i.ty) block.insts) f.blocks) funcs func c
    (contained_any (λ (block : BasicBlock). list_any (λ (i : Instruction). is_call_of e i.op i.ty) block.insts) func.blocks b.of b.inside
    (contained_any (λ (i : Instruction). is_call_of e i.op i.ty) b.of.insts inst b.given is))

-- ---- code 4

pub unknown_name-clear : (content : ModuleContent) → IsShaped content → (lines : List Line) → said lines ≡ said_by content → (line : ℕ) → ¬ (UnknownName lines line)
unknown_name-clear content shaped lines e line f =
    no_body_fault content lines e names_unknown
    (λ one func says c inst d.
    let names = names_in content func in
    let p = shaped_inst content shaped func c inst d in
    let k = knows content shaped lines e one func says c (some_block func.blocks inst d) in
    all_clear (scope_of lines one) names k (operator_says names inst.op inst) (inst_uses names inst.op inst p)
    (inst_others (scope_of lines one) names k inst.op inst p (λ x is. is_called content.funcs func inst x c d is)))
    (λ scope name. refl) line f
