-- The lines that a module is printed as have no fault: the faults of single lines.
use Rattle.std.proofs.Common.{◌≡◌, ◌∙◌, ℕ, zero, suc, ◌+◌, ◌<◌, ◌≤◌, Bool, true, false, not, ◌&&◌, ◌||◌, ◌⊎◌, inl, inr, if◌then◌else◌, List, [], ◌∷◌, ◌++◌, map, length, refl, ap, sym, subst, arith, codes}
use Rattle.std.specs.Prelude.{Option, Some, ⊤, flat_map, slice_get, take}
use Rattle.std.specs.Str.{bytes_eq}
use Rattle.std.proofs.lemmas.Bool.{ne_eqb}
use Rattle.std.specs.List.{AllByRecursion, AllZip, Contains, list_all, list_any, range_with_len}
use Rattle.std.proofs.lemmas.List.Folds.{list_any_at}
use Rattle.std.proofs.lemmas.List.Elements.{recursion_from_All, All-from_recursion, All-contains, All-contains_itself, All-weaker, Contains-append_left, Contains-append_right}
use Rattle.ir_ast.specs.declared.cells.Cell.{Cell}
use Rattle.ir_ast.specs.Insts.{Instruction}
use Rattle.ir_ast.specs.Blocks.{BasicBlock}
use Rattle.ir_ast.specs.Layouts.{ObjectLayout}
use Rattle.ir_ast.specs.Funcs.{Function, instructions_of}
use Rattle.ir_ast.specs.Modules.{ModuleContent}
use Rattle.ir_printer.specs.Names.{Names}
use Rattle.ir_printer.specs.Declarations.{calls, externals, fixed_externals, integer_widths}
use Rattle.print_tables.specs.declared.externals.External.TheVariants as externs
use Rattle.line_parts.specs.Types as types
use Rattle.print_tables.specs.declared.externals.External.{External}
use Rattle.line_parts.specs.Types.{TypeWord}
use Rattle.ir_lines.specs.Statements.{Line, Statement, layout, declare, define, close, label, cast}
use Rattle.ir_lines.specs.Sections.{Definition, definitions_of, types_of}
use Rattle.ir_lines.specs.Externals.{external, gc_new, makers_of, externals_of, own_externals, helpers}
use Rattle.ir_lines.specs.Faults.UnknownExtern.{UnknownExtern}
use Rattle.line_parts.specs.Lists.{Named}
use Rattle.ir_ast.specs.Lists.{HasFront}
use Rattle.ir_printer.specs.Names.{layout_name}
use Rattle.std.specs.Option.{option_map_or}
use Rattle.ir_lines.specs.Scope.{Scope, scope_of}
use Rattle.ir_lines.specs.Types.{is_cell}
use Rattle.ir_lines.specs.InBody.{InBody, InText}
use Rattle.ir_lines.specs.Faults.BadLayout.{are_cells, is_bad_layout, BadLayout}
use Rattle.ir_lines.specs.Faults.NoStrategy.{lacks_strategy, NoStrategy}
use Rattle.ir_lines.specs.Faults.PointerCast.{is_cast, PointerCast}
use Rattle.std.proofs.lemmas.Slice.Eq.{bytes_eq-Decides}
use Rattle.module_laws.proofs.LawFacts.{or-right}
use Rattle.ir_lines.proofs.LawNames.{contains_get, contains_map, get_some}
use Rattle.read_back.specs.Said.{word_of, cell_word, operator_says, instruction_says, block_says, function_says, layout_says, argument_says, declaration_says, declaration_if_called, said_by, unnamed}
use Rattle.read_back.proofs.Cells.{cells_are}
use Rattle.read_back.proofs.BackLines.{said}
use Rattle.read_back.proofs.BackInsts.{split_all}
use Rattle.read_back.proofs.BackBlocks.{weaker, all_append, lines_all, InBlock, inner}
use Rattle.read_back.proofs.BackSections.{SaysDefinition, definitions-are, layout-names, InBody as IsOfBody, in_body, blocks_inner, each_declared}
use Rattle.read_back.proofs.BackModules.{IsShaped, names_in}
use Rattle.read_back.proofs.NotCalled.{is_of_source}
use Rattle.list_laws.proofs.Tests.{contained_any}

-- ---- lines of the whole text

abbrev Passes : (Statement → Bool) → Statement → Type 0
Passes test s = test s ≡ false

no_text_fault : (test : Statement → Bool) (lines : List Line) (ss : List Statement) → said lines ≡ ss → AllByRecursion (Passes test) ss
    → (line : ℕ) → ¬ (InText lines line test)
no_text_fault test lines ss e all line f =
    let clear : test f.found.says ≡ false =
    All-contains (λ (l : Line). test l.says ≡ false) lines f.found (All-from_recursion (λ (l : Line). test l.says ≡ false) lines (lines_all (Passes test) lines ss e all)) f.inside in
    let bad : true ≡ false = sym f.faulty ∙ clear in cc

-- the layout of a `gc_new` is one of so many, and a result has 1 to 64 bits
abbrev pub IsBelow : ℕ → External → Type 0
IsBelow count (externs.New number) = number < count
IsBelow count (externs.ResultOf width) = (1 ≤ width) × (width ≤ 64)
IsBelow count _ = ⊤

made_below : (count first more : ℕ) → first + more ≤ count → AllByRecursion (IsBelow count) (map externs.New (range_with_len first more))
made_below count first zero few = tt
made_below count first (suc more) few = (omega arith, made_below count (first + 1) more (omega arith))

fixed_below : (count : ℕ) → AllByRecursion (IsBelow count) fixed_externals
unfolding fixed_externals
fixed_below count = (tt, (tt, (tt, (tt, (tt, (tt, (tt, (tt, tt))))))))

results_below : (count first more : ℕ) → 1 ≤ first → first + more ≤ 65 → AllByRecursion (IsBelow count) (map externs.ResultOf (range_with_len first more))
results_below count first zero some few = tt
results_below count first (suc more) some few = ((some, omega arith), results_below count (first + 1) more (omega arith) (omega arith))

widths_below : (count : ℕ) → AllByRecursion (IsBelow count) (map externs.ResultOf integer_widths)
unfolding integer_widths
widths_below count = results_below count 1 64 (omega arith) (omega arith)

pub externals_below : (layouts : List ObjectLayout) → AllByRecursion (IsBelow (length layouts)) (externals layouts)
externals_below layouts =
    let count = length layouts in
    all_append (IsBelow count) (map externs.New (range_with_len 0 count)) (fixed_externals ++ (map externs.ResultOf integer_widths ++ externs.ResultPointer ∷ []))
    (made_below count 0 count (omega arith))
    (all_append (IsBelow count) fixed_externals (map externs.ResultOf integer_widths ++ externs.ResultPointer ∷ []) (fixed_below count)
    (all_append (IsBelow count) (map externs.ResultOf integer_widths) (externs.ResultPointer ∷ []) (widths_below count) (tt, tt)))

-- what holds of all parts of a module
pub record Each (P : Statement → Type 0) (content : ModuleContent) : Type 0 where
  pub layouts : AllByRecursion P (map layout_says content.layouts)
  pub declarations : (external : External) → IsBelow (length content.layouts) external → calls content.funcs external ≡ true → AllByRecursion P (declaration_says content.layouts external)
  pub heads : (func : Function) → Contains content.funcs func → P (define (word_of func.answer) func.name (map argument_says func.args) (Some (codes "statepoint-example")))
  pub bodies : (s : Statement) → in_body s ≡ true → P s
  pub ends : P close

pub each_said : (P : Statement → Type 0) (content : ModuleContent) → Each P content → AllByRecursion P (said_by content)
unfolding said_by
each_said P content each =
    all_append P (map layout_says content.layouts) (flat_map (declaration_if_called content.layouts content.funcs) (externals content.layouts) ++ flat_map (function_says content.layouts content.funcs) content.funcs)
    each.layouts
    (all_append P (flat_map (declaration_if_called content.layouts content.funcs) (externals content.layouts)) (flat_map (function_says content.layouts content.funcs) content.funcs)
    (declared (externals content.layouts) (externals_below content.layouts))
    (functions content.funcs (recursion_from_All (Contains content.funcs) content.funcs (All-contains_itself content.funcs))))
  where
    by : (external : External) (b : Bool) → calls content.funcs external ≡ b → IsBelow (length content.layouts) external → AllByRecursion P (if b then declaration_says content.layouts external else [])
    by external true called below = each.declarations external below called
    by external false called below = tt

    declared : (es : List External) → AllByRecursion (IsBelow (length content.layouts)) es → AllByRecursion P (flat_map (declaration_if_called content.layouts content.funcs) es)
    declared [] below = tt
    declared (e ∷ es) below =
        all_append P (declaration_if_called content.layouts content.funcs e) (flat_map (declaration_if_called content.layouts content.funcs) es)
        (by e (calls content.funcs e) refl below.0) (declared es below.1)

    functions : (fs : List Function) → AllByRecursion (Contains content.funcs) fs → AllByRecursion P (flat_map (function_says content.layouts content.funcs) fs)
    functions [] c = tt
    functions (f ∷ fs) c =
        let inside = flat_map (block_says (names_in content f)) f.blocks in
        all_append P (function_says content.layouts content.funcs f) (flat_map (function_says content.layouts content.funcs) fs)
        (each.heads f c.0, all_append P inside (close ∷ []) (weaker IsOfBody P each.bodies inside (blocks_inner (names_in content f) f.blocks)) (each.ends, tt))
        (functions fs c.1)

pub line_said : (P : Statement → Type 0) (content : ModuleContent) (lines : List Line) → said lines ≡ said_by content → Each P content
    → (l : Line) → Contains lines l → P l.says
line_said P content lines e each l c =
    All-contains (λ (k : Line). P k.says) lines l
    (All-from_recursion (λ (k : Line). P k.says) lines (lines_all P lines (said_by content) e (each_said P content each))) c

-- ---- code 10

pub no_strategy-clear : (content : ModuleContent) (lines : List Line) → said lines ≡ said_by content → (line : ℕ) → ¬ (NoStrategy lines line)
no_strategy-clear content lines e line f =
    no_text_fault lacks_strategy lines (said_by content) e
    (each_said (Passes lacks_strategy) content (record {
      layouts = layouts content.layouts;
      declarations = λ external below called. each_declared (Passes lacks_strategy) (λ answer name parameters. refl) content.layouts external;
      heads = λ func c. refl;
      bodies = bodies;
      ends = refl;
    })) line f
  where
    layouts : (ls : List ObjectLayout) → AllByRecursion (Passes lacks_strategy) (map layout_says ls)
    layouts [] = tt
    layouts (l ∷ ls) = (refl, layouts ls)

    bodies : (s : Statement) → in_body s ≡ true → lacks_strategy s ≡ false
    bodies (define answer name arguments strategy) h = absurd (let bad : false ≡ true = h in cc)
    bodies _ h = refl

-- ---- code 13

layout_right : (cs : List Cell) → 0 < length cs → not (are_cells (map cell_word cs)) ≡ false
layout_right [] some = absurd (omega arith)
layout_right (c ∷ cs) some =
    ap (λ (b : Bool). not (not b && list_all is_cell (map cell_word (c ∷ cs)))) (ne_eqb (length (map cell_word (c ∷ cs))) 0 (omega arith))
    ∙ ap not (cells_are (c ∷ cs))

pub bad_layout-clear : (content : ModuleContent) → IsShaped content → (lines : List Line) → said lines ≡ said_by content → (line : ℕ) → ¬ (BadLayout lines line)
bad_layout-clear content shaped lines e line f =
    no_text_fault is_bad_layout lines (said_by content) e
    (each_said (Passes is_bad_layout) content (record {
      layouts = layouts content.layouts (recursion_from_All (λ (l : ObjectLayout). 0 < length l.fields) content.layouts shaped.no_fault.fields);
      declarations = λ external below called. each_declared (Passes is_bad_layout) (λ answer name parameters. refl) content.layouts external;
      heads = λ func c. refl;
      bodies = bodies;
      ends = refl;
    })) line f
  where
    layouts : (ls : List ObjectLayout) → AllByRecursion (λ (l : ObjectLayout). 0 < length l.fields) ls → AllByRecursion (Passes is_bad_layout) (map layout_says ls)
    layouts [] h = tt
    layouts (l ∷ ls) h = (layout_right l.fields h.0, layouts ls h.1)

    bodies : (s : Statement) → in_body s ≡ true → is_bad_layout s ≡ false
    bodies (layout name fields) h = absurd (let bad : false ≡ true = h in cc)
    bodies _ h = refl

-- ---- lines of functions

-- a definition is what a function of the module is printed as
pub record From (content : ModuleContent) (one : Definition) : Type 0 where
  pub func : Function
  pub stands : Contains content.funcs func
  pub says : SaysDefinition content.layouts content.funcs one func

from_zip : (content : ModuleContent) (ones : List Definition) (fs : List Function) → AllZip (SaysDefinition content.layouts content.funcs) ones fs
    → AllByRecursion (Contains content.funcs) fs → AllByRecursion (From content) ones
from_zip content [] [] h c = tt
from_zip content [] (f ∷ fs) h c = absurd h
from_zip content (d ∷ ds) [] h c = absurd h
from_zip content (d ∷ ds) (f ∷ fs) h c = (record { func = f; stands = c.0; says = h.0 }, from_zip content ds fs h.1 c.1)

pub printed_from : (content : ModuleContent) (lines : List Line) → said lines ≡ said_by content → (one : Definition) → Contains (definitions_of lines) one → From content one
printed_from content lines e one c =
    All-contains (From content) (definitions_of lines) one
    (All-from_recursion (From content) (definitions_of lines)
    (from_zip content (definitions_of lines) content.funcs (definitions-are content lines e) (recursion_from_All (Contains content.funcs) content.funcs (All-contains_itself content.funcs)))) c

pub blocks_pass : (names : Names) (P : Statement → Type 0) (blocks : List BasicBlock) → ((name : List ℕ) → P (label name))
    → AllByRecursion (λ inst. AllByRecursion P (instruction_says names inst)) (instructions_of blocks) → AllByRecursion P (flat_map (block_says names) blocks)
blocks_pass names P [] labels h = tt
blocks_pass names P (b ∷ bs) labels h =
    let parts = split_all (λ (inst : Instruction). AllByRecursion P (instruction_says names inst)) b.insts (instructions_of bs) h in
    all_append P (block_says names b) (flat_map (block_says names) bs) (labels b.name, insts b.insts parts.0) (blocks_pass names P bs labels parts.1)
  where
    insts : (is : List Instruction) → AllByRecursion (λ inst. AllByRecursion P (instruction_says names inst)) is → AllByRecursion P (flat_map (instruction_says names) is)
    insts [] h = tt
    insts (i ∷ is) h = all_append P (instruction_says names i) (flat_map (instruction_says names) is) h.0 (insts is h.1)

-- a test that finds no line of an instruction of a function finds no line of a body
pub no_body_fault : (content : ModuleContent) (lines : List Line) → said lines ≡ said_by content → (test : Scope → Statement → Bool)
    → ((one : Definition) (func : Function) → SaysDefinition content.layouts content.funcs one func → Contains content.funcs func
    → (inst : Instruction) → Contains (instructions_of func.blocks) inst
    → AllByRecursion (λ s. test (scope_of lines one) s ≡ false) (instruction_says (names_in content func) inst))
    → ((scope : Scope) (name : List ℕ) → test scope (label name) ≡ false)
    → (line : ℕ) → ¬ (InBody lines line test)
no_body_fault content lines e test clear labels line f =
    let o = printed_from content lines e f.func f.defined in
    let insts = instructions_of o.func.blocks in
    let P : Statement → Type 0 = λ s. test (scope_of lines f.func) s ≡ false in
    let each : AllByRecursion (λ inst. AllByRecursion P (instruction_says (names_in content o.func) inst)) insts =
    recursion_from_All (λ (inst : Instruction). AllByRecursion P (instruction_says (names_in content o.func) inst)) insts
    (All-weaker (Contains insts) (λ (inst : Instruction). AllByRecursion P (instruction_says (names_in content o.func) inst))
    (clear f.func o.func o.says o.stands) insts (All-contains_itself insts)) in
    let all = lines_all P f.func.body (flat_map (block_says (names_in content o.func)) o.func.blocks) o.says.body
    (blocks_pass (names_in content o.func) P o.func.blocks (labels (scope_of lines f.func)) each) in
    let no : test (scope_of lines f.func) f.found.says ≡ false =
    All-contains (λ (l : Line). P l.says) f.func.body f.found (All-from_recursion (λ (l : Line). P l.says) f.func.body all) f.inside in
    let bad : true ≡ false = sym f.faulty ∙ no in cc

-- ---- code 16

no_cast : (s : Statement) → InBlock s → is_cast s ≡ false
no_cast (cast result op from value to) h = absurd (let bad : false ≡ true = h in cc)
no_cast _ h = refl

pub pointer_cast-clear : (content : ModuleContent) (lines : List Line) → said lines ≡ said_by content → (line : ℕ) → ¬ (PointerCast lines line)
pointer_cast-clear content lines e line f =
    no_body_fault content lines e (λ scope. is_cast)
    (λ one func says c inst d.
    weaker InBlock (Passes is_cast) no_cast (operator_says (names_in content func) inst.op inst) (inner (names_in content func) inst.op inst))
    (λ scope name. refl) line f

-- ---- declarations

-- the name of a helper, or one of LLVM's own
abbrev is_reserved : List ℕ → Bool
is_reserved name = list_any (bytes_eq name) helpers || bytes_eq (take 5 name) (codes "llvm.")

not_reserved : (name : List ℕ) → is_reserved name ≡ false → ¬ (Contains helpers name ⊎ HasFront (codes "llvm.") name)
not_reserved name e (inl c) =
    let helper : list_any (bytes_eq name) helpers ≡ true = contained_any (bytes_eq name) helpers name c ((bytes_eq-Decides name name).1 refl) in
    let bad : true ≡ false = sym (ap (λ (b : Bool). b || bytes_eq (take 5 name) (codes "llvm.")) helper) ∙ e in cc
not_reserved name e (inr f) =
    let front : bytes_eq (take 5 name) (codes "llvm.") ≡ true = ap (λ (n : List ℕ). bytes_eq (take 5 n) (codes "llvm.")) f.1 in
    let bad : true ≡ false = sym front ∙ or-right (list_any (bytes_eq name) helpers) (bytes_eq (take 5 name) (codes "llvm.")) e in cc

-- what a line tells if it is a declaration
abbrev pub IfDeclares : (TypeWord → List ℕ → List Named → Type 0) → Statement → Type 0
IfDeclares R (declare answer name parameters) = R answer name parameters
IfDeclares R _ = ⊤

-- what holds of each declaration
pub each_declaration : (R : TypeWord → List ℕ → List Named → Type 0) (content : ModuleContent)
    → ((number : ℕ) → number < length content.layouts → R types.Managed (codes "gc_new." ++ layout_name content.layouts number) (unnamed (types.Int 64 ∷ [])))
    → R types.Void (codes "print_i64") (unnamed (types.Int 64 ∷ [])) → R (types.Int 64) (codes "read_i64") []
    → R types.Void (codes "task_start") (unnamed (types.Plain ∷ types.Managed ∷ []))
    → (calls content.funcs externs.Poll ≡ true → R types.Void (codes "gc.safepoint_poll") [])
    → (calls content.funcs externs.Check ≡ true → R types.Void (codes "gc_check") (unnamed (types.Managed ∷ types.Managed ∷ types.Int 64 ∷ [])))
    → (calls content.funcs externs.Same ≡ true → R (types.Int 1) (codes "gc_same") (unnamed (types.Managed ∷ types.Managed ∷ types.Managed ∷ types.Managed ∷ [])))
    → Each (IfDeclares R) content
each_declaration R content made print read start poll check same = record {
  layouts = layouts content.layouts;
  declarations = declarations;
  heads = λ func c. tt;
  bodies = bodies;
  ends = tt;
}
  where
    layouts : (ls : List ObjectLayout) → AllByRecursion (IfDeclares R) (map layout_says ls)
    layouts [] = tt
    layouts (l ∷ ls) = (tt, layouts ls)

    declarations : (external : External) → IsBelow (length content.layouts) external → calls content.funcs external ≡ true → AllByRecursion (IfDeclares R) (declaration_says content.layouts external)
    declarations (externs.New number) below called = (made number below, tt)
    declarations externs.Print below called = (print, tt)
    declarations externs.Read below called = (read, tt)
    declarations externs.TaskStart below called = (start, tt)
    declarations externs.Poll below called = (poll called, tt)
    declarations externs.Check below called = (check called, tt)
    declarations externs.Same below called = (same called, tt)
    declarations _ below called = tt

    bodies : (s : Statement) → in_body s ≡ true → IfDeclares R s
    bodies (declare answer name parameters) h = absurd (let bad : false ≡ true = h in cc)
    bodies _ h = tt

pub declares_free : (content : ModuleContent) → ((e : External) → is_of_source e ≡ false → calls content.funcs e ≡ false) → (lines : List Line) → said lines ≡ said_by content → (line : ℕ) (answer : TypeWord) (name : List ℕ) (parameters : List Named)
    → Contains lines (record { number = line; says = declare answer name parameters })
    → ¬ (Contains helpers name ⊎ HasFront (codes "llvm.") name)
declares_free content uncalled lines e line answer name parameters c =
    line_said (IfDeclares (λ a n ps. ¬ (Contains helpers n ⊎ HasFront (codes "llvm.") n))) content lines e
    (each_declaration (λ a n ps. ¬ (Contains helpers n ⊎ HasFront (codes "llvm.") n)) content
    (λ number below. not_reserved (codes "gc_new." ++ layout_name content.layouts number) refl)
    (not_reserved (codes "print_i64") refl) (not_reserved (codes "read_i64") refl) (not_reserved (codes "task_start") refl)
    (λ called. absurd (let bad : true ≡ false = sym called ∙ uncalled externs.Poll refl in cc))
    (λ called. absurd (let bad : true ≡ false = sym called ∙ uncalled externs.Check refl in cc))
    (λ called. absurd (let bad : true ≡ false = sym called ∙ uncalled externs.Same refl in cc)))
    (record { number = line; says = declare answer name parameters }) c

-- ---- code 12

abbrev IsExtern : List (List ℕ) → TypeWord → List ℕ → List Named → Type 0
IsExtern layouts answer name parameters = Contains (externals_of layouts) (external name answer (types_of parameters))

pub unknown_extern-clear : (content : ModuleContent) (lines : List Line) → said lines ≡ said_by content → (line : ℕ) → ¬ (UnknownExtern lines line)
unknown_extern-clear content lines e line f =
    let names = map (λ (l : ObjectLayout). l.name) content.layouts in
    let there : IsExtern names f.answer f.name f.parameters =
    line_said (IfDeclares (IsExtern names)) content lines e
    (each_declaration (IsExtern names) content (made names content.layouts refl)
    (own names 0 (external (codes "print_i64") types.Void (types.Int 64 ∷ [])) refl)
    (own names 1 (external (codes "read_i64") (types.Int 64) []) refl)
    (own names 2 (external (codes "task_start") types.Void (types.Plain ∷ types.Managed ∷ [])) refl)
    (λ called. own names 3 (external (codes "gc.safepoint_poll") types.Void []) refl)
    (λ called. own names 4 (external (codes "gc_check") types.Void (types.Managed ∷ types.Managed ∷ types.Int 64 ∷ [])) refl)
    (λ called. own names 5 (external (codes "gc_same") (types.Int 1) (types.Managed ∷ types.Managed ∷ types.Managed ∷ types.Managed ∷ [])) refl))
    (record { number = line; says = declare f.answer f.name f.parameters }) f.stands in
    f.unknown (subst (λ (ns : List (List ℕ)). IsExtern ns f.answer f.name f.parameters) (sym (layout-names content lines e)) there)
  where
    own : (names : List (List ℕ)) (k : ℕ) (x : Rattle.ir_lines.specs.Externals.External) → slice_get own_externals k ≡ Some x → Contains (externals_of names) x
    own names k x at = Contains-append_right (makers_of names) own_externals x (contains_get own_externals k x at)

    made : (names : List (List ℕ)) (layouts : List ObjectLayout) → names ≡ map (λ (l : ObjectLayout). l.name) layouts → (number : ℕ) → number < length layouts
        → Contains (externals_of names) (external (codes "gc_new." ++ layout_name layouts number) types.Managed (types.Int 64 ∷ []))
    made names layouts is number below =
        let g = get_some layouts number below in
        let named : Contains names g.0.name =
        subst (λ (ns : List (List ℕ)). Contains ns g.0.name) (sym is) (contains_map (λ (l : ObjectLayout). l.name) layouts g.0 (contains_get layouts number g.0 g.1)) in
        let maker : Contains (makers_of names) (external (gc_new g.0.name) types.Managed (types.Int 64 ∷ [])) =
        contains_map (λ (n : List ℕ). external (gc_new n) types.Managed (types.Int 64 ∷ [])) names g.0.name named in
        subst (λ (n : List ℕ). Contains (externals_of names) (external (codes "gc_new." ++ n) types.Managed (types.Int 64 ∷ [])))
        (sym (ap (λ (o : Option ObjectLayout). option_map_or (λ (l : ObjectLayout). l.name) o []) g.1))
        (Contains-append_left (makers_of names) own_externals (external (gc_new g.0.name) types.Managed (types.Int 64 ∷ [])) maker)
