-- The text of a module is read: its layouts, its declarations and its functions.
use Rattle.std.proofs.Common.{◌≡◌, refl, ap, sym, ◌∙◌, subst, ℕ, suc, ◌+◌, ◌≤◌, Bool, true, false, if◌then◌else◌, List, [], ◌∷◌, ◌++◌, length, get_or, map, Some, None, Ok, arith, codes, decimal, append_assoc, append-nil, length-append}
use Rattle.std.specs.Prelude.{flat_map}
use Rattle.std.specs.List.{All, AllByRecursion, list_all}
use Rattle.std.specs.Str.Lines.{lines}
use Rattle.std.proofs.lemmas.Bool.{le-leb}
use Rattle.std.proofs.lemmas.Fmt.{decimal_digit}
use Rattle.std.proofs.lemmas.List.{length-map}
use Rattle.std.proofs.lemmas.List.Elements.{All-from_recursion, All-contains}
use Rattle.sp_text.specs.Tokens.{tokens, is_name}
use Rattle.sp_text.specs.Labels.{is_metadata}
use Rattle.sp_text.specs.Lines.{numbered, lines_of}
use Rattle.ir_ast.specs.Cells.{word_of}
use Rattle.ir_ast.specs.Insts.{Instruction}
use Rattle.ir_ast.specs.Layouts.{ObjectLayout}
use Rattle.ir_ast.specs.Funcs.{Function, instructions_of}
use Rattle.ir_ast.specs.Modules.{ModuleContent}
use Rattle.ir_cfg.specs.Limits.{IsWithinLimits, LayoutsHaveNames}
use Rattle.print_tables.specs.declared.externals.External.TheVariants as externs
use Rattle.print_tables.specs.declared.externals.External.{External}
use Rattle.ir_printer.specs.Declarations as printed_declarations
use Rattle.ir_printer.specs.Declarations.{calls, new_words, result_of_words, fixed_declaration, declaration_text, externals, declarations_text, has_top}
use Rattle.ir_printer.specs.Lists.{joined, led}
use Rattle.ir_printer.specs.Names.{layout_name}
use Rattle.ir_printer.specs.Texts.{layout_text, function_text, functions_text, text_of}
use Rattle.line_parts.specs.Types.{TypeWord}
use Rattle.line_parts.specs.Types as types
use Rattle.line_forms.specs.declared.forms.Form.{Form}
use Rattle.line_forms.specs.declared.forms.Form.TheVariants as forms
use Rattle.line_forms.specs.declared.forms.DroppedLine.TheVariants as drop_lines
use Rattle.line_tokens.specs.Families.{statepoint_name, relocate_name, result_suffix, result_front, is_family_name}
use Rattle.ir_reader.specs.declared.states.Counted.TheVariants as kinds
use Rattle.ir_reader.specs.declared.states.Place.TheVariants as places
use Rattle.ir_ast.specs.declared.modules.Form.{Form as TextForm}
use Rattle.ir_ast.specs.declared.modules.Form.TheVariants as text_forms
use Rattle.ir_reader.specs.declared.states.Counts.{Counts}
use Rattle.ir_reader.specs.declared.states.State.{State}
use Rattle.ir_reader.specs.Limits.{item_fits, counted, counted_in, counts_fit}
use Rattle.line_parts.specs.Lists.{Named, comma, argument_at, is_task_start}
use Rattle.line_tokens.specs.Marks.{is_mark, begins}
use Rattle.line_parts.specs.Parts.{is_answer_type}
use Rattle.ir_reader.specs.Places.{behind}
use Rattle.line_forms.specs.Forms.{is_dropped_form}
use Rattle.line_forms.specs.Seen.{of_form}
use Rattle.line_forms.specs.Slots as parts
use Rattle.ir_reader.specs.Text.{Numbered, readings, readings_in, next_state, opening}
use Rattle.ir_lines.specs.Statements.{Line, Statement, stated}
use Rattle.ir_lines.specs.Statements as statements
use Rattle.read_back.specs.Said.{cell_word, layout_says, unnamed, declaration_says, declaration_if_called, function_says, said_by}
use Rattle.read_back.proofs.BackFaults.{IsBelow, externals_below}
use Rattle.read_back.proofs.Cells.{cell_reads, wide_type}
use Rattle.read_back.proofs.Spellings.{SpellsType, integer_type, pointer_type, void_type}
use Rattle.read_back.proofs.Forms.{ReadsAs}
use Rattle.read_back.proofs.Listed.{SpellsElement}
use Rattle.read_back.proofs.ListForms.{EndsAtMark, field_element, type_opens, layout_line, parameter_element, plain_element, plain_opens, declare_line}
use Rattle.read_back.proofs.FormsIn.{ReadsIn, in_both, declare_in, gc_new_own}
use Rattle.read_back.proofs.GroupDeclarations.{IsDropped, statepoint_declared, relocate_declared, integer_declared, pointer_declared}
use Rattle.read_back.proofs.LinesRead.{Says, says-nothing, dropped_in, says-nil, says-both, says-line, says-empty, formed_in, ends_none-clean, before}
use Rattle.read_back.proofs.CallLines.{new-named}
use Rattle.read_back.proofs.Operands.{named_at}
use Rattle.read_back.proofs.Chains.{joined-cons, behind_all}
use Rattle.read_back.proofs.Blocks.{weight, Room, room-fits, room_as}
use Rattle.read_back.proofs.FunctionsRead.{FunctionReads, behind_function, function_read, function_form, function_room}
use Rattle.read_back.proofs.NotCalled.{is_of_source, each_of}

-- outside functions
abbrev at_top : TextForm → Counts → State
at_top of c = record { form = of; place = places.Top; counts = c }

top_line : (of : TextForm) (c : Counts) (text : List ℕ) (form : Form) (items : List parts.Item) → ReadsIn of text form items → is_metadata text ≡ false → behind places.Top form ≡ Some places.Top → is_dropped_form form ≡ false
    → list_all item_fits items ≡ true → counts_fit (next_state (at_top of c) places.Top (of_form form items)).counts ≡ true
    → Says (at_top of c) (text ++ (10 ∷ [])) (next_state (at_top of c) places.Top (of_form form items)) (stated (of_form form items) ∷ [])
top_line of c text form items reads other stands kept fits room =
    says-line (at_top of c) (next_state (at_top of c) places.Top (of_form form items)) text (of_form form items) (ends_none-clean text reads.clean)
    (formed_in (at_top of c) text form places.Top items reads.clean other reads.form_is reads.whole stands kept fits room)

-- a line that counts as nothing changes nothing
abbrev IsStill : TextForm → Counts → Type 0
IsStill of c = counted (counted_in of kinds.Nothing) c ≡ c

still_by : (of : TextForm) (c : Counts) → c.relocates ≡ 0 → IsStill of c
still_by text_forms.Source c none = ap (λ (r : ℕ). record c { relocates = r }) (sym none)
still_by text_forms.Rewritten c none = ap (λ (r : ℕ). record c { relocates = r }) (sym none)

-- ---- layouts

-- what is asked of a layout
record LayoutReads (layout : ObjectLayout) : Type 0 where
  pub named : is_name layout.name ≡ true
  pub short : length layout.name ≤ 4096
  pub few : length layout.fields ≤ 64

layout_bytes : (n body : List ℕ) → 37 ∷ (n ++ (codes " = type { " ++ (body ++ codes " }\n"))) ≡ (37 ∷ (n ++ (codes " = type { " ++ (body ++ codes " }")))) ++ (10 ∷ [])
layout_bytes n body = simp append_assoc

abbrev behind_layout : TextForm → Counts → Counts
behind_layout of c = counted (counted_in of kinds.Layout) c

layout_read : (of : TextForm) (layout : ObjectLayout) (c : Counts) → LayoutReads layout → counts_fit (behind_layout of c) ≡ true
    → Says (at_top of c) (layout_text layout) (at_top of (behind_layout of c)) (layout_says layout ∷ [])
layout_read of layout c is room =
    let text : List ℕ = 37 ∷ (layout.name ++ (codes " = type { " ++ (joined (codes ", ") (map word_of layout.fields) ++ codes " }"))) in
    let items : List parts.Item = parts.layout_name layout.name ∷ parts.fields (map cell_word layout.fields) ∷ [] in
    let reads : ReadsAs text forms.Layout items = layout_line layout.name is.named word_of cell_word layout.fields
    (λ k d low. let one = cell_reads (get_or layout.fields k d) in field_element one.spelled one.is_value)
    (λ k d low rest ends. type_opens (cell_reads (get_or layout.fields k d)).spelled (codes "}") rest ends) in
    let count : length (map cell_word layout.fields) ≡ length layout.fields = length-map layout.fields cell_word in
    let fits : list_all item_fits items ≡ true = rw (le-leb (length layout.name) 4096 is.short, count, le-leb (length layout.fields) 64 is.few) refl in
    rw (layout_bytes layout.name (joined (codes ", ") (map word_of layout.fields))) (top_line of c text forms.Layout items (in_both of refl reads) refl refl refl fits room)

abbrev behind_layouts : TextForm → List ObjectLayout → Counts → Counts
behind_layouts of [] c = c
behind_layouts of (layout ∷ layouts) c = behind_layouts of layouts (behind_layout of c)

layout_room : (of : TextForm) (l f v i : ℕ) (c : Counts) → Room of (suc l) f v i c → Room of l f v i (behind_layout of c)
layout_room text_forms.Source l f v i c room = record { layouts = omega (arith, room.layouts); functions = room.functions; values = room.values; instructions = room.instructions }
layout_room text_forms.Rewritten l f v i c room = record { layouts = omega (arith, room.layouts); functions = room.functions; values = room.values; instructions = room.instructions }

layout_still : (of : TextForm) (c : Counts) → (behind_layout of c).relocates ≡ 0
layout_still text_forms.Source c = refl
layout_still text_forms.Rewritten c = refl

few : (c : Counts) → c.relocates ≡ 0 → c.relocates ≤ 16384
few c none = omega arith

layouts_read : (of : TextForm) (layouts : List ObjectLayout) (f v i : ℕ) (c : Counts) → AllByRecursion LayoutReads layouts → Room of (length layouts) f v i c
    → Says (at_top of c) (joined [] (map layout_text layouts)) (at_top of (behind_layouts of layouts c)) (map layout_says layouts)
layouts_read of [] f v i c all room = says-nil (at_top of c)
layouts_read of (layout ∷ layouts) f v i c all room =
    let next : Room of (length layouts) f v i (behind_layout of c) = layout_room of (length layouts) f v i c room in
    rw (joined-cons (layout_text layout) (map layout_text layouts))
    (says-both (layout_read of layout c all.0 (room-fits next (few (behind_layout of c) (layout_still of c)))) (layouts_read of layouts f v i (behind_layout of c) all.1 next))

layouts_room : (of : TextForm) (layouts : List ObjectLayout) (f v i : ℕ) (c : Counts) → Room of (length layouts) f v i c → Room of 0 f v i (behind_layouts of layouts c)
layouts_room of [] f v i c room = room
layouts_room of (layout ∷ layouts) f v i c room = layouts_room of layouts f v i (behind_layout of c) (layout_room of (length layouts) f v i c room)

layouts_still : (of : TextForm) (layouts : List ObjectLayout) (c : Counts) → c.relocates ≡ 0 → (behind_layouts of layouts c).relocates ≡ 0
layouts_still of [] c none = none
layouts_still of (layout ∷ layouts) c none = layouts_still of layouts (behind_layout of c) (layout_still of c)

-- ---- declarations

-- the words of the parameters of externals
abbrev parameter_word : TypeWord → List ℕ
parameter_word types.Void = codes "void"
parameter_word (types.Int bits) = codes "i64"
parameter_word types.Plain = codes "ptr"
parameter_word types.Managed = codes "ptr addrspace(1)"

abbrev parameter_named : TypeWord → Named
parameter_named ty = record { ty = ty; name = None }

abbrev ParameterReads : Bool → TypeWord → Type 0
ParameterReads plain ty = SpellsElement (argument_at plain) comma EndsAtMark (parameter_word ty) (parameter_named ty)
    × ((rest : List ℕ) → EndsAtMark rest → begins (is_mark (codes ")")) (tokens (parameter_word ty ++ rest)) ≡ false)

wide_parameter : (plain : Bool) → ParameterReads plain (types.Int 64)
wide_parameter plain = (parameter_element plain wide_type refl, λ rest ends. type_opens wide_type (codes ")") rest ends)

managed_parameter : (plain : Bool) → ParameterReads plain types.Managed
managed_parameter plain = (parameter_element plain pointer_type refl, λ rest ends. type_opens pointer_type (codes ")") rest ends)

plain_parameter : ParameterReads true types.Plain
plain_parameter = (plain_element, λ rest ends. plain_opens rest ends)

elements_read : (plain : Bool) (tys : List TypeWord) → AllByRecursion (ParameterReads plain) tys → AllByRecursion (λ ty. SpellsElement (argument_at plain) comma EndsAtMark (parameter_word ty) (parameter_named ty)) tys
elements_read plain [] all = tt
elements_read plain (ty ∷ tys) all = (all.0.0, elements_read plain tys all.1)

opens_read : (plain : Bool) (tys : List TypeWord) → AllByRecursion (ParameterReads plain) tys
    → AllByRecursion (λ ty. (rest : List ℕ) → EndsAtMark rest → begins (is_mark (codes ")")) (tokens (parameter_word ty ++ rest)) ≡ false) tys
opens_read plain [] all = tt
opens_read plain (ty ∷ tys) all = (all.0.1, opens_read plain tys all.1)

declared_line : {spelled : List ℕ} {answer : TypeWord} → SpellsType spelled answer → is_answer_type answer ≡ true → (n : List ℕ) → is_name n ≡ true → (tys : List TypeWord) → AllByRecursion (ParameterReads (is_task_start n)) tys
    → ReadsAs (codes "declare " ++ (spelled ++ (32 ∷ 64 ∷ (n ++ (40 ∷ (joined (codes ", ") (map parameter_word tys) ++ codes ")")))))) forms.Declare (parts.ty answer ∷ parts.declared n (unnamed tys) ∷ [])
declared_line t allow n is tys all =
    declare_line t allow n is parameter_word parameter_named tys (All-from_recursion _ tys (elements_read (is_task_start n) tys all)) (All-from_recursion _ tys (opens_read (is_task_start n) tys all))

new_bytes : (n : List ℕ) → new_words ++ (n ++ codes "(i64)\n") ≡ (codes "declare ptr addrspace(1) @gc_new." ++ (n ++ codes "(i64)")) ++ (10 ∷ [])
unfolding new_words
new_bytes n = simp append_assoc

-- a declaration
declared_top : (of : TextForm) (c : Counts) → IsStill of c → (text : List ℕ) (items : List parts.Item) → ReadsIn of text forms.Declare items → is_metadata text ≡ false → list_all item_fits items ≡ true → counts_fit c ≡ true
    → Says (at_top of c) (text ++ (10 ∷ [])) (at_top of c) (stated (of_form forms.Declare items) ∷ [])
declared_top of c same text items reads other fits room =
    subst (λ (s : State). Says (at_top of c) (text ++ (10 ∷ [])) s (stated (of_form forms.Declare items) ∷ [])) (ap (at_top of) same)
    (top_line of c text forms.Declare items reads other refl refl fits (ap counts_fit same ∙ room))

declared_in : (of : TextForm) {spelled : List ℕ} {answer : TypeWord} (t : SpellsType spelled answer) → is_answer_type answer ≡ true → (n : List ℕ) → is_name n ≡ true → is_family_name n ≡ false → (tys : List TypeWord) → AllByRecursion (ParameterReads (is_task_start n)) tys
    → ReadsIn of (codes "declare " ++ (spelled ++ (32 ∷ 64 ∷ (n ++ (40 ∷ (joined (codes ", ") (map parameter_word tys) ++ codes ")")))))) forms.Declare (parts.ty answer ∷ parts.declared n (unnamed tys) ∷ [])
declared_in of t allow n is own tys all = declare_in of t n is own (joined (codes ", ") (map parameter_word tys) ++ codes ")") (declared_line t allow n is tys all)

-- one of the three families, in a text of the rewritten form
dropped_top : (c : Counts) (text : List ℕ) → IsDropped text → is_metadata text ≡ false → Says (at_top text_forms.Rewritten c) (text ++ (10 ∷ [])) (at_top text_forms.Rewritten c) []
dropped_top c text reads other =
    says-nothing (at_top text_forms.Rewritten c) text (ends_none-clean text reads.reads.clean)
    (dropped_in (at_top text_forms.Rewritten c) text (forms.Dropped drop_lines.Family) places.Top (parts.family_answer reads.answer ∷ []) reads.reads.clean other reads.reads.form_is reads.reads.whole refl refl
    refl)

bit_type : SpellsType (codes "i1") (types.Int 1)
bit_type = subst (λ (ds : List ℕ). SpellsType (105 ∷ ds) (types.Int 1)) (decimal_digit 1 (omega arith)) (integer_type 1 (omega arith, omega arith))

result_bytes : (ds : List ℕ) → codes "declare i" ++ (ds ++ (result_of_words ++ (ds ++ codes "(token)\n"))) ≡ (codes "declare i" ++ (ds ++ (codes " @llvm.experimental.gc.result.i" ++ (ds ++ codes "(token)")))) ++ (10 ∷ [])
unfolding result_of_words
result_bytes ds = simp append_assoc

-- a family is declared in the rewritten form alone
family_read : (of : TextForm) (e : External) → (of ≡ text_forms.Source → is_of_source e ≡ true) → is_of_source e ≡ false → {A : Type 0} → (of ≡ text_forms.Rewritten → A) → A
family_read text_forms.Source e may other rewritten = absurd (let bad : true ≡ false = sym (may refl) ∙ other in cc)
family_read text_forms.Rewritten e may other rewritten = rewritten refl

dropped_read : (of : TextForm) (c : Counts) (text : List ℕ) → of ≡ text_forms.Rewritten → IsDropped text → is_metadata text ≡ false → Says (at_top of c) (text ++ (10 ∷ [])) (at_top of c) []
dropped_read text_forms.Source c text is reads other = absurd cc
dropped_read text_forms.Rewritten c text is reads other = dropped_top c text reads other

declaration_read : (of : TextForm) (layouts : List ObjectLayout) → All (λ (layout : ObjectLayout). is_name layout.name ≡ true) layouts → (c : Counts) → IsStill of c → counts_fit c ≡ true → (e : External) → IsBelow (length layouts) e
    → (of ≡ text_forms.Source → is_of_source e ≡ true)
    → Says (at_top of c) (declaration_text layouts e) (at_top of c) (declaration_says layouts e)
unfolding fixed_declaration statepoint_name relocate_name result_suffix result_front
declaration_read of layouts named c same room (externs.New number) low may =
    let n : List ℕ = codes "gc_new." ++ layout_name layouts number in
    let n_is : is_name n ≡ true = new-named (layout_name layouts number) (named_at (λ (layout : ObjectLayout). layout.name) layouts named number low) in
    rw (new_bytes (layout_name layouts number))
    (declared_top of c same (codes "declare ptr addrspace(1) @gc_new." ++ (layout_name layouts number ++ codes "(i64)")) (parts.ty types.Managed ∷ parts.declared n (unnamed (types.Int 64 ∷ [])) ∷ [])
    (declared_in of pointer_type refl n n_is (gc_new_own (layout_name layouts number)) (types.Int 64 ∷ []) (wide_parameter (is_task_start n), tt)) refl refl room)
declaration_read of layouts named c same room externs.Print low may =
    declared_top of c same (codes "declare void @print_i64(i64)") (parts.ty types.Void ∷ parts.declared (codes "print_i64") (unnamed (types.Int 64 ∷ [])) ∷ [])
    (declared_in of void_type refl (codes "print_i64") refl refl (types.Int 64 ∷ []) (wide_parameter false, tt)) refl refl room
declaration_read of layouts named c same room externs.Read low may =
    declared_top of c same (codes "declare i64 @read_i64()") (parts.ty (types.Int 64) ∷ parts.declared (codes "read_i64") (unnamed []) ∷ [])
    (declared_in of wide_type refl (codes "read_i64") refl refl [] tt) refl refl room
declaration_read of layouts named c same room externs.TaskStart low may =
    declared_top of c same (codes "declare void @task_start(ptr, ptr addrspace(1))") (parts.ty types.Void ∷ parts.declared (codes "task_start") (unnamed (types.Plain ∷ types.Managed ∷ [])) ∷ [])
    (declared_in of void_type refl (codes "task_start") refl refl (types.Plain ∷ types.Managed ∷ []) (plain_parameter, (managed_parameter true, tt))) refl refl room
declaration_read of layouts named c same room externs.Poll low may =
    declared_top of c same (codes "declare void @gc.safepoint_poll()") (parts.ty types.Void ∷ parts.declared (codes "gc.safepoint_poll") (unnamed []) ∷ [])
    (declared_in of void_type refl (codes "gc.safepoint_poll") refl refl [] tt) refl refl room
declaration_read of layouts named c same room externs.Check low may =
    declared_top of c same (codes "declare void @gc_check(ptr addrspace(1), ptr addrspace(1), i64)") (parts.ty types.Void ∷ parts.declared (codes "gc_check") (unnamed (types.Managed ∷ types.Managed ∷ types.Int 64 ∷ [])) ∷ [])
    (declared_in of void_type refl (codes "gc_check") refl refl (types.Managed ∷ types.Managed ∷ types.Int 64 ∷ []) (managed_parameter false, (managed_parameter false, (wide_parameter false, tt)))) refl refl room
declaration_read of layouts named c same room externs.Same low may =
    declared_top of c same (codes "declare i1 @gc_same(ptr addrspace(1), ptr addrspace(1), ptr addrspace(1), ptr addrspace(1))")
    (parts.ty (types.Int 1) ∷ parts.declared (codes "gc_same") (unnamed (types.Managed ∷ types.Managed ∷ types.Managed ∷ types.Managed ∷ [])) ∷ [])
    (declared_in of bit_type refl (codes "gc_same") refl refl (types.Managed ∷ types.Managed ∷ types.Managed ∷ types.Managed ∷ [])
    (managed_parameter false, (managed_parameter false, (managed_parameter false, (managed_parameter false, tt))))) refl refl room
declaration_read of layouts named c same room externs.StatepointFamily low may =
    family_read of externs.StatepointFamily may refl (λ is. dropped_read of c (codes "declare token @llvm.experimental.gc.statepoint.p0(i64, i32, ptr, i32, i32, ...)") is statepoint_declared refl)
declaration_read of layouts named c same room externs.RelocateFamily low may =
    family_read of externs.RelocateFamily may refl (λ is. dropped_read of c (codes "declare ptr addrspace(1) @llvm.experimental.gc.relocate.p1(token, i32, i32)") is relocate_declared refl)
declaration_read of layouts named c same room (externs.ResultOf width) low may =
    rw (result_bytes (decimal width)) (family_read of (externs.ResultOf width) may refl (λ is.
    dropped_read of c (codes "declare i" ++ (decimal width ++ (codes " @llvm.experimental.gc.result.i" ++ (decimal width ++ codes "(token)")))) is (integer_declared width low) refl))
declaration_read of layouts named c same room externs.ResultPointer low may =
    family_read of externs.ResultPointer may refl (λ is. dropped_read of c (codes "declare ptr addrspace(1) @llvm.experimental.gc.result.p1(token)") is pointer_declared refl)

-- what a text of the source form doesn't declare
abbrev pub Uncalled : TextForm → List Function → Type 0
Uncalled of funcs = of ≡ text_forms.Source → (e : External) → is_of_source e ≡ false → calls funcs e ≡ false

if_called_read : (of : TextForm) (layouts : List ObjectLayout) (funcs : List Function) → All (λ (layout : ObjectLayout). is_name layout.name ≡ true) layouts → (c : Counts) → IsStill of c → counts_fit c ≡ true → (e : External) → IsBelow (length layouts) e
    → Uncalled of funcs
    → Says (at_top of c) (printed_declarations.declaration_if_called layouts funcs e) (at_top of c) (declaration_if_called layouts funcs e)
if_called_read of layouts funcs named c same room e low uncalled = by (calls funcs e) refl
  where
    may : calls funcs e ≡ true → (of_source : Bool) → is_of_source e ≡ of_source → of ≡ text_forms.Source → is_of_source e ≡ true
    may called true so is = so
    may called false so is = absurd (let bad : true ≡ false = sym called ∙ uncalled is e so in cc)

    by : (called : Bool) → calls funcs e ≡ called
        → Says (at_top of c) (if called then declaration_text layouts e else []) (at_top of c) (if called then declaration_says layouts e else [])
    by false is = says-nil (at_top of c)
    by true is = declaration_read of layouts named c same room e low (may is (is_of_source e) refl)

declarations_read : (of : TextForm) (layouts : List ObjectLayout) (funcs : List Function) → All (λ (layout : ObjectLayout). is_name layout.name ≡ true) layouts → (c : Counts) → IsStill of c → counts_fit c ≡ true
    → Uncalled of funcs → (es : List External) → AllByRecursion (IsBelow (length layouts)) es
    → Says (at_top of c) (flat_map (printed_declarations.declaration_if_called layouts funcs) es) (at_top of c) (flat_map (declaration_if_called layouts funcs) es)
declarations_read of layouts funcs named c same room uncalled [] low = says-nil (at_top of c)
declarations_read of layouts funcs named c same room uncalled (e ∷ es) low =
    says-both (if_called_read of layouts funcs named c same room e low.0 uncalled) (declarations_read of layouts funcs named c same room uncalled es low.1)

-- ---- functions

abbrev pub all_instructions : List Function → List Instruction
all_instructions funcs = flat_map (λ func. instructions_of func.blocks) funcs

split_room : (func : Function) (funcs : List Function) (s : State) → Room s.form 0 (suc (length funcs)) 0 (length (all_instructions (func ∷ funcs))) s.counts
    → Room s.form 0 (suc (length funcs)) 0 (length (instructions_of func.blocks) + length (all_instructions funcs)) s.counts
split_room func funcs s room =
    let split : length (all_instructions (func ∷ funcs)) ≡ length (instructions_of func.blocks) + length (all_instructions funcs) = length-append (instructions_of func.blocks) (all_instructions funcs) in
    room_as s.form _ _ refl (sym split) room

led_read : (of : TextForm) (layouts : List ObjectLayout) (funcs : List Function) (fs : List Function) (s : State) → s.form ≡ of → s.place ≡ places.Top → AllByRecursion (FunctionReads of layouts funcs) fs
    → Room s.form 0 (length fs) 0 (length (all_instructions fs)) s.counts
    → Says s (led (codes "\n") (map (function_text layouts funcs) fs)) (behind_all behind_function fs s) (flat_map (function_says layouts funcs) fs)
led_read of layouts funcs [] s formed top all room = says-nil s
led_read of layouts funcs (f ∷ fs) s formed top all room =
    let here = split_room f fs s room in
    says-both (says-both (says-empty s) (function_read of layouts funcs f s 0 (length fs) (length (all_instructions fs)) all.0 formed top here))
    (led_read of layouts funcs fs (behind_function f s) (function_form f s ∙ formed) refl all.1 (function_room of layouts funcs f s 0 (length fs) (length (all_instructions fs)) all.0 formed here))

joined_read : (of : TextForm) (layouts : List ObjectLayout) (funcs : List Function) (fs : List Function) (s : State) → s.form ≡ of → s.place ≡ places.Top → AllByRecursion (FunctionReads of layouts funcs) fs
    → Room s.form 0 (length fs) 0 (length (all_instructions fs)) s.counts
    → Says s (joined (codes "\n") (map (function_text layouts funcs) fs)) (behind_all behind_function fs s) (flat_map (function_says layouts funcs) fs)
joined_read of layouts funcs [] s formed top all room = says-nil s
joined_read of layouts funcs (f ∷ fs) s formed top all room =
    let here = split_room f fs s room in
    says-both (function_read of layouts funcs f s 0 (length fs) (length (all_instructions fs)) all.0 formed top here)
    (led_read of layouts funcs fs (behind_function f s) (function_form f s ∙ formed) refl all.1 (function_room of layouts funcs f s 0 (length fs) (length (all_instructions fs)) all.0 formed here))

functions_read : (of : TextForm) (layouts : List ObjectLayout) (funcs : List Function) (s : State) → s.form ≡ of → s.place ≡ places.Top → AllByRecursion (FunctionReads of layouts funcs) funcs
    → Room s.form 0 (length funcs) 0 (length (all_instructions funcs)) s.counts
    → Says s (functions_text layouts funcs) (behind_all behind_function funcs s) (flat_map (function_says layouts funcs) funcs)
functions_read of layouts funcs s formed top all room = by (has_top layouts funcs)
  where
    by : (above : Bool) → Says s (if above then led (codes "\n") (map (function_text layouts funcs) funcs) else joined (codes "\n") (map (function_text layouts funcs) funcs))
        (behind_all behind_function funcs s) (flat_map (function_says layouts funcs) funcs)
    by true = led_read of layouts funcs funcs s formed top all room
    by false = joined_read of layouts funcs funcs s formed top all room

functions_top : (fs : List Function) (s : State) → s.place ≡ places.Top → (behind_all behind_function fs s).place ≡ places.Top
functions_top [] s top = top
functions_top (f ∷ fs) s top = functions_top fs (behind_function f s) refl

-- ---- the module

-- the state behind the module's text
abbrev behind_module : TextForm → ModuleContent → State
behind_module of content = behind_all behind_function content.funcs (at_top of (behind_layouts of content.layouts (opening of).counts))

-- what is asked of a module so that its text is read as one of this form
pub record ModuleReads (of : TextForm) (content : ModuleContent) : Type 0 where
  pub layout_names : LayoutsHaveNames content
  pub limits : IsWithinLimits content
  pub instructions : weight of (length (all_instructions content.funcs)) ≤ 65536
  pub uncalled : Uncalled of content.funcs
  pub functions : AllByRecursion (FunctionReads of content.layouts content.funcs) content.funcs

no_weight : (of : TextForm) → weight of 0 ≡ 0
no_weight text_forms.Source = refl
no_weight text_forms.Rewritten = refl

module_read : (of : TextForm) (content : ModuleContent) → ModuleReads of content → Says (opening of) (text_of content) (behind_module of content) (said_by content)
unfolding text_of said_by declarations_text
module_read of content is =
    says-both (layouts_read of content.layouts (length content.funcs) 0 (length (all_instructions content.funcs)) (opening of).counts layouts_fit room)
    (says-both (declarations_read of content.layouts content.funcs is.layout_names behind_counts (still_by of behind_counts none) (room-fits later (few behind_counts none)) is.uncalled (externals content.layouts) (externals_below content.layouts))
    (functions_read of content.layouts content.funcs (at_top of behind_counts) refl refl is.functions later))
  where
    layouts_fit : AllByRecursion LayoutReads content.layouts
    layouts_fit = each_of content.layouts LayoutReads (λ layout c. record {
      named = All-contains (λ (one : ObjectLayout). is_name one.name ≡ true) content.layouts layout is.layout_names c;
      short = All-contains (λ (one : ObjectLayout). length one.name ≤ 4096) content.layouts layout is.limits.layout_names c;
      few = All-contains (λ (one : ObjectLayout). length one.fields ≤ 64) content.layouts layout is.limits.fields c;
    })

    room : Room of (length content.layouts) (length content.funcs) 0 (length (all_instructions content.funcs)) (opening of).counts
    room =
        let layouts = is.limits.layouts in
        let functions = is.limits.functions in
        let instructions = is.instructions in
        let none = no_weight of in
        record { layouts = omega arith; functions = omega arith; values = omega arith; instructions = omega arith }

    behind_counts : Counts
    behind_counts = behind_layouts of content.layouts (opening of).counts

    none : behind_counts.relocates ≡ 0
    none = layouts_still of content.layouts (opening of).counts refl

    later : Room of 0 (length content.funcs) 0 (length (all_instructions content.funcs)) behind_counts
    later = layouts_room of content.layouts (length content.funcs) 0 (length (all_instructions content.funcs)) (opening of).counts room

-- readings of a text of this form whose lines say this
pub record TextReads (of : TextForm) (text : List ℕ) (says : List Statement) : Type 0 where
  pub found : List Numbered
  pub reads : readings_in of text ≡ Ok found
  pub same : map (λ (l : Line). l.says) (statements.lines_of found) ≡ says

ended_top : (s : State) (number : ℕ) → s.place ≡ places.Top → readings s number [] ≡ Ok []
unfolding readings
ended_top s number top = rw top refl

says_lines : (found : List Numbered) → map (λ (l : Line). l.says) (statements.lines_of found) ≡ map (λ (one : Numbered). stated one.said) found
says_lines [] = refl
says_lines (one ∷ found) = ap (λ (more : List Statement). stated one.said ∷ more) (says_lines found)

text_reads : (of : TextForm) (text : List ℕ) (last : State) (says : List Statement) → last.place ≡ places.Top → Says (opening of) text last says → TextReads of text says
unfolding readings_in lines_of
text_reads of text last says top read = record {
  found = read.read 1;
  reads = ap (λ (bs : List ℕ). readings (opening of) 1 (numbered 1 (lines bs))) (sym (append-nil text)) ∙ read.reads 1 [] ∙ ap (before (read.read 1)) (ended_top last (read.next 1) top) ∙ ap Ok (append-nil (read.read 1));
  same = says_lines (read.read 1) ∙ read.says 1;
}

-- the text says what the module does
pub module_text_reads : (of : TextForm) (content : ModuleContent) → ModuleReads of content → TextReads of (text_of content) (said_by content)
module_text_reads of content is =
    text_reads of (text_of content) (behind_module of content) (said_by content) (functions_top content.funcs (at_top of (behind_layouts of content.layouts (opening of).counts)) refl) (module_read of content is)
