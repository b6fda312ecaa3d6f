-- The rewritten module is typed.
use Rattle.std.proofs.Common.{◌≡◌, ℕ, suc, ◌+◌, ◌≤◌, false, List, [], ◌∷◌, ◌++◌, length, map, refl, sym, ap, subst, ◌∙◌, arith}
use Rattle.std.specs.Prelude.{Option, Some, None, codes, filter, slice_get}
use Rattle.std.specs.List.{All, flat_map}
use Rattle.std.specs.Option.{option_map}
use Rattle.std.proofs.lemmas.List.{length-append}
use Rattle.std.proofs.lemmas.List.Elements.{All-cons, All-nil, filter-append, All-head, All-tail}
use Rattle.std.proofs.lemmas.Option.{get_or_from_slice_get}
use Rattle.list_laws.proofs.Contents.{all_at, all_back, all_from_at}
use Rattle.ir_ast.specs.declared.funcs.Arg.{Arg}
use Rattle.ir_ast.specs.declared.modules.Form.TheVariants.{Rewritten}
use Rattle.ir_ast.specs.declared.ops.Callee.{Callee}
use Rattle.ir_ast.specs.declared.ops.Callee.TheVariants as callees
use Rattle.ir_ast.specs.declared.ops.Operand.{Operand}
use Rattle.ir_ast.specs.Insts.{Instruction}
use Rattle.ir_ast.specs.Blocks.{BasicBlock}
use Rattle.ir_ast.specs.Funcs.{Function, instructions_of}
use Rattle.ir_ast.specs.Modules.{ModuleContent}
use Rattle.ir_ast.specs.Lines.{IsLine}
use Rattle.ir_ast.specs.Lists.{Distinct}
use Rattle.ir_ast.specs.Scope.{scope_of, signature_of}
use Rattle.ir_ast.specs.Values.{definition_name, definitions_of}
use Rattle.ir_ast.specs.Widths.{IsWidth, line_widths, type_widths}
use Rattle.ir_ast.specs.Faultless.{FunctionHasNoFault}
use Rattle.ir_ast.specs.Faults.EntryHasPred.{LeavesEntry}
use Rattle.ir_ast.specs.Faults.GroupShape.{is_statepoint}
use Rattle.ir_ast.specs.Faults.NameTwice.{NamesAreDistinct}
use Rattle.ir_ast.specs.Faults.NoMain.{HasMain}
use Rattle.ir_ast.specs.Faults.PointerOrder.{orders_pointers}
use Rattle.ir_ast.specs.Faults.Reserved.{IsExternalName}
use Rattle.ir_ast.specs.Faults.TypeClash.{FunctionIsTyped, IsTyped}
use Rattle.ir_ast.specs.Faults.UnknownName.{NamesOfFunction, NamesOfModule}
use Rattle.ir_cfg.specs.TypedModules.{IsTypedFunction, IsTypedModule}
use Rattle.ir_cfg.proofs.KeepsForms.{all_flat}
use Rattle.ir_cfg.proofs.KeepsLines.{all_insts, line_at}
use Rattle.object_meaning.specs.Lines.{Line, register_count}
use Rattle.rewriting_forms.specs.Numbered.{lines_at}
use Rattle.rewriting_forms.specs.Liveness.{live_table}
use Rattle.rewriting_forms.specs.Names.{naming_of}
use Rattle.rewriting_forms.specs.Rewritten.{names_of, place_in, rewritten, rewritten_blocks, rewritten_funcs, rewritten_module}
use Rattle.rewriting_laws.specs.Laws.{Fits, IsNumbering, IsPlain}
use Rattle.rewriting_laws.specs.Laws as laws
use Rattle.rewriting_laws.specs.Related.{IsRewriting}
use Rattle.rewriting_laws.specs.Statements.{func_of, no_function, rewritings}
use Rattle.rewriting_laws.proofs.Whole.{modules, now_get}
use Rattle.rewritten_sound.proofs.definite.NowLaws.{now}
use Rattle.rewritten_sound.specs.Shape.{HasRoomForGroups, IsTypedBefore, RewrittenIsTyped}
use Rattle.rewritten_sound.specs.WellFormed.{IsWellFormed, SeesAlike}
use Rattle.rewritten_sound.proofs.shape.CountLaws.{points_few}
use Rattle.rewritten_sound.proofs.shape.FunctionLaws.{NoPoint, distinct_labels, distinct_values, has_no_fault, is_typed, is_typed_function, no_tokens}
use Rattle.rewritten_sound.proofs.shape.NamedLaws.{naming_in_text}
use Rattle.rewritten_sound.proofs.shape.PassLaws.{IsNamed}
use Rattle.rewritten_sound.specs.Takes.{HoldsOthers}
use Rattle.base_definite.proofs.LinePlaces.{line_from, line_forth}

-- ---- the functions of the module

funcs_long : (tables : ℕ → List Operand) (from : ℕ) (funcs : List Function) → length (rewritten_funcs tables from funcs) ≡ length funcs
funcs_long tables from [] = refl
funcs_long tables from (func ∷ funcs) = ap suc (funcs_long tables (suc from) funcs)

func_names : (tables : ℕ → List Operand) (from : ℕ) (funcs : List Function) → map (λ (func : Function). func.name) (rewritten_funcs tables from funcs) ≡ map (λ (func : Function). func.name) funcs
func_names tables from [] = refl
func_names tables from (func ∷ funcs) = ap (λ names. func.name ∷ names) (func_names tables (suc from) funcs)

-- what asks of names and arguments alone
same_head : (P : Function → Type 0) → ((func : Function) (table : List Operand) → P func → P (rewritten func table)) → (tables : ℕ → List Operand) (from : ℕ) (funcs : List Function)
    → All P funcs → All P (rewritten_funcs tables from funcs)
same_head P each tables from [] all = All-nil P
same_head P each tables from (func ∷ funcs) all =
    All-cons P (rewritten func (tables from)) (rewritten_funcs tables (suc from) funcs) (each func (tables from) (All-head P func funcs all))
    (same_head P each tables (suc from) funcs (All-tail P func funcs all))

split_funcs : (tables : ℕ → List Operand) (from : ℕ) (earlier : List Function) (main : Function) (later : List Function)
    → rewritten_funcs tables from (earlier ++ main ∷ later)
    ≡ rewritten_funcs tables from earlier ++ rewritten main (tables (from + length earlier)) ∷ rewritten_funcs tables (suc (from + length earlier)) later
split_funcs tables from [] main later =
    let e : from ≡ from + 0 = omega arith in
    ap (λ n. rewritten main (tables n) ∷ rewritten_funcs tables (suc n) later) e
split_funcs tables from (func ∷ earlier) main later =
    let e : suc from + length earlier ≡ from + suc (length earlier) = omega arith in
    ap (λ rest. rewritten func (tables from) ∷ rest)
    (split_funcs tables (suc from) earlier main later
    ∙ ap (λ n. rewritten_funcs tables (suc from) earlier ++ rewritten main (tables n) ∷ rewritten_funcs tables (suc n) later) e)

-- ---- one function

module _ (content : ModuleContent) (tables : ℕ → List Operand) (is : IsTypedBefore content tables) where
  abbrev after : ModuleContent
  after = rewritten_module content tables

  called_same : (callee : Callee) (func : Function) (table : List Operand) → (scope_of after (rewritten func table)).called callee ≡ (scope_of content func).called callee
  called_same (callees.Fun called) func table =
      ap (option_map signature_of) (now_get content tables is.before called.0) ∙ by (slice_get content.funcs called.0)
    where
      by : (found : Option Function) → option_map signature_of (option_map (λ (f : Function). rewritten f (tables called.0)) found) ≡ option_map signature_of found
      by None = refl
      by (Some found) = refl
  called_same callee func table = refl

  sees_alike : (func : Function) (table : List Operand) → SeesAlike (scope_of content func) (scope_of after (rewritten func table))
  sees_alike func table = record { answer = refl; called = λ callee. called_same callee func table; fields = refl }

  module _ (g : ℕ) (func : Function) (found : slice_get content.funcs g ≡ Some func) where
    func_is : func_of content g ≡ func
    func_is = get_or_from_slice_get content.funcs g func no_function found

    each : IsRewriting (rewritings content tables) (rewritings content tables g)
    each = (modules content tables is.before).each g

    abbrev FitsThere : Function → Type 0
    FitsThere f = Fits f (tables g) (naming_of f (tables g)) (live_table f (tables g))

    abbrev NumbersThere : Function → Type 0
    NumbersThere f = IsNumbering f (tables g) (naming_of f (tables g)).joins (place_in (names_of f (tables g) (naming_of f (tables g)))) (length (names_of f (tables g) (naming_of f (tables g))))

    shape : IsPlain func (register_count content g)
    shape = subst (λ (f : Function). IsPlain f (register_count content g)) func_is (is.before.plain g)

    typed_function : IsTypedFunction Rewritten func
    typed_function = all_at (IsTypedFunction Rewritten) content.funcs g func (is.typed).functions found

    typed_lines : FunctionIsTyped (scope_of content func) func
    typed_lines = all_at (λ each. FunctionIsTyped (scope_of content each) each) content.funcs g func ((is.typed).no_fault).typed found

    no_fault : FunctionHasNoFault content func
    no_fault = all_at (FunctionHasNoFault content) content.funcs g func ((is.typed).no_fault).functions found

    room_here : HasRoomForGroups func
    room_here = all_at HasRoomForGroups content.funcs g func is.room found

    line_widths_here : All (λ inst. All IsWidth (line_widths inst)) (instructions_of func.blocks)
    line_widths_here = all_flat IsWidth line_widths (instructions_of func.blocks) (all_back IsWidth (type_widths func.answer ++ flat_map (λ (arg : Arg). type_widths arg.ty) func.args) (flat_map line_widths (instructions_of func.blocks)) typed_function.widths)

    no_points : All NoPoint (instructions_of func.blocks)
    no_points = all_insts NoPoint func.blocks (λ b k block inst in_blocks in_block.
        let line = line_forth func b k inst (record { block = block; in_function = in_blocks; in_block = in_block }) in
        ap (λ (i : Instruction). is_statepoint i.op) (sym line.2) ∙ shape.no_statepoint b k line.0 line.1)

    well : (b k : ℕ) (line : Line) → slice_get (lines_at func b) k ≡ Some line → IsWellFormed content func line.inst
    well b k line at =
        let stands = (line_from func b k line at).stands in
        record {
          line = line_at IsLine func b k line.inst stands typed_function.lines;
          typed = line_at (IsTyped (scope_of content func)) func b k line.inst stands typed_lines.lines;
          local = line_at (NamesOfFunction func) func b k line.inst stands no_fault.local;
          global = line_at (NamesOfModule content) func b k line.inst stands no_fault.global;
          leaves = line_at LeavesEntry func b k line.inst stands no_fault.entry;
          unordered = line_at (λ inst. orders_pointers inst.op inst.ty ≡ false) func b k line.inst stands no_fault.pointers;
          widths = line_at (λ inst. All IsWidth (line_widths inst)) func b k line.inst stands line_widths_here;
          few = line_at (λ inst. length inst.bundle ≤ 64) func b k line.inst stands typed_function.bundles;
        }

    blocks_long : (from : ℕ) (blocks : List BasicBlock)
        → length (rewritten_blocks func (tables g) (naming_of func (tables g)) (names_of func (tables g) (naming_of func (tables g))) from blocks) ≡ length blocks
    blocks_long from [] = refl
    blocks_long from (block ∷ blocks) = ap suc (blocks_long (suc from) blocks)

    abbrev room : ℕ
    room = length (names_of func (tables g) (naming_of func (tables g)))

    pub named : IsNamed content after func (tables g) (naming_of func (tables g)) room
    named = record {
      alike = record { sees = sees_alike func (tables g); blocks = blocks_long 0 func.blocks; layouts = refl; functions = funcs_long tables 0 content.funcs };
      fits = subst FitsThere func_is each.fits;
      numbers = subst NumbersThere func_is each.numbers;
      fronts = λ b v below. naming_in_text func (tables g) b v below;
      lines = well;
      reached = subst laws.IsReached func_is (is.before.graph g);
      few = room_here.values;
      tokens = no_tokens func typed_function.lines no_points typed_lines.args;
      arguments = shape.arguments;
      no_statepoint = shape.no_statepoint;
      no_member = shape.no_member;
      held = all_at HoldsOthers content.funcs g func is.held found;
    }

    distinct_here : Distinct (map definition_name (definitions_of func))
    distinct_here = all_at (λ (each : Function). Distinct (map definition_name (definitions_of each))) content.funcs g func (((is.typed).no_fault).names).values found

    now_no_fault : FunctionHasNoFault after (rewritten func (tables g))
    now_no_fault = has_no_fault content after func (tables g) (naming_of func (tables g)) room named (register_count content g) shape typed_function no_fault typed_lines distinct_here room_here.names room_here.lines refl

    now_typed : FunctionIsTyped (scope_of after (rewritten func (tables g))) (rewritten func (tables g))
    now_typed = is_typed content after func (tables g) (naming_of func (tables g)) room named (register_count content g) shape typed_function no_fault typed_lines distinct_here room_here.names room_here.lines refl

    now_typed_function : IsTypedFunction Rewritten (rewritten func (tables g))
    now_typed_function = is_typed_function content after func (tables g) (naming_of func (tables g)) room named (register_count content g) shape typed_function no_fault typed_lines distinct_here room_here.names room_here.lines refl

    now_distinct : Distinct (map definition_name (definitions_of (rewritten func (tables g))))
    now_distinct = distinct_values content after func (tables g) (naming_of func (tables g)) room named (register_count content g) shape typed_function no_fault typed_lines distinct_here room_here.names room_here.lines refl

    now_labels : Distinct (map (λ (block : BasicBlock). block.name) (rewritten func (tables g)).blocks)
    now_labels = distinct_labels content after func (tables g) (naming_of func (tables g)) room named (register_count content g) shape typed_function no_fault typed_lines distinct_here room_here.names room_here.lines refl
        (all_at (λ (each : Function). Distinct (map (λ (block : BasicBlock). block.name) each.blocks)) content.funcs g func (((is.typed).no_fault).names).labels found)

    now_points : length (filter (λ (inst : Instruction). is_statepoint inst.op) (instructions_of (rewritten func (tables g)).blocks)) ≤ length (instructions_of func.blocks)
    now_points = points_few content after func (tables g) (naming_of func (tables g)) room named

  -- ---- each function of the module

  each_now : (P : Function → Type 0) → ((g : ℕ) (func : Function) → slice_get content.funcs g ≡ Some func → P (rewritten func (tables g))) → All P after.funcs
  each_now P holds = all_from_at P after.funcs (λ g now at. by g now (slice_get content.funcs g) refl at)
    where
      by : (g : ℕ) (now : Function) (here : Option Function) → slice_get content.funcs g ≡ here → slice_get after.funcs g ≡ Some now → P now
      by g now None none at =
          absurd (let missing : None ≡ Some now = sym (now_get content tables is.before g ∙ ap (option_map (λ (f : Function). rewritten f (tables g))) none) ∙ at in cc)
      by g now (Some func) found at =
          let both : Some (rewritten func (tables g)) ≡ Some now = sym (now_get content tables is.before g ∙ ap (option_map (λ (f : Function). rewritten f (tables g))) found) ∙ at in
          let same : rewritten func (tables g) ≡ now = cc in
          subst P same (holds g func found)

  names_distinct : NamesAreDistinct after
  names_distinct = record {
    layouts = (((is.typed).no_fault).names).layouts;
    functions = subst Distinct (sym (func_names tables 0 content.funcs)) (((is.typed).no_fault).names).functions;
    labels = each_now (λ func. Distinct (map (λ block. block.name) func.blocks)) now_labels;
    values = each_now (λ func. Distinct (map definition_name (definitions_of func))) now_distinct;
  }

  has_main : HasMain after
  has_main =
      let main = ((is.typed).no_fault).main in
      record {
        earlier = rewritten_funcs tables 0 main.earlier;
        main = rewritten main.main (tables (0 + length main.earlier));
        later = rewritten_funcs tables (suc (0 + length main.earlier)) main.later;
        whole = ap (rewritten_funcs tables 0) main.whole ∙ split_funcs tables 0 main.earlier main.main main.later;
        first = same_head (λ func. func.name ≡ codes "main" → ⊥) (λ func table other. other) tables 0 main.earlier main.first;
        name = main.name;
        args = main.args;
        answer = main.answer;
      }

  points_from : (from : ℕ) (funcs : List Function) → ((i : ℕ) (func : Function) → slice_get funcs i ≡ Some func → slice_get content.funcs (from + i) ≡ Some func)
      → length (filter (λ (inst : Instruction). is_statepoint inst.op) (flat_map (λ (func : Function). instructions_of func.blocks) (rewritten_funcs tables from funcs)))
      ≤ length (flat_map (λ (func : Function). instructions_of func.blocks) funcs)
  points_from from [] each = omega arith
  points_from from (func ∷ funcs) each =
      let none : from + 0 ≡ from = omega arith in
      let here = now_points from func (ap (slice_get content.funcs) (sym none) ∙ each 0 func refl) in
      let rest = points_from (suc from) funcs (λ i one at. let e : suc from + i ≡ from + suc i = omega arith in ap (slice_get content.funcs) e ∙ each (suc i) one at) in
      let split = ap length (filter-append (λ (inst : Instruction). is_statepoint inst.op) (instructions_of (rewritten func (tables from)).blocks)
      (flat_map (λ (f : Function). instructions_of f.blocks) (rewritten_funcs tables (suc from) funcs))) in
      let sum = length-append (filter (λ (inst : Instruction). is_statepoint inst.op) (instructions_of (rewritten func (tables from)).blocks))
      (filter (λ (inst : Instruction). is_statepoint inst.op) (flat_map (λ (f : Function). instructions_of f.blocks) (rewritten_funcs tables (suc from) funcs))) in
      let long = length-append (instructions_of func.blocks) (flat_map (λ (f : Function). instructions_of f.blocks) funcs) in
      omega (arith, here, rest, split, sum, long)

  pub module_is_typed : IsTypedModule Rewritten after
  module_is_typed = record {
    of_form = refl;
    no_fault = record {
      names = names_distinct;
      typed = each_now (λ func. FunctionIsTyped (scope_of after func) func) now_typed;
      functions = each_now (FunctionHasNoFault after) now_no_fault;
      main = has_main;
      fields = ((is.typed).no_fault).fields;
      free = same_head (λ func. IsExternalName func.name → ⊥) (λ func table free. free) tables 0 content.funcs ((is.typed).no_fault).free;
    };
    functions = each_now (IsTypedFunction Rewritten) now_typed_function;
    layout_names = (is.typed).layout_names;
    limits =
        let limits = (is.typed).limits in
        let same = funcs_long tables 0 content.funcs in
        record {
          layouts = limits.layouts;
          functions = (let few = limits.functions in omega (arith, same, few));
          layout_names = limits.layout_names;
          function_names = same_head (λ func. length func.name ≤ 4096) (λ func table short. short) tables 0 content.funcs limits.function_names;
          fields = limits.fields;
          arguments = same_head (λ func. length func.args ≤ 64) (λ func table few. few) tables 0 content.funcs limits.arguments;
        };
    small =
        let points = points_from 0 content.funcs (λ i func at. let e : 0 + i ≡ i = omega arith in ap (slice_get content.funcs) e ∙ at) in
        let lines = is.lines in
        omega (arith, points, lines);
  }

pub rewritten_is_typed : RewrittenIsTyped
rewritten_is_typed content tables is = module_is_typed content tables is
