-- The law of the typer: the module of faultless lines that stand where they may is a typed module of its form.
use Rattle.std.proofs.Common.{◌<◌, ◌≤◌, ◌^◌, List, [], length, refl, arith}
use Rattle.std.specs.Prelude.{flat_map}
use Rattle.std.specs.List.{All}
use Rattle.std.proofs.lemmas.List.{length-map}
use Rattle.std.proofs.lemmas.List.Elements.{All-map, All-contains}
use Rattle.std.proofs.lemmas.List.Sums.{length-filter, count_by-le-length}
use Rattle.ir_ast.specs.Insts.{Instruction}
use Rattle.ir_ast.specs.Blocks.{BasicBlock, EndsAtTerminator}
use Rattle.ir_ast.specs.Funcs.{Function, instructions_of}
use Rattle.ir_ast.specs.Faultless.{OfForm, FunctionHasNoFault}
use Rattle.ir_ast.specs.Faults.GroupShape.{is_statepoint}
use Rattle.ir_ast.specs.declared.modules.Form.{Form}
use Rattle.ir_ast.specs.declared.modules.Form.TheVariants.{Source, Rewritten}
use Rattle.ir_cfg.specs.TypedModules.{FunctionIsSmall, ModuleIsSmall, IsTypedFunction, IsTypedModule}
use Rattle.ir_reader.specs.declared.states.Place.TheVariants as places
use Rattle.ir_lines.specs.Statements.{Line}
use Rattle.ir_lines.specs.Sections.{Definition, definitions_of, blocks_of, arguments_named}
use Rattle.ir_lines.specs.Modules.{known_of, block_of, argument_of}
use Rattle.ir_resolve.specs.Resolved.{resolved}
use Rattle.ir_resolve.specs.FaultSet.{HasNoResolvedFault}
use Rattle.ir_resolve.proofs.Unbroken.{unbroken_of, unbroken_entry, unbroken_phis, unbroken_derived, unbroken_pointers, unbroken_shapes, unbroken_main}
use Rattle.ir_resolve.proofs.Standing.{BodyStands, bodies}
use Rattle.ir_lines.specs.ReadLines.{IsReadLines, is_instruction}
use Rattle.ir_lines.specs.TextLines.{IsTextLines}
use Rattle.module_build.specs.Placed.{IsPlacedFunction, IsPlaced}
use Rattle.module_laws.specs.TextFunctions.{HasFewInstructions}
use Rattle.module_laws.proofs.LawLines.{InLaw, made, read_function}
use Rattle.module_laws.proofs.LawTyped.{content}
use Rattle.module_laws.proofs.LawFunctions.{kept, each_inst, local_known, global_known, function_source, function_widths, has_block, are_lines, has_names, few_made}
use Rattle.module_laws.proofs.LawRows.{small, id_words}
use Rattle.module_laws.proofs.LawModules.{each_function, layouts_filled, layouts_typed, limits_kept, names_once, names_free, module_typed, total_made}
use Rattle.module_build.proofs.Placing.{read-placed}
use Rattle.module_laws.proofs.ReadCounts.{total_all}
use Rattle.ir_lines.proofs.TableLemmas.{length-arguments}

-- ---- what only one of the two forms asks

own_faultless : (form : Form) (lines : List Line) (func : Definition) → InLaw form lines func → OfForm form (made lines func)
own_faultless Source lines func law =
    let k = kept Source lines func law in
    (function_source lines func law, unbroken_derived (resolved Source lines) k.unbroken k.number (made lines func) k.is_function refl)
own_faultless Rewritten lines func law =
    let k = kept Rewritten lines func law in unbroken_shapes (resolved Rewritten lines) k.unbroken k.number (made lines func) k.is_function refl

few_instructions : (form : Form) (lines : List Line) (func : Definition) → InLaw form lines func → length (instructions_of (made lines func).blocks) < 2 ^ 24
few_instructions form lines func law =
    let few = few_made lines func in
    let most = (read_function form lines func law).few_instructions in
    omega arith

function_small : (form : Form) (lines : List Line) → IsTextLines form lines → (func : Definition) → InLaw form lines func → FunctionIsSmall form (made lines func)
function_small Source lines text func law =
    let v = (read_function Source lines func law).values refl in
    let few = few_made lines func in
    omega (
      arith,
      length-map (arguments_named func.line [] func.arguments) argument_of,
      length-arguments func.line [] func.arguments,
    )
function_small Rewritten lines text func law = record {
  statepoints = small lines func law (All-contains BodyStands (definitions_of lines) func (bodies places.Top lines text.placed) law.defined);
  ids = id_words lines func;
  few_instructions = (let few = few_instructions Rewritten lines func law in omega arith);
}

module_small : (form : Form) (lines : List Line) → IsReadLines form lines → IsTextLines form lines → ModuleIsSmall form (content form lines)
module_small Source lines read text =
    let most = read.few_instructions refl in
    let all = total_made Source lines in
    omega arith
module_small Rewritten lines read text =
    let insts : List Instruction = flat_map (λ (func : Function). instructions_of func.blocks) (content Rewritten lines).funcs in
    let among = count_by-le-length (λ (inst : Instruction). is_statepoint inst.op) insts in
    let made = total_made Rewritten lines in
    let stand = total_all lines places.Top text.placed in
    let counted = count_by-le-length (λ (l : Line). is_instruction l.says) lines in
    let few = read.few_lines in
    omega (arith, length-filter (λ (inst : Instruction). is_statepoint inst.op) insts)

-- ---- what both ask

faultless : (form : Form) (lines : List Line) (func : Definition) → InLaw form lines func → FunctionHasNoFault (content form lines) (made lines func)
faultless form lines func law =
    let k = kept form lines func law in
    record {
      local = local_known form lines func law;
      global = global_known form lines func law;
      entry = unbroken_entry (resolved form lines) k.unbroken k.number (made lines func) k.is_function;
      phis = unbroken_phis (resolved form lines) k.unbroken k.number (made lines func) k.is_function;
      pointers = unbroken_pointers (resolved form lines) k.unbroken k.number (made lines func) k.is_function;
      form = own_faultless form lines func law;
    }

blocks_end : (form : Form) (lines : List Line) (func : Definition) → InLaw form lines func → IsPlaced lines
    → All (λ block. EndsAtTerminator block.insts) (made lines func).blocks
blocks_end form lines func law placed =
    All-map (λ (block : BasicBlock). EndsAtTerminator block.insts) (block_of (known_of lines func)) (blocks_of func)
    (All-contains (λ (one : Definition). IsPlacedFunction (known_of lines one) one) (definitions_of lines) func placed.functions law.defined).blocks

bundles_short : (form : Form) (lines : List Line) (func : Definition) → InLaw form lines func
    → All (λ inst. length inst.bundle ≤ 64) (instructions_of (made lines func).blocks)
bundles_short form lines func law =
    each_inst form lines func law (λ inst. length inst.bundle ≤ 64) (λ inst good. good.few_kept)

function_typed_in : (form : Form) (lines : List Line) → IsTextLines form lines → IsPlaced lines → (func : Definition) → InLaw form lines func → IsTypedFunction form (made lines func)
function_typed_in form lines text placed func law = record {
  has_block = has_block form lines func law;
  ends = blocks_end form lines func law placed;
  lines = are_lines form lines func law;
  names = has_names form lines func law;
  widths = function_widths form lines func law;
  bundles = bundles_short form lines func law;
  small = function_small form lines text func law;
}

pub typed_module : (form : Form) (lines : List Line) → IsReadLines form lines → IsTextLines form lines → HasNoResolvedFault form lines → IsTypedModule form (content form lines)
typed_module form lines read text none = record {
  of_form = refl;
  no_fault = record {
    names = names_once form lines read none;
    typed = module_typed form lines read none;
    functions = each_function form lines read none (FunctionHasNoFault (content form lines)) (faultless form lines);
    main = unbroken_main form lines (unbroken_of form lines none);
    fields = layouts_filled form lines none;
    free = names_free form lines read none;
  };
  functions = each_function form lines read none (IsTypedFunction form) (function_typed_in form lines text (read-placed form lines text));
  layout_names = layouts_typed form lines read;
  limits = limits_kept form lines read none;
  small = module_small form lines read text;
}

-- what its functions have besides
pub text_functions : (form : Form) (lines : List Line) → IsReadLines form lines → HasNoResolvedFault form lines → All HasFewInstructions (content form lines).funcs
text_functions form lines read none = each_function form lines read none HasFewInstructions (few_instructions form lines)
