-- Each function of a module of either form is printed as a text that is read.
use Rattle.std.proofs.Common.{◌≡◌, refl, sym, ◌∙◌, subst, ℕ, zero, suc, ◌+◌, ◌≤◌, ◌<◌, ◌^◌, arith, Bool, true, false, cond, List, [], ◌∷◌, ◌++◌, length, map}
use Rattle.std.specs.Prelude.{Some, None, is_some, filter, flat_map, slice_get}
use Rattle.std.specs.Option.{option_map}
use Rattle.std.specs.List.{All, AllByRecursion, Contains}
use Rattle.std.proofs.lemmas.List.{length-map}
use Rattle.std.proofs.lemmas.List.Elements.{All-from_recursion, recursion_from_All, All-contains}
use Rattle.std.proofs.lemmas.Option.{same_Some}
use Rattle.sp_text.specs.Tokens.{is_name}
use Rattle.ir_ast.specs.declared.funcs.Arg.{Arg}
use Rattle.ir_ast.specs.declared.types.Ty.{Ty}
use Rattle.ir_ast.specs.declared.ops.Callee.{Callee}
use Rattle.ir_ast.specs.declared.ops.Callee.TheVariants as callees
use Rattle.ir_ast.specs.declared.modules.Form.{Form as TextForm}
use Rattle.ir_ast.specs.declared.modules.Form.TheVariants.{Source}
use Rattle.ir_ast.specs.declared.ops.Op.{Op}
use Rattle.ir_ast.specs.declared.ops.Op.TheVariants as ops
use Rattle.ir_ast.specs.Faults.GroupShape.{entries_of}
use Rattle.ir_ast.specs.Faults.TypeClash.{FunctionIsTyped, IsTyped, IsCallOf, RuleOf}
use Rattle.ir_ast.specs.Lines.{is_rewritten}
use Rattle.ir_ast.specs.Insts.{Instruction}
use Rattle.ir_ast.specs.Blocks.{BasicBlock, EndsAtTerminator}
use Rattle.ir_ast.specs.Funcs.{Function, instructions_of}
use Rattle.ir_ast.specs.Modules.{ModuleContent}
use Rattle.ir_ast.specs.Scope.{Signature, signature_of, called_in, scope_of}
use Rattle.ir_ast.specs.Types.{is_first_class}
use Rattle.ir_ast.specs.Values.{Definition, argument, outcome, definition_name, definitions_of}
use Rattle.ir_ast.specs.Widths.{IsWidth, type_widths, line_widths, widths_of}
use Rattle.ir_cfg.specs.Limits.{HasNames}
use Rattle.ir_cfg.specs.TypedModules.{IsTypedFunction, IsTypedModule}
use Rattle.ir_printer.specs.Names.{Names}
use Rattle.read_back.specs.Said.{result_of}
use Rattle.read_back.proofs.BackInsts.{split_all}
use Rattle.read_back.proofs.BackModules.{shaped_of, names_in, printed_in}
use Rattle.read_back.proofs.FormsIn.{own_name}
use Rattle.read_back.proofs.NotCalled.{each_of}
use Rattle.read_back.proofs.Operands.{HaveNames, narrow_of}
use Rattle.read_back.proofs.SourceLines.{IsPrintable, inst_read}
use Rattle.read_back.proofs.Blocks.{weight, AllSay, AllBlocksSay, RunsFit}
use Rattle.read_back.proofs.Functions.{ArgumentSays}
use Rattle.read_back.proofs.FunctionsRead.{FunctionReads}

-- ---- names

abbrev IsNamed : Definition → Type 0
IsNamed given = is_name (definition_name given) ≡ true

-- an instruction's result, if it has one, has a name of texts
abbrev ResultIsNamed : Instruction → Type 0
ResultIsNamed inst = is_some inst.result ≡ true → is_name (result_of inst) ≡ true

results_named : (insts : List Instruction) → AllByRecursion IsNamed (map outcome (filter (λ (inst : Instruction). is_some inst.result) insts)) → AllByRecursion ResultIsNamed insts
results_named [] all = tt
results_named (inst ∷ insts) all = by (λ more. results_named insts more) (is_some inst.result) refl all
  where
    by : (AllByRecursion IsNamed (map outcome (filter (λ (one : Instruction). is_some one.result) insts)) → AllByRecursion ResultIsNamed insts)
        → (has : Bool) → is_some inst.result ≡ has
        → AllByRecursion IsNamed (map outcome (cond has (inst ∷ filter (λ (one : Instruction). is_some one.result) insts) (filter (λ (one : Instruction). is_some one.result) insts)))
        → AllByRecursion ResultIsNamed (inst ∷ insts)
    by later true is all = (λ some. all.0, later all.1)
    by later false is all = (λ some. absurd (let bad : false ≡ true = sym is ∙ some in cc), later all)

-- ---- arguments of calls

same_few : (one signature : Signature) → Some one ≡ Some signature → length one.params ≤ 64 → length signature.params ≤ 64
same_few one signature e few = subst (λ (s : Signature). length s.params ≤ 64) (same_Some one signature e) few

-- a callee takes few arguments
takes_few : (funcs : List Function) → AllByRecursion (λ (func : Function). length func.args ≤ 64) funcs → (callee : Callee) (signature : Signature)
    → called_in funcs callee ≡ Some signature → length signature.params ≤ 64
takes_few funcs few (callees.Fun func) signature e = at funcs func.0 few e
  where
    at : (fs : List Function) (k : ℕ) → AllByRecursion (λ (f : Function). length f.args ≤ 64) fs → option_map signature_of (slice_get fs k) ≡ Some signature → length signature.params ≤ 64
    at [] k few is = absurd (let bad : None ≡ Some signature = is in cc)
    at (f ∷ fs) zero few is =
        let count : length (map (λ (arg : Arg). arg.ty) f.args) ≤ 64 = omega (arith, few.0, length-map f.args (λ (arg : Arg). arg.ty)) in
        same_few (signature_of f) signature is count
    at (f ∷ fs) (suc k) few is = at fs k few.1 is
takes_few funcs few (callees.New layout) signature e = same_few _ signature e (omega arith)
takes_few funcs few callees.Print signature e = same_few _ signature e (omega arith)
takes_few funcs few callees.Read signature e = same_few _ signature e (omega arith)
takes_few funcs few callees.TaskStart signature e = same_few _ signature e (omega arith)
takes_few funcs few callees.Poll signature e = same_few _ signature e (omega arith)
takes_few funcs few callees.Check signature e = same_few _ signature e (omega arith)
takes_few funcs few callees.Same signature e = same_few _ signature e (omega arith)

-- ---- blocks

insts_say : (of : TextForm) (names : Names) → HaveNames names → (insts : List Instruction) → AllByRecursion (λ inst. IsPrintable of names inst.op inst) insts → AllSay of names insts
insts_say of names have [] all = tt
insts_say of names have (inst ∷ insts) all = (inst_read of names have inst.op inst all.0, insts_say of names have insts all.1)

blocks_say : (of : TextForm) (names : Names) → HaveNames names → (blocks : List BasicBlock) → AllByRecursion (λ block. is_name block.name ≡ true) blocks → AllByRecursion (λ block. EndsAtTerminator block.insts) blocks
    → AllByRecursion (λ block. RunsFit 0 block.insts) blocks → AllByRecursion (λ inst. IsPrintable of names inst.op inst) (instructions_of blocks) → AllBlocksSay of names blocks
blocks_say of names have [] labels ends runs printable = tt
blocks_say of names have (block ∷ blocks) labels ends runs printable =
    let parts = split_all (λ inst. IsPrintable of names inst.op inst) block.insts (instructions_of blocks) printable in (
      record { name = labels.0; ends = ends.0; insts = insts_say of names have block.insts parts.0; runs = runs.0 },
      blocks_say of names have blocks labels.1 ends.1 runs.1 parts.1,
    )

-- ---- arguments

arguments_say : (args : List Arg) → AllByRecursion (λ (arg : Arg). is_first_class arg.ty ≡ true) args → AllByRecursion IsWidth (flat_map (λ (arg : Arg). type_widths arg.ty) args)
    → AllByRecursion IsNamed (map argument args) → AllByRecursion ArgumentSays args
arguments_say [] first widths named = tt
arguments_say (arg ∷ args) first widths named =
    let parts = split_all IsWidth (type_widths arg.ty) (flat_map (λ (one : Arg). type_widths one.ty) args) widths in (
      record { first_class = first.0; narrow = narrow_of arg.ty (All-from_recursion IsWidth (type_widths arg.ty) parts.0); named = named.0 },
      arguments_say args first.1 parts.1 named.1,
    )

-- ---- functions

-- what is asked of a function by its form
pub record FunctionIsReadable (of : TextForm) (func : Function) : Type 0 where
  pub plain : of ≡ Source → All (λ (inst : Instruction). is_rewritten inst.op ≡ false) (instructions_of func.blocks)
  pub few : All (λ (inst : Instruction). length (entries_of inst) ≤ 16384) (instructions_of func.blocks)
  pub runs : AllByRecursion (λ (block : BasicBlock). RunsFit 0 block.insts) func.blocks
  pub values : length func.args + weight of (length (instructions_of func.blocks)) ≤ 4096

pub function_reads : (of : TextForm) (content : ModuleContent) → IsTypedModule of content → (func : Function) → Contains content.funcs func → FunctionIsReadable of func → FunctionReads of content.layouts content.funcs func
function_reads of content whole func c own = record {
  named = names.own;
  short = All-contains (λ (f : Function). length f.name ≤ 4096) content.funcs func whole.limits.function_names c;
  answers = typed.answer;
  narrow = narrow_of func.answer (All-from_recursion IsWidth (type_widths func.answer) heads.0);
  args = All-from_recursion ArgumentSays func.args (arguments_say func.args (recursion_from_All (λ (arg : Arg). is_first_class arg.ty ≡ true) func.args typed.args) heads.1 values.0);
  few = All-contains (λ (f : Function). length f.args ≤ 64) content.funcs func whole.limits.arguments c;
  has_block = typed_func.has_block;
  blocks = blocks_say of (names_in content func) have_names func.blocks
      (recursion_from_All (λ (block : BasicBlock). is_name block.name ≡ true) func.blocks names.labels)
      (recursion_from_All (λ (block : BasicBlock). EndsAtTerminator block.insts) func.blocks typed_func.ends)
      own.runs (each_of insts (λ (inst : Instruction). IsPrintable of (names_in content func) inst.op inst) printable);
  values = own.values;
}
  where
    insts : List Instruction
    insts = instructions_of func.blocks

    typed_func : IsTypedFunction of func
    typed_func = All-contains (IsTypedFunction of) content.funcs func whole.functions c

    names : HasNames func
    names = typed_func.names

    have_names : HaveNames (names_in content func)
    have_names = record {
      values = names.values;
      blocks = names.labels;
      layouts = whole.layout_names;
      functions = λ k d low. (whole.functions k d low).names.own;
      own = λ k d low. own_name _ (whole.no_fault.free k d low);
    }

    typed : FunctionIsTyped (scope_of content func) func
    typed = All-contains (λ (f : Function). FunctionIsTyped (scope_of content f) f) content.funcs func whole.no_fault.typed c

    widths : AllByRecursion IsWidth (type_widths func.answer ++ flat_map (λ (arg : Arg). type_widths arg.ty) func.args) × AllByRecursion IsWidth (flat_map line_widths insts)
    widths = split_all IsWidth (type_widths func.answer ++ flat_map (λ (arg : Arg). type_widths arg.ty) func.args) (flat_map line_widths insts)
        (recursion_from_All IsWidth (widths_of func) typed_func.widths)

    heads : AllByRecursion IsWidth (type_widths func.answer) × AllByRecursion IsWidth (flat_map (λ (arg : Arg). type_widths arg.ty) func.args)
    heads = split_all IsWidth (type_widths func.answer) (flat_map (λ (arg : Arg). type_widths arg.ty) func.args) widths.0

    values : AllByRecursion IsNamed (map argument func.args) × AllByRecursion IsNamed (map outcome (filter (λ (inst : Instruction). is_some inst.result) insts))
    values = split_all IsNamed (map argument func.args) (map outcome (filter (λ (inst : Instruction). is_some inst.result) insts)) (recursion_from_All IsNamed (definitions_of func) names.values)

    counted : (inst : Instruction) → IsTyped (scope_of content func) inst → (id : ℕ) (callee : Callee) (takes : List Ty) → inst.op ≡ ops.Statepoint id callee takes → length takes < 2 ^ 64
    counted inst fit id callee takes is =
        let call : IsCallOf (scope_of content func) callee takes inst = subst (λ (o : Op). RuleOf (scope_of content func) o inst) is fit.rule in
        let few = takes_few content.funcs (recursion_from_All (λ (f : Function). length f.args ≤ 64) content.funcs whole.limits.arguments) callee _ call.signature in
        omega arith

    printable : (inst : Instruction) → Contains insts inst → IsPrintable of (names_in content func) inst.op inst
    printable inst d = record {
      printed = printed_in of content (shaped_of of content whole) func c own.plain inst d;
      named = All-contains ResultIsNamed insts inst (All-from_recursion ResultIsNamed insts (results_named insts values.1)) d;
      kept = All-contains (λ (i : Instruction). length i.bundle ≤ 64) insts inst typed_func.bundles d;
      few = All-contains (λ (i : Instruction). length (entries_of i) ≤ 16384) insts inst own.few d;
      counted = counted inst (All-contains (IsTyped (scope_of content func)) insts inst typed.lines d);
    }
