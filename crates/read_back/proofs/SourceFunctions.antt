-- A function of a source module can be read.
use Rattle.std.proofs.Common.{◌≡◌, refl, ℕ, ◌≤◌, arith, true, false, List, [], ◌∷◌, length}
use Rattle.std.specs.List.{All, AllByRecursion, Contains}
use Rattle.std.proofs.lemmas.List.Elements.{recursion_from_All, All-contains, All-weaker}
use Rattle.ir_ast.specs.declared.modules.Form.TheVariants.{Source}
use Rattle.ir_ast.specs.declared.ops.Op.{Op}
use Rattle.ir_ast.specs.declared.ops.Op.TheVariants as ops
use Rattle.ir_ast.specs.declared.ops.Operand.{Operand}
use Rattle.ir_ast.specs.Faultless.{FunctionHasNoFault}
use Rattle.ir_ast.specs.Faults.GroupShape.{live_entries, entries_of}
use Rattle.ir_ast.specs.Lines.{is_rewritten}
use Rattle.ir_ast.specs.Insts.{Instruction}
use Rattle.ir_ast.specs.Blocks.{BasicBlock}
use Rattle.ir_ast.specs.Funcs.{Function, instructions_of}
use Rattle.ir_ast.specs.Modules.{ModuleContent}
use Rattle.ir_cfg.specs.TypedModules.{IsTypedFunction, IsTypedModule}
use Rattle.read_back.proofs.BackInsts.{split_all}
use Rattle.read_back.proofs.BackModules.{form_of}
use Rattle.read_back.proofs.Blocks.{run, RunsFit}
use Rattle.read_back.proofs.FunctionsPrinted.{FunctionIsReadable}

abbrev IsPlain : Instruction → Type 0
IsPlain inst = is_rewritten inst.op ≡ false

-- no instruction of the source form is a statepoint
live_plain : (op : Op) (os : List Operand) → is_rewritten op ≡ false → length (live_entries op os) ≤ 16384
live_plain (ops.Statepoint id callee takes) os plain = absurd (let bad : true ≡ false = plain in cc)
live_plain _ os plain = omega arith

-- or a relocate
run_plain : (op : Op) (r : ℕ) → is_rewritten op ≡ false → run op r ≡ 0
run_plain ops.GcRelocate r plain = absurd (let bad : true ≡ false = plain in cc)
run_plain _ r plain = refl

runs_plain : (insts : List Instruction) (r : ℕ) → AllByRecursion IsPlain insts → RunsFit r insts
runs_plain [] r plain = tt
runs_plain (inst ∷ insts) r plain =
    let none : run inst.op r ≡ 0 = run_plain inst.op r plain.0 in (omega arith, runs_plain insts (run inst.op r) plain.1)

blocks_plain : (blocks : List BasicBlock) → AllByRecursion IsPlain (instructions_of blocks) → AllByRecursion (λ (block : BasicBlock). RunsFit 0 block.insts) blocks
blocks_plain [] plain = tt
blocks_plain (block ∷ blocks) plain =
    let parts = split_all IsPlain block.insts (instructions_of blocks) plain in (runs_plain block.insts 0 parts.0, blocks_plain blocks parts.1)

pub source_readable : (content : ModuleContent) → IsTypedModule Source content → (func : Function) → Contains content.funcs func → FunctionIsReadable Source func
source_readable content source func c = record {
  plain = λ is. plain;
  few = All-weaker IsPlain (λ (inst : Instruction). length (entries_of inst) ≤ 16384) (λ inst is. live_plain inst.op inst.operands is) (instructions_of func.blocks) plain;
  runs = blocks_plain func.blocks (recursion_from_All IsPlain (instructions_of func.blocks) plain);
  values = (All-contains (IsTypedFunction Source) content.funcs func source.functions c).small;
}
  where
    plain : All IsPlain (instructions_of func.blocks)
    plain = (form_of content.form func source.of_form (All-contains (FunctionHasNoFault content) content.funcs func source.no_fault.functions c).form).lines
