-- Terminators with as many labels as they take, so that each leads along an edge.
use Rattle.std.specs.Prelude.{◌≡◌, ⊤, ℕ, ◌<◌, true, [], length}
use Rattle.std.specs.List.{All}
use Rattle.ir_ast.specs.declared.ops.Op.{Op}
use Rattle.ir_ast.specs.declared.ops.Op.TheVariants.{Br, CondBr, Switch}
use Rattle.ir_ast.specs.Insts.{Instruction}
use Rattle.ir_ast.specs.Funcs.{Function, instructions_of}
use Rattle.ir_ast.specs.Modules.{ModuleContent}
use Rattle.ir_ast.specs.Faults.PhiEdges.{is_phi}
use Rattle.ir_cfg.specs.DefiniteUses.{Stands}
use Rattle.ir_cfg.specs.Paths.{IsReached}
use Rattle.base_laws.specs.BeforeLiveness.{IsBeforeLiveness}

abbrev pub HasLabels : Op → Instruction → Type 0
HasLabels Br inst = length inst.labels ≡ 1
HasLabels CondBr inst = length inst.labels ≡ 2
HasLabels Switch inst = (length inst.labels ≡ length inst.operands) × (0 < length inst.operands)
HasLabels op inst = ⊤

abbrev pub LeadsOut : Instruction → Type 0
LeadsOut inst = HasLabels inst.op inst

-- a function in shape for liveness whose blocks are all reached
pub record IsReadyForGroups (content : ModuleContent) (func : Function) : Type 0 where
  pub shape : IsBeforeLiveness content func
  pub leads : All LeadsOut (instructions_of func.blocks)
  pub reached : IsReached func

-- phis have no bundle
abbrev pub PhisAreBare : Function → Type 0
PhisAreBare func = (number place : ℕ) (inst : Instruction) → Stands func number place inst → is_phi inst.op ≡ true → inst.bundle ≡ []
