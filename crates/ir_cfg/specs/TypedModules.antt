-- Typed modules of both forms: what the typer gives before it looks at paths. With definite uses they are the source
-- modules and the target modules.
use Rattle.std.specs.Prelude.{◌≡◌, ◌+◌, ◌≤◌, ◌<◌, ◌^◌, List, length, filter}
use Rattle.std.specs.List.{All, flat_map}
use Rattle.ir_ast.specs.declared.modules.Form.{Form}
use Rattle.ir_ast.specs.declared.modules.Form.TheVariants.{Source, Rewritten}
use Rattle.ir_ast.specs.Insts.{Instruction}
use Rattle.ir_ast.specs.Blocks.{EndsAtTerminator}
use Rattle.ir_ast.specs.Funcs.{Function, instructions_of}
use Rattle.ir_ast.specs.Modules.{ModuleContent}
use Rattle.ir_ast.specs.Widths.{IsWidth, widths_of}
use Rattle.ir_ast.specs.Lines.{IsLine}
use Rattle.ir_ast.specs.Faultless.{HasNoFault}
use Rattle.ir_ast.specs.Faults.GroupShape.{is_statepoint}
use Rattle.ir_cfg.specs.DefiniteUses.{UsesAreDefinite}
use Rattle.ir_cfg.specs.Limits.{HasNames, IsWithinLimits, LayoutsHaveNames}
use Rattle.ir_cfg.specs.Statepoints.{StatepointsAreSmall, IdIsWord}

-- ---- what only one of the two forms asks

pub record IsSmallTarget (func : Function) : Type 0 where
  pub statepoints : StatepointsAreSmall func
  pub ids : All (λ inst. IdIsWord inst.op) (instructions_of func.blocks)
  pub few_instructions : length (instructions_of func.blocks) < 2 ^ 30

abbrev pub FunctionIsSmall : Form → Function → Type 0
FunctionIsSmall Source func = length func.args + length (instructions_of func.blocks) ≤ 4096
FunctionIsSmall Rewritten func = IsSmallTarget func

abbrev all_instructions : ModuleContent → List Instruction
all_instructions content = flat_map (λ func. instructions_of func.blocks) content.funcs

abbrev pub ModuleIsSmall : Form → ModuleContent → Type 0
ModuleIsSmall Source content = length (all_instructions content) ≤ 65536
ModuleIsSmall Rewritten content = length (filter (λ inst. is_statepoint inst.op) (all_instructions content)) < 2 ^ 26

-- ---- what both ask

pub record IsTypedFunction (form : Form) (func : Function) : Type 0 where
  pub has_block : 0 < length func.blocks
  pub ends : All (λ block. EndsAtTerminator block.insts) func.blocks
  pub lines : All IsLine (instructions_of func.blocks)
  pub names : HasNames func
  pub widths : All IsWidth (widths_of func)
  pub bundles : All (λ inst. length inst.bundle ≤ 64) (instructions_of func.blocks)
  pub small : FunctionIsSmall form func

pub record IsTypedModule (form : Form) (content : ModuleContent) : Type 0 where
  pub of_form : content.form ≡ form
  pub no_fault : HasNoFault content
  pub functions : All (IsTypedFunction form) content.funcs
  pub layout_names : LayoutsHaveNames content
  pub limits : IsWithinLimits content
  pub small : ModuleIsSmall form content

-- a source module or a target module, by its form
pub record IsModuleOf (form : Form) (content : ModuleContent) : Type 0 where
  pub typed : IsTypedModule form content
  pub definite : All UsesAreDefinite content.funcs
