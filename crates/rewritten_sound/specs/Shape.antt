-- What is proved of the rewritten module: it is a target module.
use Rattle.std.specs.Prelude.{ℕ, ◌<◌, ◌^◌, List, length}
use Rattle.std.specs.List.{All, flat_map}
use Rattle.ir_ast.specs.declared.modules.Form.TheVariants.{Rewritten}
use Rattle.ir_ast.specs.declared.ops.Operand.{Operand}
use Rattle.ir_ast.specs.Funcs.{Function, instructions_of}
use Rattle.ir_ast.specs.Modules.{ModuleContent}
use Rattle.ir_ast.specs.Values.{definition_name, definitions_of}
use Rattle.ir_cfg.specs.SourceModules.{IsSourceModule}
use Rattle.ir_cfg.specs.TargetModules.{IsTargetModule}
use Rattle.ir_cfg.specs.TypedModules.{IsTypedModule}
use Rattle.base_forms.specs.Based.{based_module}
use Rattle.rewriting_forms.specs.Rewritten.{rewritten_module}
use Rattle.rewriting_laws.specs.Statements.{IsBefore}
use Rattle.rewritten_sound.specs.Definite.{IsReachedSource, rewritten_source}
use Rattle.rewritten_sound.specs.WellFormed.{IsGroupName}
use Rattle.rewritten_sound.specs.Takes.{HoldsOthers}

-- a function with room for its relocates: so few values and lines, and no value named as a token, a relocate or an inserted phi
pub record HasRoomForGroups (func : Function) : Type 0 where
  pub values : length (definitions_of func) < 16384
  pub lines : length (instructions_of func.blocks) < 32768
  pub names : All (λ given. ¬ IsGroupName (definition_name given)) (definitions_of func)

-- a typed module of the rewritten form without a group yet, whose bundles hold other pointers than their lines give
pub record IsTypedBefore (content : ModuleContent) (tables : ℕ → List Operand) : Type 0 where
  pub typed : IsTypedModule Rewritten content
  pub before : IsBefore content tables
  pub room : All HasRoomForGroups content.funcs
  pub lines : length (flat_map (λ func. instructions_of func.blocks) content.funcs) < 2 ^ 26
  pub held : All HoldsOthers content.funcs

-- its rewritten module is typed: lines, types, names, limits and the shape of groups
abbrev pub RewrittenIsTyped : Type 0
RewrittenIsTyped = (content : ModuleContent) (tables : ℕ → List Operand) → IsTypedBefore content tables → IsTypedModule Rewritten (rewritten_module content tables)

-- the module with polls and bases is a target module, which has no group
abbrev pub BasedIsTarget : Type 0
BasedIsTarget = (content : ModuleContent) → IsSourceModule content → IsTargetModule (based_module content)

-- the rewritten module of a source module without unreached blocks is a target module: no limit fails that its source keeps
abbrev pub RewrittenIsTarget : Type 0
RewrittenIsTarget = (content : ModuleContent) → IsReachedSource content → IsTargetModule (rewritten_source content)
