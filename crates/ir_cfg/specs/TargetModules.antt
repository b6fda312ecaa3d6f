-- Target modules: what the rewriting gives, and what the verifier, the layouts and the machine ask for.
use Rattle.ir_ast.specs.declared.modules.Form.TheVariants.{Rewritten}
use Rattle.ir_ast.specs.Modules.{ModuleContent}
use Rattle.ir_cfg.specs.TypedModules.{IsModuleOf}

abbrev pub IsTargetModule : ModuleContent → Type 0
IsTargetModule content = IsModuleOf Rewritten content
