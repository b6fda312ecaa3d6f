-- Source modules: what the reader and the typer accept, and what the passes and the meanings ask for.
use Rattle.ir_ast.specs.declared.modules.Form.TheVariants.{Source}
use Rattle.ir_ast.specs.Modules.{ModuleContent}
use Rattle.ir_cfg.specs.TypedModules.{IsModuleOf}

abbrev pub IsSourceModule : ModuleContent → Type 0
IsSourceModule content = IsModuleOf Source content
