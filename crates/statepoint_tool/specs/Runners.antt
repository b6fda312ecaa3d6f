-- What runs for a module that is asked for.
use Rattle.std.specs.Prelude.{◌≡◌, true, false}
use Rattle.ir_ast.specs.Modules.{ModuleContent, LinedModule}
use Rattle.ir_cfg.specs.SourceModules.{IsSourceModule}
use Rattle.ir_cfg.specs.TargetModules.{IsTargetModule}
use Rattle.sp_rewrite.specs.Relocates.{HasManyRelocates}
use Rattle.sp_rewrite.specs.Statements.{IsRewritten}
use Rattle.statepoint_tool.specs.declared.engine.Engine.{Engine}
use Rattle.statepoint_tool.specs.declared.engine.Engine.TheVariants as engines
use Rattle.statepoint_tool.specs.declared.runner.Executable.{Executable}
use Rattle.statepoint_tool.specs.declared.runner.Executable.TheVariants.{Trusted, Checked}
use Rattle.statepoint_tool.specs.declared.runner.Runner.{Runner}
use Rattle.statepoint_tool.specs.declared.runner.Runner.TheVariants.{Meaning, Rewritten, Machine}

-- the rewritten module
abbrev pub module_in : Executable → LinedModule
module_in (Trusted whole) = whole
module_in (Checked whole) = whole

abbrev pub engine_of : Runner → Engine
engine_of (Meaning whole) = engines.Meaning
engine_of (Rewritten executable map_file shows) = engines.Rewriter map_file shows
engine_of (Machine (Trusted whole) map_file shows) = engines.Machine map_file true shows
engine_of (Machine (Checked whole) map_file shows) = engines.Machine map_file false shows

pub record IsExecutable (content : ModuleContent) : Type 0 where
  pub target : IsTargetModule content

-- the source module, or the rewritten one of a source module
pub record IsOwn (content own : ModuleContent) : Type 0 where
  pub same : content ≡ own
  pub source : IsSourceModule content

pub record IsRewrittenOf (content after : ModuleContent) : Type 0 where
  pub source : IsSourceModule content
  pub rewritten : IsRewritten content after
  pub few : ¬ HasManyRelocates content
  pub executable : IsExecutable after

pub record IsItself (content whole : ModuleContent) : Type 0 where
  pub same : content ≡ whole
  pub executable : IsExecutable whole

-- this runs for a module with this content
abbrev pub RunsAs : ModuleContent → Runner → Type 0
RunsAs content (Meaning whole) = IsOwn content whole.content
RunsAs content (Rewritten executable map_file shows) = IsRewrittenOf content (module_in executable).content
RunsAs content (Machine executable map_file shows) = IsItself content (module_in executable).content

abbrev pub CanRun : Runner → Type 0
CanRun runner = (content : ModuleContent) × RunsAs content runner
