-- The names that the lines of a function can name, as the scope of the code has them.
use Rattle.module_build.specs.declared.scope.Scope.{Scope}
use Rattle.ir_lines.specs.Modules.{Known}

abbrev pub known_in : Scope → Known
known_in scope = record {
  layouts = scope.top.now.layouts;
  functions = scope.top.now.functions;
  values = scope.local.now.values;
  blocks = scope.local.now.blocks;
}
