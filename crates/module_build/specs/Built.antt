-- What building a function gives.
use Rattle.std.specs.Prelude.{map}
use Rattle.ir_ast.specs.Funcs.{LinedFunction}
use Rattle.ir_lines.specs.declared.scope.Top.{Top}
use Rattle.ir_lines.specs.Sections.{Definition, values_of, blocks_of}
use Rattle.ir_lines.specs.Modules.{Known, function_of, instruction_lines}

-- what the lines of a definition can name by number, where this is the table of what those of all can name
abbrev pub known_with : Top → Definition → Known
known_with top func = record {
  layouts = top.layouts;
  functions = top.functions;
  values = map (λ one. one.name) (values_of func);
  blocks = map (λ one. one.name) (blocks_of func);
}

-- the function of a definition, and beside it the line of each instruction
abbrev pub lined_function : Known → Definition → LinedFunction
lined_function known func = record { content = function_of known func; lines = instruction_lines known func }
