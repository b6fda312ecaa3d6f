-- The lines of instructions, on words.
use Rattle.std.specs.Prelude.{ℕ, List, map}
use Rattle.ir_ast.specs.Insts.{Instruction}
use Rattle.object_meaning.specs.Lines.{Line, numbered}
use Rattle.object_meaning.specs.TargetRuns.{plain_lines}
use Rattle.machine_meaning.specs.Words.{worded}

-- the line of an instruction whose result would go to the register `next`
abbrev pub line_of : ℕ → Instruction → Line
line_of next inst = worded (numbered next inst)

abbrev pub lines_left : ℕ → List Instruction → List Line
lines_left next insts = map worded (plain_lines next insts)
