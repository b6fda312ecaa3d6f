-- Where the lines begin that stand behind the last statepoint before a place of a block.
use Rattle.std.specs.Prelude.{ℕ, zero, suc, List, if◌then◌else◌}
use Rattle.ir_ast.specs.Faults.GroupShape.{is_statepoint}
use Rattle.object_meaning.specs.Lines.{Line}
use Rattle.pair_facts.specs.Lines.{line_in}

-- the place behind the last statepoint before this place, or 0 where there is none
abbrev pub start_at : List Line → ℕ → ℕ
start_at lines zero = 0
start_at lines (suc place) = if is_statepoint (line_in lines place).inst.op then suc place else start_at lines place
