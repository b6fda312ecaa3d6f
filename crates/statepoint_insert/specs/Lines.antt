-- All lines of a group.
use Rattle.std.specs.Prelude.{ℕ, List, ◌∷◌, ◌++◌}
use Rattle.ir_ast.specs.Insts.{Instruction}
use Rattle.statepoint_insert.specs.declared.texts.Call.{Call}
use Rattle.statepoint_insert.specs.declared.texts.Counts.{Counts}
use Rattle.statepoint_insert.specs.Groups.{GroupContent}
use Rattle.statepoint_insert.specs.Texts.{statepoint_line, result_lines, relocate_lines, first_rank}

-- the lines for a call whose operands have their final numbers
abbrev pub group_lines : Counts → ℕ → GroupContent → List ℕ → Call → List Instruction
group_lines counts token group live call =
    statepoint_line counts.tokens group.has_null live call.callee call.types call.ty call.operands.items call.bundle.items
    ∷ (result_lines token call.ty call.named ++ relocate_lines token counts.relocates (first_rank group.has_null) group.relocates)
