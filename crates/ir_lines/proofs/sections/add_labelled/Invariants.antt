use Rattle.std.proofs.Common.{◌≡◌, ◌++◌, drop}
use Rattle.std.specs.Prelude.{map}
use Rattle.ir_lines.specs.Sections.{labelled_blocks}
use Rattle.ir_lines.specs.Tables.{seen_block}
use Rattle.ir_lines.specs.Views.{seen_lines}
use Rattle.ir_lines.proofs.sections.add_labelled.Given as goal

abbrev pub invariant-loop-i : goal.invariant-loop-i
invariant-loop-i l =
    map seen_block l.found.items ++ labelled_blocks (seen_lines (drop l.i l.body))
    ≡ map seen_block l.initial.found.items ++ labelled_blocks (seen_lines l.body)
