use Rattle.std.proofs.Common.{◌≡◌, ◌++◌, drop}
use Rattle.std.specs.Prelude.{map}
use Rattle.ir_lines.specs.Sections.{layouts_of}
use Rattle.ir_lines.specs.Views.{seen_lines}
use Rattle.ir_lines.specs.Modules.{layout_of}
use Rattle.module_build.proofs.heads.layouts_of.Given as goal

abbrev pub invariant-loop-line : goal.invariant-loop-line
invariant-loop-line l =
    l.layouts.items ++ map layout_of (layouts_of (seen_lines (drop l.line-index l.lines))) ≡ map layout_of (layouts_of (seen_lines l.lines))
