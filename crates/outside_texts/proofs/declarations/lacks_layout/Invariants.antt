use Rattle.std.proofs.Common.{◌-◌, length}
use Rattle.sp_text.specs.Lines.{lines_of, lines_left}
use Rattle.outside_texts.specs.Declares.{LacksLayout}
use Rattle.outside_texts.proofs.declarations.lacks_layout.Given as goal

abbrev pub invariant-loop-line : goal.invariant-loop-line
invariant-loop-line l = LacksLayout (lines_left l.lines) l.layout → LacksLayout (lines_of l.text) l.layout

abbrev pub decreases-loop-line : goal.decreases-loop-line
decreases-loop-line l = length l.lines.text - l.lines.at
