use Rattle.std.proofs.Common.{◌≡◌, ◌-◌, length}
use Rattle.std.specs.Prelude.{map, IsTrue}
use Rattle.sp_text.specs.Lines.{lines_left}
use Rattle.ir_reader.specs.Limits.{counts_fit}
use Rattle.ir_reader.specs.Raws.{seen_numbered}
use Rattle.ir_reader.specs.Text.{readings, readings_in}
use Rattle.ir_reader.proofs.LineByLine.{with_lines}
use Rattle.ir_reader.proofs.text.all_readings.Given as goal

abbrev pub invariant-loop-line : goal.invariant-loop-line
invariant-loop-line l = (with_lines (map seen_numbered l.readings) (readings l.state l.number (lines_left l.lines)) ≡ readings_in l.initial.state.form l.text) × IsTrue (counts_fit l.state.counts)

abbrev pub decreases-loop-line : goal.decreases-loop-line
decreases-loop-line l = length l.lines.text - l.lines.at
