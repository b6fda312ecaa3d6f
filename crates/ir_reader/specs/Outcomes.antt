-- Why a line isn't read.
use Rattle.std.specs.Prelude.{◌≡◌}
use Rattle.ir_reader.specs.declared.faults.LineFault.{LineFault}
use Rattle.ir_reader.specs.declared.faults.LineFault.TheVariants as line_faults
use Rattle.ir_reader.specs.Text.{Outcome, no_reading, over_limit}

-- what is told is what the line comes to; want of memory says nothing of it
abbrev pub IsFaultOf : LineFault → Outcome → Type 0
IsFaultOf line_faults.NoReading outcome = outcome ≡ no_reading
IsFaultOf line_faults.OverLimit outcome = outcome ≡ over_limit
IsFaultOf line_faults.Memory outcome = Unit {0}
