-- Why a line in its place isn't read.
use Rattle.line_parts.specs.declared.faults.Stop.{Stop}
use Rattle.line_parts.specs.declared.faults.Stop.TheVariants as stops
use Rattle.ir_reader.specs.declared.faults.LineFault.{LineFault}
use Rattle.ir_reader.specs.declared.faults.LineFault.TheVariants as line_faults

abbrev pub line_fault : Stop → LineFault
line_fault stops.NoReading = line_faults.NoReading
line_fault stops.Memory = line_faults.Memory
