-- What a change of a slot stands for.
use Rattle.machine_meaning.specs.Happenings.{SlotChange as Change}
use Rattle.run_traces.specs.declared.frames.SlotChange.{SlotChange}

abbrev pub change_of : SlotChange → Change
change_of slot = record { task = slot.task; frame = slot.frame; offset = slot.offset; old = slot.old; new = slot.new }
