-- What straight lines work on.
use Rattle.std.specs.Prelude.{List, map, Option, Some, None, Result, Ok, Err}
use Rattle.sp_ids.specs.declared.ends.Trap.{Trap}
use Rattle.object_store.specs.declared.words.Word.{Word}
use Rattle.object_store.specs.Stored.{Store}
use Rattle.object_store.specs.Words.{datum}
use Rattle.flat_code.specs.Flats.{Held}

abbrev pub held_in : List Word → Store → Held
held_in registers store = record { registers = map datum registers; objects = store.objects }

-- what lines gave that left this, or trapped
abbrev pub outcome : Option Trap → Held → Result Held Trap
outcome None held = Ok held
outcome (Some trap) held = Err trap
