-- What a word stands for.
use Rattle.std.specs.Prelude.{ℕ, true, false, if◌then◌else◌, Result, Ok, Err}
use Rattle.sp_ids.specs.declared.ends.Trap.{Trap}
use Rattle.ir_ast.specs.Objects.{Datum, number, pointer}
use Rattle.object_store.specs.declared.words.Word.{Word}

abbrev pub datum : Word → Datum
datum word = if word.is_pointer then pointer (record { object = word.object; offset = word.bits }) else number word.bits

abbrev pub datum_result : Result Word Trap → Result Datum Trap
datum_result (Ok word) = Ok (datum word)
datum_result (Err trap) = Err trap

-- the word that stands for a number, and for a pointer
abbrev pub number_word : ℕ → Word
number_word word = record { is_pointer = false; object = 0; bits = word }

abbrev pub pointer_word : ℕ → ℕ → Word
pointer_word object offset = record { is_pointer = true; object = object; bits = offset }
