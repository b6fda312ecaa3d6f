-- The end of a text.
use Rattle.std.proofs.Common.{◌≡◌, ℕ, false, List, [], Option, Result, OnErr, sym, append-nil}
use Rattle.std.proofs.lemmas.Result.{on_err_weaker}
use Rattle.tool_io.specs.Sink.{AppendsFront}
use Rattle.tool_io.proofs.AppendLaws.{AppendsFront-same}
use Rattle.piece_writer.specs.Writing.{Writing, ended, Grew, Fell}
use Rattle.piece_writer.specs.WritingLaws.{Fell-second}

-- where the last put fails, the sink has a front of the text
pub front-from_last : {T E : Type 0} (result : Result T E) (old new : Option (List ℕ)) (faults : ℕ) (text : List ℕ) (now last : Writing) → Grew (ended old faults false) now text → OnErr result (Fell now last []) → new ≡ last.written → OnErr result (AppendsFront old new text)
front-from_last result old new faults text now last grew fell is =
    on_err_weaker result (λ fell. rw is (AppendsFront-same (Fell-second (ended old faults false) now last text [] grew fell).front text (sym (append-nil text)))) fell
