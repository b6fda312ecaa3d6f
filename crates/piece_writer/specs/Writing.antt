-- What a writer of pieces has put into its sink, and what it still holds.
use Rattle.std.specs.Prelude.{◌≡◌, ℕ, ◌≤◌, Bool, true, false, List, [], ◌++◌, length, Option}
use Rattle.std.specs.Borrow.{MutBor}
use Rattle.tool_io.specs.Counts.{Rose}
use Rattle.tool_io.specs.Sink.{append_known, AppendsFront}
use Rattle.piece_writer.specs.declared.writer.PieceWriter.{PieceWriter}

-- the bytes and the count of faults of the sink, the bytes that wait for a put, and whether a put failed
pub record Writing : Type 0 where
  pub written : Option (List ℕ)
  pub faults : ℕ
  pub held : List ℕ
  pub failed : Bool

-- that of a writer, by what its sink has written and counted
abbrev pub writing : {S : Type 0} → (S → Option (List ℕ)) → (S → ℕ) → PieceWriter S → Writing
writing written faults writer =
    record { written = written writer.out.now; faults = faults writer.out.now; held = writer.held; failed = writer.failed }

-- the writer puts into this sink
abbrev pub IsInto : {S : Type 0} → MutBor S → PieceWriter S → Type 0
IsInto sink writer = writer.out.ghost_name ≡ sink.ghost_name

-- that of a writer that is done: it holds nothing
abbrev pub ended : Option (List ℕ) → ℕ → Bool → Writing
ended written faults failed = record { written = written; faults = faults; held = []; failed = failed }

-- the sink is as it was
pub record IsSameSink (old new : Writing) : Type 0 where
  pub written : new.written ≡ old.written
  pub faults : new.faults ≡ old.faults

-- The text so far, what the sink got and what is held, grew by all of these bytes. Nothing more is put
-- after a failure.
pub record Grew (old new : Writing) (bytes : List ℕ) : Type 0 where
  pub put : List ℕ
  pub split : old.held ++ bytes ≡ put ++ new.held
  pub added : new.written ≡ append_known old.written put
  pub count : old.faults ≤ new.faults
  pub same : new.failed ≡ old.failed
  pub silent : old.failed ≡ true → IsSameSink old new

-- The sink failed at the latest within these bytes: it got a front of what was held and of them, and its
-- count rose. Nothing more is put after a failure.
pub record Fell (old new : Writing) (bytes : List ℕ) : Type 0 where
  pub front : AppendsFront old.written new.written (old.held ++ bytes)
  pub count : old.faults ≤ new.faults
  pub failed : new.failed ≡ true
  pub rose : old.failed ≡ false → Rose old.faults new.faults
  pub silent : old.failed ≡ true → IsSameSink old new

-- where the buffer of 8,192 bytes has room for these bytes, they wait behind those that were held, and nothing is put
pub record Waits (old_held new_held : List ℕ) (old_puts new_puts : Option (List (List ℕ))) (bytes : List ℕ) : Type 0 where
  pub held : length (old_held ++ bytes) ≤ 8192 → new_held ≡ old_held ++ bytes
  pub unput : length (old_held ++ bytes) ≤ 8192 → new_puts ≡ old_puts

-- the same of two writers into one sink, whose pieces are told by `puts`
abbrev pub Takes : {S : Type 0} → (S → Option (List ℕ)) → (S → Option (List (List ℕ))) → (S → ℕ) → PieceWriter S → PieceWriter S → List ℕ → Type 0
Takes written puts faults old new bytes =
    (new.out.ghost_name ≡ old.out.ghost_name) × Grew (writing written faults old) (writing written faults new) bytes
    × Waits old.held new.held (puts old.out.now) (puts new.out.now) bytes

-- whether there is room or not
abbrev pub Adds : {S : Type 0} → (S → Option (List ℕ)) → (S → ℕ) → PieceWriter S → PieceWriter S → List ℕ → Type 0
Adds written faults old new bytes =
    (new.out.ghost_name ≡ old.out.ghost_name) × Grew (writing written faults old) (writing written faults new) bytes

-- the same of a failure
abbrev pub Falls : {S : Type 0} → (S → Option (List ℕ)) → (S → ℕ) → PieceWriter S → PieceWriter S → List ℕ → Type 0
Falls written faults old new bytes =
    (new.out.ghost_name ≡ old.out.ghost_name) × Fell (writing written faults old) (writing written faults new) bytes

-- these bytes have no room behind those that are held
abbrev pub LackRoom : (held bytes : List ℕ) → Type 0
LackRoom held bytes = ¬ (length (held ++ bytes) ≤ 8192)

-- where there is room nothing fails
abbrev pub Fails : {S : Type 0} → (S → Option (List ℕ)) → (S → ℕ) → PieceWriter S → PieceWriter S → List ℕ → Type 0
Fails written faults old new bytes =
    (new.out.ghost_name ≡ old.out.ghost_name) × Fell (writing written faults old) (writing written faults new) bytes × LackRoom old.held bytes
