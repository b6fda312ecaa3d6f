-- The bytes so far are those that the reader had first, and at most one more than the limit.
use Rattle.std.proofs.Common.{◌+◌, ◌-◌, ◌≤◌, vec_len}
use Rattle.std.specs.Io.KnownBytes.{Consumes}
use Rattle.tool_io.proofs.disk_files.read_within.Given as goal

abbrev pub decreases-turns : goal.decreases-turns
decreases-turns g l = l.limit + 1 - vec_len l.bytes

abbrev pub invariant-turns : goal.invariant-turns
invariant-turns g l =
    Consumes (g.F.Read.remaining l.fn.file) (g.F.Read.remaining l.file) l.bytes.items × (vec_len l.bytes ≤ l.limit + 1)
