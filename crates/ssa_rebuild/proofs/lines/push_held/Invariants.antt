use Rattle.std.proofs.Common.{◌≡◌, ◌++◌, take}
use Rattle.ssa_rebuild.specs.Rows.{uses_of, held_in}
use Rattle.ssa_rebuild.proofs.lines.push_held.Given as goal

abbrev pub invariant-loop-entry : goal.invariant-loop-entry
invariant-loop-entry l = l.row.items ≡ l.initial.row.items ++ uses_of (held_in (take l.entry-index l.bundle))
