use Rattle.std.proofs.Common.{◌≡◌, ◌++◌, take, drop}
use Rattle.std.specs.Prelude.{map}
use Rattle.entry_groups.specs.Entry.{put_line}
use Rattle.entry_groups.proofs.lines.put_all.Given as goal

abbrev pub invariant-loop-inst : goal.invariant-loop-inst
invariant-loop-inst l = take l.inst-index l.lines ++ map (put_line l.row) (drop l.inst-index l.lines) ≡ map (put_line l.row) l.initial.lines
