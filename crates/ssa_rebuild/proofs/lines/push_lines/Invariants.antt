use Rattle.std.proofs.Common.{◌≡◌, ◌≤◌, ◌+◌, ◌++◌, map, drop}
use Rattle.object_meaning.specs.TargetRuns.{plain_lines}
use Rattle.ssa_rebuild.specs.Rows.{listed_slots, calls_of, group_list}
use Rattle.ssa_rebuild.proofs.lines.push_lines.Given as goal

abbrev pub invariant-loop-inst : goal.invariant-loop-inst
invariant-loop-inst l = record {
  row : l.initial.row.items ++ listed_slots (map group_list l.groups) l.start (plain_lines l.first l.insts)
      ≡ l.row.items ++ listed_slots (map group_list l.groups) l.call (plain_lines l.next (drop l.inst-index l.insts));
  calls : calls_of l.start (plain_lines l.first l.insts) ≡ calls_of l.call (plain_lines l.next (drop l.inst-index l.insts));
  few : l.call ≤ l.start + l.inst-index;
  small : l.next ≤ l.first + l.inst-index;
}
