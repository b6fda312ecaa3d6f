use Rattle.std.proofs.Common.{◌≡◌, ◌++◌, List, take, drop, false}
use Rattle.std.specs.List.{list_any}
use Rattle.rewriting_forms.specs.Numbered.{is_call}
use Rattle.statepoint_insert.specs.Groups.{GroupContent}
use Rattle.ssa_rebuild.specs.Written.{written, behind}
use Rattle.ssa_rebuild.proofs.writing.fill_lines.Given as goal

abbrev pub invariant-loop-inst : goal.invariant-loop-inst
invariant-loop-inst l = record {
  lines : (groups : List GroupContent) → written groups l.initial.writing l.initial.lines ≡ take l.inst-index l.lines ++ written groups l.writing (drop l.inst-index l.lines);
  writing : (groups : List GroupContent) → behind groups l.initial.writing l.initial.lines ≡ behind groups l.writing (drop l.inst-index l.lines);
  kept : list_any (λ inst. is_call inst.op) (drop l.inst-index l.lines) ≡ false;
}
