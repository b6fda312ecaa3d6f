use Rattle.std.proofs.Common.{◌≡◌, ℕ, false, map, take}
use Rattle.std.specs.Prelude.{slice_index_or}
use Rattle.std.specs.List.{list_any}
use Rattle.rewriting_forms.specs.Numbered.{among}
use Rattle.ssa_rebuild.specs.Rows.{group_list}
use Rattle.ssa_rebuild.proofs.listed.listed.Given as goal

abbrev pub invariant-loop-group : goal.invariant-loop-group
invariant-loop-group l = (v : ℕ) → slice_index_or l.marks.items v false ≡ list_any (among v) (map group_list (take l.group-index l.groups))
