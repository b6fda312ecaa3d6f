use Rattle.std.proofs.Common.{◌≡◌, map, take}
use Rattle.std.specs.List.{list_any}
use Rattle.rewriting_forms.specs.Numbered.{is_call}
use Rattle.live_sets.proofs.lists.calling.Given as goal

abbrev pub invariant-loop-block : goal.invariant-loop-block
invariant-loop-block l = l.marks.items ≡ map (λ block. list_any (λ inst. is_call inst.op) block.insts) (take l.block-index l.block-items)
