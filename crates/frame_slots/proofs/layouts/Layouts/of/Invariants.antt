use Rattle.std.proofs.Common.{◌≡◌, ◌+◌, ◌*◌, ◌≤◌, ◌++◌, drop}
use Rattle.frame_forms.specs.ModuleLayouts.{laid_from, layout_of}
use Rattle.frame_slots.specs.Tables.{layouts_in, AreWithin}
use Rattle.frame_slots.proofs.layouts.Layouts.of.Given as goal

abbrev pub invariant-loop-func : goal.invariant-loop-func
invariant-loop-func l =
    (layouts_in l.returns.items l.entries.items ++ laid_from l.start (drop l.func-index l.module.content.funcs) ≡ layout_of l.module.content)
    × (l.start ≤ 4096 + l.func-index * (4294967296 + 16))
    × AreWithin l.returns.items l.entries.items
