use Rattle.std.proofs.Common.{◌∙◌, ◌++◌, ◌∷◌, [], ap, sym, List, length, ◌<◌, arith}
use Rattle.version_walk.specs.declared.slots.Slot.{Slot}
use Rattle.ssa_rebuild.specs.Rows.{uses_of}
use Rattle.version_walk.proofs.ForestLemmas.{list_is}
use Rattle.ssa_rebuild.proofs.RowLemmas.{grows_at, grows_past}
use Rattle.ssa_rebuild.proofs.entries.add_entry.Goals as goal

pub returns-in_ok-push_use : goal.returns-in_ok-push_use
returns-in_ok-push_use c =
    let rows = c.args.rows.now.items in
    let below : c.args.label.0 < length rows = omega (arith, c.if-block-len.true, c.len.ensures) in
    grows_at rows c.args.label.0 c.push_use.new.row c.args.operand below
    (c.in_ok-push_use.ensures ∙ ap (λ (ss : List Slot). ss ++ uses_of (c.args.operand ∷ [])) (sym (list_is rows c.args.label.0 c.index_mut.result.now below c.index_mut.ensures.value)))

pub returns-else-block-len : goal.returns-else-block-len
returns-else-block-len c = grows_past c.args.rows.now.items c.args.label.0 c.args.operand (omega (arith, c.if-block-len.false, c.len.ensures))
