use Rattle.std.proofs.Common.{◌∙◌, arith, ap, sym, length}
use Rattle.std.proofs.lemmas.Bool.{ltb-true, ltb-false}
use Rattle.frame_forms.specs.ModuleLayouts.{statepoints_in}
use Rattle.stackmap_write.proofs.EntryLemmas.{entries_taken, entries_skipped, entries_short}
use Rattle.stackmap_write.proofs.heads.entry_count.Goals as goal
use Rattle.stackmap_write.proofs.heads.entry_count.Goals.{then-has_statepoint, else-has_statepoint}

pub overflow_add-count : goal.overflow_add-count
overflow_add-count c =
    let laid = c.args.layouts.now in
    let func = c.loop-func.func in
    let some = ltb-true 0 (statepoints_in laid func) (sym c.has_statepoint.ensures ∙ c.if-has_statepoint.true) in
    omega (arith, c.loop-func.invariant, ap length (entries_taken laid func (omega arith) some), entries_short laid)

pub loop-func-preserved : goal.loop-func-preserved
loop-func-preserved c =
    let laid = c.args.layouts.now in
    let func = c.loop-func.func in
    elim c.if-has_statepoint.branch [
      | then-has_statepoint w ↦
          let some = ltb-true 0 (statepoints_in laid func) (sym c.has_statepoint.ensures ∙ w.if-has_statepoint.true) in
          omega (arith, c.loop-func.invariant, w.count-is, ap length (entries_taken laid func (omega arith) some))
      | else-has_statepoint w ↦
          let none = ltb-false 0 (statepoints_in laid func) (sym c.has_statepoint.ensures ∙ w.if-has_statepoint.false) in
          omega (arith, c.loop-func.invariant, w.count-is, ap length (entries_skipped laid func (omega arith) none))
    ]
