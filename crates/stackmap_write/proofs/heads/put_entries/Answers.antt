use Rattle.std.proofs.Common.{◌∙◌, ap, arith, sym, Vec, Global, ℕ}
use Rattle.std.proofs.lemmas.Bool.{ltb-true, ltb-false}
use Rattle.frame_forms.specs.ModuleLayouts.{statepoints_in}
use Rattle.stackmap_write.proofs.EntryLemmas.{entry_put, entry_left}
use Rattle.stackmap_write.proofs.heads.put_entries.Goals as goal
use Rattle.stackmap_write.proofs.heads.put_entries.Goals.{then-has_statepoint+in_ok-put_entry, else-has_statepoint}

pub loop-func-preserved : goal.loop-func-preserved
loop-func-preserved c =
    let laid = c.args.layouts.now in
    let func = c.loop-func.func in
    elim c.if-has_statepoint.branch [
      | then-has_statepoint+in_ok-put_entry w ↦
          entry_put c.loop-func.bytes.items _ _ laid func w.entry.result (omega arith)
          (ltb-true 0 (statepoints_in laid func) (sym c.has_statepoint.ensures ∙ w.if-has_statepoint.true))
          w.entry.ensures (ap (λ (v : Vec ℕ Global). v.items) w.bytes-is ∙ w.in_ok-put_entry.ensures) c.loop-func.invariant
      | else-has_statepoint w ↦
          entry_left c.loop-func.bytes.items _ _ laid func (omega arith)
          (ltb-false 0 (statepoints_in laid func) (sym c.has_statepoint.ensures ∙ w.if-has_statepoint.false))
          (ap (λ (v : Vec ℕ Global). v.items) w.bytes-is) c.loop-func.invariant
    ]
