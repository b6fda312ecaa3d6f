use Rattle.std.proofs.Common.{◌<◌, ◌++◌, ◌∷◌, [], List, length, get_or, map, ap, sym, ◌∙◌, arith}
use Rattle.ir_ast.specs.declared.ops.Operand.{Operand}
use Rattle.ir_ast.specs.declared.ops.Operand.TheVariants.{Value}
use Rattle.ir_cfg.specs.Unreached.{has_mark, operand_kept}
use Rattle.ir_cfg.proofs.KeptLemmas.{map_kept, map_left}
use Rattle.ir_cfg.proofs.renumber.entries.Goals as goal
use Rattle.ir_cfg.proofs.renumber.entries.Goals.{then-entry_kept+in_ok-push, else-entry_kept}

pub loop-place-preserved : goal.loop-place-preserved
loop-place-preserved c =
    let below : c.loop-place.place < length c.args.operands.now = omega arith in
    let x : Operand = Value (record { 0 = 0 }) in
    elim c.if-entry_kept.branch [
      | then-entry_kept+in_ok-push w ↦
          ap (λ v. v.items) w.kept-is ∙ w.in_ok-push.ensures.ok
          ∙ ap (λ (r : Operand). c.loop-place.kept.items ++ r ∷ []) w.operand.ensures
          ∙ ap (λ (ks : List Operand). ks ++ operand_kept c.args.renumber.now (get_or c.args.operands.now c.loop-place.place x) ∷ []) c.loop-place.invariant
          ∙ sym (map_kept (operand_kept c.args.renumber.now) (map (has_mark c.args.renumber.now) c.args.labels.now) c.args.operands.now c.loop-place.place x below w.if-entry_kept.ensures)
      | else-entry_kept w ↦
          ap (λ v. v.items) w.kept-is ∙ c.loop-place.invariant
          ∙ sym (map_left (operand_kept c.args.renumber.now) (map (has_mark c.args.renumber.now) c.args.labels.now) c.args.operands.now c.loop-place.place x below w.if-entry_kept.ensures)
    ]
