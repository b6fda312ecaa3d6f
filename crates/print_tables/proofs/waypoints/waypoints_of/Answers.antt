use Rattle.std.proofs.Common.{◌+◌, ◌++◌, ℕ, List, is_some, drop, sym, subst, ◌∙◌, ap, arith}
use Rattle.std.specs.List.{All}
use Rattle.ir_ast.specs.Funcs.{instructions_of}
use Rattle.print_tables.specs.Waypoints.{IsWaypoint, StandBefore}
use Rattle.print_tables.specs.declared.waypoints.Waypoint.{Waypoint}
use Rattle.print_tables.proofs.WaypointLemmas.{IsWaypoint-here, StandBefore-some, StandBefore-none}
use Rattle.print_tables.proofs.waypoints.waypoints_of.Goals as goal
use Rattle.print_tables.proofs.waypoints.waypoints_of.Goals.{then-is_some+in-Some, else-is_some}

pub loop-inst-preserved : goal.loop-inst-preserved
loop-inst-preserved g c =
    let known : List Waypoint → Type 0 = All (IsWaypoint c.args.blocks.now) in
    let later = instructions_of (drop (c.loop-block.block + 1) c.args.blocks.now) in
    let counted : ℕ → Type 0 = λ results. StandBefore (instructions_of c.args.blocks.now) (drop (c.loop-inst.inst + 1) c.insts-line-items.result.now ++ later) results in
    record {
      all =
          elim c.if-is_some.branch [
            | then-is_some+in-Some w ↦
                subst known (sym (ap (λ waypoints. waypoints.items) w.waypoints-is))
                (w.add.ensures c.args.blocks.now c.loop-inst.invariant.all
                (IsWaypoint-here c.args.blocks.now c.loop-block.block c.loop-inst.inst c.loop-inst.results c.index-blocks-block.result c.insts-line-items.result.now
                (omega arith) c.index-blocks-block.is c.insts-line-items.ensures.value c.loop-inst.invariant.before))
            | else-is_some w ↦ subst known (sym (ap (λ waypoints. waypoints.items) w.waypoints-is)) c.loop-inst.invariant.all
          ];
      before =
          elim c.if-is_some.branch [
            | then-is_some+in-Some w ↦
                subst counted (sym (w.results-is ∙ w.in-Some.ensures.1))
                (StandBefore-some (instructions_of c.args.blocks.now) c.insts-line-items.result.now c.loop-inst.inst c.line-item.result later c.loop-inst.results
                (omega arith) c.line-item.is (ap is_some (sym c.result.ensures) ∙ sym c.is_some.ensures ∙ w.if-is_some.true) c.loop-inst.invariant.before)
            | else-is_some w ↦
                subst counted (sym w.results-is)
                (StandBefore-none (instructions_of c.args.blocks.now) c.insts-line-items.result.now c.loop-inst.inst c.line-item.result later c.loop-inst.results
                (omega arith) c.line-item.is (ap is_some (sym c.result.ensures) ∙ sym c.is_some.ensures ∙ w.if-is_some.false) c.loop-inst.invariant.before)
          ];
    }
