use Rattle.std.proofs.Common.{◌≡◌, ℕ, ◌<◌, ◌+◌, ◌-◌, length, sym, subst, arith}
use Rattle.ir_cfg.specs.Graphs.{block_at, succs_of}
use Rattle.ir_cfg.specs.Filled.{IsFilledFrom, Enters}
use Rattle.ir_cfg.proofs.TurnLemmas.{has_room, filled_more}
use Rattle.ir_cfg.proofs.turned.fill.Goals as goal

pub enter-requires-clause-room : goal.enter-requires-clause-room
enter-requires-clause-room c =
    let back : c.loop-from.from - 1 + 1 ≡ c.loop-from.from = omega arith in
    let below : c.loop-from.from - 1 < length c.args.succs.now = omega (arith, c.loop-from.invariant.within) in
    let filled = subst (λ (n : ℕ). IsFilledFrom c.args.succs.now n c.loop-from.filling) (sym back) c.loop-from.invariant.filled in
    rw c.row.ensures (has_room c.args.succs.now (c.loop-from.from - 1) c.loop-from.filling c.requires.inside below filled)

pub loop-from-preserved : goal.loop-from-preserved
loop-from-preserved c =
    let back : c.loop-from.from - 1 + 1 ≡ c.loop-from.from = omega arith in
    let below : c.loop-from.from - 1 < length c.args.succs.now = omega (arith, c.loop-from.invariant.within) in
    let filled = subst (λ (n : ℕ). IsFilledFrom c.args.succs.now n c.loop-from.filling) (sym back) c.loop-from.invariant.filled in
    let entered : Enters (block_at (c.loop-from.from - 1)) (succs_of c.args.succs.now (c.loop-from.from - 1)) c.loop-from.filling c.enter.new.filling =
    rw (← c.row.ensures) c.enter.ensures in
    record {
      within = omega (arith, c.loop-from.invariant.within);
      filled = filled_more c.args.succs.now (c.loop-from.from - 1) c.loop-from.filling c.enter.new.filling below filled entered;
    }
