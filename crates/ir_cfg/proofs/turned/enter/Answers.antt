use Rattle.std.proofs.Common.{◌<◌, length, get_or, arith}
use Rattle.std.proofs.lemmas.List.{get_or_default}
use Rattle.ir_cfg.proofs.TurnLemmas.{between, one_is_left, enters_more}
use Rattle.ir_cfg.proofs.turned.enter.Goals as goal

pub put-requires-clause-positive : goal.put-requires-clause-positive
put-requires-clause-positive c =
    let below : c.loop-to.to-index < length c.args.row.now = omega arith in
    let label = get_or c.args.row.now c.loop-to.to-index (record { 0 = 0 }) in
    let inside = c.requires.room.inside c.loop-to.to-index (record { 0 = 0 }) below in
    let left = one_is_left c.args.from c.args.row.now c.loop-to.to-index label c.args.filling.now c.loop-to.filling c.requires.room c.loop-to.invariant below
    (get_or_default c.args.row.now c.loop-to.to-index label (record { 0 = 0 }) below) inside in
    omega (arith, left)

pub put-requires-clause-within : goal.put-requires-clause-within
put-requires-clause-within c =
    let below : c.loop-to.to-index < length c.args.row.now = omega arith in
    let label = get_or c.args.row.now c.loop-to.to-index (record { 0 = 0 }) in
    let inside = c.requires.room.inside c.loop-to.to-index (record { 0 = 0 }) below in
    let lies = between c.args.from c.args.row.now c.loop-to.to-index c.args.filling.now c.loop-to.filling c.requires.rows c.requires.room c.loop-to.invariant label.0 inside in
    omega (arith, lies.high, lies.stop)

pub loop-to-preserved : goal.loop-to-preserved
loop-to-preserved c =
    let below : c.loop-to.to-index < length c.args.row.now = omega arith in
    let label = get_or c.args.row.now c.loop-to.to-index (record { 0 = 0 }) in
    enters_more c.args.from c.args.row.now c.loop-to.to-index label c.args.filling.now c.loop-to.filling c.put.new.filling c.requires.rows c.requires.room
    c.loop-to.invariant below (get_or_default c.args.row.now c.loop-to.to-index label (record { 0 = 0 }) below) c.put.ensures
