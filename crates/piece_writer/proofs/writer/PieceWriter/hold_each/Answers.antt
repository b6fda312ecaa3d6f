use Rattle.std.proofs.Common.{◌∙◌}
use Rattle.std.proofs.lemmas.Result.{err_from_is_err_and, on_ok_weaker, on_err_weaker}
use Rattle.piece_writer.specs.WritingLaws.{Grew-both, Fell-first, Fell-second, LackRoom-first, LackRoom-second, Waits-both}
use Rattle.piece_writer.proofs.writer.PieceWriter.hold_each.Goals as goal

pub returns-in_err-hold-clause-err : goal.returns-in_err-hold-clause-err
returns-in_err-hold-clause-err g c =
    let exit = err_from_is_err_and c.from_residual.result c.from_residual.ensures.1 in
    rw exit.1 (c.in_err-hold.ensures.err.0, Fell-first _ _ c.args.first.now c.args.second.now c.in_err-hold.ensures.err.1, LackRoom-first _ c.args.first.now c.args.second.now c.in_err-hold.ensures.err.2)

pub returns-clause-ok : goal.returns-clause-ok
returns-clause-ok g c =
    let one = c.in_ok-hold.ensures.ok in
    on_ok_weaker c.hold-2.result (λ two. (two.0 ∙ one.0, Grew-both _ _ _ c.args.first.now c.args.second.now one.1 two.1, Waits-both _ _ _ _ c.args.first.now c.args.second.now one.2 _ _ two.2)) c.hold-2.ensures.ok

pub returns-clause-err : goal.returns-clause-err
returns-clause-err g c =
    let one = c.in_ok-hold.ensures.ok in
    on_err_weaker c.hold-2.result (λ two. (two.0 ∙ one.0, Fell-second _ _ _ c.args.first.now c.args.second.now one.1 two.1, LackRoom-second _ _ _ _ c.args.first.now c.args.second.now one.2 two.2)) c.hold-2.ensures.err
