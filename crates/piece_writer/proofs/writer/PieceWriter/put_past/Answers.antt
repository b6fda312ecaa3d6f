use Rattle.std.proofs.Common.{[], ◌∙◌}
use Rattle.std.proofs.lemmas.Result.{err_from_is_err_and, on_ok_weaker, on_err_weaker}
use Rattle.piece_writer.specs.WritingLaws.{Grew-both, Fell-first, Fell-second}
use Rattle.piece_writer.proofs.writer.PieceWriter.put_past.Goals as goal

pub returns-in_err-put_held-clause-err : goal.returns-in_err-put_held-clause-err
returns-in_err-put_held-clause-err g c =
    let exit = err_from_is_err_and c.from_residual.result c.from_residual.ensures.1 in
    rw exit.1 (c.in_err-put_held.ensures.err.0, Fell-first _ _ _ c.args.bytes.now c.in_err-put_held.ensures.err.1)

pub returns-clause-ok : goal.returns-clause-ok
returns-clause-ok g c =
    let kept = c.in_ok-put_held.ensures.ok in
    on_ok_weaker c.put_now.result (λ one. (one.0 ∙ kept.0, Grew-both _ _ _ [] c.args.bytes.now kept.1 one.1)) c.put_now.ensures.ok

pub returns-clause-err : goal.returns-clause-err
returns-clause-err g c =
    let kept = c.in_ok-put_held.ensures.ok in
    on_err_weaker c.put_now.result (λ one. (one.0 ∙ kept.0, Fell-second _ _ _ [] c.args.bytes.now kept.1 one.1)) c.put_now.ensures.err
