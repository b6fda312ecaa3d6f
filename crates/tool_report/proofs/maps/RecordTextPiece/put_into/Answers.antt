use Rattle.std.proofs.Common.{OnErr, Result, Ok, Err}
use Rattle.std.proofs.lemmas.Result.{err_from_is_err_and}
use Rattle.list_laws.proofs.Options.{on_ok}
use Rattle.tool_report.proofs.maps.RecordTextPiece.put_into.Goals as goal

on_err : {A E : Type 0} (result : Result A E) (P Q : Type 0) → (P → Q) → OnErr result P → OnErr result Q
on_err (Ok value) P Q then is = is
on_err (Err fault) P Q then is = then is

pub returns-in_err-put_locations-clause-err : goal.returns-in_err-put_locations-clause-err
returns-in_err-put_locations-clause-err g c =
    let exit = err_from_is_err_and c.from_residual-in_err-put_locations.result c.from_residual-in_err-put_locations.ensures.1 in
    rw exit.1 (g.met.W.PieceSink.failed_in_second _ _ _ _ _ c.in_ok-put_into.ensures.ok (g.met.W.PieceSink.failed_in_first _ _ _ _ c.in_err-put_locations.ensures.err))

pub returns-clause-ok : goal.returns-clause-ok
returns-clause-ok g c =
    on_ok c.put_pairs.result _ _
    (λ taken. g.met.W.PieceSink.took_both _ _ _ _ _ c.in_ok-put_into.ensures.ok (g.met.W.PieceSink.took_both _ _ _ _ _ c.in_ok-put_locations.ensures.ok taken))
    c.put_pairs.ensures.ok

pub returns-clause-err : goal.returns-clause-err
returns-clause-err g c =
    on_err c.put_pairs.result _ _
    (λ failed. g.met.W.PieceSink.failed_in_second _ _ _ _ _ c.in_ok-put_into.ensures.ok (g.met.W.PieceSink.failed_in_second _ _ _ _ _ c.in_ok-put_locations.ensures.ok failed))
    c.put_pairs.ensures.err
