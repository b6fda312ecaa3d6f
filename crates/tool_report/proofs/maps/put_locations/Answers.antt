use Rattle.std.proofs.Common.{◌<◌, arith}
use Rattle.std.proofs.lemmas.Result.{err_from_is_err_and}
use Rattle.piece_writer.proofs.SinkLemmas.{TookBefore-next, TookBefore-end, TookBefore-failed}
use Rattle.stackmap_view.specs.Maps.{stack_map}
use Rattle.stackmap_view.specs.Views.{seen}
use Rattle.tool_report.specs.MapTexts.{pairs_at}
use Rattle.tool_report.proofs.MapTextLemmas.{location_next, locations_end}
use Rattle.tool_report.proofs.maps.put_locations.Goals as goal

pub loop-index-preserved : goal.loop-index-preserved
loop-index-preserved g c =
    let places = (seen c.args.site.now).one.places in
    let below : c.loop-index.index < pairs_at places = omega (arith, c.pairs_at.ensures.value) in
    TookBefore-next g.W.PieceSink.took g.W.PieceSink.failed_within g.met.W.PieceSink.took_both _ _ _ _ _ _ _ c.loop-index.invariant c.in_ok-put_into.ensures.ok
    (location_next (stack_map c.args.view).constants places (pairs_at places) c.loop-index.index c.place.result below c.place.ensures)

pub returns-in_err-put_into-clause-err : goal.returns-in_err-put_into-clause-err
returns-in_err-put_into-clause-err g c =
    let places = (seen c.args.site.now).one.places in
    let below : c.loop-index.index < pairs_at places = omega (arith, c.pairs_at.ensures.value) in
    let exit = err_from_is_err_and c.from_residual.result c.from_residual.ensures.1 in
    rw exit.1 (TookBefore-failed g.W.PieceSink.took g.W.PieceSink.failed_within g.met.W.PieceSink.failed_in_first g.met.W.PieceSink.failed_in_second _ _ _ _ _ _ _ c.loop-index.invariant c.in_err-put_into.ensures.err
    (location_next (stack_map c.args.view).constants places (pairs_at places) c.loop-index.index c.place.result below c.place.ensures))

pub returns-clause-ok : goal.returns-clause-ok
returns-clause-ok g c =
    let places = (seen c.args.site.now).one.places in
    TookBefore-end g.W.PieceSink.took g.W.PieceSink.failed_within _ _ _
    (rw (locations_end (stack_map c.args.view).constants places (pairs_at places) c.loop-index.index (omega (arith, c.pairs_at.ensures.value, c.places.ensures))) at c.loop-index.invariant)
