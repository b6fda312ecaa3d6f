use Rattle.std.proofs.Common.{◌∙◌, ◌+◌, ◌*◌, slice_get, ap, arith, sym}
use Rattle.std.proofs.lemmas.Result.{err_from_is_err_and}
use Rattle.piece_writer.proofs.SinkLemmas.{TookBefore-next, TookBefore-end, TookBefore-failed}
use Rattle.stackmap_view.specs.Views.{seen}
use Rattle.tool_report.specs.MapTexts.{pairs_at}
use Rattle.tool_report.proofs.MapTextLemmas.{pairs_next, pairs_end}
use Rattle.tool_report.proofs.maps.put_pairs.Goals as goal

pub loop-pair-preserved : goal.loop-pair-preserved
loop-pair-preserved g c =
    let places = (seen c.args.site.now).one.places in
    TookBefore-next g.W.PieceSink.took g.W.PieceSink.failed_within g.met.W.PieceSink.took_both _ _ _ _ _ _ _ c.loop-pair.invariant c.in_ok-put_into.ensures.ok
    (pairs_next places (pairs_at places) c.loop-pair.pair c.place-base.result c.place-derived.result
    (ap (λ n. slice_get places (n + 2 * c.loop-pair.pair)) (sym c.pairs_at-first.ensures.value) ∙ c.place-base.ensures)
    (ap (λ n. slice_get places (n + 1 + 2 * c.loop-pair.pair)) (sym c.pairs_at-first.ensures.value) ∙ c.place-derived.ensures))

pub returns-in_err-put_into-clause-err : goal.returns-in_err-put_into-clause-err
returns-in_err-put_into-clause-err g c =
    let places = (seen c.args.site.now).one.places in
    let exit = err_from_is_err_and c.from_residual.result c.from_residual.ensures.1 in
    rw exit.1 (TookBefore-failed g.W.PieceSink.took g.W.PieceSink.failed_within g.met.W.PieceSink.failed_in_first g.met.W.PieceSink.failed_in_second _ _ _ _ _ _ _ c.loop-pair.invariant c.in_err-put_into.ensures.err
    (pairs_next places (pairs_at places) c.loop-pair.pair c.place-base.result c.place-derived.result
    (ap (λ n. slice_get places (n + 2 * c.loop-pair.pair)) (sym c.pairs_at-first.ensures.value) ∙ c.place-base.ensures)
    (ap (λ n. slice_get places (n + 1 + 2 * c.loop-pair.pair)) (sym c.pairs_at-first.ensures.value) ∙ c.place-derived.ensures)))

pub returns-clause-ok : goal.returns-clause-ok
returns-clause-ok g c =
    let places = (seen c.args.site.now).one.places in
    TookBefore-end g.W.PieceSink.took g.W.PieceSink.failed_within _ _ _
    (rw (pairs_end places (pairs_at places) c.loop-pair.pair (omega (arith, c.pairs_at-first.ensures.value))) at c.loop-pair.invariant)
