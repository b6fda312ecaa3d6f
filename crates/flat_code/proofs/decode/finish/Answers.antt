use Rattle.std.proofs.Common.{List, sym, subst, None}
use Rattle.flat_code.specs.declared.lines.Segment.{Segment}
use Rattle.flat_code.specs.Segments.{AreChained}
use Rattle.flat_code.proofs.DecodeLemmas.{chained_push}
use Rattle.flat_code.proofs.decode.finish.Goals as goal

pub returns-clause-chained : goal.returns-clause-chained
returns-clause-chained c =
    let d = c.args.draft in let layouts = c.args.source.now.layouts in let defined = c.args.source.now.defined in
    let segment : Segment = record { start = d.start; lines = d.lines; end = d.spot; to = None; operands = c.new.result; exit = None } in
    subst (λ (segments : List Segment). AreChained layouts defined segments None) (sym c.in_ok-push.ensures.items)
    (chained_push layouts defined d.segments.items segment None c.requires.open.chained
    (record { lines = c.requires.open.lines; sized = c.requires.open.sized; block = c.requires.open.block }) c.requires.over)
