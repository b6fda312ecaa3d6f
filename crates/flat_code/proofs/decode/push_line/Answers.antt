use Rattle.std.proofs.lemmas.List.Elements.{All-push}
use Rattle.object_meaning.specs.Lines.{numbered}
use Rattle.flat_code.specs.Flats.{IsSizedLine}
use Rattle.flat_code.specs.Spots.{lines_at, passed_spot}
use Rattle.flat_code.proofs.DecodeLemmas.{decodes_push}
use Rattle.flat_code.proofs.decode.push_line.Goals as goal

pub returns-clause-open : goal.returns-clause-open
returns-clause-open c =
    let d = c.args.draft.now in let defined = c.args.source.now.defined in
    record {
      chained = c.requires.open.chained;
      lines = rw (c.in_ok-push.ensures.items, c.flat_line.ensures.line, c.layouts.ensures, c.in_ok-to.ensures, c.in_ok-spot.ensures)
          (decodes_push c.args.source.now.layouts (lines_at defined d.start) (lines_at defined d.spot)
          (lines_at defined (passed_spot d.spot c.args.inst.now)) d.lines.items (numbered d.spot.next c.args.inst.now) c.requires.stands c.requires.plain c.requires.straight c.requires.open.lines);
      sized = rw c.in_ok-push.ensures.items (All-push IsSizedLine d.lines.items c.flat_line.result c.requires.open.sized c.flat_line.ensures.sized);
      block = rw c.in_ok-spot.ensures c.requires.open.block;
    }
