use Rattle.std.proofs.Common.{List, sym, refl, subst, Some}
use Rattle.std.proofs.lemmas.List.Elements.{All-nil}
use Rattle.flat_code.specs.declared.lines.Segment.{Segment}
use Rattle.flat_code.specs.Flats.{IsSizedLine}
use Rattle.flat_code.specs.Spots.{lines_at}
use Rattle.flat_code.specs.Segments.{AreChained}
use Rattle.flat_code.proofs.DecodeLemmas.{decodes_none, chained_push}
use Rattle.flat_code.proofs.decode.leave.Goals as goal

pub returns-clause-open : goal.returns-clause-open
returns-clause-open c =
    let d = c.args.draft.now in let layouts = c.args.source.now.layouts in let defined = c.args.source.now.defined in
    let segment : Segment = record { start = d.start; lines = c.replace-lines.result; end = d.spot; to = c.args.to; operands = c.args.operands; exit = Some c.args.exit } in
    record {
      chained = subst (λ (segments : List Segment). AreChained layouts defined segments (Some c.args.next)) (sym c.in_ok-push.ensures.items)
          (chained_push layouts defined d.segments.items segment (Some c.args.next) c.requires.open.chained
          (record { lines = rw c.replace-lines.ensures.value c.requires.open.lines; sized = rw c.replace-lines.ensures.value c.requires.open.sized; block = c.requires.open.block })
          c.requires.exit);
      lines = rw (c.replace-lines.ensures.after, c.new.ensures.items) (decodes_none layouts (lines_at defined c.args.next));
      sized = rw (c.replace-lines.ensures.after, c.new.ensures.items) (All-nil IsSizedLine);
      block = refl;
    }
