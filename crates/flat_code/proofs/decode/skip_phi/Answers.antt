use Rattle.object_meaning.specs.Lines.{numbered}
use Rattle.flat_code.specs.Spots.{lines_at, passed_spot}
use Rattle.flat_code.proofs.DecodeLemmas.{decodes_skip}
use Rattle.flat_code.proofs.decode.skip_phi.Goals as goal

pub returns-clause-open : goal.returns-clause-open
returns-clause-open c =
    let d = c.args.draft.now in let defined = c.args.source.now.defined in
    record {
      chained = c.requires.open.chained;
      lines = rw c.in_ok-draft.ensures (decodes_skip c.args.source.now.layouts (lines_at defined d.start) (lines_at defined d.spot)
          (lines_at defined (passed_spot d.spot c.args.inst.now)) d.lines.items (numbered d.spot.next c.args.inst.now) c.requires.stands c.requires.phi c.requires.open.lines);
      sized = c.requires.open.sized;
      block = rw c.in_ok-draft.ensures c.requires.open.block;
    }
