use Rattle.std.proofs.Common.{suc, ap, length, arith, ◌∙◌}
use Rattle.pair_facts.specs.Lines.{lines_at}
use Rattle.pair_facts.specs.Segments.{start_at}
use Rattle.fact_tables.proofs.NoteLemmas.{length-told}
use Rattle.fact_tables.proofs.TableLemmas.{notes_read, start_read}
use Rattle.fact_tables.proofs.tables.start_at.Goals as goal

pub index-requires-2 : goal.index-requires-2
index-requires-2 c =
    let func = c.args.func.now.content in
    let lines = lines_at func c.args.block in
    let is = notes_read func c.args.tables.now c.args.block c.index.result.now c.requires.tables c.requires.place.block_inside c.index.ensures in
    let count = ap length is.starts ∙ length-told (start_at lines) (suc (length lines)) in
    omega (arith, count, c.index.result.now.starts.ok.0, c.requires.place.place_inside)

pub returns : goal.returns
returns c =
    let func = c.args.func.now.content in
    let is = notes_read func c.args.tables.now c.args.block c.index.result.now c.requires.tables c.requires.place.block_inside c.index.ensures in
    start_read (lines_at func c.args.block) c.index.result.now c.args.place c.index-2.result.now is c.requires.place.place_inside c.index-2.ensures
