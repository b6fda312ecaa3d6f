use Rattle.std.proofs.Common.{ap, length, arith, ◌∙◌}
use Rattle.pair_facts.specs.Lines.{lines_at}
use Rattle.fact_tables.specs.Groups.{is_based}
use Rattle.fact_tables.proofs.NoteLemmas.{length-told}
use Rattle.fact_tables.proofs.TableLemmas.{notes_read, based_read}
use Rattle.fact_tables.proofs.tables.is_based.Goals as goal

pub index-requires-2 : goal.index-requires-2
index-requires-2 c =
    let func = c.args.func.now.content in
    let lines = lines_at func c.args.block in
    let is = notes_read func c.args.tables.now c.args.block c.index.result.now c.requires.tables c.requires.block c.index.ensures in
    let count = ap length is.based ∙ length-told (is_based lines) (length lines) in
    omega (arith, count, c.index.result.now.based.ok.0, c.requires.place)

pub returns : goal.returns
returns c =
    let func = c.args.func.now.content in
    let is = notes_read func c.args.tables.now c.args.block c.index.result.now c.requires.tables c.requires.block c.index.ensures in
    based_read (lines_at func c.args.block) c.index.result.now c.args.place c.index-2.result.now is c.requires.place c.index-2.ensures
