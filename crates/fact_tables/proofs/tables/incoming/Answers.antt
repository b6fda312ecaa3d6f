use Rattle.std.proofs.Common.{◌∙◌, ap, sym, subst, arith}
use Rattle.std.proofs.lemmas.List.Sums.{prefix_len-le-length}
use Rattle.ir_ast.specs.Faults.PhiEdges.{is_phi}
use Rattle.ir_ast.specs.Insts.{Instruction}
use Rattle.object_meaning.specs.Lines.{Line}
use Rattle.object_meaning.specs.Jumps.{phi_count}
use Rattle.pair_facts.specs.Lines.{lines_at}
use Rattle.pair_facts.specs.Pairs.{incoming}
use Rattle.fact_tables.specs.Phis.{AreEntries}
use Rattle.fact_tables.proofs.TableLemmas.{notes_read}
use Rattle.fact_tables.proofs.PhiLemmas.{phi_read}
use Rattle.fact_tables.proofs.tables.incoming.Goals as goal

pub inst_at-phi-requires-clause-place : goal.inst_at-phi-requires-clause-place
inst_at-phi-requires-clause-place c =
    omega (arith, c.requires.place, prefix_len-le-length (λ (line : Line). is_phi line.inst.op) (lines_at c.args.func.now.content c.args.block))

pub index-requires-2 : goal.index-requires-2
index-requires-2 c =
    let is = notes_read c.args.func.now.content c.args.tables.now c.args.block c.index.result.now c.requires.tables c.requires.block c.index.ensures in
    omega (arith, is.phis.whole, c.index.result.now.phis.ok.0, c.requires.place)

pub incoming-requires : goal.incoming-requires
incoming-requires c =
    let lines = lines_at c.args.func.now.content c.args.block in
    let is = notes_read c.args.func.now.content c.args.tables.now c.args.block c.index.result.now c.requires.tables c.requires.block c.index.ensures in
    subst (λ (i : Instruction). AreEntries i c.index-2.result.now) (sym c.inst_at-phi.ensures)
    (phi_read lines (phi_count lines) c.args.place c.index.result.now.phis.items c.index-2.result.now is.phis c.requires.place c.index-2.ensures)

pub returns : goal.returns
returns c = c.incoming.ensures ∙ ap (λ (i : Instruction). incoming c.args.from.0 i) c.inst_at-phi.ensures
