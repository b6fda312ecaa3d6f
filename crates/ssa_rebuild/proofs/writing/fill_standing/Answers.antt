use Rattle.std.proofs.Common.{◌∙◌, ap, sym}
use Rattle.ir_ast.specs.Faults.PhiEdges.{is_phi}
use Rattle.ssa_rebuild.proofs.StandingLaws.{phi_line, phi_writing, body_line, body_writing}
use Rattle.ssa_rebuild.proofs.writing.fill_standing.Goals as goal

pub returns-then-is_phi-clause-line : goal.returns-then-is_phi-clause-line
returns-then-is_phi-clause-line c =
    let inst = c.args.inst.now in
    let is = ap is_phi (sym c.op.ensures) ∙ sym c.is_phi.ensures ∙ c.if-is_phi.true in
    c.fill_phi.ensures.line ∙ phi_line inst c.requires.bundle (c.requires.labels is) is c.args.writing.now.body c.args.writing.now.entries

pub returns-then-is_phi-clause-writing : goal.returns-then-is_phi-clause-writing
returns-then-is_phi-clause-writing c =
    let inst = c.args.inst.now in
    let is = ap is_phi (sym c.op.ensures) ∙ sym c.is_phi.ensures ∙ c.if-is_phi.true in
    c.fill_phi.ensures.writing ∙ phi_writing inst c.requires.bundle (c.requires.labels is) is c.args.writing.now

pub returns-else-is_phi-clause-line : goal.returns-else-is_phi-clause-line
returns-else-is_phi-clause-line c =
    let inst = c.args.inst.now in
    let is = ap is_phi (sym c.op.ensures) ∙ sym c.is_phi.ensures ∙ c.if-is_phi.false in
    c.fill_body.ensures.line ∙ body_line inst c.requires.bundle c.args.writing.now.body c.args.writing.now.entries is

pub returns-else-is_phi-clause-writing : goal.returns-else-is_phi-clause-writing
returns-else-is_phi-clause-writing c =
    let inst = c.args.inst.now in
    let is = ap is_phi (sym c.op.ensures) ∙ sym c.is_phi.ensures ∙ c.if-is_phi.false in
    c.fill_body.ensures.writing ∙ body_writing inst c.requires.bundle c.args.writing.now is
