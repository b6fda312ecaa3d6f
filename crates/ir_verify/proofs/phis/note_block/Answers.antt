use Rattle.std.proofs.Common.{◌∙◌, ◌+◌, ◌||◌, not, take, refl, sym, ap, arith}
use Rattle.ir_ast.specs.Faults.PhiEdges.{is_phi}
use Rattle.ir_verify.specs.Bodies.{line_in}
use Rattle.ir_verify.specs.FunctionFaults.{PhiFaultAt}
use Rattle.ir_verify.proofs.Founds.{notes-none, notes-step, notes-at_line}
use Rattle.ir_verify.proofs.EdgeLemmas.{edge-inside}
use Rattle.ir_verify.proofs.PhiLemmas.{late-more, wrong-iff}
use Rattle.ir_verify.proofs.phis.note_block.Goals as goal
use Rattle.list_laws.proofs.Places.{get_read}

pub loop-at-init : goal.loop-at-init
loop-at-init c = record {
  late = refl;
  size = refl;
  noted = notes-none (PhiFaultAt c.args.func.now c.args.block c.args.start c.args.insts.now) c.args.insts.now c.args.first.now.found;
}

pub is_wrong-requires-clause-inside : goal.is_wrong-requires-clause-inside
is_wrong-requires-clause-inside c = λ from more.
    let counts = c.requires.into from in
    let inside = edge-inside c.args.func.now.content from c.args.block (omega (arith, more, counts)) in
    omega (arith, inside, c.loop-at.invariant.size, c.requires.places)

pub loop-at-preserved : goal.loop-at-preserved
loop-at-preserved c =
    let func = c.args.func.now in
    let insts = c.args.insts.now in
    let at = c.loop-at.at in
    let inst = c.index-insts-at.result in
    let stands = get_read insts at inst c.loop-at-test.true c.index-insts-at.is in
    record {
      late = c.is_late-late.ensures ∙ ap (λ b. b || not (is_phi inst.op)) c.loop-at.invariant.late ∙ sym (late-more insts at inst stands);
      size = c.in_ok-wrong.ensures.size ∙ c.loop-at.invariant.size;
      noted = notes-step (PhiFaultAt func c.args.block c.args.start insts) insts at inst c.args.first.now.found c.loop-at.first.found c.note_if.new.self.found
          stands c.loop-at.invariant.noted
          (notes-at_line c.line_of.result (line_in func (c.args.start + at)) 7 c.in_ok-wrong.wrong _ c.loop-at.first.found c.note_if.new.self.found c.line_of.ensures
          (wrong-iff func.content c.args.block (take at insts) c.args.into.now c.loop-at.late c.in_ok-wrong.wrong inst c.loop-at.invariant.late c.requires.into
          c.in_ok-wrong.ensures.wrong) c.note_if.ensures);
    }
