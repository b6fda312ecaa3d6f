use Rattle.std.proofs.Common.{◌≡◌, ◌∙◌, ℕ, suc, cond, sym, subst, ap, refl, List, length, slice_get, arith, Some}
use Rattle.std.specs.Prelude.{slice_index}
use Rattle.std.specs.List.{prefix_len}
use Rattle.std.proofs.lemmas.Option.{slice_get_read, slice_get_within}
use Rattle.std.proofs.lemmas.List.Sums.{prefix_len-le-length}
use Rattle.ir_ast.specs.declared.ops.Op.{Op}
use Rattle.ir_ast.specs.Insts.{Instruction}
use Rattle.ir_ast.specs.Faults.GroupShape.{is_statepoint}
use Rattle.ir_ast.specs.Faults.PhiEdges.{is_phi}
use Rattle.object_meaning.specs.Lines.{Line, insts_in, registers_of}
use Rattle.object_meaning.specs.Jumps.{phi_count}
use Rattle.pair_facts.specs.Lines.{lines_at, head_here}
use Rattle.fact_tables.specs.Phis.{ArePhis}
use Rattle.fact_tables.proofs.LineLemmas.{insts_are}
use Rattle.fact_tables.proofs.NoteLemmas.{noted_more, noted_end, phis_of_lines}
use Rattle.fact_tables.proofs.notes.notes_of.Goals as goal
use Rattle.object_meaning.proofs.LineLaws.{plain_count}

pub loop-place-preserved : goal.loop-place-preserved
loop-place-preserved c =
    let func = c.args.func.now.content in
    let same = c.insts-inst-items.ensures.value ∙ sym (insts_are func c.args.number c.args.block.now c.requires) in
    let at : slice_get (insts_in func c.args.number) c.loop-place.place ≡ Some c.inst-item.result =
    ap (λ (insts : List Instruction). slice_get insts c.loop-place.place) (sym same)
    ∙ slice_get_read c.insts-inst-items.result.now (length c.insts-inst-items.result.now) c.loop-place.place c.inst-item.result refl c.loop-place-test.true c.inst-item.is in
    noted_more func c.args.number c.loop-place.place c.loop-place.start _ c.loop-place.head _ c.loop-place.starts.items _ c.loop-place.heads.items _ c.inst-item.result at
    c.in_ok-push.ensures.items
    (c.head_here-head.ensures ∙ ap (λ (op : Op). head_here op c.loop-place.place c.loop-place.head) c.op.ensures)
    c.in_ok-push-2.ensures.items
    (c.start_behind-start.ensures ∙ ap (λ (op : Op). cond (is_statepoint op) (suc c.loop-place.place) c.loop-place.start) c.op-in-loop-place.ensures)
    c.loop-place.invariant

pub phis_of-requires-clause-block : goal.phis_of-requires-clause-block
phis_of-requires-clause-block c = slice_get_within c.args.func.now.content.blocks c.args.number c.args.block.now c.requires

pub phis_of-requires-clause-front : goal.phis_of-requires-clause-front
phis_of-requires-clause-front c =
    let func = c.args.func.now.content in
    let are = insts_are func c.args.number c.args.block.now c.requires in
    let front : c.phi_count-front.result ≡ phi_count (lines_at func c.args.number) =
    c.phi_count-front.ensures ∙ ap (λ (insts : List Instruction). prefix_len (λ (inst : Instruction). is_phi inst.op) insts) (c.insts.ensures.value ∙ sym are) ∙ sym (phis_of_lines func c.args.number) in
    omega (arith, front, prefix_len-le-length (λ (line : Line). is_phi line.inst.op) (lines_at func c.args.number))

pub returns : goal.returns
returns c =
    let func = c.args.func.now.content in
    let lines = lines_at func c.args.number in
    let are = insts_are func c.args.number c.args.block.now c.requires in
    let long : length lines ≡ length c.args.block.now.insts = plain_count (slice_index (registers_of func) c.args.number) (insts_in func c.args.number) ∙ ap length are in
    let count : length c.insts-inst-items.result.now ≡ length c.args.block.now.insts = ap length c.insts-inst-items.ensures.value in
    let end = noted_end lines c.loop-place.place c.loop-place.start c.loop-place.head c.loop-place.starts.items c.push-2.new.self.items c.loop-place.heads.items (omega arith) c.in_ok-push-3.ensures.items c.loop-place.invariant in
    let front : c.phi_count-front.result ≡ phi_count lines =
    c.phi_count-front.ensures ∙ ap (λ (insts : List Instruction). prefix_len (λ (inst : Instruction). is_phi inst.op) insts) (c.insts.ensures.value ∙ sym are) ∙ sym (phis_of_lines func c.args.number) in
    record {
      front = front;
      starts = end.0;
      heads = end.1;
      based = c.in_ok-based.ensures;
      phis = subst (λ (n : ℕ). ArePhis lines n c.in_ok-phis.phis.items) front c.in_ok-phis.ensures;
    }
