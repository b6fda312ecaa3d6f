use Rattle.std.proofs.Common.{◌∙◌, ◌++◌, List, ap, sym, append_assoc}
use Rattle.ir_ast.specs.Insts.{Instruction}
use Rattle.ssa_rebuild.specs.declared.writing.Writing.{Writing}
use Rattle.ssa_rebuild.specs.Written.{line_written, after, written}
use Rattle.ssa_rebuild.proofs.WrittenLemmas.{behind_push, written_push}
use Rattle.ssa_rebuild.proofs.writing.push_lines.Goals as goal

pub loop-inst-preserved : goal.loop-inst-preserved
loop-inst-preserved c =
    let groups = c.args.groups.now in
    let first = c.args.writing.now in
    let yielded = c.loop-inst.yielded in
    let inst = c.in-Some.inst in
    record {
      lines = c.in_ok-push_line.ensures.lines
          ∙ ap (λ (ls : List Instruction). ls ++ line_written groups c.loop-inst.writing inst) c.loop-inst.invariant.lines
          ∙ append_assoc c.args.lines.now.items (written groups first yielded) (line_written groups c.loop-inst.writing inst)
          ∙ ap (λ (w : Writing). c.args.lines.now.items ++ (written groups first yielded ++ line_written groups w inst)) c.loop-inst.invariant.writing
          ∙ ap (λ (ls : List Instruction). c.args.lines.now.items ++ ls) (sym (written_push groups first yielded inst));
      writing = c.in_ok-push_line.ensures.writing ∙ ap (λ (w : Writing). after groups w inst) c.loop-inst.invariant.writing ∙ sym (behind_push groups first yielded inst);
    }
