-- Where each operand stands for itself, it reads what it reads.
use Rattle.std.proofs.Common.{◌≡◌, ℕ, true, List, map, ap, ◌∙◌}
use Rattle.std.proofs.lemmas.List.{map-id}
use Rattle.list_laws.proofs.Contents.{all_from_at}
use Rattle.ir_ast.specs.declared.ops.Operand.{Operand}
use Rattle.ir_ast.specs.Operands.{operands_of}
use Rattle.object_meaning.specs.BlockLines.{phis_in}
use Rattle.object_meaning.specs.Jumps.{incoming}
use Rattle.object_meaning.specs.Registers.{value}
use Rattle.object_meaning.specs.States.{Frame, Setting}
use Rattle.trimmed_laws.specs.Trims.{Trim}
use Rattle.trimmed_laws.specs.Trimmed.{FrameReads, PhiReads}

pub reads_itself : (trim : Trim) → trim.stands ≡ (λ operand. operand) → ((block : ℕ) → trim.renaming.entered block ≡ true) → (setting : Setting) (frame : Frame) → FrameReads trim setting frame
reads_itself trim itself entered setting frame = record {
  operands = λ line rest is plain.
      all_from_at (λ (each : Operand). value frame.registers (trim.stands each) ≡ value frame.registers each) (operands_of line.inst)
      (λ k each at. ap (λ (stands : Operand → Operand). value frame.registers (stands each)) itself);
  leads = λ line rest to is leads. (
    entered to,
    all_from_at (PhiReads trim.stands frame.block frame.registers) (phis_in (setting.lines frame.func to))
        (λ k phi at. ap (λ (stands : Operand → Operand). incoming frame.block frame.registers (record phi.inst { operands = map stands phi.inst.operands })) itself
        ∙ ap (λ (operands : List Operand). incoming frame.block frame.registers (record phi.inst { operands = operands })) (map-id phi.inst.operands)),
  );
}
