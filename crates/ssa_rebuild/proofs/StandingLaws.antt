-- Lines of which only the operands change.
use Rattle.std.proofs.Common.{◌≡◌, ◌∙◌, ℕ, ◌≤◌, Bool, true, false, if◌then◌else◌, List, [], length, drop, ap, sym}
use Rattle.std.proofs.lemmas.List.{take_all}
use Rattle.ir_ast.specs.declared.types.Ty.{Ty}
use Rattle.ir_ast.specs.declared.ops.Operand.{Operand}
use Rattle.ir_ast.specs.Insts.{Instruction}
use Rattle.ir_ast.specs.Faults.PhiEdges.{is_phi}
use Rattle.ssa_rebuild.specs.declared.writing.Writing.{Writing}
use Rattle.ssa_rebuild.specs.Rows.{held_in, own_uses}
use Rattle.ssa_rebuild.specs.Written.{filled, filled_bundle, left, results_in, phi_uses, entries_left, operands_written, plain_written, plain_left, kept_after, with_filled}

module _ (inst : Instruction) (none : inst.bundle ≡ []) where
  same_bundle : (numbers : List ℕ) → filled_bundle numbers inst.bundle ≡ inst.bundle
  same_bundle numbers = ap (filled_bundle numbers) none ∙ sym none

  line_is : (body entries : List ℕ) (operands : List Operand) → operands_written body entries inst ≡ operands → (let line : Instruction = record inst { operands = operands } in line) ≡ plain_written body entries inst
  line_is body entries operands is =
      sym (ap (λ (os : List Operand). let line : Instruction = record inst { operands = os; bundle = filled_bundle (left body (own_uses inst)) inst.bundle } in line) is
      ∙ ap (λ (b : List (Ty × Operand)). let line : Instruction = record inst { operands = operands; bundle = b } in line) (same_bundle (left body (own_uses inst))))

  left_is : (body : List ℕ) → plain_left body inst ≡ drop (results_in inst.result) (left body (own_uses inst))
  left_is body = ap (λ (b : List (Ty × Operand)). drop (results_in inst.result) (left (left body (own_uses inst)) (held_in b))) none

  pub body_line : (body entries : List ℕ) → is_phi inst.op ≡ false → with_filled body inst ≡ plain_written body entries inst
  body_line body entries is =
      line_is body entries (filled body inst.operands) (ap (λ (t : Bool). if t then filled entries (phi_uses inst) else filled body inst.operands) is)

  pub body_writing : (writing : Writing) → is_phi inst.op ≡ false
      → (let after : Writing = record writing { body = drop (results_in inst.result) (left writing.body inst.operands) } in after) ≡ kept_after writing inst
  body_writing writing is =
      let body : plain_left writing.body inst ≡ drop (results_in inst.result) (left writing.body inst.operands) =
      left_is writing.body ∙ ap (λ (t : Bool). drop (results_in inst.result) (left writing.body (if t then [] else inst.operands))) is in
      let entries : entries_left writing.entries inst ≡ writing.entries = ap (λ (t : Bool). if t then left writing.entries (phi_uses inst) else writing.entries) is in
      sym (ap (λ (ns : List ℕ). let after : Writing = record writing { body = ns; entries = entries_left writing.entries inst } in after) body
      ∙ ap (λ (ns : List ℕ). let after : Writing = record writing { body = drop (results_in inst.result) (left writing.body inst.operands); entries = ns } in after) entries)

  module _ (labels : length inst.operands ≤ length inst.labels) (is : is_phi inst.op ≡ true) where
    uses_are : phi_uses inst ≡ inst.operands
    uses_are = take_all (length inst.labels) inst.operands labels

    pub phi_line : (body entries : List ℕ) → with_filled entries inst ≡ plain_written body entries inst
    phi_line body entries =
        line_is body entries (filled entries inst.operands)
        (ap (λ (t : Bool). if t then filled entries (phi_uses inst) else filled body inst.operands) is ∙ ap (filled entries) uses_are)

    pub phi_writing : (writing : Writing)
        → (let after : Writing = record writing { body = drop (results_in inst.result) writing.body; entries = left writing.entries inst.operands } in after) ≡ kept_after writing inst
    phi_writing writing =
        let body : plain_left writing.body inst ≡ drop (results_in inst.result) writing.body =
        left_is writing.body ∙ ap (λ (t : Bool). drop (results_in inst.result) (left writing.body (if t then [] else inst.operands))) is in
        let entries : entries_left writing.entries inst ≡ left writing.entries inst.operands =
        ap (λ (t : Bool). if t then left writing.entries (phi_uses inst) else writing.entries) is ∙ ap (left writing.entries) uses_are in
        sym (ap (λ (ns : List ℕ). let after : Writing = record writing { body = ns; entries = entries_left writing.entries inst } in after) body
        ∙ ap (λ (ns : List ℕ). let after : Writing = record writing { body = drop (results_in inst.result) writing.body; entries = ns } in after) entries)
