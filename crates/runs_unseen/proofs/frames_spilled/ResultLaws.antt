-- The result of a statepoint group has the type of the statepoint's line, which is that of the callee's answer.
use Rattle.std.proofs.Common.{◌≡◌, ℕ, zero, suc, ◌+◌, ◌<◌, true, List, length, take, sym, ap, ◌∙◌, subst, arith, Some}
use Rattle.std.specs.Prelude.{slice_get}
use Rattle.std.specs.List.{Contains}
use Rattle.std.proofs.lemmas.Option.{same_Some, slice_get_within}
use Rattle.list_laws.proofs.Contents.{all_at, get_contained}
use Rattle.list_laws.proofs.Places.{get_some}
use Rattle.ir_ast.specs.declared.modules.Form.{Form}
use Rattle.ir_ast.specs.declared.ops.Op.{Op}
use Rattle.ir_ast.specs.declared.ops.Op.TheVariants as ops
use Rattle.ir_ast.specs.Faultless.{FunctionHasNoFault, OfForm}
use Rattle.ir_ast.specs.Faults.GroupShape.{GroupsInShape, ResultInShape, ShapeOf, is_statepoint}
use Rattle.ir_ast.specs.Funcs.{Function, instructions_of}
use Rattle.ir_ast.specs.Insts.{Instruction}
use Rattle.ir_ast.specs.Modules.{ModuleContent}
use Rattle.ir_cfg.specs.DefiniteUses.{text_place}
use Rattle.ir_cfg.specs.TargetModules.{IsTargetModule}
use Rattle.object_meaning.specs.Frames.{is_member}
use Rattle.object_meaning.specs.Lines.{Line}
use Rattle.pair_facts.specs.Lines.{group_in, lines_at}
use Rattle.pair_facts.proofs.GroupLaws.{members_between, stands_member}
use Rattle.runs_unseen.proofs.frames_spilled.GroupSlots.{member_at}
use Rattle.runs_unseen.proofs.frames_spilled.TextLaws.{line_in_text}
use Rattle.object_meaning.proofs.LineLaws.{line_is}

-- a part of a group is no statepoint
apart : (op : Op) → is_member op ≡ true → is_statepoint op ≡ true → ⊥
apart ops.GcResult member statepoint = cc
apart ops.GcRelocate member statepoint = cc
apart op member statepoint = cc

module _ (content : ModuleContent) (target : IsTargetModule content) (number : ℕ) (func : Function) (found : slice_get content.funcs number ≡ Some func)
    (block place : ℕ) (line : Line) (here : slice_get (lines_at func block) place ≡ Some line) (statepoint : is_statepoint line.inst.op ≡ true) where
  abbrev lines : List Line
  lines = lines_at func block

  in_shape : GroupsInShape func
  in_shape = subst (λ (form : Form). OfForm form func) target.typed.of_form (all_at (FunctionHasNoFault content) content.funcs number func target.typed.no_fault.functions found).form

  -- the statepoint of a result is the line before it, and so that of its group
  type_by : (member : Line) (k : ℕ) → slice_get (group_in lines place) k ≡ Some member
      → ResultInShape func (text_place func block (suc place + k)) member.inst → member.inst.ty ≡ line.inst.ty
  type_by member zero at shape =
      let before = length (instructions_of (take block func.blocks)) in
      let directly = shape.directly in
      let same : shape.group.head ≡ before + place = omega (arith, directly) in
      let one : shape.group.statepoint ≡ line.inst =
      same_Some shape.group.statepoint line.inst (sym shape.group.stands ∙ (ap (slice_get (instructions_of func.blocks)) same ∙ line_in_text func block place line here)) in
      shape.type ∙ ap (λ (inst : Instruction). inst.ty) one
  type_by member (suc k) at shape =
      let before = length (instructions_of (take block func.blocks)) in
      let directly = shape.directly in
      let same : shape.group.head ≡ before + (suc place + k) = omega (arith, directly) in
      let inside : suc place + suc k < length lines = slice_get_within lines (suc place + suc k) member (member_at lines place (suc k) member at) in
      let other = get_some lines (suc place + k) (omega (arith, inside)) in
      let one : shape.group.statepoint ≡ other.0.inst =
      same_Some shape.group.statepoint other.0.inst (sym shape.group.stands ∙ (ap (slice_get (instructions_of func.blocks)) same ∙ line_in_text func block (suc place + k) other.0 other.1)) in
      let head = line_is lines place line here in
      let whole = stands_member lines place (suc k) member (ap (λ (l : Line). is_statepoint l.inst.op) head ∙ statepoint) at in
      let between = members_between lines place (suc place + suc k) (suc place + k) whole.member.head_is (omega arith) (omega arith) in
      absurd (apart other.0.inst.op (ap (λ (l : Line). is_member l.inst.op) (sym (line_is lines (suc place + k) other.0 other.1)) ∙ between.member)
      (ap (λ (inst : Instruction). is_statepoint inst.op) (sym one) ∙ shape.group.op))

  pub result_type : (member : Line) → Contains (group_in lines place) member → member.inst.op ≡ ops.GcResult → member.inst.ty ≡ line.inst.ty
  result_type member contained op_is =
      let at = get_contained (group_in lines place) member contained in
      type_by member at.0 at.1
      (subst (λ (op : Op). ShapeOf func (text_place func block (suc place + at.0)) member.inst op) op_is
      (in_shape (text_place func block (suc place + at.0)) member.inst (line_in_text func block (suc place + at.0) member (member_at lines place at.0 member at.1))))
