use Rattle.std.proofs.Common.{◌≡◌, ◌∙◌, ap, subst, true, false, sym, Option, ℕ}
use Rattle.ir_ast.specs.Insts.{Instruction}
use Rattle.ir_ast.specs.Faults.GroupShape.{is_statepoint}
use Rattle.object_meaning.specs.Frames.{is_member}
use Rattle.pair_facts.specs.Lines.{lines_at, line_in}
use Rattle.pair_facts.proofs.PlaceLaws.{head_here}
use Rattle.fact_tables.specs.Groups.{IsGroupOf}
use Rattle.fact_tables.proofs.GroupLemmas.{head_kept}
use Rattle.fact_tables.proofs.groups.group_here.Goals as goal
use Rattle.pair_facts.proofs.OwnLaws.{head_none}

pub returns-then-is_statepoint : goal.returns-then-is_statepoint
returns-then-is_statepoint c =
    let lines = lines_at c.args.func.now.content c.args.block in
    let own : is_statepoint (line_in lines c.args.place).inst.op ≡ true = sym (c.is_statepoint.ensures ∙ ap is_statepoint (c.op-op.ensures ∙ ap (λ (i : Instruction). i.op) c.inst_at.ensures)) ∙ c.if-is_statepoint.true in
    record { head_is = head_here lines c.args.place own; kept = c.in_ok-kept.ensures }

pub returns-then-is_member : goal.returns-then-is_member
returns-then-is_member c =
    let lines = lines_at c.args.func.now.content c.args.block in
    let apart : is_statepoint (line_in lines c.args.place).inst.op ≡ false = sym (c.is_statepoint.ensures ∙ ap is_statepoint (c.op-op.ensures ∙ ap (λ (i : Instruction). i.op) c.inst_at.ensures)) ∙ c.if-is_statepoint.false in
    let own : is_member (line_in lines c.args.place).inst.op ≡ true = sym (c.is_member.ensures ∙ ap is_member (c.op-op.ensures ∙ ap (λ (i : Instruction). i.op) c.inst_at.ensures)) ∙ c.if-is_member.true in
    subst (λ (head : Option ℕ). IsGroupOf lines head c.args.before) (head_kept lines c.args.place apart own) c.requires.before

pub returns-else-is_member : goal.returns-else-is_member
returns-else-is_member c =
    let lines = lines_at c.args.func.now.content c.args.block in
    let apart : is_statepoint (line_in lines c.args.place).inst.op ≡ false = sym (c.is_statepoint.ensures ∙ ap is_statepoint (c.op-op.ensures ∙ ap (λ (i : Instruction). i.op) c.inst_at.ensures)) ∙ c.if-is_statepoint.false in
    let other : is_member (line_in lines c.args.place).inst.op ≡ false = sym (c.is_member.ensures ∙ ap is_member (c.op-op.ensures ∙ ap (λ (i : Instruction). i.op) c.inst_at.ensures)) ∙ c.if-is_member.false in
    head_none lines c.args.place apart other
