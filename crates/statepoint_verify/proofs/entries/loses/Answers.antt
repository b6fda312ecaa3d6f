use Rattle.std.proofs.Common.{◌∙◌, ap, subst}
use Rattle.std.specs.Prelude.{◌&&◌}
use Rattle.std.specs.List.{list_any}
use Rattle.ir_ast.specs.Insts.{Instruction}
use Rattle.ir_ast.specs.Faults.GroupShape.{entries_of, is_statepoint}
use Rattle.pair_facts.specs.Lines.{lines_at, head_at}
use Rattle.fact_tables.specs.Groups.{IsGroup, IsGroupOf}
use Rattle.statepoint_verify.specs.Kept.{is_lost_by}
use Rattle.statepoint_verify.proofs.TestLemmas.{loses_here, loses_none}
use Rattle.statepoint_verify.proofs.entries.loses.Goals as goal

pub returns-in-Some : goal.returns-in-Some
returns-in-Some c =
    let lines = lines_at c.args.func.now.content c.args.block in
    let is : IsGroup lines (head_at lines c.args.place) c.in-Some.group = subst (IsGroupOf lines (head_at lines c.args.place)) c.in-Some.is c.requires.group in
    c.loses_by.ensures
    ∙ ap (λ (inst : Instruction). is_statepoint inst.op && list_any (is_lost_by (entries_of inst) c.in-Some.group.kept.values.keys) inst.bundle) c.inst_at.ensures
    ∙ loses_here lines c.args.place c.in-Some.group is

pub returns-in-None : goal.returns-in-None
returns-in-None c =
    let lines = lines_at c.args.func.now.content c.args.block in
    loses_none lines c.args.place (subst (IsGroupOf lines (head_at lines c.args.place)) c.in-None.is c.requires.group)
