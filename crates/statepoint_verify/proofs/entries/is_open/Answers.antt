use Rattle.std.proofs.Common.{◌∙◌, ap, arith, subst, List}
use Rattle.ir_ast.specs.declared.ops.Operand.{Operand}
use Rattle.ir_ast.specs.Insts.{Instruction}
use Rattle.ir_ast.specs.Faults.GroupShape.{entries_of}
use Rattle.pair_facts.specs.Lines.{lines_at, line_in, head_at}
use Rattle.base_facts.proofs.SettleLemmas.{head_stands}
use Rattle.fact_tables.specs.Groups.{IsGroup, IsGroupOf}
use Rattle.statepoint_verify.specs.Kept.{opens_by}
use Rattle.statepoint_verify.proofs.TestLemmas.{opens_here, opens_none}
use Rattle.statepoint_verify.proofs.entries.is_open.Goals as goal

pub inst_at-requires-clause-place : goal.inst_at-requires-clause-place
inst_at-requires-clause-place c =
    let lines = lines_at c.args.func.now.content c.args.block in
    let is : IsGroup lines (head_at lines c.args.place) c.in-Some.group = subst (IsGroupOf lines (head_at lines c.args.place)) c.in-Some.is c.requires.group in
    omega (arith, (head_stands lines c.args.place c.in-Some.group.head is.head_is).1, c.requires.place)

pub returns-in-Some : goal.returns-in-Some
returns-in-Some c =
    let lines = lines_at c.args.func.now.content c.args.block in
    let is : IsGroup lines (head_at lines c.args.place) c.in-Some.group = subst (IsGroupOf lines (head_at lines c.args.place)) c.in-Some.is c.requires.group in
    let keys = c.in-Some.group.kept.bases.keys in
    c.opens.ensures
    ∙ ap (λ (entries : List Operand). opens_by entries c.inst_at-in-Some.result.now keys) (c.live_entries.ensures ∙ ap entries_of c.inst_at.ensures)
    ∙ ap (λ (inst : Instruction). opens_by (entries_of (line_in lines c.in-Some.group.head).inst) inst keys) c.inst_at-in-Some.ensures
    ∙ opens_here lines c.args.place c.in-Some.group is

pub returns-in-None : goal.returns-in-None
returns-in-None c =
    let lines = lines_at c.args.func.now.content c.args.block in
    opens_none lines c.args.place (subst (IsGroupOf lines (head_at lines c.args.place)) c.in-None.is c.requires.group)
