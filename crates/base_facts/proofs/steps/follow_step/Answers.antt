use Rattle.std.proofs.Common.{◌∙◌, ◌-◌, ap, sym, Option, Bool, arith}
use Rattle.ir_ast.specs.Insts.{Instruction}
use Rattle.object_meaning.specs.Lines.{Line}
use Rattle.pair_facts.specs.Lines.{lines_at, line_in}
use Rattle.base_facts.specs.Steps.{follow_step, merged}
use Rattle.fact_tables.proofs.TableLemmas.{last_line}
use Rattle.base_facts.proofs.steps.follow_step.Goals as goal

pub returns : goal.returns
returns c =
    let lines = lines_at c.args.func.now.content c.args.block in
    let line = line_in lines (c.args.at - 1) in
    c.merged.ensures
    ∙ ap (λ (last : Instruction). merged c.args.block c.args.at c.args.value c.args.inst.now last c.gives_before-gives.result) c.inst_at.ensures
    ∙ ap (λ (b : Bool). merged c.args.block c.args.at c.args.value c.args.inst.now line.inst b) (sym c.gives_before-gives.ensures)
    ∙ ap (λ (last : Option Line). follow_step c.args.block c.args.at c.args.value last c.args.inst.now c.args.base) (sym (last_line lines c.args.at (omega arith) c.requires.at))
