use Rattle.std.proofs.Common.{◌≡◌, ◌∙◌, List, true, sym, ap}
use Rattle.std.specs.List.{list_all}
use Rattle.ir_ast.specs.Insts.{Instruction}
use Rattle.base_tables.specs.Tables.{tabled}
use Rattle.base_infer.specs.Before.{stands_alone}
use Rattle.base_infer.proofs.ApartLemmas.{alone_insts}
use Rattle.base_infer.proofs.functions.all_lines.Goals as goal

pub returns-then-all_alone-clause-lines : goal.returns-then-all_alone-clause-lines
returns-then-all_alone-clause-lines c =
    let given = tabled c.args.tables.now in
    let all : list_all (λ inst. stands_alone given inst inst.op) c.args.insts.items ≡ true =
    ap (λ (insts : List Instruction). list_all (λ inst. stands_alone given inst inst.op) insts) (sym c.as_slice.ensures.value)
    ∙ sym c.all_alone.ensures ∙ c.if-all_alone.true in
    c.in_ok-lines.ensures ∙ sym (alone_insts given c.args.start c.args.insts.items all)
