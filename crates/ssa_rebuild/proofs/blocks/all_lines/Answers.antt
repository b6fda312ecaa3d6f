use Rattle.std.proofs.Common.{◌∙◌, ap, sym}
use Rattle.std.specs.List.{list_any}
use Rattle.ir_ast.specs.Insts.{Instruction}
use Rattle.rewriting_forms.specs.Numbered.{is_call}
use Rattle.ssa_rebuild.proofs.blocks.all_lines.Goals as goal

pub fill_all-requires : goal.fill_all-requires
fill_all-requires c = ap (list_any (λ (inst : Instruction). is_call inst.op)) (sym c.as_slice.ensures.value) ∙ c.are_kept.ensures.calls c.if-are_kept.true

pub returns-then-are_kept-clause-lines : goal.returns-then-are_kept-clause-lines
returns-then-are_kept-clause-lines c =
    let none = c.are_kept.ensures.joined c.if-are_kept.true in
    rw none (c.in_ok-fill_all.ensures.lines c.args.groups.now)

pub returns-then-are_kept-clause-writing : goal.returns-then-are_kept-clause-writing
returns-then-are_kept-clause-writing c =
    let none = c.are_kept.ensures.joined c.if-are_kept.true in
    rw none (c.in_ok-fill_all.ensures.writing c.args.groups.now)
