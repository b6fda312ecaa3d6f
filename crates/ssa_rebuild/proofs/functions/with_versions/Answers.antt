use Rattle.std.proofs.Common.{◌∙◌, List, ap, arith, length, map}
use Rattle.ir_ast.specs.Blocks.{BasicBlock}
use Rattle.ir_ast.specs.Funcs.{Function, instructions_of}
use Rattle.version_walk.specs.declared.slots.Slot.{Slot}
use Rattle.ssa_rebuild.specs.Answers.{number_of}
use Rattle.ssa_rebuild.proofs.RebuiltLaws.{at_front, remade, small_written, whole_with}
use Rattle.ssa_rebuild.proofs.functions.with_versions.Goals as goal

pub of-requires : goal.of-requires
of-requires c =
    small_written _ _ _ _ _ c.args.cfg.now c.as_slice-2.result.now c.as_slice-3.result.now c.as_slice-4.result.now c.at_front.result c.into_parts-name.ensures.args c.into_parts-name.ensures.blocks c.in_ok-after.ensures c.into_parts-name.ensures.small
    (let few = c.are_few.ensures c.if-not-are_few.false in
    let same = ap (λ (bs : List BasicBlock). length (instructions_of bs)) c.as_slice-6.ensures.value in
    omega (arith, few, same))

pub returns-clause-content : goal.returns-clause-content
returns-clause-content c = λ naming are.
    let func = c.args.marked.before in
    let before = c.into_parts-func.ensures.before in
    let entries = ap (λ (slots : List Slot). map number_of slots) c.as_slice-5.ensures.value ∙ c.in_ok-entries.ensures ∙ c.as_slice.ensures.value in
    let made = remade func c.args.marked.table naming c.args.versions _ _ _ _ _ _ _ _ are
    (c.into_parts-func.ensures.groups ∙ c.into_parts-func.ensures.whole) c.in_ok-after.ensures c.requires c.as_slice-2.ensures.value c.as_slice-3.ensures.value c.as_slice-4.ensures.value
    (c.at_front.ensures ∙ ap at_front entries) (c.into_parts-name.ensures.blocks ∙ ap (λ (f : Function). f.blocks) before) in
    c.of.ensures.content
    ∙ whole_with func c.args.marked.table naming _ _ _ _ (c.into_parts-name.ensures.name ∙ ap (λ (f : Function). f.name) before)
    (c.into_parts-name.ensures.answer ∙ ap (λ (f : Function). f.answer) before) (c.into_parts-name.ensures.args ∙ ap (λ (f : Function). f.args) before) made
