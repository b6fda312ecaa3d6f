use Rattle.std.proofs.Common.{rules, ◌≡◌, ◌∙◌, ℕ, List, ap, sym, subst, length}
use Rattle.ir_ast.specs.Blocks.{BasicBlock}
use Rattle.ir_ast.specs.Funcs.{Function, IsSmall, instructions_of}
use Rattle.rewriting_forms.specs.Names.{naming_of}
use Rattle.ssa_rebuild.proofs.RebuiltLaws.{small_with, whole_with}
use Rattle.entry_groups.proofs.EntryLaws.{entry_made}
use Rattle.entry_groups.proofs.functions.with_entry_group.Goals as goal

pub of-requires : goal.of-requires
of-requires c =
    let func = c.args.marked.before in
    let before = c.into_parts-func.ensures.before in
    let blocks = c.into_parts-name.ensures.blocks ∙ ap (λ (f : Function). f.blocks) before in
    let args = c.into_parts-name.ensures.args ∙ ap (λ (f : Function). f.args) before in
    let only = sym (c.as_slice.ensures.value ∙ c.into_parts-func.ensures.groups) ∙ c.in_ok-group.ensures in
    let first : c.len.result ≡ length c.into_parts-name.result.2.items = search rules in
    let second : c.len-2.result ≡ length c.into_parts-name.result.2.items = search rules in
    let lines = c.line_count-others.ensures ∙ ap (λ (bs : List BasicBlock). length (instructions_of bs)) (c.as_slice-2.ensures.value ∙ blocks) in
    let made = entry_made func c.args.marked.table _ _ _ _ _ _ _ _ _ _
    c.into_parts-func.ensures.ready c.into_parts-func.ensures.whole only c.requires c.in_ok-after.ensures (second ∙ ap length args) c.as_slice-3.ensures.value c.in_ok-row.ensures
    (first ∙ ap length args) lines c.relocates.ensures blocks in
    small_with func c.args.marked.table (naming_of func c.args.marked.table) _ _ args made (subst (λ (f : Function). IsSmall f.args f.blocks) before c.into_parts-name.ensures.small) c.into_parts-func.ensures.ready.few

pub returns-clause-content : goal.returns-clause-content
returns-clause-content c =
    let func = c.args.marked.before in
    let before = c.into_parts-func.ensures.before in
    let blocks = c.into_parts-name.ensures.blocks ∙ ap (λ (f : Function). f.blocks) before in
    let args = c.into_parts-name.ensures.args ∙ ap (λ (f : Function). f.args) before in
    let only = sym (c.as_slice.ensures.value ∙ c.into_parts-func.ensures.groups) ∙ c.in_ok-group.ensures in
    let first : c.len.result ≡ length c.into_parts-name.result.2.items = search rules in
    let second : c.len-2.result ≡ length c.into_parts-name.result.2.items = search rules in
    let lines = c.line_count-others.ensures ∙ ap (λ (bs : List BasicBlock). length (instructions_of bs)) (c.as_slice-2.ensures.value ∙ blocks) in
    let made = entry_made func c.args.marked.table _ _ _ _ _ _ _ _ _ _
    c.into_parts-func.ensures.ready c.into_parts-func.ensures.whole only c.requires c.in_ok-after.ensures (second ∙ ap length args) c.as_slice-3.ensures.value c.in_ok-row.ensures
    (first ∙ ap length args) lines c.relocates.ensures blocks in
    c.of.ensures.content
    ∙ whole_with func c.args.marked.table (naming_of func c.args.marked.table) _ _ _ _ (c.into_parts-name.ensures.name ∙ ap (λ (f : Function). f.name) before)
    (c.into_parts-name.ensures.answer ∙ ap (λ (f : Function). f.answer) before) args made
