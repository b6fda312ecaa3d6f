use Rattle.std.proofs.Common.{◌≡◌, ◌∙◌, ℕ, Bool, true, false, if◌then◌else◌, List, [], ◌∷◌, ◌++◌, length, map, refl, ap, sym, arith}
use Rattle.std.specs.Prelude.{◌==◌, vec_len}
use Rattle.std.proofs.lemmas.List.{map-append}
use Rattle.ir_ast.specs.Blocks.{BasicBlock}
use Rattle.statepoint_insert.specs.Groups.{GroupContent}
use Rattle.entry_groups.specs.Entry.{put_block, entry_block, blocks_behind}
use Rattle.entry_groups.proofs.blocks.all_blocks.Goals as goal

-- a block more, which is the entry where there was none
behind-push : (token : ℕ) (group : GroupContent) (row : List ℕ) (blocks : List BasicBlock) (block : BasicBlock) (count : ℕ)
    → count ≡ length (blocks_behind token group row blocks)
    → blocks_behind token group row blocks ++ (if count == 0 then entry_block token group row block else put_block row block) ∷ []
    ≡ blocks_behind token group row (blocks ++ block ∷ [])
behind-push token group row [] block count is = rw is refl
behind-push token group row (first ∷ blocks) block count is =
    let more : (count == 0) ≡ false = grind (arith, is) in
    ap (λ (no : Bool). blocks_behind token group row (first ∷ blocks) ++ (if no then entry_block token group row block else put_block row block) ∷ []) more
    ∙ ap (λ (rest : List BasicBlock). entry_block token group row first ∷ rest) (sym (map-append (put_block row) blocks (block ∷ [])))

pub loop-block-preserved : goal.loop-block-preserved
loop-block-preserved c =
    let made : Bool → BasicBlock = λ is_entry. if is_entry then entry_block c.args.token c.args.group.now c.args.row.now c.in-Some.block else put_block c.args.row.now c.in-Some.block in
    let count : ℕ = vec_len c.loop-block.after in
    c.in_ok-push.ensures.items
    ∙ ap (λ (block : BasicBlock). c.loop-block.after.items ++ block ∷ []) (c.in_ok-one_block.ensures ∙ ap made c.is_empty-is_entry.ensures)
    ∙ ap (λ (all : List BasicBlock). all ++ made (count == 0) ∷ []) c.loop-block.invariant
    ∙ behind-push c.args.token c.args.group.now c.args.row.now c.loop-block.yielded c.in-Some.block count
    (c.loop-block.after.ok.0 ∙ ap (λ (all : List BasicBlock). length all) c.loop-block.invariant)
