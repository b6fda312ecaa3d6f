use Rattle.std.proofs.Common.{◌≡◌, ◌∙◌, sym, ap, length, subst, slice_get, refl, List, Option, None, replicate}
use Rattle.std.proofs.lemmas.Option.{slice_get_read}
use Rattle.ir_ast.specs.Blocks.{BasicBlock}
use Rattle.fact_tables.specs.declared.homes.Home.{Home}
use Rattle.fact_tables.specs.Homes.{KnowsHomes}
use Rattle.fact_tables.proofs.HomeLemmas.{homes_none}
use Rattle.fact_tables.proofs.homes.homes.Goals as goal

pub loop-number-init : goal.loop-number-init
loop-number-init c =
    let func = c.args.func.now.content in
    let count : length c.args-2.result.now ≡ length func.args = ap length c.args-2.ensures.value in
    subst (λ (homes : List (Option Home)). KnowsHomes func 0 0 homes) (sym (c.in_ok-homes.ensures ∙ ap (λ n. replicate n None) count)) (homes_none func)

pub add_block-requires-clause-block : goal.add_block-requires-clause-block
add_block-requires-clause-block c =
    ap (λ (blocks : List BasicBlock). slice_get blocks c.loop-number.number) (sym c.blocks-block-items.ensures.value)
    ∙ slice_get_read c.blocks-block-items.result.now (length c.blocks-block-items.result.now) c.loop-number.number c.block-item.result refl c.loop-number-test.true c.block-item.is
