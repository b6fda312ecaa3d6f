use Rattle.std.proofs.Common.{◌∙◌, ap, arith, refl, ◌*◌}
use Rattle.std.specs.Prelude.{count_by}
use Rattle.ir_ast.specs.Faults.GroupShape.{is_statepoint}
use Rattle.ir_ast.specs.Funcs.{instructions_of}
use Rattle.frame_slots.proofs.TableLemmas.{add_step}
use Rattle.frame_slots.proofs.entries.add.Goals as goal

pub returns-clause-laid : goal.returns-clause-laid
returns-clause-laid c =
    add_step c.args.func.now.content c.args.start c.args.returns.now.items _ c.args.entries.now.items _ _ c.requires c.in_ok-add_returns.ensures c.in_ok-push.ensures.items
    refl (ap (λ n. 8 * n) c.frame_words.ensures.value)
    (c.statepoints_of.ensures ∙ ap (λ blocks. count_by (λ inst. is_statepoint inst.op) (instructions_of blocks)) c.blocks-2.ensures.value)
    (omega arith) (omega arith) c.in_ok-bundles_of.ensures
