use Rattle.std.proofs.Common.{refl}
use Rattle.generated_forms.specs.Modules.{main_of}
use Rattle.generated_forms.proofs.Visits.{main_ends}
use Rattle.module_gen.proofs.BodyLaws.{small_main}
use Rattle.module_gen.proofs.funcs.main_function.Goals as goal

pub of-requires-2 : goal.of-requires-2
of-requires-2 c = rw (c.in_ok-push.ensures.items, c.in_ok-insts.ensures, c.in_ok-write.ensures) (main_ends c.args.size)

pub of-requires-4 : goal.of-requires-4
of-requires-4 c =
    rw (c.new.ensures.items, c.in_ok-push-2.ensures.items, c.in_ok-blocks.ensures.items, c.of-2.ensures, c.in_ok-push.ensures.items, c.in_ok-insts.ensures, c.in_ok-write.ensures)
    (small_main c.args.size _ c.requires)

pub returns-clause-content : goal.returns-clause-content
unfolding main_of
returns-clause-content c =
    rw (c.of-4.ensures.content, c.in_ok-name.ensures, c.new.ensures.items, c.in_ok-push-2.ensures.items, c.in_ok-blocks.ensures.items, c.of-2.ensures, c.in_ok-of.ensures, c.in_ok-push.ensures.items, c.in_ok-insts.ensures, c.in_ok-write.ensures)
    refl
