use Rattle.std.proofs.Common.{refl}
use Rattle.module_gen.specs.Written.{meant}
use Rattle.module_gen.proofs.BodyLaws.{small_body}
use Rattle.module_gen.proofs.funcs.function.Goals as goal

pub of-requires : goal.of-requires
of-requires c =
    rw (c.in_ok-push-2.ensures.items, c.in_ok-push.ensures.items, c.in_ok-args.ensures.items, c.in_ok-blocks.ensures)
    (small_body _ (meant c.args.shape) c.args.place c.args.constant refl)
