use Rattle.ir_ast.specs.Funcs.{content_of}
use Rattle.poll_place.specs.Ready.{IsReady}
use Rattle.test_passes.proofs.passes.with_bases.Goals as goal
use Rattle.list_laws.proofs.Contents.{all_under}

pub all_with_bases-requires : goal.all_with_bases-requires
all_with_bases-requires c =
    all_under content_of IsReady c.into_parts-layouts.result.1.items (rw c.into_parts-layouts.ensures.funcs c.in_ok-polled.ensures)
