use Rattle.ir_ast.specs.Funcs.{content_of}
use Rattle.poll_place.specs.Room.{HasFewLines}
use Rattle.poll_place.proofs.polls.place.Goals as goal
use Rattle.list_laws.proofs.Contents.{all_under}

pub place_all-requires : goal.place_all-requires
place_all-requires c =
    all_under content_of HasFewLines c.into_parts-layouts.result.1.items (rw c.into_parts-layouts.ensures.funcs c.requires)
