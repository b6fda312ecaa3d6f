use Rattle.std.proofs.Common.{◌∙◌}
use Rattle.statepoint_insert.specs.Ranks.{HasRanks}
use Rattle.statepoint_insert.specs.Texts.{first_rank}
use Rattle.statepoint_insert.proofs.RankLaws.{group_made, ranked_beside}
use Rattle.statepoint_insert.proofs.indices.group.Goals as goal

pub clear-requires-clause-beside : goal.clear-requires-clause-beside
clear-requires-clause-beside c = ranked_beside c.first_rank.result c.args.list.now c.set_ranks.new.row.items c.set_ranks.ensures.ranks

pub returns-clause-group : goal.returns-clause-group
returns-clause-group c =
    let ranks : HasRanks (first_rank c.has_null-has_null.result) c.args.list.now c.set_ranks.new.row.items = rw c.first_rank.ensures at c.set_ranks.ensures.ranks in
    c.of.ensures
    ∙ group_made c.args.bases.now c.args.list.now c.set_ranks.new.row.items c.has_null-has_null.result c.in_ok-relocates.relocates.items c.has_null-has_null.ensures ranks
    (rw c.as_slice.ensures.value at c.in_ok-relocates.ensures)
