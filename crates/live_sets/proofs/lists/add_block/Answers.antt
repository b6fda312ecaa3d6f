use Rattle.std.proofs.Common.{◌∙◌, sym}
use Rattle.live_sets.proofs.ListLaws.{nothing_added}
use Rattle.live_sets.proofs.lists.add_block.Goals as goal

pub returns-then-not-has_call : goal.returns-then-not-has_call
returns-then-not-has_call c =
    nothing_added c.args.func.now.content c.args.bases.now c.args.marks.now c.requires.marks c.args.number c.args.lists.now.items (sym c.requires.calls ∙ c.if-not-has_call.true)
