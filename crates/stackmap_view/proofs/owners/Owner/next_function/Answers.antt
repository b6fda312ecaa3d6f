use Rattle.stackmap_view.proofs.RecordLaws.{functions-step}
use Rattle.stackmap_view.proofs.owners.Owner.next_function.Goals as goal

pub returns-clause-entry : goal.returns-clause-entry
returns-clause-entry c =
    functions-step c.args.self.now.functions_left c.args.self.now.functions.now c.function_entry-entry.result c.split_at.result.1.now c.requires c.function_entry-entry.ensures c.split_at.ensures.back
