use Rattle.std.proofs.Common.{sym, length}
use Rattle.std.proofs.lemmas.List.FromFn.{length-map-range_with_len}
use Rattle.ir_printer.proofs.declarations.NewDeclarationsRow.count.Goals as goal

pub returns : goal.returns
returns c = sym (length-map-range_with_len _ 0 (length c.args.self.now.layouts.now))
