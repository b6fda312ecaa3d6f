use Rattle.std.proofs.Common.{rules}
use Rattle.case_lines.proofs.RowLemmas.{length-rows_from}
use Rattle.case_lines.proofs.rows.CaseLines.len.Goals as goal

pub returns : goal.returns
returns c = rw (← c.self.view_is, length-rows_from 0 c.self.inside.stops.items c.self.inside.lines.items) (search rules)
