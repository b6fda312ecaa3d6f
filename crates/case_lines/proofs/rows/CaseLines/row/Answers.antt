use Rattle.std.proofs.Common.{◌∙◌}
use Rattle.case_lines.proofs.rows.CaseLines.row.Goals as goal

pub row_of-requires : goal.row_of-requires
row_of-requires c = rw (c.as_slice.ensures.value, c.as_slice-2.ensures.value) c.self.invariant

pub returns : goal.returns
returns c = c.row_of.ensures ∙ (let first = c.as_slice.ensures.value in let second = c.as_slice-2.ensures.value in let view = c.self.view_is in cc)
