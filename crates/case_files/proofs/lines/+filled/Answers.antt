use Rattle.std.proofs.Common.{[], sym, ◌∙◌}
use Rattle.case_files.proofs.LineLaws.{last_goes, last_stays}
use Rattle.case_files.proofs.lines.+filled.Goals as goal

pub returns-in-len1-up : goal.returns-in-len1-up
returns-in-len1-up t c =
    c.filled.ensures ∙ sym (last_goes c.args.lines.now (record { number = 0; text = record { ref_ptr = (0, 0); now = [] } }) c.in-len1-up.len_at_least (sym c.is_empty.ensures ∙ c.if-is_empty.true))

pub returns-in_default-2 : goal.returns-in_default-2
returns-in_default-2 t c =
    sym (last_stays c.args.lines.now (record { number = 0; text = record { ref_ptr = (0, 0); now = [] } }) c.in-len1-up.len_at_least (sym c.is_empty.ensures ∙ c.if-is_empty.false))
