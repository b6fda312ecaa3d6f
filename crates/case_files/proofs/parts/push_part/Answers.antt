use Rattle.std.proofs.Common.{None, append-nil, arith, sym}
use Rattle.std.proofs.lemmas.Str.Pattern.{strip_prefix_char}
use Rattle.case_files.proofs.PartLaws.{head_of-other}
use Rattle.case_files.proofs.parts.push_part.Goals as goal

pub returns-in_default : goal.returns-in_default
returns-in_default c =
    rw (head_of-other c.args.line.now.text.now (strip_prefix_char 61 c.args.line.now.text.now None c.in_default.ensures.cases (omega arith)))
    (sym (append-nil _))
