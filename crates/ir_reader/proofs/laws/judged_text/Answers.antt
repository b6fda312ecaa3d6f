use Rattle.sp_text.specs.Lines.{lines_of}
use Rattle.ir_reader.specs.Text.{readings_in}
use Rattle.ir_reader.proofs.JudgedOnce.{once}
use Rattle.ir_reader.proofs.Judging.{judged}
use Rattle.ir_reader.proofs.laws.judged_text.Goals as goal

pub returns-clause-is : goal.returns-clause-is
returns-clause-is c = λ form text. judged form text

pub returns-clause-only : goal.returns-clause-only
returns-clause-only c = λ form text read is. once form (lines_of text) read (readings_in form text) is (judged form text)
