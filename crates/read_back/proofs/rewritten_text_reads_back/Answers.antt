use Rattle.ir_ast.specs.declared.modules.Form.TheVariants.{Rewritten}
use Rattle.read_back.proofs.TheLaw.{reads_back}
use Rattle.read_back.proofs.rewritten_text_reads_back.Goals as goal

pub returns : goal.returns
returns c = reads_back Rewritten
