use Rattle.ir_ast.specs.declared.modules.Form.TheVariants.{Source}
use Rattle.read_back.proofs.TheLaw.{reads_back}
use Rattle.read_back.proofs.printed_text_reads_back.Goals as goal

pub returns : goal.returns
returns c = reads_back Source
