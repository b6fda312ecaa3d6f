use Rattle.ir_ast.specs.declared.modules.Form.TheVariants.{Rewritten}
use Rattle.read_back.proofs.accepted_texts.Accepted as laws
use Rattle.read_back.proofs.accepted_texts.accepted_is_target.Goals as goal

pub returns : goal.returns
returns c = laws.accepted_is_of Rewritten
