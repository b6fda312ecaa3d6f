use Rattle.memchr.specs.Find.{is_byte}
use Rattle.sp_text.proofs.FrontLemmas.{first-position}
use Rattle.sp_text.proofs.fronts.find.Goals as goal

pub returns : goal.returns
returns c = first-position (is_byte c.args.byte) c.args.bytes.now _ c.memchr.ensures
