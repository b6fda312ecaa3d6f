use Rattle.std.proofs.Common.{◌∙◌, sym}
use Rattle.ir_verify.proofs.PhiLemmas.{no-phis}
use Rattle.ir_verify.proofs.phis.note_phis.Goals as goal

pub returns-then-not-has_phi : goal.returns-then-not-has_phi
returns-then-not-has_phi c = no-phis c.args.func.now c.args.first.now.found (sym c.requires ∙ c.if-not-has_phi.true)
