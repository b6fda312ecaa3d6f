use Rattle.line_forms.proofs.FamilyLines.{stands_where_read}
use Rattle.line_forms.proofs.laws.own_form.Goals as goal

pub returns : goal.returns
returns c = λ text form says line rest opens fits. stands_where_read text form says line rest opens fits
