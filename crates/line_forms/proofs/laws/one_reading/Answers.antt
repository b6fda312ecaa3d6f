use Rattle.line_forms.proofs.FamilyLines.{same_reading}
use Rattle.line_forms.proofs.laws.one_reading.Goals as goal

pub returns : goal.returns
returns c = λ text form other says also line fits stands fits_too stands_too. same_reading text form other says also line fits stands fits_too stands_too
