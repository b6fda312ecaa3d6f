use Rattle.line_forms.proofs.FamilyLines.{form_is}
use Rattle.line_forms.proofs.laws.one_form.Goals as goal

pub returns : goal.returns
returns c = λ text form says line rest fits stands. form_is text form says line rest fits stands
