use Rattle.std.proofs.Common.{◌≡◌, sym, subst, map, Some}
use Rattle.line_parts.specs.Seen.{seen_type, seen_argument}
use Rattle.line_forms.specs.declared.forms.Form.TheVariants.{Declare}
use Rattle.line_forms.specs.declared.readings.Reading.{Reading}
use Rattle.line_forms.specs.Seen.{line_at, seen}
use Rattle.outside_texts.proofs.Evidence.{says_by}
use Rattle.outside_texts.proofs.declarations.name_in.Goals as goal

pub returns-in-Some : goal.returns-in-Some
returns-in-Some c =
    says_by c.args.cursor (seen_type c.in-Ok-Declare.field-0-0) c.in-Ok-Declare.name.bytes.now (map seen_argument c.in-Ok-Declare.field-0-2.items) c.kept_front.new.cursor c.in-Some.field-0
    (subst (λ (it : Reading). line_at Declare c.args.cursor ≡ Some (seen it, c.kept_front.new.cursor)) c.in-Ok-Declare.field-0-is c.in-Ok-Declare.ensures)
    (sym c.in-Some.ensures)
