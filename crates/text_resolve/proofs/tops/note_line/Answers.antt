use Rattle.std.proofs.Common.{◌≡◌, List, sym, subst}
use Rattle.std.specs.Prelude.{map}
use Rattle.line_parts.specs.declared.readings.Argument.{Argument}
use Rattle.line_parts.specs.Seen.{seen_type, seen_argument}
use Rattle.line_forms.specs.declared.readings.Reading.{Reading}
use Rattle.ir_lines.specs.Notes.{Notes}
use Rattle.text_resolve.specs.TopFaults.{DeclareFault, OuterFault}
use Rattle.ir_lines.specs.Views.{said}
use Rattle.text_resolve.proofs.tops.note_line.Goals as goal

pub returns-in-Define : goal.returns-in-Define
returns-in-Define c =
    subst (λ (reading : Reading). Notes c.args.first.now.found c.note_head.new.first.found
    (λ at code. (at ≡ c.args.line.now.line) × OuterFault c.args.form c.args.top.now.functions c.args.top.now.layouts (said reading) code))
    (sym c.in-Define.is) c.note_head.ensures

pub returns-in-Declare : goal.returns-in-Declare
returns-in-Declare c =
    let declared = subst (λ (arguments : List Argument). Notes c.args.first.now.found c.note_declaration.new.first.found
    (λ at code. (at ≡ c.args.line.now.line) × DeclareFault c.args.form c.args.top.now.functions c.args.top.now.layouts
    (seen_type c.in-Declare.answer) c.in-Declare.name.bytes.now (map seen_argument arguments) code))
    c.as_slice-in-Declare.ensures c.note_declaration.ensures in
    subst (λ (reading : Reading). Notes c.args.first.now.found c.note_declaration.new.first.found
    (λ at code. (at ≡ c.args.line.now.line) × OuterFault c.args.form c.args.top.now.functions c.args.top.now.layouts (said reading) code))
    (sym c.in-Declare.is) declared
