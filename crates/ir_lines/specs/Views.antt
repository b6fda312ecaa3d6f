-- What readings say.
use Rattle.std.specs.Prelude.{List, map}
use Rattle.line_forms.specs.declared.readings.Reading.{Reading}
use Rattle.ir_reader.specs.declared.raw.NumberedReading.{NumberedReading}
use Rattle.ir_reader.specs.Raws.{seen_numbered}
use Rattle.line_forms.specs.declared.readings.StatepointCall.{StatepointCall}
use Rattle.line_parts.specs.Seen.{seen_type, seen_passed}
use Rattle.line_forms.specs.Seen.{seen, seen_kept}
use Rattle.ir_lines.specs.Statements.{Statement, Line, Guarded, stated, line_of}

abbrev pub said : Reading → Statement
said reading = stated (seen reading)

abbrev pub seen_line : NumberedReading → Line
seen_line reading = line_of (seen_numbered reading)

abbrev pub seen_lines : List NumberedReading → List Line
seen_lines readings = map seen_line readings

-- the call of a statepoint
abbrev pub seen_guarded : StatepointCall → Guarded
seen_guarded c = record {
  id = c.id;
  signature = record { answer = seen_type c.function_type.answer; parameters = map seen_type c.function_type.parameters.items };
  callee = c.callee.bytes.now;
  count = c.count;
  passed = map seen_passed c.passed.items;
  kept = map seen_kept c.kept.items;
}
