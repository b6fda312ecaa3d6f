-- The parts of a reading as what the tokens say there.
use Rattle.std.specs.Prelude.{ℕ, List}
use Rattle.std.specs.Option.{option_map}
use Rattle.sp_text.specs.Names.{seen_name}
use Rattle.line_parts.specs.declared.readings.TypeWord.{TypeWord as SpelledType}
use Rattle.line_parts.specs.declared.readings.TypeWord.TheVariants as spelled
use Rattle.line_parts.specs.declared.readings.Value.{Value}
use Rattle.line_parts.specs.declared.readings.Value.TheVariants as values
use Rattle.line_parts.specs.declared.readings.Argument.{Argument}
use Rattle.line_parts.specs.declared.readings.Passed.{Passed}
use Rattle.line_parts.specs.declared.readings.Passed.TheVariants as all_passed
use Rattle.line_parts.specs.declared.readings.Entry.{Entry}
use Rattle.line_parts.specs.Types.{TypeWord}
use Rattle.line_parts.specs.Types as types
use Rattle.line_parts.specs.Parts.{Val, local, number, truth, null}
use Rattle.line_parts.specs.Lists.{Named, Given, given, function}

abbrev pub seen_type : SpelledType → TypeWord
seen_type spelled.Void = types.Void
seen_type (spelled.Int width) = types.Int width.bits
seen_type spelled.Managed = types.Managed
seen_type spelled.Plain = types.Plain

abbrev pub seen_value : Value → Val
seen_value (values.Local name) = local (seen_name name)
seen_value (values.Number n) = number n
seen_value (values.Truth b) = truth b
seen_value values.Null = null

abbrev pub seen_argument : Argument → Named
seen_argument a = record { ty = seen_type a.ty; name = option_map seen_name a.name }

abbrev pub seen_passed : Passed → Given
seen_passed (all_passed.Value of_type passed) = given (seen_type of_type) (seen_value passed)
seen_passed (all_passed.Function name) = function (seen_name name)

abbrev pub seen_entry : Entry → Val × List ℕ
seen_entry e = (seen_value e.value, seen_name e.label)
