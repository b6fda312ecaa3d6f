use Rattle.std.proofs.Common.{length, sym, ◌∙◌}
use Rattle.map_bytes.specs.Formats.{laid}
use Rattle.map_bytes.specs.Tables.{map_format}
use Rattle.map_bytes.proofs.MapLaws.{longest}
use Rattle.map_bytes.proofs.laws.longest_front.Goals as goal

pub returns : goal.returns
returns c = λ bytes fault is others more begins same.
    longest map_format is.numbers others is.rest more (length (laid map_format is.numbers)) fault is.begins begins (sym is.front ∙ same) is.next_breaks
