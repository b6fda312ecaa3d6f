use Rattle.std.specs.Prelude.{map}
use Rattle.std.specs.List.{Contains}
use Rattle.line_parts.specs.Seen.{seen_type, seen_argument}
use Rattle.ir_lines.specs.Sections.{types_of}
use Rattle.ir_lines.specs.Externals.{external, own_basics, own_helpers}
use Rattle.text_resolve.proofs.ExternalLemmas.{not-in-first, is-false}
use Rattle.text_resolve.proofs.tops.is_own.Goals as goal

pub returns : goal.returns
returns c =
    let one = external c.args.name.now (seen_type c.args.answer) (types_of (map seen_argument c.args.parameters.now)) in
    not-in-first own_basics own_helpers one c.is_own_helper.result
    (is-false (Contains own_basics one) c.is_own_basic.result c.is_own_basic.ensures c.if-is_own_basic.false) c.is_own_helper.ensures
