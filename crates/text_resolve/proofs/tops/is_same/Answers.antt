use Rattle.std.proofs.Common.{sym}
use Rattle.std.specs.Prelude.{map}
use Rattle.std.proofs.lemmas.Slice.Eq.{bytes_eq-Decides}
use Rattle.line_parts.specs.Seen.{seen_type, seen_argument}
use Rattle.ir_lines.specs.Sections.{types_of}
use Rattle.text_resolve.proofs.ExternalLemmas.{external-is, same_type-is}
use Rattle.text_resolve.proofs.tops.is_same.Goals as goal

pub returns : goal.returns
returns c =
    external-is c.args.name.now c.args.due.now (seen_type c.args.answer) (seen_type c.args.gives) (types_of (map seen_argument c.args.parameters.now)) (map seen_type c.args.takes.now)
    c.has_types.result ((bytes_eq-Decides c.args.name.now c.args.due.now).0 (sym c.if-not-is_text.ensures))
    (same_type-is (seen_type c.args.answer) (seen_type c.args.gives) (sym c.if-not-is_type.ensures)) c.has_types.ensures
