use Rattle.std.specs.Prelude.{map}
use Rattle.line_parts.specs.Seen.{seen_type, seen_argument}
use Rattle.ir_lines.specs.Sections.{types_of}
use Rattle.text_resolve.proofs.ExternalLemmas.{maker-is, maker-differs}
use Rattle.text_resolve.proofs.tops.is_made.Goals as goal

pub returns-then-not-is_gc_new : goal.returns-then-not-is_gc_new
returns-then-not-is_gc_new c =
    maker-differs c.args.top.now.layouts c.args.name.now (seen_type c.args.answer) (types_of (map seen_argument c.args.parameters.now)) c.if-not-is_gc_new.ensures

pub returns : goal.returns
returns c =
    maker-is c.args.top.now.layouts c.args.name.now (seen_type c.args.answer) (types_of (map seen_argument c.args.parameters.now)) c.makes_layout.result
    c.if-not-is_gc_new.ensures c.makes_layout.ensures
