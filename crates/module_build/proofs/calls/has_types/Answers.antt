use Rattle.std.proofs.Common.{◌∙◌, sym}
use Rattle.std.specs.Prelude.{map}
use Rattle.std.proofs.lemmas.List.{length-map}
use Rattle.line_parts.specs.Seen.{seen_type, seen_argument}
use Rattle.ir_lines.specs.Sections.{types_of}
use Rattle.module_build.proofs.TypeLists.{same_types-lengths}
use Rattle.module_build.proofs.calls.has_types.Goals as goal

pub returns-then-parameters-types : goal.returns-then-parameters-types
returns-then-parameters-types c =
    same_types-lengths (types_of (map seen_argument c.args.parameters.now)) (map seen_type c.args.types.now)
    (λ e. c.if-parameters-types.true
    (sym (length-map (map seen_argument c.args.parameters.now) (λ one. one.ty) ∙ length-map c.args.parameters.now seen_argument) ∙ e ∙ length-map c.args.types.now seen_type))
