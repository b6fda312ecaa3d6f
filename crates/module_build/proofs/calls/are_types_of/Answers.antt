use Rattle.std.proofs.Common.{◌∙◌, sym}
use Rattle.std.specs.Prelude.{map}
use Rattle.std.proofs.lemmas.List.{length-map}
use Rattle.line_parts.specs.Seen.{seen_type, seen_argument}
use Rattle.ir_lines.specs.Sections.{types_of}
use Rattle.module_build.proofs.TypeLists.{same_types-lengths}
use Rattle.module_build.proofs.calls.are_types_of.Goals as goal

pub returns-then-types-parameters : goal.returns-then-types-parameters
returns-then-types-parameters c =
    same_types-lengths (map seen_type c.args.types.now) (types_of (map seen_argument c.args.parameters.now))
    (λ e. c.if-types-parameters.true
    (sym (length-map c.args.types.now seen_type) ∙ e ∙ length-map (map seen_argument c.args.parameters.now) (λ one. one.ty) ∙ length-map c.args.parameters.now seen_argument))
