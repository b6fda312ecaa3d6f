use Rattle.std.proofs.Common.{◌∙◌, sym}
use Rattle.std.specs.Prelude.{map}
use Rattle.std.proofs.lemmas.List.{length-map}
use Rattle.line_parts.specs.Seen.{seen_argument, seen_passed}
use Rattle.ir_lines.specs.Modules.{passed_type}
use Rattle.ir_lines.specs.Sections.{types_of}
use Rattle.module_build.proofs.TypeLists.{same_types-lengths}
use Rattle.module_build.proofs.calls.same_types.Goals as goal

pub returns-then-passed-parameters : goal.returns-then-passed-parameters
returns-then-passed-parameters c =
    same_types-lengths (map passed_type (map seen_passed c.args.passed.now)) (types_of (map seen_argument c.args.parameters.now))
    (λ e. c.if-passed-parameters.true
    (sym (length-map (map seen_passed c.args.passed.now) passed_type ∙ length-map c.args.passed.now seen_passed) ∙ e
    ∙ length-map (map seen_argument c.args.parameters.now) (λ one. one.ty) ∙ length-map c.args.parameters.now seen_argument))
