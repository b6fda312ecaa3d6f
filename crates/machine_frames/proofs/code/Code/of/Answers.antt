use Rattle.std.proofs.Common.{◌∙◌, ap, subst, length, arith}
use Rattle.std.specs.List.{All}
use Rattle.std.proofs.lemmas.List.{length-map}
use Rattle.ir_ast.specs.Funcs.{content_of}
use Rattle.machine_frames.specs.Tables.{IsSmallFunction}
use Rattle.machine_frames.proofs.CodeLemmas.{tables_from, small_contents}
use Rattle.machine_frames.proofs.code.Code.of.Goals as goal

pub invariant_of-result : goal.invariant_of-result
invariant_of-result c =
    record {
      laid_is = c.in_ok-layouts.ensures.value;
      few = omega (arith, ap length c.funcs.ensures.content, length-map c.funcs.result.now content_of);
      small = subst (All IsSmallFunction) c.funcs-2.ensures.content (small_contents c.funcs-2.result.now c.in_ok-tables.ensures.small);
      tables_are = c.in_ok-tables.ensures.tables ∙ tables_from c.args.«module».now.content c.funcs-2.result.now c.funcs-2.ensures.content;
    }
