-- What is counted.
use Rattle.std.specs.Prelude.{Bool}
use Rattle.ir_ast.specs.declared.ops.Op.{Op}
use Rattle.ir_ast.specs.Faults.GroupShape.{is_statepoint}
use Rattle.gen_report.specs.Summaries.{is_relocate}
use Rattle.gen_report.specs.declared.counts.Counted.{Counted}
use Rattle.gen_report.specs.declared.counts.Counted.TheVariants.{Statepoints, Relocates}

abbrev pub is_counted : Counted → Op → Bool
is_counted Statepoints op = is_statepoint op
is_counted Relocates op = is_relocate op
