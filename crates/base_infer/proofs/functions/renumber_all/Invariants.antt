use Rattle.std.proofs.Common.{◌≡◌, ◌++◌, take, drop}
use Rattle.std.specs.Prelude.{map}
use Rattle.base_forms.specs.Lines.{kept_line}
use Rattle.base_tables.specs.Tables.{tabled}
use Rattle.base_infer.proofs.functions.renumber_all.Given as goal

abbrev pub invariant-loop-inst : goal.invariant-loop-inst
invariant-loop-inst l =
    take l.inst-index l.insts ++ map (kept_line (tabled l.tables)) (drop l.inst-index l.insts) ≡ map (kept_line (tabled l.tables)) l.initial.insts
