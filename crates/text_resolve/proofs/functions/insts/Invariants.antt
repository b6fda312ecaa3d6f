use Rattle.std.proofs.Common.{◌≡◌, ◌++◌, drop}
use Rattle.ir_lines.specs.Notes.{Notes}
use Rattle.ir_lines.specs.Views.{seen_lines}
use Rattle.ir_lines.specs.Modules.{insts_of, numbers_of}
use Rattle.module_build.specs.Known.{known_in}
use Rattle.module_build.specs.Lost.{tables_in}
use Rattle.module_build.proofs.Founds.{FoundUpTo}
use Rattle.text_resolve.specs.Lost.{LineLostAt}
use Rattle.text_resolve.proofs.functions.insts.Given as goal

abbrev pub invariant-loop-i : goal.invariant-loop-i
invariant-loop-i l = record {
  made : l.insts.items ++ insts_of (known_in l.scope) (seen_lines (drop l.i l.lines))
      ≡ insts_of (known_in l.scope) (seen_lines l.lines);
  numbered : l.numbers.items ++ numbers_of (known_in l.scope) (seen_lines (drop l.i l.lines))
      ≡ l.initial.numbers.items ++ numbers_of (known_in l.scope) (seen_lines l.lines);
  noted : Notes l.initial.first.found l.first.found (FoundUpTo (LineLostAt l.scope.form (tables_in l.scope)) (seen_lines l.lines) l.i);
}
