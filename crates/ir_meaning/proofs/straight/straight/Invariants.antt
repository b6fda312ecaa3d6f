use Rattle.std.proofs.Common.{◌≡◌, drop}
use Rattle.flat_code.specs.Flats.{lines_done}
use Rattle.ir_meaning.specs.Straights.{held_in}
use Rattle.ir_meaning.proofs.straight.straight.Given as goal

abbrev pub invariant-loop-line : goal.invariant-loop-line
invariant-loop-line l = record {
  done : lines_done l.initial.objects.layouts (held_in l.registers l.objects) (drop l.line-index l.lines)
      ≡ lines_done l.initial.objects.layouts (held_in l.initial.registers l.initial.objects) l.lines;
  layouts : l.objects.layouts ≡ l.initial.objects.layouts;
}
