use Rattle.std.proofs.Common.{◌≡◌, ℕ, ◌<◌, get_or, length}
use Rattle.std.specs.Prelude.{slice_get}
use Rattle.flat_code.specs.declared.lines.Function.{Function}
use Rattle.flat_code.specs.Segments.{IsFunction}
use Rattle.flat_code.proofs.codes.all_functions.Given as goal

abbrev pub invariant-loop-place : goal.invariant-loop-place
invariant-loop-place l = record {
  count : length l.functions.items ≡ l.place;
  each : (func : ℕ) (d : Function) → func < length l.functions.items
      → IsFunction l.«module».content.layouts (slice_get l.«module».content.funcs func) (get_or l.functions.items func d);
}
