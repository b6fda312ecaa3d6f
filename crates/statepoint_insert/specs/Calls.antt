-- Where a call stands among those that aren't of leaves.
use Rattle.std.specs.Prelude.{ℕ, ◌+◌, take, count_by}
use Rattle.std.specs.List.{sum_by, range_with_len}
use Rattle.ir_ast.specs.Funcs.{Function}
use Rattle.rewriting_forms.specs.Numbered.{lines_at, calls}

abbrev pub calls_in : Function → ℕ → ℕ
calls_in func b = count_by calls (lines_at func b)

-- how many stand before a place of a block, in text order
abbrev pub calls_before : Function → ℕ → ℕ → ℕ
calls_before func b k = sum_by (calls_in func) (range_with_len 0 b) + count_by calls (take k (lines_at func b))
