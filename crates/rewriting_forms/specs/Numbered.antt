-- A function before liveness: its lines with their registers, its pointers and their bases.
use Rattle.std.specs.Prelude.{ℕ, ◌==◌, Bool, false, List, length, map, filter, slice_get, slice_index_or}
use Rattle.std.specs.List.{list_any, range_with_len}
use Rattle.std.specs.Option.{option_map_or}
use Rattle.ir_ast.specs.declared.ops.Operand.{Operand}
use Rattle.ir_ast.specs.declared.ops.Operand.TheVariants.{Null}
use Rattle.ir_ast.specs.Funcs.{Function}
use Rattle.ir_ast.specs.Types.{is_pointer}
use Rattle.ir_ast.specs.Values.{value_types}
use Rattle.ir_cfg.specs.Graphs.{graph_of, succs_of, preds_of}
use Rattle.object_meaning.specs.Lines.{Line}
pub use Rattle.object_meaning.specs.BlockLines.{lines_at, no_line, is_given, gives}
pub use Rattle.ir_ast.specs.Operands.{named}
pub use Rattle.ir_ast.specs.Ops.{is_call}

abbrev pub among : ℕ → List ℕ → Bool
among v values = list_any (λ x. x == v) values

abbrev pub line_at : Function → ℕ → ℕ → Line
line_at func b k = slice_index_or (lines_at func b) k no_line

abbrev pub calls : Line → Bool
calls line = is_call line.inst.op

-- the pointers, in the order of a "gc-live" list: arguments, and then results in text order
abbrev pub pointers : Function → List ℕ
pointers func =
    filter (λ v. option_map_or is_pointer (slice_get (value_types func) v) false) (range_with_len 0 (length (value_types func)))

-- a base table: the base of each value by its number
abbrev pub base_at : List Operand → ℕ → Operand
base_at table v = slice_index_or table v Null

abbrev pub succs : Function → ℕ → List ℕ
succs func b = map (λ label. label.0) (succs_of (graph_of func) b)

-- one for each edge, in the text order of their blocks
abbrev pub preds : Function → ℕ → List ℕ
preds func b = map (λ label. label.0) (preds_of (graph_of func) b)
