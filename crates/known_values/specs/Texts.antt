-- A setting that runs the text of a function.
use Rattle.std.specs.Prelude.{◌≡◌, ⊤, ℕ, suc, ◌<◌, ◌≤◌, true, ◌++◌, drop, length, slice_get, Some}
use Rattle.ir_ast.specs.declared.ops.Op.{Op}
use Rattle.ir_ast.specs.declared.ops.Op.TheVariants.{Br, CondBr, Switch}
use Rattle.ir_ast.specs.Blocks.{BasicBlock}
use Rattle.ir_ast.specs.Funcs.{Function}
use Rattle.ir_ast.specs.Insts.{Instruction}
use Rattle.ir_ast.specs.Objects.{Datum}
use Rattle.ir_ast.specs.Ops.{is_terminator}
use Rattle.ir_cfg.specs.DefiniteUses.{Defines, Stands, Uses}
use Rattle.ir_cfg.specs.Graphs.{Edge, graph_of}
use Rattle.object_meaning.specs.BlockLines.{lines_at}
use Rattle.object_meaning.specs.Jumps.{branch_taken, case_taken, label_at}
use Rattle.object_meaning.specs.States.{Setting}
use Rattle.base_definite.proofs.base_paths.UndefinedLaws.{Undefined}

-- a terminator leads along edges, whatever the value that it asks
abbrev pub LeadsAlong : Function → ℕ → Instruction → Op → Type 0
LeadsAlong func block inst Br = Edge (graph_of func) block (label_at inst.labels 0)
LeadsAlong func block inst CondBr = (datum : Datum) → Edge (graph_of func) block (label_at inst.labels (branch_taken datum))
LeadsAlong func block inst Switch = (datum : Datum) → Edge (graph_of func) block (label_at inst.labels (case_taken datum (drop 1 inst.operands)))
LeadsAlong func block inst op = ⊤

-- under this number the setting runs the lines of the function's text, from the front of the entry block on and behind each edge;
-- each result has a register; terminators stand last, and lead along edges
pub record RunsText (setting : Setting) (number : ℕ) (func : Function) : Type 0 where
  pub front : setting.front ++ setting.lines number 0 ≡ lines_at func 0
  pub blocks : (from to : ℕ) → Edge (graph_of func) from to → setting.lines number to ≡ lines_at func to
  pub room : (value block place : ℕ) → Defines func value block place → value < setting.registers number
  pub last : (block place : ℕ) (inst : Instruction) (own : BasicBlock) → Stands func block place inst → is_terminator inst.op ≡ true
      → slice_get func.blocks block ≡ Some own → suc place ≡ length own.insts
  pub leads : (block place : ℕ) (inst : Instruction) → Stands func block place inst → LeadsAlong func block inst inst.op

-- no path comes to a use of a result without a definition of it
abbrev pub UsesAreDefined : Function → Type 0
UsesAreDefined func = (line value block place : ℕ) → Uses func line value block place → length func.args ≤ value → ¬ Undefined func value block place
