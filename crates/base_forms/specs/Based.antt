-- The function with bases, checks and polls: a function of the placed one. Each derived phi and select has its base
-- directly before it, each load and store its check, and a compare with a derived operand is one of objects and offsets.
use Rattle.std.specs.Prelude.{ℕ, Bool, List, length, map, take, count_by, Option}
use Rattle.ir_ast.specs.declared.modules.Form.TheVariants.{Rewritten}
use Rattle.ir_ast.specs.declared.ops.Pred.{Pred}
use Rattle.ir_ast.specs.declared.ops.Operand.{Operand}
use Rattle.ir_ast.specs.declared.ops.Op.{Op}
use Rattle.ir_ast.specs.Insts.{Instruction}
use Rattle.ir_ast.specs.Blocks.{BasicBlock}
use Rattle.ir_ast.specs.Funcs.{Function}
use Rattle.ir_ast.specs.Modules.{ModuleContent}
use Rattle.ir_ast.specs.Values.{definitions_of}
use Rattle.base_forms.specs.Polls.{placed}
use Rattle.base_forms.specs.DerivedMarks.{uses_marked, derived_marks}
use Rattle.base_forms.specs.Inserted.{is_merged, is_negated, by_line, inserted_number, renumbered}
use Rattle.base_forms.specs.Bases.{base_of}
use Rattle.base_forms.specs.Bases as bases
use Rattle.base_forms.specs.Lines.{Insertion}
use Rattle.base_forms.specs.Lines as lines

-- how many lines of a kind give a value before this one
abbrev pub rank_of : Function → (Instruction → Bool) → ℕ → ℕ
rank_of func kind next = count_by (by_line kind) (take next (definitions_of func))

-- what is known of the values of a function, where the marked ones are the derived ones
abbrev pub insertion : Function → List Bool → Insertion
insertion func marks = record {
  now = renumbered func marks;
  base = base_of func marks;
  uses_derived = uses_marked marks;
  base_rank = rank_of func (is_merged marks);
  same_rank = rank_of func (is_negated marks);
  inserted = inserted_number func marks;
}

module _ (func : Function) (marks : List Bool) where
  abbrev pub kept_line : Instruction → Instruction
  kept_line = lines.kept_line (insertion func marks)

  abbrev pub base_line : ℕ → Instruction → Instruction
  base_line = lines.base_line (insertion func marks)

  abbrev pub check : Instruction → Operand → Instruction
  check = lines.check (insertion func marks)

  abbrev pub same_call : Option (List ℕ) → Operand → Operand → Instruction
  same_call = lines.same_call (insertion func marks)

  abbrev pub negation : ℕ → Instruction → Instruction
  negation = lines.negation (insertion func marks)

  abbrev pub compared : ℕ → Instruction → Pred → List Instruction
  compared = lines.compared (insertion func marks)

  abbrev pub merged : ℕ → Instruction → List Instruction
  merged = lines.merged (insertion func marks)

  abbrev pub lines_for : ℕ → Instruction → Op → List Instruction
  lines_for = lines.lines_for (insertion func marks)

  abbrev pub based_insts : ℕ → List Instruction → List Instruction
  based_insts = lines.based_insts (insertion func marks)

  abbrev pub based_blocks : ℕ → List BasicBlock → List BasicBlock
  based_blocks = lines.based_blocks (insertion func marks)

  abbrev pub based_by : Function
  based_by = record func { blocks = based_blocks (length func.args) func.blocks }

-- the function with its bases and checks
abbrev pub based : Function → Function
based func = based_by func (derived_marks func)

-- the base of each of its values
abbrev pub base_table : Function → List Operand
base_table func = bases.base_table func (derived_marks func)

-- the module with polls, bases and checks
abbrev pub based_module : ModuleContent → ModuleContent
based_module content = record content { funcs = map (λ func. based (placed func)) content.funcs; form = Rewritten }
