-- The target meaning on objects that never move: the same step, on lines that spell their polls.
use Rattle.std.specs.Prelude.{ℕ, List, [], ◌∷◌, ℤ, Option}
use Rattle.ir_ast.specs.Insts.{Instruction}
use Rattle.ir_ast.specs.Modules.{ModuleContent}
use Rattle.object_meaning.specs.Lines.{Line, numbered, following, first_register, insts_of, register_count, main_of}
use Rattle.object_meaning.specs.States.{Setting}
use Rattle.object_meaning.specs.Texts.{function_name}
use Rattle.object_meaning.specs.Outcomes.{Outcome, Gives}

-- the lines of these instructions as they are, of which the first result goes to the register `next`
abbrev pub plain_lines : ℕ → List Instruction → List Line
plain_lines next [] = []
plain_lines next (inst ∷ insts) = numbered next inst ∷ plain_lines (following next inst) insts

abbrev pub target_setting : ModuleContent → (ℕ → Option ℕ) → ℕ → Setting
target_setting content go bound = record {
  lines = λ func block. plain_lines (first_register content func block) (insts_of content func block);
  front = [];
  registers = register_count content;
  layouts = content.layouts;
  main = main_of content;
  names = function_name content;
  go = go;
  bound = bound;
}

abbrev pub TargetGives : ModuleContent → List ℤ → (ℕ → Option ℕ) → ℕ → Outcome → Type 0
TargetGives content input go bound outcome = Gives (target_setting content go bound) input outcome
