-- What a contract sees of a `Block`.
use Rattle.std.specs.Prelude.{◌≡◌, ℕ, true, not, List, [], ◌∷◌, ◌++◌}
use Rattle.std.specs.List.{list_all}
use Rattle.ir_ast.specs.Insts.{Instruction}
use Rattle.ir_ast.specs.Ops.{is_terminator}

pub record BasicBlock : Type 0 where
  pub name : List ℕ
  pub insts : List Instruction

-- the last instruction is a terminator, and no other is
pub record EndsAtTerminator (insts : List Instruction) : Type 0 where
  pub before : List Instruction
  pub last : Instruction
  pub whole : insts ≡ before ++ last ∷ []
  pub ends : is_terminator last.op ≡ true
  pub inside : list_all (λ inst. not (is_terminator inst.op)) before ≡ true
