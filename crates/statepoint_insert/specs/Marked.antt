-- A function with its groups.
use Rattle.std.specs.Prelude.{ℕ, ◌<◌, ◌^◌, false, List, length}
use Rattle.ir_ast.specs.declared.ops.Operand.{Operand}
use Rattle.ir_ast.specs.Funcs.{Function, instructions_of}
use Rattle.ir_ast.specs.Formed.{IsFormed}
use Rattle.rewriting_forms.specs.Numbered.{lines_at}
use Rattle.rewriting_forms.specs.Names.{Name, own, relocated, joined, token, Naming}
use Rattle.rewriting_forms.specs.Rewritten.{Piece, expanded, rewritten}
use Rattle.rewriting_laws.specs.Laws.{IsReached}
use Rattle.statepoint_insert.specs.Groups.{GroupContent, groups_of}

-- what a contract sees of a `Marked`
pub record MarkedFunction : Type 0 where
  pub before : Function
  pub table : List Operand
  pub groups : List GroupContent

-- the function can be rewritten: each block is reached, and what comes of it has room
pub record IsReady (func : Function) (table : List Operand) : Type 0 where
  pub formed : IsFormed func
  pub reached : IsReached func
  pub few : length (instructions_of (rewritten func table).blocks) < 2 ^ 30

abbrev pub marked_of : Function → List Operand → MarkedFunction
marked_of func table = record { before = func; table = table; groups = groups_of func table }

-- no phi is inserted, and each operand keeps the number of its value
abbrev pub plain_naming : Naming
plain_naming = record { joins = λ b v. false; front = λ b v. own v }

abbrev pub value_named : Name → ℕ
value_named (own v) = v
value_named (relocated b k v) = v
value_named (joined b v) = v
value_named (token b k) = 0

-- the lines of a block with groups in place of its calls: the statepoint, the result under its old name, and the relocates, each a
-- further definition of its pointer
abbrev pub grouped : Function → List Operand → ℕ → List Piece
grouped func table b = expanded func table plain_naming value_named b 0 (lines_at func b)
