-- The bodies of generated functions, each over a constant. They take `P %o, i64 %x`, the values 0 and 1; the results of
-- their lines are the values from 2 on, in the order of the text.
use Rattle.std.specs.Prelude.{ℕ, zero, suc, ◌+◌, List, [], ◌∷◌, codes}
use Rattle.ir_ast.specs.declared.types.Ty.TheVariants.{Int as Integer, Ptr}
use Rattle.ir_ast.specs.declared.ops.Operand.TheVariants.{Int}
use Rattle.ir_ast.specs.Insts.{Instruction}
use Rattle.ir_ast.specs.Blocks.{BasicBlock}
use Rattle.generated_forms.specs.Lines.{value, new_line, field_line, load_line, store_line, add_line, below_line, phi_line, call_line, jump_line, branch_line, return_line}

-- makes two objects, stores the constant in the second element of one, and answers it and `%x`
abbrev pub making : ℕ → List BasicBlock
making constant =
    record {
      name = codes "entry";
      insts = new_line (codes "n") 2
          ∷ field_line (codes "p") 2 1
          ∷ store_line (Int constant) 3
          ∷ new_line (codes "q") 1
          ∷ load_line (codes "v") 3
          ∷ add_line (codes "r") 5 (value 1)
          ∷ return_line (value 6) ∷ [];
    } ∷ []

-- adds the constant to the field that `%p` points to, by a load whose result is this value
abbrev pub adding : ℕ → ℕ → List Instruction
adding loaded constant =
    load_line (codes "v") 6
    ∷ add_line (codes "r") loaded (Int constant)
    ∷ store_line (value (loaded + 1)) 6
    ∷ return_line (value (loaded + 1)) ∷ []

-- calls the function before the one at this place, and adds then; the first function has none to call
abbrev pub calling : ℕ → ℕ → List Instruction
calling zero constant = adding 7 constant
calling (suc before) constant = call_line (codes "k") before 0 (value 1) ∷ adding 8 constant

abbrev pub merged : ℕ → ℕ → BasicBlock
merged place constant = record {
  name = codes "m";
  insts = phi_line (codes "p") Ptr (value 3) 0 5 1 ∷ calling place constant;
}

-- adds the constant to a field of `%o` or of a new object, as a phi chooses, behind a call
abbrev pub merging : ℕ → ℕ → List BasicBlock
merging place constant =
    record {
      name = codes "entry";
      insts = new_line (codes "n") 1
          ∷ field_line (codes "p1") 0 0
          ∷ below_line (codes "c") 1 constant
          ∷ branch_line 4 1 2 ∷ [];
    }
    ∷ record { name = codes "l"; insts = field_line (codes "p2") 2 0 ∷ jump_line 2 ∷ [] }
    ∷ merged place constant ∷ []

-- adds `%x` to a field of `%o`, as often as the constant says and at least once
abbrev pub looping : ℕ → List BasicBlock
looping constant =
    record { name = codes "entry"; insts = field_line (codes "p0") 0 0 ∷ jump_line 1 ∷ [] }
    ∷ record {
      name = codes "loop";
      insts = phi_line (codes "i") (Integer 64) (Int 0) 0 6 1
          ∷ load_line (codes "v") 2
          ∷ add_line (codes "w") 4 (value 1)
          ∷ store_line (value 5) 2
          ∷ add_line (codes "i1") 3 (Int 1)
          ∷ below_line (codes "t") 6 constant
          ∷ branch_line 7 1 2 ∷ [];
    }
    ∷ record { name = codes "done"; insts = load_line (codes "u") 2 ∷ return_line (value 8) ∷ [] } ∷ []
