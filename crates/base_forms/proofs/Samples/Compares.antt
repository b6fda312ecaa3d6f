-- Compares of pointers.
use Rattle.std.proofs.Common.{◌≡◌, [], ◌∷◌, refl, codes}
use Rattle.std.specs.Fmt.{digits}
use Rattle.ir_ast.specs.declared.ops.Op.TheVariants.{Xor}
use Rattle.ir_ast.specs.declared.ops.Pred.TheVariants.{Eq, Ne}
use Rattle.ir_ast.specs.declared.types.Ty.TheVariants.{Int, Ptr}
use Rattle.ir_ast.specs.Funcs.{Function}
use Rattle.base_forms.specs.Polls.{placed}
use Rattle.base_forms.specs.DerivedMarks.{derived_marks}
use Rattle.base_forms.specs.Based.{based, base_table}
use Rattle.base_forms.proofs.Samples.{value, literal, gives, new, poll, same, field, compare, return, block, main}

-- of two derived pointers, of one, and of none
abbrev of_each : Function
of_each = main
    (block (codes "entry")
    (new (codes "a") ∷ new (codes "b") ∷ field (codes "e") (value 0) 1 ∷ compare (codes "c") Eq Ptr (value 2) (value 1)
    ∷ compare (codes "d") Ne Ptr (value 1) (value 2) ∷ compare (codes "f") Ne Ptr (value 0) (value 1)
    ∷ compare (codes "h") Ne Ptr (value 2) (value 2) ∷ return (literal 0) ∷ []) ∷ [])

of_each_based : based (placed of_each) ≡ main
    (block (codes "entry")
    (poll ∷ new (codes "a") ∷ new (codes "b") ∷ field (codes "e") (value 0) 1
    ∷ same (codes "c") (value 0) (value 2) (value 1) (value 1)
    ∷ same (codes "sp.s0") (value 1) (value 1) (value 0) (value 2) ∷ gives (codes "d") Xor (Int 1) (value 4 ∷ literal 1 ∷ [])
    ∷ compare (codes "f") Ne Ptr (value 0) (value 1)
    ∷ same (codes "sp.s1") (value 0) (value 2) (value 0) (value 2) ∷ gives (codes "h") Xor (Int 1) (value 7 ∷ literal 1 ∷ [])
    ∷ return (literal 0) ∷ []) ∷ [])
unfolding digits derived_marks
of_each_based = refl

of_each_table : base_table (placed of_each)
    ≡ value 0 ∷ value 1 ∷ value 0 ∷ value 3 ∷ value 4 ∷ value 5 ∷ value 6 ∷ value 7 ∷ value 8 ∷ []
unfolding derived_marks
of_each_table = refl
