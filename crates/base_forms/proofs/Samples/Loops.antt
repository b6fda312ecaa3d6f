-- Derived pointers that go round a loop, and the loop's poll.
use Rattle.std.proofs.Common.{◌≡◌, [], ◌∷◌, refl, codes}
use Rattle.std.specs.Fmt.{digits}
use Rattle.ir_ast.specs.declared.ops.Op.TheVariants.{Add}
use Rattle.ir_ast.specs.declared.ops.Pred.TheVariants.{Ult}
use Rattle.ir_ast.specs.declared.types.Ty.TheVariants.{Int, Ptr}
use Rattle.ir_ast.specs.Funcs.{Function}
use Rattle.base_forms.specs.Polls.{placed}
use Rattle.base_forms.specs.DerivedMarks.{derived_marks}
use Rattle.base_forms.specs.Based.{based, base_table}
use Rattle.base_forms.proofs.Samples.{value, literal, gives, new, print, poll, check, load, store, field, compare, phi, jump, branch, return, block, main}

-- a pointer into the object of the turn before
abbrev of_old : Function
of_old = main
    (block (codes "entry")
    (new (codes "a") ∷ new (codes "b") ∷ field (codes "g") (value 0) 1 ∷ store Ptr (value 1) (value 2) ∷ field (codes "d0") (value 1) 0 ∷ jump 1 ∷ [])
    ∷ block (codes "loop")
    (phi (codes "cur") Ptr (value 0 ∷ value 10 ∷ []) (0 ∷ 1 ∷ []) ∷ phi (codes "old") Ptr (value 3 ∷ value 8 ∷ []) (0 ∷ 1 ∷ [])
    ∷ phi (codes "n") (Int 64) (literal 0 ∷ value 11 ∷ []) (0 ∷ 1 ∷ []) ∷ load (codes "v") (Int 64) (value 5) ∷ print (value 7)
    ∷ field (codes "d") (value 4) 0 ∷ field (codes "h") (value 4) 1 ∷ load (codes "nxt") Ptr (value 9)
    ∷ gives (codes "n1") Add (Int 64) (value 6 ∷ literal 1 ∷ []) ∷ compare (codes "t") Ult (Int 64) (value 11) (literal 2)
    ∷ branch (value 12) 1 2 ∷ [])
    ∷ block (codes "done") (return (literal 0) ∷ []) ∷ [])

of_old_based : based (placed of_old) ≡ main
    (block (codes "entry")
    (poll ∷ new (codes "a") ∷ new (codes "b") ∷ field (codes "g") (value 0) 1 ∷ check (value 0) (value 2) 1 ∷ store Ptr (value 1) (value 2)
    ∷ field (codes "d0") (value 1) 0 ∷ jump 1 ∷ [])
    ∷ block (codes "loop")
    (phi (codes "cur") Ptr (value 0 ∷ value 11 ∷ []) (0 ∷ 1 ∷ [])
    ∷ phi (codes "sp.b0") Ptr (value 1 ∷ value 4 ∷ []) (0 ∷ 1 ∷ []) ∷ phi (codes "old") Ptr (value 3 ∷ value 9 ∷ []) (0 ∷ 1 ∷ [])
    ∷ phi (codes "n") (Int 64) (literal 0 ∷ value 12 ∷ []) (0 ∷ 1 ∷ [])
    ∷ check (value 5) (value 6) 0 ∷ load (codes "v") (Int 64) (value 6) ∷ print (value 8)
    ∷ field (codes "d") (value 4) 0 ∷ field (codes "h") (value 4) 1 ∷ check (value 4) (value 10) 1 ∷ load (codes "nxt") Ptr (value 10)
    ∷ gives (codes "n1") Add (Int 64) (value 7 ∷ literal 1 ∷ []) ∷ compare (codes "t") Ult (Int 64) (value 12) (literal 2)
    ∷ poll ∷ branch (value 13) 1 2 ∷ [])
    ∷ block (codes "done") (return (literal 0) ∷ []) ∷ [])
unfolding digits derived_marks
of_old_based = refl

of_old_table : base_table (placed of_old)
    ≡ value 0 ∷ value 1 ∷ value 0 ∷ value 1 ∷ value 4 ∷ value 5 ∷ value 5 ∷ value 7 ∷ value 8 ∷ value 4 ∷ value 4 ∷ value 11 ∷ value 12
    ∷ value 13 ∷ []
unfolding derived_marks
of_old_table = refl

-- a phi of a derived phi in an inner loop, which comes back to the outer one
abbrev of_nested : Function
of_nested = main
    (block (codes "entry") (new (codes "a") ∷ field (codes "g") (value 0) 1 ∷ jump 1 ∷ [])
    ∷ block (codes "outer") (phi (codes "p") Ptr (value 1 ∷ value 3 ∷ []) (0 ∷ 2 ∷ []) ∷ jump 2 ∷ [])
    ∷ block (codes "inner")
    (phi (codes "q") Ptr (value 2 ∷ value 3 ∷ []) (1 ∷ 2 ∷ []) ∷ load (codes "v") (Int 64) (value 3)
    ∷ compare (codes "t") Ult (Int 64) (value 4) (literal 2) ∷ branch (value 5) 2 1 ∷ []) ∷ [])

of_nested_based : based (placed of_nested) ≡ main
    (block (codes "entry") (poll ∷ new (codes "a") ∷ field (codes "g") (value 0) 1 ∷ jump 1 ∷ [])
    ∷ block (codes "outer")
    (phi (codes "sp.b0") Ptr (value 0 ∷ value 4 ∷ []) (0 ∷ 2 ∷ []) ∷ phi (codes "p") Ptr (value 1 ∷ value 5 ∷ []) (0 ∷ 2 ∷ []) ∷ jump 2 ∷ [])
    ∷ block (codes "inner")
    (phi (codes "sp.b1") Ptr (value 2 ∷ value 4 ∷ []) (1 ∷ 2 ∷ []) ∷ phi (codes "q") Ptr (value 3 ∷ value 5 ∷ []) (1 ∷ 2 ∷ [])
    ∷ check (value 4) (value 5) 0 ∷ load (codes "v") (Int 64) (value 5)
    ∷ compare (codes "t") Ult (Int 64) (value 6) (literal 2) ∷ poll ∷ branch (value 7) 2 1 ∷ []) ∷ [])
unfolding digits derived_marks
of_nested_based = refl
