-- Bases of phis and selects.
use Rattle.std.proofs.Common.{◌≡◌, [], ◌∷◌, refl, codes}
use Rattle.std.specs.Fmt.{digits}
use Rattle.ir_ast.specs.declared.ops.Pred.TheVariants.{Ne}
use Rattle.ir_ast.specs.declared.ops.Operand.TheVariants.{Null}
use Rattle.ir_ast.specs.declared.types.Ty.TheVariants.{Int, Ptr}
use Rattle.ir_ast.specs.Funcs.{Function}
use Rattle.base_forms.specs.Polls.{placed}
use Rattle.base_forms.specs.DerivedMarks.{derived_marks}
use Rattle.base_forms.specs.Based.{based, base_table}
use Rattle.base_forms.proofs.Samples.{value, literal, new, read, print, call, poll, check, load, store, field, byte, compare, phi, select, jump, branch, return, block, main}

-- a phi of pointers into two objects
abbrev of_two : Function
of_two = main
    (block (codes "entry")
    (new (codes "a") ∷ new (codes "b") ∷ store (Int 64) (literal 5) (value 0) ∷ store (Int 64) (literal 6) (value 1)
    ∷ read (codes "x") ∷ compare (codes "c") Ne (Int 64) (value 2) (literal 0) ∷ branch (value 3) 1 2 ∷ [])
    ∷ block (codes "l") (field (codes "p1") (value 0) 0 ∷ jump 3 ∷ [])
    ∷ block (codes "r") (field (codes "p2") (value 1) 0 ∷ jump 3 ∷ [])
    ∷ block (codes "j")
    (phi (codes "p") Ptr (value 4 ∷ value 5 ∷ []) (1 ∷ 2 ∷ []) ∷ call ∷ load (codes "v") (Int 64) (value 6) ∷ print (value 7)
    ∷ return (literal 0) ∷ []) ∷ [])

-- the phi of the bases stands directly before it
of_two_based : based (placed of_two) ≡ main
    (block (codes "entry")
    (poll ∷ new (codes "a") ∷ new (codes "b") ∷ check (value 0) (value 0) 0 ∷ store (Int 64) (literal 5) (value 0)
    ∷ check (value 1) (value 1) 0 ∷ store (Int 64) (literal 6) (value 1)
    ∷ read (codes "x") ∷ compare (codes "c") Ne (Int 64) (value 2) (literal 0) ∷ branch (value 3) 1 2 ∷ [])
    ∷ block (codes "l") (field (codes "p1") (value 0) 0 ∷ jump 3 ∷ [])
    ∷ block (codes "r") (field (codes "p2") (value 1) 0 ∷ jump 3 ∷ [])
    ∷ block (codes "j")
    (phi (codes "sp.b0") Ptr (value 0 ∷ value 1 ∷ []) (1 ∷ 2 ∷ []) ∷ phi (codes "p") Ptr (value 4 ∷ value 5 ∷ []) (1 ∷ 2 ∷ [])
    ∷ call ∷ check (value 6) (value 7) 0 ∷ load (codes "v") (Int 64) (value 7) ∷ print (value 8) ∷ return (literal 0) ∷ []) ∷ [])
unfolding digits derived_marks
of_two_based = refl

of_two_table : base_table (placed of_two) ≡ value 0 ∷ value 1 ∷ value 2 ∷ value 3 ∷ value 0 ∷ value 1 ∷ value 6 ∷ value 6 ∷ value 8 ∷ []
unfolding derived_marks
of_two_table = refl

-- a select, of which one operand is derived, a `getelementptr` of it, and a second select of both
abbrev of_selects : Function
of_selects = main
    (block (codes "entry")
    (new (codes "a") ∷ read (codes "x") ∷ compare (codes "c") Ne (Int 64) (value 1) (literal 0) ∷ field (codes "g") (value 0) 1
    ∷ select (codes "s") (value 2) (value 3) Null ∷ byte (codes "h") (value 4) 8
    ∷ select (codes "t") (value 2) (value 5) (value 0) ∷ load (codes "v") Ptr (value 6) ∷ return (literal 0) ∷ []) ∷ [])

of_selects_based : based (placed of_selects) ≡ main
    (block (codes "entry")
    (poll ∷ new (codes "a") ∷ read (codes "x") ∷ compare (codes "c") Ne (Int 64) (value 1) (literal 0) ∷ field (codes "g") (value 0) 1
    ∷ select (codes "sp.b0") (value 2) (value 0) Null ∷ select (codes "s") (value 2) (value 3) Null ∷ byte (codes "h") (value 5) 8
    ∷ select (codes "sp.b1") (value 2) (value 4) (value 0) ∷ select (codes "t") (value 2) (value 6) (value 0)
    ∷ check (value 7) (value 8) 1 ∷ load (codes "v") Ptr (value 8) ∷ return (literal 0) ∷ []) ∷ [])
unfolding digits derived_marks
of_selects_based = refl

of_selects_table : base_table (placed of_selects)
    ≡ value 0 ∷ value 1 ∷ value 2 ∷ value 0 ∷ value 4 ∷ value 4 ∷ value 4 ∷ value 7 ∷ value 7 ∷ value 9 ∷ []
unfolding derived_marks
of_selects_table = refl

-- a pointer without an object has the base `null`
abbrev of_null : Function
of_null = main
    (block (codes "entry") (byte (codes "p") Null 65536 ∷ byte (codes "q") (value 0) 8 ∷ load (codes "v") (Int 64) (value 1) ∷ return (value 2) ∷ []) ∷ [])

of_null_based : based (placed of_null) ≡ main
    (block (codes "entry")
    (poll ∷ byte (codes "p") Null 65536 ∷ byte (codes "q") (value 0) 8 ∷ check Null (value 1) 0 ∷ load (codes "v") (Int 64) (value 1)
    ∷ return (value 2) ∷ []) ∷ [])
unfolding derived_marks
of_null_based = refl

of_null_table : base_table (placed of_null) ≡ Null ∷ Null ∷ value 2 ∷ []
unfolding derived_marks
of_null_table = refl
