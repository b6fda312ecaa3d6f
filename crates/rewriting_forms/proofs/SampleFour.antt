-- Inserted phis that go and that stay, worked by hand.
use Rattle.std.proofs.Common.{◌≡◌, ℕ, true, false, List, [], ◌∷◌, Option, Some, None, refl}
use Rattle.std.specs.Prelude.{codes}
use Rattle.sp_ids.specs.declared.ids.BlockId.{BlockId}
use Rattle.ir_ast.specs.declared.types.Ty.{Ty}
use Rattle.ir_ast.specs.declared.types.Ty.TheVariants.{Void, Int as I, Ptr}
use Rattle.ir_ast.specs.declared.ops.Operand.{Operand}
use Rattle.ir_ast.specs.declared.ops.Operand.TheVariants.{Value, Int as Literal}
use Rattle.ir_ast.specs.declared.ops.Callee.TheVariants.{New, Poll, Check}
use Rattle.ir_ast.specs.declared.ops.Op.{Op}
use Rattle.ir_ast.specs.declared.ops.Op.TheVariants.{Call, Br, CondBr, Ret}
use Rattle.ir_ast.specs.Insts.{Instruction}
use Rattle.ir_ast.specs.Blocks.{BasicBlock}
use Rattle.ir_ast.specs.Funcs.{Function}
use Rattle.rewriting_forms.specs.Names.{relocated, joined, full_naming, least_naming}

abbrev i : Option (List ℕ) → Op → Ty → List Operand → List ℕ → Instruction
i result op ty operands labels = record { result = result; op = op; ty = ty; operands = operands; labels = at labels; bundle = [] }
  where
    at : List ℕ → List BlockId
    at [] = []
    at (n ∷ ns) = record { 0 = n } ∷ at ns

abbrev block : List ℕ → List Instruction → BasicBlock
block name insts = record { name = name; insts = insts }

-- a call that may move the object
abbrev moved : List Instruction → List Instruction
moved rest = i None (Call Poll []) Void [] [] ∷ rest

-- the object, and such a call
abbrev made : List Instruction → List Instruction
made rest = i (Some (codes "o")) (Call (New 0) ((I 64) ∷ [])) Ptr (Literal 1 ∷ []) [] ∷ moved rest

abbrev to : ℕ → List Instruction
to n = i None Br Void [] (n ∷ []) ∷ []

abbrev to_one : ℕ → ℕ → List Instruction
to_one n m = i None CondBr (I 1) (Literal 1 ∷ []) (n ∷ m ∷ []) ∷ []

abbrev used : List Instruction → List Instruction
used rest = i None (Call Check (Ptr ∷ Ptr ∷ (I 64) ∷ [])) Void (object ∷ object ∷ Literal 0 ∷ []) [] ∷ rest
  where
    object : Operand
    object = Value (record { 0 = 0 })

abbrev last : List Instruction
last = i None Ret (I 64) (Literal 0 ∷ []) [] ∷ []

abbrev main : List BasicBlock → Function
main blocks = record { name = codes "main"; answer = (I 64); args = []; blocks = blocks }

abbrev bases : List Operand
bases = Value (record { 0 = 0 }) ∷ []

-- both ways bring one name: the phi goes
abbrev ways_alike : Function
ways_alike = main (
    block (codes "entry") (made (to_one 1 2))
    ∷ block (codes "l") (to 3)
    ∷ block (codes "r") (to 3)
    ∷ block (codes "j") (used last)
    ∷ []
    )

alike_is_inserted : (full_naming ways_alike bases).joins 3 0 ≡ true
alike_is_inserted = refl

alike_goes : (least_naming ways_alike bases).joins 3 0 ≡ false
alike_goes = refl

alike_becomes : (least_naming ways_alike bases).front 3 0 ≡ relocated 0 1 0
alike_becomes = refl

-- one of them has a call more: it stays
abbrev ways_apart : Function
ways_apart = main (
    block (codes "entry") (made (to_one 1 2))
    ∷ block (codes "l") (moved (to 3))
    ∷ block (codes "r") (to 3)
    ∷ block (codes "j") (used last)
    ∷ []
    )

apart_stays : (least_naming ways_apart bases).joins 3 0 ≡ true
apart_stays = refl

apart_becomes : (least_naming ways_apart bases).front 3 0 ≡ joined 3 0
apart_becomes = refl

-- a loop without a call brings the phi itself: it goes
abbrev still_loop : Function
still_loop = main (
    block (codes "entry") (made (to 1))
    ∷ block (codes "loop") (used (to_one 1 2))
    ∷ block (codes "end") last
    ∷ []
    )

still_goes : (least_naming still_loop bases).joins 1 0 ≡ false
still_goes = refl

still_becomes : (least_naming still_loop bases).front 1 0 ≡ relocated 0 1 0
still_becomes = refl

-- a loop with a call brings the relocate behind it: it stays
abbrev moving_loop : Function
moving_loop = main (
    block (codes "entry") (made (to 1))
    ∷ block (codes "loop") (used (moved (to_one 1 2)))
    ∷ block (codes "end") last
    ∷ []
    )

moving_stays : (least_naming moving_loop bases).joins 1 0 ≡ true
moving_stays = refl

-- ways that meet in a loop: the inner phi has the outer one alone and goes, then the outer one has itself and goes
abbrev ways_in_a_loop : Function
ways_in_a_loop = main (
    block (codes "entry") (made (to 1))
    ∷ block (codes "loop") (used (to_one 2 3))
    ∷ block (codes "l") (to 4)
    ∷ block (codes "r") (to 4)
    ∷ block (codes "j") (used (to_one 1 5))
    ∷ block (codes "end") last
    ∷ []
    )

inner_goes : (least_naming ways_in_a_loop bases).joins 4 0 ≡ false
inner_goes = refl

outer_goes : (least_naming ways_in_a_loop bases).joins 1 0 ≡ false
outer_goes = refl

inner_becomes : (least_naming ways_in_a_loop bases).front 4 0 ≡ relocated 0 1 0
inner_becomes = refl

-- a loop with two entries: the phis have each other and one further name, so each has two others, and both stay
abbrev two_entries : Function
two_entries = main (
    block (codes "entry") (made (to_one 1 2))
    ∷ block (codes "l") (used (to_one 2 3))
    ∷ block (codes "r") (used (to 1))
    ∷ block (codes "end") last
    ∷ []
    )

first_stays : (least_naming two_entries bases).joins 1 0 ≡ true
first_stays = refl

second_stays : (least_naming two_entries bases).joins 2 0 ≡ true
second_stays = refl
