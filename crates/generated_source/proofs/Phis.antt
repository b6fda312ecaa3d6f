-- Phis at the heads of their blocks.
use Rattle.std.proofs.Common.{◌≡◌, ◌≢◌, ℕ, zero, suc, Bool, true, false, not, List, [], ◌∷◌, ◌++◌, Option, Some, None, refl, sym, ap, subst, arith}
use Rattle.std.specs.Prelude.{slice_get}
use Rattle.std.specs.List.{list_all}
use Rattle.std.proofs.lemmas.Bool.{false≢true, and_parts}
use Rattle.sp_ids.specs.declared.ids.BlockId.{BlockId}
use Rattle.ir_ast.specs.declared.types.Ty.{Ty}
use Rattle.ir_ast.specs.declared.ops.Operand.{Operand}
use Rattle.ir_ast.specs.Insts.{Instruction}
use Rattle.ir_ast.specs.Blocks.{BasicBlock}
use Rattle.ir_ast.specs.Funcs.{Function}
use Rattle.ir_ast.specs.Faults.PhiEdges.{is_phi, PhiIsRight, PhisAreRight}
use Rattle.generated_forms.specs.Lines.{block, phi_line, jump_line}
use Rattle.list_laws.proofs.Tests.{all_passes}

unfoldable pub plain : Instruction → Bool
plain inst = not (is_phi inst.op)

middle_passes : (before after : List Instruction) (inst : Instruction) → list_all plain (before ++ inst ∷ after) ≡ true → plain inst ≡ true
middle_passes [] after inst all = (and_parts (plain inst) (list_all plain after) all).0
middle_passes (first ∷ before) after inst all = middle_passes before after inst (and_parts (plain first) (list_all plain (before ++ inst ∷ after)) all).1

no_phi : (inst : Instruction) → plain inst ≡ true → is_phi inst.op ≡ true → ⊥
unfolding plain
no_phi inst all_passes is = false≢true (rw is at all_passes)

unfoldable pub rest_plain : List Instruction → Bool
rest_plain [] = true
rest_plain (inst ∷ insts) = list_all plain insts

-- only the first line of a block may be a phi
unfoldable pub phis_first : Function → Bool
phis_first func = list_all (λ (block : BasicBlock). rest_plain block.insts) func.blocks

head_is : List Instruction → Bool
head_is [] = false
head_is (inst ∷ insts) = is_phi inst.op

unfoldable pub head_of : List Instruction → Instruction
head_of [] = jump_line 0
head_of (inst ∷ insts) = inst

-- the head of each block that is a phi is right
abbrev pub HeadsAreRight : Function → Type 0
HeadsAreRight func = (number : ℕ) (block : BasicBlock) → slice_get func.blocks number ≡ Some block → is_phi (head_of block.insts).op ≡ true
    → PhiIsRight func number [] (head_of block.insts)

pub phis_right : (func : Function) → phis_first func ≡ true → HeadsAreRight func → PhisAreRight func
unfolding phis_first rest_plain head_of
phis_right func all heads number block [] after phi at whole is =
    let same : head_of block.insts ≡ phi = ap head_of whole in
    subst (λ (p : Instruction). PhiIsRight func number [] p) same (heads number block at (subst (λ (p : Instruction). is_phi p.op ≡ true) (sym same) is))
phis_right func all heads number block (first ∷ before) after phi at whole is =
    let rest : rest_plain block.insts ≡ true = all_passes (λ (b : BasicBlock). rest_plain b.insts) func.blocks number block all at in
    let inside : list_all plain (before ++ phi ∷ after) ≡ true = subst (λ (insts : List Instruction). rest_plain insts ≡ true) whole rest in
    absurd (no_phi phi (middle_passes before after phi inside) is)

-- no line of any block is a phi
no_heads : (func : Function) → list_all (λ (block : BasicBlock). not (is_phi (head_of block.insts).op)) func.blocks ≡ true → HeadsAreRight func
no_heads func all number block at is =
    let passed : not (is_phi (head_of block.insts).op) ≡ true = all_passes (λ (b : BasicBlock). not (is_phi (head_of b.insts).op)) func.blocks number block all at in
    absurd (false≢true (rw is at passed))

pub none_right : (func : Function) → phis_first func ≡ true → list_all (λ (block : BasicBlock). not (is_phi (head_of block.insts).op)) func.blocks ≡ true → PhisAreRight func
none_right func first heads = phis_right func first (no_heads func heads)

number_of : Option BlockId → ℕ
number_of None = 0
number_of (Some label) = suc label.0

-- the entries of a phi of two blocks
pub two_entries : (name : List ℕ) (ty : Ty) (first : Operand) (from second other : ℕ) → from ≢ other → (j k : ℕ)
    → slice_get (phi_line name ty first from second other).labels j ≡ slice_get (phi_line name ty first from second other).labels k
    → slice_get (phi_line name ty first from second other).operands j ≡ slice_get (phi_line name ty first from second other).operands k
unfolding number_of
two_entries name ty first from second other apart zero zero same = refl
two_entries name ty first from second other apart zero (suc zero) same = absurd (apart (let e : suc from ≡ suc other = ap number_of same in omega arith))
two_entries name ty first from second other apart zero (suc (suc k)) same = absurd (let e : suc from ≡ 0 = ap number_of same in omega arith)
two_entries name ty first from second other apart (suc zero) zero same = absurd (apart (let e : suc other ≡ suc from = ap number_of same in omega arith))
two_entries name ty first from second other apart (suc zero) (suc zero) same = refl
two_entries name ty first from second other apart (suc zero) (suc (suc k)) same = absurd (let e : suc other ≡ 0 = ap number_of same in omega arith)
two_entries name ty first from second other apart (suc (suc j)) zero same = absurd (let e : 0 ≡ suc from = ap number_of same in omega arith)
two_entries name ty first from second other apart (suc (suc j)) (suc zero) same = absurd (let e : 0 ≡ suc other = ap number_of same in omega arith)
two_entries name ty first from second other apart (suc (suc j)) (suc (suc k)) same = refl
