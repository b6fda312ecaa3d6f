-- The numbers of values, block by block and line by line.
use Rattle.std.proofs.Common.{◌≡◌, ℕ, zero, suc, ◌+◌, ◌≤◌, ◌<◌, List, [], ◌∷◌, ◌++◌, length, take, get_or, refl, ap, sym, arith, append-nil, inl, inr, ◌∙◌}
use Rattle.std.specs.Prelude.{Some, slice_get, is_some}
use Rattle.std.proofs.lemmas.Bool.{cases_Bool}
use Rattle.std.proofs.Math.Seq.{take-suc}
use Rattle.std.proofs.lemmas.Grind.{flat_map-append}
use Rattle.std.proofs.lemmas.Option.{slice_get-get_or}
use Rattle.std.proofs.lemmas.List.{length-append}
use Rattle.ir_ast.specs.Insts.{Instruction}
use Rattle.ir_ast.specs.Blocks.{BasicBlock}
use Rattle.ir_ast.specs.Funcs.{instructions_of}
use Rattle.object_meaning.specs.Lines.{following, after_all, first_registers}
use Rattle.object_meaning.proofs.LineLaws.{following_few, after_few}
use Rattle.list_laws.proofs.Places.{get_read, take_item}

pub firsts_push : (next : ℕ) (block : BasicBlock) (blocks : List BasicBlock) (numbers : List ℕ)
    → (numbers ++ next ∷ []) ++ first_registers (after_all next block.insts) blocks ≡ numbers ++ first_registers next (block ∷ blocks)
firsts_push next block blocks [] = refl
firsts_push next block blocks (n ∷ numbers) = ap (λ (ns : List ℕ). n ∷ ns) (firsts_push next block blocks numbers)

pub block_grown : (blocks : List BasicBlock) (at : ℕ) (block : BasicBlock) → at < length blocks → block ≡ get_or blocks at block
    → length (instructions_of (take (at + 1) blocks)) ≡ length (instructions_of (take at blocks)) + length block.insts
block_grown blocks at block below is =
    let more = take_item blocks at block below is in
    let split : instructions_of (take at blocks ++ block ∷ []) ≡ instructions_of (take at blocks) ++ instructions_of (block ∷ []) =
    flat_map-append (λ (block : BasicBlock). block.insts) (take at blocks) (block ∷ []) in
    let one : instructions_of (block ∷ []) ≡ block.insts = append-nil block.insts in
    ap (λ (bs : List BasicBlock). length (instructions_of bs)) more ∙ ap length split
    ∙ length-append (instructions_of (take at blocks)) (instructions_of (block ∷ []))
    ∙ ap (λ (is : List Instruction). length (instructions_of (take at blocks)) + length is) one

room : (blocks : List BasicBlock) (at : ℕ) (block : BasicBlock) → slice_get blocks at ≡ Some block
    → length (instructions_of (take at blocks)) + length block.insts ≤ length (instructions_of blocks)
room [] at block is = absurd (cc)
room (one ∷ blocks) zero block is =
    let e : one ≡ block = cc in
    let split = length-append one.insts (instructions_of blocks) in
    let same = ap (λ (b : BasicBlock). length b.insts) e in
    omega (arith, split, same)
room (one ∷ blocks) (suc at) block is =
    let split = length-append one.insts (instructions_of blocks) in
    let front = length-append one.insts (instructions_of (take at blocks)) in
    let rest = room blocks at block is in
    omega (arith, split, front, rest)

pub block_room : (blocks : List BasicBlock) (at : ℕ) (block : BasicBlock) → at < length blocks → block ≡ get_or blocks at block
    → length (instructions_of (take at blocks)) + length block.insts ≤ length (instructions_of blocks)
block_room blocks at block below is = room blocks at block (get_read blocks at block below is)

pub first_small : (next : ℕ) (blocks : List BasicBlock) (number : ℕ) → get_or (first_registers next blocks) number 0 ≤ next + length (instructions_of (take number blocks))
first_small next [] zero = omega arith
first_small next [] (suc number) = omega arith
first_small next (block ∷ blocks) zero = omega arith
first_small next (block ∷ blocks) (suc number) =
    let rest = first_small (after_all next block.insts) blocks number in
    let here = after_few next block.insts in
    let split = length-append block.insts (instructions_of (take number blocks)) in
    omega (arith, rest, here, split)
