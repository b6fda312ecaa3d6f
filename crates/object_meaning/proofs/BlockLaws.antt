-- The instructions of the blocks in front.
use Rattle.std.proofs.Common.{◌≡◌, ◌∙◌, ℕ, ◌+◌, ◌<◌, ◌≤◌, List, [], ◌∷◌, ◌++◌, length, get_or, take, drop, refl, ap, sym, arith, append-nil}
use Rattle.std.specs.Prelude.{map}
use Rattle.std.proofs.lemmas.List.{length-append, take_more, take-append-drop}
use Rattle.std.proofs.lemmas.Grind.{flat_map-append}
use Rattle.ir_ast.specs.Insts.{Instruction}
use Rattle.ir_ast.specs.Blocks.{BasicBlock}
use Rattle.ir_ast.specs.Funcs.{instructions_of}

-- the instructions of some blocks and of the next one are among all
pub within_blocks : (blocks yielded : List BasicBlock) (block : BasicBlock) → map (λ y. y) yielded ≡ take (length yielded) blocks
    → (length yielded < length blocks) × (block ≡ get_or blocks (length yielded) block)
    → length (instructions_of yielded) + length block.insts ≤ length (instructions_of blocks)
within_blocks blocks yielded block so_far turn =
    let n = length yielded in
    let same : yielded ≡ take n blocks = sym (map_same yielded) ∙ so_far in
    let front : instructions_of (take (n + 1) blocks) ≡ instructions_of (take n blocks) ++ (get_or blocks n block).insts =
    ap instructions_of (take_more blocks n block turn.0) ∙ flat_map-append (λ (b : BasicBlock). b.insts) (take n blocks) (get_or blocks n block ∷ [])
    ∙ ap (λ (zs : List Instruction). instructions_of (take n blocks) ++ zs) (append-nil (get_or blocks n block).insts) in
    let whole : instructions_of blocks ≡ instructions_of (take (n + 1) blocks) ++ instructions_of (drop (n + 1) blocks) =
    ap instructions_of (sym (take-append-drop (n + 1) blocks)) ∙ flat_map-append (λ (b : BasicBlock). b.insts) (take (n + 1) blocks) (drop (n + 1) blocks) in
    omega (
      arith,
      ap length whole,
      ap length front,
      length-append (instructions_of (take (n + 1) blocks)) (instructions_of (drop (n + 1) blocks)),
      length-append (instructions_of (take n blocks)) (get_or blocks n block).insts,
      ap (λ (b : BasicBlock). length b.insts) turn.1,
      ap (λ (bs : List BasicBlock). length (instructions_of bs)) same,
    )
  where
    map_same : (bs : List BasicBlock) → map (λ y. y) bs ≡ bs
    map_same [] = refl
    map_same (b ∷ bs) = ap (λ zs. b ∷ zs) (map_same bs)

pub instructions-push : (blocks : List BasicBlock) (block : BasicBlock) → instructions_of (blocks ++ block ∷ []) ≡ instructions_of blocks ++ block.insts
instructions-push blocks block =
    flat_map-append (λ (b : BasicBlock). b.insts) blocks (block ∷ []) ∙ ap (λ (zs : List Instruction). instructions_of blocks ++ zs) (append-nil block.insts)
