-- The instructions of a function without its unreached blocks, each by the one that it was.
use Rattle.std.proofs.Common.{◌≡◌, ℕ, zero, suc, Bool, List, [], ◌∷◌, ◌++◌, map, refl, ap, sym, Some, slice_get, ◌∙◌, subst}
use Rattle.std.specs.List.{All}
use Rattle.std.proofs.lemmas.List.{map-append}
use Rattle.std.proofs.lemmas.List.Elements.{All-nil, All-append}
use Rattle.std.proofs.lemmas.Option.{none-some, same_Some}
use Rattle.list_laws.proofs.Places.{get_map, map_back}
use Rattle.list_laws.proofs.Contents.{all_at, all_back, all_from_at, all_front}
use Rattle.sp_ids.specs.declared.ids.BlockId.{BlockId}
use Rattle.ir_ast.specs.declared.ops.Op.{Op}
use Rattle.ir_ast.specs.declared.ops.Op.TheVariants.{Phi}
use Rattle.ir_ast.specs.declared.ops.Operand.{Operand}
use Rattle.ir_ast.specs.Insts.{Instruction}
use Rattle.ir_ast.specs.Blocks.{BasicBlock}
use Rattle.ir_ast.specs.Funcs.{Function, instructions_of}
use Rattle.ir_cfg.specs.DefiniteUses.{Stands}
use Rattle.graph_search.specs.Paths.{Marked}
use Rattle.ir_cfg.specs.Unreached.{Kept, kept_of, kept_by, operand_kept, label_kept, has_mark, operands_kept, labels_kept, inst_kept, block_kept, function_kept}
use Rattle.ir_cfg.proofs.KeepsPlaces.{filter_kept, kept_back, kept_get, marks_before}

-- the operands and labels that a line keeps, with their old numbers
abbrev pub operands_left : Kept → Op → List BlockId → List Operand → List Operand
operands_left kept Phi labels operands = kept_of (map (has_mark kept) labels) operands
operands_left kept op labels operands = operands

abbrev pub labels_left : Kept → Op → List BlockId → List BlockId
labels_left kept Phi labels = kept_of (map (has_mark kept) labels) labels
labels_left kept op labels = labels

abbrev pub inst_left : Kept → Instruction → Instruction
inst_left kept inst = record inst {
  operands = operands_left kept inst.op inst.labels inst.operands;
  labels = labels_left kept inst.op inst.labels;
}

-- the same line with new numbers
abbrev pub inst_new : Kept → Instruction → Instruction
inst_new kept inst = record inst {
  operands = map (operand_kept kept) inst.operands;
  labels = map (label_kept kept) inst.labels;
  bundle = map (λ entry. (entry.0, operand_kept kept entry.1)) inst.bundle;
}

operands_two : (kept : Kept) (op : Op) (labels : List BlockId) (operands : List Operand)
    → operands_kept kept op labels operands ≡ map (operand_kept kept) (operands_left kept op labels operands)
operands_two kept Phi labels operands = refl
operands_two kept op labels operands = refl

labels_two : (kept : Kept) (op : Op) (labels : List BlockId) → labels_kept kept op labels ≡ map (label_kept kept) (labels_left kept op labels)
labels_two kept Phi labels = ap (map (label_kept kept)) (filter_kept (has_mark kept) labels)
labels_two kept op labels = refl

same_parts : (inst : Instruction) (kept : Kept) (operands operands' : List Operand) (labels labels' : List BlockId)
    → operands ≡ operands' → labels ≡ labels'
    → (let one : Instruction = record inst { operands = operands; labels = labels; bundle = map (λ entry. (entry.0, operand_kept kept entry.1)) inst.bundle } in one)
    ≡ (let two : Instruction = record inst { operands = operands'; labels = labels'; bundle = map (λ entry. (entry.0, operand_kept kept entry.1)) inst.bundle } in two)
same_parts inst kept operands operands' labels labels' same_operands same_labels = rw (same_operands, same_labels) refl

-- a line loses entries, and then it gets new numbers
pub two_steps : (kept : Kept) (inst : Instruction) → inst_kept kept inst ≡ inst_new kept (inst_left kept inst)
two_steps kept inst = same_parts inst kept _ _ _ _ (operands_two kept inst.op inst.labels inst.operands) (labels_two kept inst.op inst.labels)

-- an instruction of a block that has a mark
pub record IsKept (marks : List Bool) (func : Function) (inst : Instruction) : Type 0 where
  pub number : ℕ
  pub place : ℕ
  pub marked : Marked marks number
  pub stands : Stands func number place inst

-- what an instruction of the new function comes from
pub record LineOrigin (marks : List Bool) (func : Function) (number place : ℕ) (inst : Instruction) : Type 0 where
  pub old : Instruction
  pub block : ℕ
  pub marked : Marked marks block
  pub same_block : marks_before marks block ≡ number
  pub stands : Stands func block place old
  pub is : inst ≡ inst_kept (kept_by marks func) old

pub stands_kept : (marks : List Bool) (func : Function) (number place : ℕ) (inst : Instruction) → Marked marks number
    → Stands func number place inst
    → Stands (function_kept marks func) (marks_before marks number) place (inst_kept (kept_by marks func) inst)
stands_kept marks func number place inst marked stands = record {
  block = block_kept (kept_by marks func) stands.block;
  in_function = get_map (block_kept (kept_by marks func)) (kept_of marks func.blocks) (marks_before marks number) stands.block
      (kept_get marks func.blocks number stands.block marked stands.in_function);
  in_block = get_map (inst_kept (kept_by marks func)) stands.block.insts place inst stands.in_block;
}

-- what a block of the new function comes from
pub record BlockOrigin (marks : List Bool) (func : Function) (number : ℕ) (block : BasicBlock) : Type 0 where
  pub old : BasicBlock
  pub place : ℕ
  pub marked : Marked marks place
  pub same : marks_before marks place ≡ number
  pub stands : slice_get func.blocks place ≡ Some old
  pub is : block ≡ block_kept (kept_by marks func) old

pub block_back : (marks : List Bool) (func : Function) (number : ℕ) (block : BasicBlock)
    → slice_get (function_kept marks func).blocks number ≡ Some block → BlockOrigin marks func number block
block_back marks func number block is =
    let m = map_back (block_kept (kept_by marks func)) (kept_of marks func.blocks) number block is in
    let o = kept_back marks func.blocks number m.before m.stands in
    record { old = m.before; place = o.place; marked = o.marked; same = o.number; stands = o.stands; is = m.is }

pub block_forth : (marks : List Bool) (func : Function) (number : ℕ) (block : BasicBlock) → Marked marks number
    → slice_get func.blocks number ≡ Some block
    → slice_get (function_kept marks func).blocks (marks_before marks number) ≡ Some (block_kept (kept_by marks func) block)
block_forth marks func number block marked is =
    get_map (block_kept (kept_by marks func)) (kept_of marks func.blocks) (marks_before marks number) block
    (kept_get marks func.blocks number block marked is)

pub stands_back : (marks : List Bool) (func : Function) (number place : ℕ) (inst : Instruction)
    → Stands (function_kept marks func) number place inst → LineOrigin marks func number place inst
stands_back marks func number place inst stands =
    let b = block_back marks func number stands.block stands.in_function in
    let same_insts : stands.block.insts ≡ map (inst_kept (kept_by marks func)) b.old.insts = ap (λ (x : BasicBlock). x.insts) b.is in
    let there : slice_get (map (inst_kept (kept_by marks func)) b.old.insts) place ≡ Some inst =
    subst (λ (insts : List Instruction). slice_get insts place ≡ Some inst) same_insts stands.in_block in
    let m = map_back (inst_kept (kept_by marks func)) b.old.insts place inst there in
    record {
      old = m.before;
      block = b.place;
      marked = b.marked;
      same_block = b.same;
      stands = record { block = b.old; in_function = b.stands; in_block = m.stands };
      is = m.is;
    }

-- what holds of each instruction of each block
pub all_insts : (P : Instruction → Type 0) (blocks : List BasicBlock)
    → ((number place : ℕ) (block : BasicBlock) (inst : Instruction) → slice_get blocks number ≡ Some block
    → slice_get block.insts place ≡ Some inst → P inst) → All P (instructions_of blocks)
all_insts P [] each = All-nil P
all_insts P (block ∷ blocks) each =
    All-append P block.insts (instructions_of blocks)
    (all_from_at P block.insts (λ place inst in_block. each 0 place block inst refl in_block))
    (all_insts P blocks (λ number place one inst in_blocks in_block. each (suc number) place one inst in_blocks in_block))

pub inst_at : (P : Instruction → Type 0) (blocks : List BasicBlock) (number place : ℕ) (block : BasicBlock) (inst : Instruction)
    → slice_get blocks number ≡ Some block → slice_get block.insts place ≡ Some inst → All P (instructions_of blocks) → P inst
inst_at P [] number place block inst in_blocks in_block all = absurd (none-some block in_blocks)
inst_at P (first ∷ blocks) zero place block inst in_blocks in_block all =
    let same : first ≡ block = same_Some first block in_blocks in
    let there : slice_get first.insts place ≡ Some inst =
    subst (λ (b : BasicBlock). slice_get b.insts place ≡ Some inst) (sym same) in_block in
    all_at P first.insts place inst (all_front P first.insts (instructions_of blocks) all) there
inst_at P (first ∷ blocks) (suc number) place block inst in_blocks in_block all =
    inst_at P blocks number place block inst in_blocks in_block (all_back P first.insts (instructions_of blocks) all)

pub line_at : (P : Instruction → Type 0) (func : Function) (number place : ℕ) (inst : Instruction) → Stands func number place inst
    → All P (instructions_of func.blocks) → P inst
line_at P func number place inst stands all =
    inst_at P func.blocks number place stands.block inst stands.in_function stands.in_block all

-- what holds of each line of the new function, as what it comes from
pub all_lines : (P : Instruction → Type 0) (marks : List Bool) (func : Function)
    → ((inst : Instruction) → IsKept marks func inst → P (inst_kept (kept_by marks func) inst))
    → All P (instructions_of (function_kept marks func).blocks)
all_lines P marks func each =
    all_insts P (function_kept marks func).blocks (λ number place block inst in_blocks in_block.
    let stands : Stands (function_kept marks func) number place inst = record { block = block; in_function = in_blocks; in_block = in_block } in
    let o = stands_back marks func number place inst stands in
    subst P (sym o.is) (each o.old (record { number = o.block; place = place; marked = o.marked; stands = o.stands })))

pub instructions_mapped : (kept : Kept) (blocks : List BasicBlock)
    → instructions_of (map (block_kept kept) blocks) ≡ map (inst_kept kept) (instructions_of blocks)
instructions_mapped kept [] = refl
instructions_mapped kept (block ∷ blocks) =
    ap (λ zs. map (inst_kept kept) block.insts ++ zs) (instructions_mapped kept blocks)
    ∙ sym (map-append (inst_kept kept) block.insts (instructions_of blocks))
