-- Lists of lines with polls.
use Rattle.std.proofs.Common.{◌≡◌, ◌∙◌, ℕ, zero, suc, ◌+◌, ◌-◌, ◌*◌, ◌<◌, ◌≤◌, ◌^◌, Bool, true, false, not, if◌then◌else◌, List, [], ◌∷◌, ◌++◌, length, get_or, map, take, Option, Some, slice_get, refl, ap, sym, arith, append_assoc}
use Rattle.std.specs.Option.{option_to_list}
use Rattle.std.specs.List.{flat_map, list_all, All}
use Rattle.std.proofs.Math.Seq.{take-append_seam, get_or-append_seam}
use Rattle.std.proofs.lemmas.List.{length-append}
use Rattle.std.proofs.lemmas.List.Folds.{list_all-append}
use Rattle.std.proofs.lemmas.List.Elements.{All-nil, All-cons, All-head, All-tail}
use Rattle.std.proofs.lemmas.Grind.{flat_map-append}
use Rattle.std.proofs.lemmas.Option.{same_Some}
use Rattle.list_laws.proofs.Places.{get_middle}
use Rattle.ir_ast.specs.declared.funcs.Arg.{Arg}
use Rattle.ir_ast.specs.Insts.{Instruction}
use Rattle.ir_ast.specs.Blocks.{BasicBlock, EndsAtTerminator}
use Rattle.ir_ast.specs.Funcs.{IsSmall, instructions_of}
use Rattle.ir_ast.specs.Ops.{is_terminator}
use Rattle.object_meaning.specs.Lines.{retreats}
use Rattle.base_forms.specs.Polls.{poll_call, front_poll, polled, placed_block, placed_from}

abbrev passes_by : Instruction → Bool
passes_by inst = not (is_terminator inst.op)

-- ---- one block

-- what is no terminator has no poll
polled-plain : (number : ℕ) (inst : Instruction) → is_terminator inst.op ≡ false → polled number inst ≡ inst ∷ []
polled-plain number inst plain = rw plain refl

inside_plain : (number : ℕ) (insts : List Instruction) → list_all passes_by insts ≡ true → flat_map (polled number) insts ≡ insts
inside_plain number [] none = refl
inside_plain number (inst ∷ insts) none =
    let first : is_terminator inst.op ≡ false = grind arith in
    let rest : list_all passes_by insts ≡ true = grind arith in
    rw (polled-plain number inst first, inside_plain number insts rest) refl

end_at : (before : List Instruction) (last : Instruction) → length (before ++ last ∷ []) - 1 ≡ length before
end_at before last = omega (arith, length-append before (last ∷ []))

polled_behind : (number : ℕ) (before left : List Instruction) (last : Instruction) (taken : Option Instruction)
    → list_all passes_by before ≡ true → left ≡ take (length (before ++ last ∷ []) - 1) (before ++ last ∷ [])
    → (0 < length (before ++ last ∷ []) → taken ≡ Some (get_or (before ++ last ∷ []) (length (before ++ last ∷ []) - 1) last))
    → left ++ flat_map (polled number) (option_to_list taken) ≡ flat_map (polled number) (before ++ last ∷ [])
polled_behind number before left last taken inside rest value =
    let front : left ≡ before = rest ∙ ap (λ n. take n (before ++ last ∷ [])) (end_at before last) ∙ take-append_seam before (last ∷ []) in
    let found : taken ≡ Some last =
    value (omega (arith, length-append before (last ∷ []))) ∙ ap (λ n. Some (get_or (before ++ last ∷ []) n last)) (end_at before last)
    ∙ ap (λ (inst : Instruction). Some inst) (get_or-append_seam before last [] last) in
    rw (front, found, flat_map-append (polled number) before (last ∷ []), inside_plain number before inside) refl

-- the polls of a block whose last instruction was taken out
pub polled_end : (number : ℕ) (insts left : List Instruction) (taken : Option Instruction) (ends : EndsAtTerminator insts)
    → left ≡ take (length insts - 1) insts → (0 < length insts → taken ≡ Some (get_or insts (length insts - 1) ends.last))
    → left ++ flat_map (polled number) (option_to_list taken) ≡ flat_map (polled number) insts
polled_end number insts left taken ends rest value =
    rw ends.whole
    (polled_behind number ends.before left ends.last taken ends.inside (rw ends.whole at rest) (rw ends.whole at value))

polled_not : (number : ℕ) (inst : Instruction) → retreats number inst ≡ false → polled number inst ≡ inst ∷ []
polled_not number inst not = rw not refl

-- a block whose last instruction doesn't lead back has no poll before it
pub none_back : (number : ℕ) (insts : List Instruction) (last : Instruction) → EndsAtTerminator insts
    → slice_get insts (length insts - 1) ≡ Some last → retreats number last ≡ false → flat_map (polled number) insts ≡ insts
none_back number insts last ends found not =
    let place : length insts - 1 ≡ length ends.before = omega (arith, length-append ends.before (ends.last ∷ []), ap length ends.whole) in
    let whole = ends.whole in
    let there : slice_get insts (length ends.before) ≡ Some ends.last = rw whole (get_middle ends.before ends.last []) in
    let at : slice_get insts (length ends.before) ≡ Some last = rw (← place) found in
    let same : ends.last ≡ last = same_Some ends.last last (sym there ∙ at) in
    let stays : retreats number ends.last ≡ false = rw same not in
    ap (flat_map (polled number)) whole ∙ flat_map-append (polled number) ends.before (ends.last ∷ [])
    ∙ ap (λ (front : List Instruction). front ++ flat_map (polled number) (ends.last ∷ [])) (inside_plain number ends.before ends.inside)
    ∙ ap (λ (end : List Instruction). ends.before ++ (end ++ [])) (polled_not number ends.last stays)
    ∙ sym whole

polls_pass_by : (polls : Bool) → list_all passes_by (if polls then poll_call ∷ [] else []) ≡ true
polls_pass_by true = refl
polls_pass_by false = refl

front_passes_by : (number : ℕ) → list_all passes_by (front_poll number) ≡ true
front_passes_by zero = refl
front_passes_by (suc number) = refl

-- a block with its polls ends as before
pub ends_placed : (number : ℕ) (insts : List Instruction) → EndsAtTerminator insts
    → EndsAtTerminator (front_poll number ++ flat_map (polled number) insts)
ends_placed number insts ends =
    let polls = if retreats number ends.last then poll_call ∷ [] else [] in
    record {
      before = front_poll number ++ (ends.before ++ polls);
      last = ends.last;
      whole = rw (ends.whole, flat_map-append (polled number) ends.before (ends.last ∷ []), inside_plain number ends.before ends.inside)
          (simp append_assoc);
      ends = ends.ends;
      inside = rw (list_all-append passes_by (front_poll number) (ends.before ++ polls), front_passes_by number, list_all-append passes_by ends.before polls, ends.inside)
          (polls_pass_by (retreats number ends.last));
    }

-- ---- all blocks

pub placed-push : (number : ℕ) (blocks : List BasicBlock) (block : BasicBlock)
    → placed_from number (blocks ++ block ∷ []) ≡ placed_from number blocks ++ placed_block (number + length blocks) block ∷ []
placed-push number [] block = ap (λ n. placed_block n block ∷ []) (omega arith)
placed-push number (first ∷ blocks) block =
    ap (λ zs. placed_block number first ∷ zs) (placed-push (suc number) blocks block
    ∙ ap (λ n. placed_from (suc number) blocks ++ placed_block n block ∷ []) (omega arith))

-- one block more
pub placed_more : (blocks : List BasicBlock) (block : BasicBlock) (number : ℕ) → number ≡ length blocks
    → placed_from 0 (blocks ++ block ∷ []) ≡ placed_from 0 blocks ++ placed_block number block ∷ []
placed_more blocks block number same =
    placed-push 0 blocks block ∙ ap (λ n. placed_from 0 blocks ++ placed_block n block ∷ []) (omega arith)

pub length-placed_from : (number : ℕ) (blocks : List BasicBlock) → length (placed_from number blocks) ≡ length blocks
length-placed_from number [] = refl
length-placed_from number (block ∷ blocks) = ap suc (length-placed_from (suc number) blocks)

few_polled_by : (polls : Bool) (inst : Instruction) → length ((if polls then poll_call ∷ [] else []) ++ inst ∷ []) ≤ 2
few_polled_by true inst = omega arith
few_polled_by false inst = omega arith

pub few_polled : (number : ℕ) (insts : List Instruction) → length (flat_map (polled number) insts) ≤ 2 * length insts
few_polled number [] = omega arith
few_polled number (inst ∷ insts) =
    omega (
      arith,
      few_polled number insts,
      few_polled_by (retreats number inst) inst,
      length-append (polled number inst) (flat_map (polled number) insts),
    )

pub few_behind : (number : ℕ) (blocks : List BasicBlock)
    → length (instructions_of (placed_from (suc number) blocks)) ≤ 2 * length (instructions_of blocks)
few_behind number [] = omega arith
few_behind number (block ∷ blocks) =
    omega (
      arith,
      few_behind (suc number) blocks,
      few_polled (suc number) block.insts,
      length-append (flat_map (polled (suc number)) block.insts) (instructions_of (placed_from (suc (suc number)) blocks)),
      length-append block.insts (instructions_of blocks),
    )

pub few_placed : (blocks : List BasicBlock) → length (instructions_of (placed_from 0 blocks)) ≤ 2 * length (instructions_of blocks) + 1
few_placed [] = omega arith
few_placed (block ∷ blocks) =
    omega (
      arith,
      few_behind 0 blocks,
      few_polled 0 block.insts,
      length-append (poll_call ∷ flat_map (polled 0) block.insts) (instructions_of (placed_from 1 blocks)),
      length-append block.insts (instructions_of blocks),
    )

pub small_placed : (args : List Arg) (blocks : List BasicBlock) → IsSmall args blocks → length (instructions_of blocks) < 2 ^ 29
    → IsSmall args (placed_from 0 blocks)
small_placed args blocks small few = record {
  few_arguments = small.few_arguments;
  few_blocks = omega (arith, small.few_blocks, length-placed_from 0 blocks);
  few_instructions = omega (arith, few_placed blocks);
}

-- ---- all functions
