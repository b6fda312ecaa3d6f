-- The function with its polls: its lines are those that a source function runs, and its values are the same.
use Rattle.std.proofs.Common.{◌≡◌, ℕ, zero, suc, ◌+◌, Bool, true, false, if◌then◌else◌, List, [], ◌∷◌, ◌++◌, map, refl, sym, ap, ◌∙◌, arith}
use Rattle.std.specs.Prelude.{Some, slice_get, filter}
use Rattle.std.specs.List.{All, flat_map}
use Rattle.std.specs.Option.{option_map}
use Rattle.std.proofs.lemmas.List.Elements.{filter-append, All-cons, All-head, All-tail}
use Rattle.ir_ast.specs.Insts.{Instruction}
use Rattle.ir_ast.specs.Blocks.{BasicBlock}
use Rattle.ir_ast.specs.Funcs.{Function, instructions_of}
use Rattle.ir_ast.specs.Values.{definitions_of, outcome, argument}
use Rattle.object_meaning.specs.Lines.{after_all, first_registers, following, lines_from, numbered, poll, retreats}
use Rattle.object_meaning.specs.TargetRuns.{plain_lines}
use Rattle.object_meaning.proofs.GivenLaws.{has_result}
use Rattle.base_forms.specs.Polls.{placed, placed_block, placed_from, poll_call, polled}
use Rattle.list_laws.proofs.Contents.{all_front, all_back}

abbrev polls_if : Bool → List Instruction
polls_if retreating = if retreating then poll_call ∷ [] else []

-- ---- the lines

pub plain_polled : (number next : ℕ) (insts : List Instruction) → plain_lines next (flat_map (polled number) insts) ≡ lines_from number next insts
plain_polled number next [] = refl
plain_polled number next (inst ∷ insts) = by (retreats number inst) (plain_polled number (following next inst) insts)
  where
    by : (b : Bool) → plain_lines (following next inst) (flat_map (polled number) insts) ≡ lines_from number (following next inst) insts
        → plain_lines next ((polls_if b ++ inst ∷ []) ++ flat_map (polled number) insts)
        ≡ (if b then poll ∷ [] else []) ++ numbered next inst ∷ lines_from number (following next inst) insts
    by true rest = ap (λ lines. poll ∷ numbered next inst ∷ lines) rest
    by false rest = ap (λ lines. numbered next inst ∷ lines) rest

after_polled : (number next : ℕ) (insts : List Instruction) → after_all next (flat_map (polled number) insts) ≡ after_all next insts
after_polled number next [] = refl
after_polled number next (inst ∷ insts) = by (retreats number inst) (after_polled number (following next inst) insts)
  where
    by : (b : Bool) → after_all (following next inst) (flat_map (polled number) insts) ≡ after_all (following next inst) insts
        → after_all next ((polls_if b ++ inst ∷ []) ++ flat_map (polled number) insts) ≡ after_all (following next inst) insts
    by true rest = rest
    by false rest = rest

after_placed : (number next : ℕ) (block : BasicBlock) → after_all next (placed_block number block).insts ≡ after_all next block.insts
after_placed zero next block = after_polled zero next block.insts
after_placed (suc number) next block = after_polled (suc number) next block.insts

pub registers_placed : (number next : ℕ) (blocks : List BasicBlock) → first_registers next (placed_from number blocks) ≡ first_registers next blocks
registers_placed number next [] = refl
registers_placed number next (block ∷ blocks) =
    ap (λ registers. next ∷ registers)
    (ap (λ n. first_registers n (placed_from (suc number) blocks)) (after_placed number next block) ∙ registers_placed (suc number) (after_all next block.insts) blocks)

pub block_placed : (start place : ℕ) (blocks : List BasicBlock) → slice_get (placed_from start blocks) place ≡ option_map (placed_block (start + place)) (slice_get blocks place)
block_placed start place [] = refl
block_placed start zero (block ∷ blocks) = let same : start ≡ start + 0 = omega arith in ap (λ n. Some (placed_block n block)) same
block_placed start (suc place) (block ∷ blocks) =
    let same : suc start + place ≡ start + suc place = omega arith in
    block_placed (suc start) place blocks ∙ ap (λ n. option_map (placed_block n) (slice_get blocks place)) same

-- ---- the values

pub results_polled : (number : ℕ) (insts : List Instruction) → filter has_result (flat_map (polled number) insts) ≡ filter has_result insts
results_polled number [] = refl
results_polled number (inst ∷ insts) = by (retreats number inst) (results_polled number insts)
  where
    either : (b : Bool) → filter has_result (flat_map (polled number) insts) ≡ filter has_result insts
        → (if b then inst ∷ filter has_result (flat_map (polled number) insts) else filter has_result (flat_map (polled number) insts))
        ≡ (if b then inst ∷ filter has_result insts else filter has_result insts)
    either true rest = ap (λ more. inst ∷ more) rest
    either false rest = rest

    by : (b : Bool) → filter has_result (flat_map (polled number) insts) ≡ filter has_result insts
        → filter has_result ((polls_if b ++ inst ∷ []) ++ flat_map (polled number) insts) ≡ filter has_result (inst ∷ insts)
    by true rest = either (has_result inst) rest
    by false rest = either (has_result inst) rest

pub results_placed_block : (number : ℕ) (block : BasicBlock) → filter has_result (placed_block number block).insts ≡ filter has_result block.insts
results_placed_block zero block = results_polled zero block.insts
results_placed_block (suc number) block = results_polled (suc number) block.insts

pub results_placed : (number : ℕ) (blocks : List BasicBlock) → filter has_result (instructions_of (placed_from number blocks)) ≡ filter has_result (instructions_of blocks)
results_placed number [] = refl
results_placed number (block ∷ blocks) =
    filter-append has_result (placed_block number block).insts (instructions_of (placed_from (suc number) blocks))
    ∙ (ap (λ front. front ++ filter has_result (instructions_of (placed_from (suc number) blocks))) (results_placed_block number block)
    ∙ (ap (λ back. filter has_result block.insts ++ back) (results_placed (suc number) blocks)
    ∙ sym (filter-append has_result block.insts (instructions_of blocks))))

pub definitions_placed : (func : Function) → definitions_of (placed func) ≡ definitions_of func
definitions_placed func = ap (λ results. map argument func.args ++ map outcome results) (results_placed 0 func.blocks)

-- ---- each of its instructions is a poll or one of the source

module _ (P : Instruction → Type 0) (poll_too : P poll_call) where
  all_polled : (number : ℕ) (insts more : List Instruction) → All P insts → All P more → All P (flat_map (polled number) insts ++ more)
  all_polled number [] more all rest = rest
  all_polled number (inst ∷ insts) more all rest =
      by (retreats number inst) (all_polled number insts more (All-tail P inst insts all) rest)
    where
      by : (b : Bool) → All P (flat_map (polled number) insts ++ more) → All P (((polls_if b ++ inst ∷ []) ++ flat_map (polled number) insts) ++ more)
      by true behind = All-cons P poll_call (inst ∷ (flat_map (polled number) insts ++ more)) poll_too (All-cons P inst (flat_map (polled number) insts ++ more) (All-head P inst insts all) behind)
      by false behind = All-cons P inst (flat_map (polled number) insts ++ more) (All-head P inst insts all) behind

  all_placed_block : (number : ℕ) (block : BasicBlock) (more : List Instruction) → All P block.insts → All P more → All P ((placed_block number block).insts ++ more)
  all_placed_block zero block more all rest = All-cons P poll_call (flat_map (polled 0) block.insts ++ more) poll_too (all_polled 0 block.insts more all rest)
  all_placed_block (suc number) block more all rest = all_polled (suc number) block.insts more all rest

  pub all_placed : (number : ℕ) (blocks : List BasicBlock) → All P (instructions_of blocks) → All P (instructions_of (placed_from number blocks))
  all_placed number [] all = all
  all_placed number (block ∷ blocks) all =
      all_placed_block number block (instructions_of (placed_from (suc number) blocks)) (all_front P block.insts (instructions_of blocks) all)
      (all_placed (suc number) blocks (all_back P block.insts (instructions_of blocks) all))
