-- The relocates of a function are no more than its calls by its values, and so few in a generated module.
use Rattle.std.proofs.Common.{◌≡◌, ◌∙◌, ℕ, zero, suc, ◌+◌, ◌*◌, ◌≤◌, Bool, true, false, if◌then◌else◌, List, [], ◌∷◌, ◌++◌, length, map, Option, Some, refl, sym, ap, subst, codes, arith, append_assoc, append-nil}
use Rattle.std.specs.Prelude.{sum_by, slice_get, slice_index}
use Rattle.std.specs.List.{flat_map, range_with_len, AllZip}
use Rattle.std.specs.Option.{option_map_or}
use Rattle.std.proofs.Math.Nat.{mul-le-mul}
use Rattle.std.proofs.lemmas.List.{length-append}
use Rattle.std.proofs.lemmas.List.FromFn.{length-range_with_len}
use Rattle.std.proofs.lemmas.List.Sums.{sum-map, sum_by-append, sum_by-cons}
use Rattle.list_laws.proofs.Places.{get_middle}
use Rattle.ir_ast.specs.declared.ops.Operand.{Operand}
use Rattle.ir_ast.specs.declared.ops.Operand.TheVariants.{Int}
use Rattle.ir_ast.specs.declared.ops.Op.{Op}
use Rattle.ir_ast.specs.Insts.{Instruction}
use Rattle.ir_ast.specs.Blocks.{BasicBlock}
use Rattle.ir_ast.specs.Funcs.{Function, instructions_of}
use Rattle.ir_cfg.specs.Unreached.{DropsUnreached, function_kept}
use Rattle.object_meaning.specs.Lines.{Line, insts_in, numbered, registers_of, following}
use Rattle.object_meaning.specs.TargetRuns.{plain_lines}
use Rattle.base_forms.specs.Polls.{placed}
use Rattle.base_forms.specs.Based.{based, base_table}
use Rattle.rewriting_forms.specs.Numbered.{lines_at, calls}
use Rattle.rewriting_forms.specs.Liveness.{live_list, lists_from, live_lists}
use Rattle.statepoint_insert.proofs.ListLaws.{few_live}
use Rattle.rewrite_passes.specs.Before.{relocates_of}
use Rattle.generated_forms.specs.Bodies.{Shape, Making, Merging, Looping, shape_at, constant_at, body}
use Rattle.generated_forms.specs.Lines.{numbered_name, new_line, call_line, print_line, return_line}
use Rattle.generated_forms.specs.Modules.{function, function_at, visit, visits, main_of, generated}
use Rattle.generated_relocates.specs.Statements.{GeneratedRelocatesAreFew, GeneratedIsNeverRefused}
use Rattle.generated_relocates.proofs.Measures.{measured, one_if, a_call, an_end, size, measured_append, measured_cons, kept_low, placed_low, based_length, based_calls}

-- ---- the lists of a function

-- how long all these lists are together
abbrev total : List (List ℕ) → ℕ
total lists = sum_by length lists

total_append : (xs ys : List (List ℕ)) → total (xs ++ ys) ≡ total xs + total ys
total_append xs ys = sum_by-append length xs ys

module _ (func : Function) (table : List Operand) where
  abbrev most : ℕ
  most = length func.args + length (instructions_of func.blocks)

  here_low : (called : Bool) (list : List ℕ) → length list ≤ most → total (if called then list ∷ [] else []) ≤ most * one_if called
  here_low true list few = omega (arith, few, sum_by-cons length list [])
  here_low false list few = omega arith

  abbrev called_in : List Line → ℕ
  called_in lines = sum_by (λ line. one_if (calls line)) lines

  lists_low : (b k : ℕ) (lines : List Line) → total (lists_from func table b k lines) ≤ most * called_in lines
  lists_low b k [] = omega arith
  lists_low b k (line ∷ lines) =
      subst (λ (n : ℕ). total (lists_from func table b k (line ∷ lines)) ≤ most * n) (sym (sum_by-cons (λ (one : Line). one_if (calls one)) line lines))
      (omega (
        arith,
        total_append (if calls line then live_list func table b k ∷ [] else []) (lists_from func table b (suc k) lines),
        here_low (calls line) (live_list func table b k) (few_live func table b k),
        lists_low b (suc k) lines,
      ))

  plain_called : (next : ℕ) (insts : List Instruction) → called_in (plain_lines next insts) ≡ measured a_call insts
  plain_called next [] = refl
  plain_called next (inst ∷ insts) =
      sum_by-cons (λ (one : Line). one_if (calls one)) (numbered next inst) (plain_lines (following next inst) insts) ∙ ap (λ (n : ℕ). a_call inst.op + n) (plain_called (following next inst) insts) ∙ sym (measured_cons a_call inst insts)

  all_lists : (numbers : List ℕ) → total (flat_map (λ b. lists_from func table b 0 (lines_at func b)) numbers) ≤ most * sum_by (λ b. measured a_call (insts_in func b)) numbers
  all_lists [] = omega arith
  all_lists (b ∷ numbers) =
      let low : total (lists_from func table b 0 (lines_at func b)) ≤ most * measured a_call (insts_in func b) =
      subst (λ (n : ℕ). total (lists_from func table b 0 (lines_at func b)) ≤ most * n) (plain_called (slice_index (registers_of func) b) (insts_in func b)) (lists_low b 0 (lines_at func b)) in
      subst (λ (n : ℕ). total (flat_map (λ c. lists_from func table c 0 (lines_at func c)) (b ∷ numbers)) ≤ most * n) (sym (sum_by-cons (λ (c : ℕ). measured a_call (insts_in func c)) b numbers))
      (omega (arith, low, total_append (lists_from func table b 0 (lines_at func b)) (flat_map (λ c. lists_from func table c 0 (lines_at func c)) numbers), all_lists numbers))

  -- the blocks from a place on
  blocks_from : (before after : List BasicBlock) → func.blocks ≡ before ++ after
      → sum_by (λ b. measured a_call (insts_in func b)) (range_with_len (length before) (length after)) ≡ measured a_call (instructions_of after)
  blocks_from before [] whole = refl
  blocks_from before (block ∷ after) whole =
      let there : slice_get func.blocks (length before) ≡ Some block = ap (λ (blocks : List BasicBlock). slice_get blocks (length before)) whole ∙ get_middle before block after in
      let here : insts_in func (length before) ≡ block.insts = ap (λ (found : Option BasicBlock). option_map_or (λ (b : BasicBlock). b.insts) found []) there in
      let longer : length (before ++ block ∷ []) ≡ length before + 1 = length-append before (block ∷ []) in
      let rest = blocks_from (before ++ block ∷ []) after (whole ∙ sym (append_assoc before (block ∷ []) after)) in
      let rest_is : sum_by (λ b. measured a_call (insts_in func b)) (range_with_len (length before + 1) (length after)) ≡ measured a_call (instructions_of after) =
      ap (λ (n : ℕ). sum_by (λ b. measured a_call (insts_in func b)) (range_with_len n (length after))) (sym longer) ∙ rest in
      sum_by-cons (λ (c : ℕ). measured a_call (insts_in func c)) (length before) (range_with_len (length before + 1) (length after))
      ∙ ap (λ (insts : List Instruction). measured a_call insts + sum_by (λ b. measured a_call (insts_in func b)) (range_with_len (length before + 1) (length after))) here
      ∙ ap (λ (n : ℕ). measured a_call block.insts + n) rest_is ∙ sym (measured_append a_call block.insts (instructions_of after))

  lists_few : total (live_lists func table) ≤ most * measured a_call (instructions_of func.blocks)
  lists_few = subst (λ (n : ℕ). total (live_lists func table) ≤ most * n) (blocks_from [] func.blocks refl) (all_lists (range_with_len 0 (length func.blocks)))

-- ---- the relocates of a function, from its own lines

abbrev all_of : (Op → ℕ) → Function → ℕ
all_of measure func = measured measure (instructions_of func.blocks)

abbrev bound : Function → ℕ
bound func = (length func.args + (all_of size func + all_of an_end func + 1)) * (all_of a_call func + all_of an_end func + 1)

relocates_low : (marks : List Bool) (func : Function) → relocates_of (placed (function_kept marks func)) ≤ bound func
relocates_low marks func =
    let kept : Function = function_kept marks func in
    let before : Function = based (placed kept) in
    let lists : relocates_of (placed kept) ≤ (length before.args + length (instructions_of before.blocks)) * all_of a_call before =
    subst (λ (n : ℕ). n ≤ (length before.args + length (instructions_of before.blocks)) * all_of a_call before) (sym (sum-map length (live_lists before (base_table (placed kept))))) (lists_few before (base_table (placed kept))) in
    let count : length (instructions_of before.blocks) ≤ all_of size func + all_of an_end func + 1 =
    omega (arith, based_length (placed kept), placed_low size kept refl, kept_low size marks func, kept_low an_end marks func) in
    let called : all_of a_call before ≤ all_of a_call func + all_of an_end func + 1 =
    omega (arith, based_calls (placed kept), placed_low a_call kept refl, kept_low a_call marks func, kept_low an_end marks func) in
    let product = mul-le-mul {n₁ = length func.args + length (instructions_of before.blocks)} {m₁ = all_of a_call before}
    {n₂ = length func.args + (all_of size func + all_of an_end func + 1)} {m₂ = all_of a_call func + all_of an_end func + 1} (omega (arith, count)) called in
    omega (arith, lists, product)

-- ---- the functions of a generated module

body_low : (shape : Shape) (place constant : ℕ) → bound (function place (body shape place constant)) ≤ 1000
body_low Making place constant = omega arith
body_low Merging zero constant = omega arith
body_low Merging (suc before) constant = omega arith
body_low Looping place constant = omega arith

function_low : (seed place : ℕ) → bound (function_at seed place) ≤ 1000
unfolding function_at
function_low seed place = body_low (shape_at seed place) place (constant_at seed place)

abbrev called_line : ℕ → Instruction
called_line place = call_line (numbered_name (codes "v") (place + 1)) place 0 (Int (place + 1))

-- what a measure says of the visits
visits_size : (places : List ℕ) → measured size (flat_map visit places) ≡ 2 * length places
visits_size [] = refl
visits_size (place ∷ places) =
    omega (arith, visits_size places, measured_cons size (called_line place) (print_line (place + 1) ∷ flat_map visit places), measured_cons size (print_line (place + 1)) (flat_map visit places))

visits_calls : (places : List ℕ) → measured a_call (flat_map visit places) ≡ length places
visits_calls [] = refl
visits_calls (place ∷ places) =
    omega (arith, visits_calls places, measured_cons a_call (called_line place) (print_line (place + 1) ∷ flat_map visit places), measured_cons a_call (print_line (place + 1)) (flat_map visit places))

visits_ends : (places : List ℕ) → measured an_end (flat_map visit places) ≡ 0
visits_ends [] = refl
visits_ends (place ∷ places) =
    omega (arith, visits_ends places, measured_cons an_end (called_line place) (print_line (place + 1) ∷ flat_map visit places), measured_cons an_end (print_line (place + 1)) (flat_map visit places))

main_whole : (count : ℕ) → instructions_of (main_of count).blocks ≡ visits count ++ return_line (Int 0) ∷ []
unfolding main_of
main_whole count = append-nil (visits count ++ return_line (Int 0) ∷ [])

main_measured : (measure : Op → ℕ) (count : ℕ) → all_of measure (main_of count)
    ≡ measure (new_line (codes "o") 1).op + measured measure (flat_map visit (range_with_len 0 count)) + measure (return_line (Int 0)).op
main_measured measure count =
    let whole = ap (measured measure) (main_whole count) in
    omega (
      arith,
      whole,
      measured_append measure (visits count) (return_line (Int 0) ∷ []),
      measured_cons measure (new_line (codes "o") 1) (flat_map visit (range_with_len 0 count)),
      measured_cons measure (return_line (Int 0)) [],
    )

no_arguments : (count : ℕ) → length (main_of count).args ≡ 0
unfolding main_of
no_arguments count = refl

main_low : (count : ℕ) → count ≤ 1000 → bound (main_of count) ≤ 2100000
main_low count few =
    let none : length (main_of count).args ≡ 0 = no_arguments count in
    let sizes : all_of size (main_of count) ≤ 2002 = omega (arith, main_measured size count, visits_size (range_with_len 0 count), length-range_with_len 0 count) in
    let called : all_of a_call (main_of count) ≤ 1001 = omega (arith, main_measured a_call count, visits_calls (range_with_len 0 count), length-range_with_len 0 count) in
    let ends : all_of an_end (main_of count) ≤ 1 = omega (arith, main_measured an_end count, visits_ends (range_with_len 0 count)) in
    let product = mul-le-mul {n₁ = length (main_of count).args + (all_of size (main_of count) + all_of an_end (main_of count) + 1)}
    {m₁ = all_of a_call (main_of count) + all_of an_end (main_of count) + 1} {n₂ = 2004} {m₂ = 1003} (omega (arith, none, sizes, ends)) (omega (arith, called, ends)) in
    omega (arith, product)

functions_low : (seed : ℕ) (places : List ℕ) → sum_by bound (map (function_at seed) places) ≤ 1000 * length places
functions_low seed [] = omega arith
functions_low seed (place ∷ places) =
    omega (arith, sum_by-cons bound (function_at seed place) (map (function_at seed) places), function_low seed place, functions_low seed places)

-- ---- the module

all_low : (funcs reached : List Function) → AllZip DropsUnreached funcs reached → sum_by (λ func. relocates_of (placed func)) reached ≤ sum_by bound funcs
all_low [] [] drops = omega arith
all_low [] (after ∷ reached) drops = absurd drops
all_low (func ∷ funcs) [] drops = absurd drops
all_low (func ∷ funcs) (after ∷ reached) drops =
    let here : relocates_of (placed after) ≤ bound func = subst (λ (f : Function). relocates_of (placed f) ≤ bound func) (sym drops.0.rest) (relocates_low drops.0.marks func) in
    omega (arith, here, all_low funcs reached drops.1, sum_by-cons bound func funcs, sum_by-cons (λ (f : Function). relocates_of (placed f)) after reached)

pub generated_relocates_are_few : GeneratedRelocatesAreFew
unfolding generated
generated_relocates_are_few seed count reached few drops =
    let funcs : List Function = map (function_at seed) (range_with_len 0 count) in
    omega (
      arith,
      sum-map (λ (func : Function). relocates_of (placed func)) reached.funcs,
      all_low (funcs ++ main_of count ∷ []) reached.funcs drops.functions,
      sum_by-append bound funcs (main_of count ∷ []),
      sum_by-cons bound (main_of count) [],
      functions_low seed (range_with_len 0 count),
      length-range_with_len 0 count,
      main_low count few,
    )

pub generated_is_never_refused : GeneratedIsNeverRefused
generated_is_never_refused seed count few many =
    let low = generated_relocates_are_few seed count many.reached few many.drops in
    let high = many.many in
    omega (arith, low, high)
