-- The values of a function without its unreached blocks, and their numbers.
use Rattle.std.proofs.Common.{◌≡◌, ℕ, zero, suc, ◌<◌, ◌≤◌, ◌+◌, Bool, true, false, cond, List, [], ◌∷◌, ◌++◌, length, get_or, take, map, replicate, refl, ap, sym, arith, Some, is_some, slice_get, ◌∙◌, subst}
use Rattle.std.specs.List.{filter}
use Rattle.std.proofs.lemmas.List.{length-append, length-map, length-replicate, map-append, take-append-le, take-map}
use Rattle.std.proofs.lemmas.List.Elements.{filter-append}
use Rattle.std.proofs.lemmas.List.Sums.{length-filter, count_by_more_yes, sum_by-take-le}
use Rattle.std.proofs.lemmas.Option.{none-some, same_Some, slice_get_within, get_or_from_slice_get}
use Rattle.list_laws.proofs.Places.{get_front, get_past, get_replicate}
use Rattle.ir_ast.specs.Insts.{Instruction}
use Rattle.ir_ast.specs.Blocks.{BasicBlock}
use Rattle.ir_ast.specs.Funcs.{Function, instructions_of}
use Rattle.ir_ast.specs.Values.{Definition, argument, outcome, definitions_of, definition_name, definition_type, value_types}
use Rattle.ir_ast.specs.Faults.GroupShape.{number_at}
use Rattle.ir_cfg.specs.DefiniteUses.{Stands, Defines, text_place}
use Rattle.graph_search.specs.Paths.{Marked}
use Rattle.ir_cfg.specs.Unreached.{Kept, kept_of, kept_by, inst_kept, block_kept, result_count, result_marks, value_marks, function_kept}
use Rattle.ir_cfg.proofs.KeepsPlaces.{before_past_falses, before_past_trues, before_trues, kept_map, kept_none, kept_some, map_through, marks_before, take_past}
use Rattle.ir_cfg.proofs.KeepsLines.{instructions_mapped, stands_kept}

abbrev pub named : Instruction → Bool
named inst = is_some inst.result

filter_test : (kept : Kept) (inst : Instruction) (test : Bool) (rest old : List Instruction) → rest ≡ map (inst_kept kept) old
    → cond test (inst_kept kept inst ∷ rest) rest ≡ map (inst_kept kept) (cond test (inst ∷ old) old)
filter_test kept inst true rest old same = ap (λ zs. inst_kept kept inst ∷ zs) same
filter_test kept inst false rest old same = same

pub filter_mapped : (kept : Kept) (insts : List Instruction)
    → filter named (map (inst_kept kept) insts) ≡ map (inst_kept kept) (filter named insts)
filter_mapped kept [] = refl
filter_mapped kept (inst ∷ insts) =
    filter_test kept inst (named inst) (filter named (map (inst_kept kept) insts)) (filter named insts) (filter_mapped kept insts)

-- the results of the kept blocks are those with a mark
pub outcomes_kept : (marks : List Bool) (blocks : List BasicBlock) → length marks ≡ length blocks
    → filter named (instructions_of (kept_of marks blocks)) ≡ kept_of (result_marks marks blocks) (filter named (instructions_of blocks))
outcomes_kept marks [] whole = refl
outcomes_kept [] (block ∷ blocks) whole = absurd (omega arith)
outcomes_kept (true ∷ marks) (block ∷ blocks) whole =
    filter-append named block.insts (instructions_of (kept_of marks blocks))
    ∙ ap (λ zs. filter named block.insts ++ zs) (outcomes_kept marks blocks (omega arith))
    ∙ sym (kept_some (filter named block.insts) (filter named (instructions_of blocks)) (result_marks marks blocks))
    ∙ ap (kept_of (replicate (result_count block) true ++ result_marks marks blocks)) (sym (filter-append named block.insts (instructions_of blocks)))
outcomes_kept (false ∷ marks) (block ∷ blocks) whole =
    outcomes_kept marks blocks (omega arith)
    ∙ sym (kept_none (filter named block.insts) (filter named (instructions_of blocks)) (result_marks marks blocks))
    ∙ ap (kept_of (replicate (result_count block) false ++ result_marks marks blocks)) (sym (filter-append named block.insts (instructions_of blocks)))

abbrev pub definition_kept : Kept → Definition → Definition
definition_kept kept (argument arg) = argument arg
definition_kept kept (outcome inst) = outcome (inst_kept kept inst)

-- the definitions of the kept blocks are those with a mark
pub left_definitions : (marks : List Bool) (func : Function) → length marks ≡ length func.blocks
    → map argument func.args ++ map outcome (filter named (instructions_of (kept_of marks func.blocks)))
    ≡ kept_of (value_marks marks func) (definitions_of func)
left_definitions marks func whole =
    ap (λ insts. map argument func.args ++ map outcome insts) (outcomes_kept marks func.blocks whole)
    ∙ ap (λ (ds : List Definition). map argument func.args ++ ds) (sym (kept_map outcome (result_marks marks func.blocks) (filter named (instructions_of func.blocks))))
    ∙ sym (kept_some (map argument func.args) (map outcome (filter named (instructions_of func.blocks))) (result_marks marks func.blocks))
    ∙ ap (λ (n : ℕ). kept_of (replicate n true ++ result_marks marks func.blocks) (definitions_of func)) (length-map func.args argument)

pub new_definitions : (marks : List Bool) (func : Function) → length marks ≡ length func.blocks
    → definitions_of (function_kept marks func) ≡ map (definition_kept (kept_by marks func)) (kept_of (value_marks marks func) (definitions_of func))
new_definitions marks func whole =
    let kept = kept_by marks func in
    let blocks = kept_of marks func.blocks in
    ap (λ insts. map argument func.args ++ map outcome (filter named insts)) (instructions_mapped kept blocks)
    ∙ ap (λ insts. map argument func.args ++ map outcome insts) (filter_mapped kept (instructions_of blocks))
    ∙ ap (λ (ds : List Definition). map argument func.args ++ ds)
    (map_through outcome (inst_kept kept) (λ inst. definition_kept kept (outcome inst)) (λ inst. refl) (filter named (instructions_of blocks))
    ∙ sym (map_through (definition_kept kept) outcome (λ inst. definition_kept kept (outcome inst)) (λ inst. refl) (filter named (instructions_of blocks))))
    ∙ ap (λ (ds : List Definition). ds ++ map (definition_kept kept) (map outcome (filter named (instructions_of blocks))))
    (sym (map_through (definition_kept kept) argument argument (λ arg. refl) func.args))
    ∙ sym (map-append (definition_kept kept) (map argument func.args) (map outcome (filter named (instructions_of blocks))))
    ∙ ap (map (definition_kept kept)) (left_definitions marks func whole)

same_name : (kept : Kept) (given : Definition) → definition_name (definition_kept kept given) ≡ definition_name given
same_name kept (argument arg) = refl
same_name kept (outcome inst) = refl

same_type : (kept : Kept) (given : Definition) → definition_type (definition_kept kept given) ≡ definition_type given
same_type kept (argument arg) = refl
same_type kept (outcome inst) = refl

pub new_names : (marks : List Bool) (func : Function) → length marks ≡ length func.blocks
    → map definition_name (definitions_of (function_kept marks func)) ≡ kept_of (value_marks marks func) (map definition_name (definitions_of func))
new_names marks func whole =
    ap (map definition_name) (new_definitions marks func whole)
    ∙ map_through definition_name (definition_kept (kept_by marks func)) definition_name (same_name (kept_by marks func)) (kept_of (value_marks marks func) (definitions_of func))
    ∙ sym (kept_map definition_name (value_marks marks func) (definitions_of func))

pub new_types : (marks : List Bool) (func : Function) → length marks ≡ length func.blocks
    → value_types (function_kept marks func) ≡ kept_of (value_marks marks func) (value_types func)
new_types marks func whole =
    ap (map definition_type) (new_definitions marks func whole)
    ∙ map_through definition_type (definition_kept (kept_by marks func)) definition_type (same_type (kept_by marks func)) (kept_of (value_marks marks func) (definitions_of func))
    ∙ sym (kept_map definition_type (value_marks marks func) (definitions_of func))

-- how many results stand before a place of a block
abbrev pub results_before : List BasicBlock → ℕ → ℕ → ℕ
results_before [] number place = 0
results_before (block ∷ blocks) zero place = length (filter named (take place block.insts))
results_before (block ∷ blocks) (suc number) place = result_count block + results_before blocks number place

results_at : (blocks : List BasicBlock) (number place : ℕ) (block : BasicBlock) → slice_get blocks number ≡ Some block
    → place ≤ length block.insts
    → length (filter named (take (length (instructions_of (take number blocks)) + place) (instructions_of blocks))) ≡ results_before blocks number place
results_at [] number place block is within = absurd (none-some block is)
results_at (first ∷ blocks) zero place block is within =
    let e : 0 + place ≡ place = omega arith in
    let same : first ≡ block = same_Some first block is in
    let inside : place ≤ length first.insts = subst (λ (b : BasicBlock). place ≤ length b.insts) (sym same) within in
    rw e (ap (λ insts. length (filter named insts)) (take-append-le place first.insts (instructions_of blocks) inside))
results_at (first ∷ blocks) (suc number) place block is within =
    let front = instructions_of (take number blocks) in
    let long : length (first.insts ++ front) + place ≡ length first.insts + (length front + place) = omega (arith, length-append first.insts front) in
    let rest = take (length front + place) (instructions_of blocks) in
    ap (λ (n : ℕ). length (filter named (take n (first.insts ++ instructions_of blocks)))) long
    ∙ ap (λ insts. length (filter named insts)) (take_past first.insts (instructions_of blocks) (length front + place))
    ∙ ap length (filter-append named first.insts rest)
    ∙ length-append (filter named first.insts) (filter named rest)
    ∙ ap (λ (n : ℕ). result_count first + n) (results_at blocks number place block is within)

fewer_before : (insts : List Instruction) (place : ℕ) (inst : Instruction) → slice_get insts place ≡ Some inst → named inst ≡ true
    → length (filter named (take place insts)) < length (filter named insts)
fewer_before insts place inst is passes =
    let at : named (get_or insts place inst) ≡ true = ap named (get_or_from_slice_get insts place inst inst is) ∙ passes in
    let more = count_by_more_yes named insts place inst (slice_get_within insts place inst is) at in
    let le = sum_by-take-le (λ (i : Instruction). cond (named i) 1 0) insts (place + 1) in
    let one = length-filter named (take place insts) in
    let two = length-filter named insts in
    omega (arith, more, le, one, two)

not_more : (insts : List Instruction) (place : ℕ) → length (filter named (take place insts)) ≤ length (filter named insts)
not_more insts place =
    let le = sum_by-take-le (λ (i : Instruction). cond (named i) 1 0) insts place in
    let one = length-filter named (take place insts) in
    let two = length-filter named insts in
    omega (arith, le, one, two)

-- a result has the mark of its block
result_mark : (marks : List Bool) (blocks : List BasicBlock) (number place : ℕ) (block : BasicBlock) (inst : Instruction) (mark : Bool)
    → slice_get marks number ≡ Some mark → slice_get blocks number ≡ Some block → slice_get block.insts place ≡ Some inst
    → named inst ≡ true → slice_get (result_marks marks blocks) (results_before blocks number place) ≡ Some mark
result_mark [] blocks number place block inst mark marked is at passes = absurd (none-some mark marked)
result_mark (first ∷ marks) [] number place block inst mark marked is at passes = absurd (none-some block is)
result_mark (first ∷ marks) (one ∷ blocks) zero place block inst mark marked is at passes =
    let same : one ≡ block = same_Some one block is in
    let there : slice_get one.insts place ≡ Some inst =
    subst (λ (b : BasicBlock). slice_get b.insts place ≡ Some inst) (sym same) at in
    get_front (replicate (result_count one) first) (result_marks marks blocks) (length (filter named (take place one.insts))) mark
    (get_replicate (result_count one) (length (filter named (take place one.insts))) first (fewer_before one.insts place inst there passes) ∙ marked)
result_mark (first ∷ marks) (one ∷ blocks) (suc number) place block inst mark marked is at passes =
    ap (λ (n : ℕ). slice_get (replicate (result_count one) first ++ result_marks marks blocks) (n + results_before blocks number place)) (sym (length-replicate (result_count one) first))
    ∙ get_past (replicate (result_count one) first) (result_marks marks blocks) (results_before blocks number place)
    ∙ result_mark marks blocks number place block inst mark marked is at passes

-- the results before a place that is kept
results_left : (marks : List Bool) (blocks : List BasicBlock) (number place : ℕ) → Marked marks number
    → marks_before (result_marks marks blocks) (results_before blocks number place)
    ≡ results_before (kept_of marks blocks) (marks_before marks number) place
results_left [] blocks number place marked = absurd (none-some true marked)
results_left (mark ∷ marks) [] number place marked = refl
results_left (true ∷ marks) (block ∷ blocks) zero place marked =
    before_trues (result_count block) (length (filter named (take place block.insts))) (result_marks marks blocks) (not_more block.insts place)
results_left (false ∷ marks) (block ∷ blocks) zero place marked = absurd (let no : false ≡ true = same_Some false true marked in cc)
results_left (true ∷ marks) (block ∷ blocks) (suc number) place marked =
    before_past_trues (result_count block) (results_before blocks number place) (result_marks marks blocks)
    ∙ ap (λ (n : ℕ). result_count block + n) (results_left marks blocks number place marked)
results_left (false ∷ marks) (block ∷ blocks) (suc number) place marked =
    before_past_falses (result_count block) (results_before blocks number place) (result_marks marks blocks)
    ∙ results_left marks blocks number place marked

results_mapped : (kept : Kept) (blocks : List BasicBlock) (number place : ℕ)
    → results_before (map (block_kept kept) blocks) number place ≡ results_before blocks number place
results_mapped kept [] number place = refl
results_mapped kept (block ∷ blocks) zero place =
    ap (λ insts. length (filter named insts)) (take-map (inst_kept kept) place block.insts)
    ∙ ap length (filter_mapped kept (take place block.insts))
    ∙ length-map (filter named (take place block.insts)) (inst_kept kept)
results_mapped kept (block ∷ blocks) (suc number) place =
    let one = ap length (filter_mapped kept block.insts) in
    let two = length-map (filter named block.insts) (inst_kept kept) in
    let rest = results_mapped kept blocks number place in
    omega (arith, one, two, rest)

number_at_place : (func : Function) (number place : ℕ) (inst : Instruction) → Stands func number place inst
    → number_at func (text_place func number place) ≡ length func.args + results_before func.blocks number place
number_at_place func number place inst stands =
    let within = slice_get_within stands.block.insts place inst stands.in_block in
    ap (λ (n : ℕ). length func.args + n)
    (results_at func.blocks number place stands.block stands.in_function (omega arith))

-- a definition in a block that is kept: its value has a mark
pub value_marked : (marks : List Bool) (func : Function) (value number place : ℕ) → Marked marks number
    → Defines func value number place → Marked (value_marks marks func) value
value_marked marks func value number place marked defines =
    let stands = defines.stands in
    let is : value ≡ length (replicate (length func.args) true) + results_before func.blocks number place =
    sym defines.numbered ∙ number_at_place func number place defines.inst stands
    ∙ ap (λ (n : ℕ). n + results_before func.blocks number place) (sym (length-replicate (length func.args) true)) in
    ap (slice_get (value_marks marks func)) is
    ∙ get_past (replicate (length func.args) true) (result_marks marks func.blocks) (results_before func.blocks number place)
    ∙ result_mark marks func.blocks number place stands.block defines.inst true marked stands.in_function stands.in_block defines.named

-- and it defines the same value with its new number
pub defines_kept : (marks : List Bool) (func : Function) (value number place : ℕ) → Marked marks number
    → Defines func value number place
    → Defines (function_kept marks func) (marks_before (value_marks marks func) value) (marks_before marks number) place
defines_kept marks func value number place marked defines =
    let kept = kept_by marks func in
    let after = function_kept marks func in
    let stands = stands_kept marks func number place defines.inst marked defines.stands in
    let is : value ≡ length func.args + results_before func.blocks number place =
    sym defines.numbered ∙ number_at_place func number place defines.inst defines.stands in
    record {
      inst = inst_kept kept defines.inst;
      stands = stands;
      named = defines.named;
      numbered =
          number_at_place after (marks_before marks number) place (inst_kept kept defines.inst) stands
          ∙ ap (λ (n : ℕ). length func.args + n)
          (results_mapped kept (kept_of marks func.blocks) (marks_before marks number) place
          ∙ sym (results_left marks func.blocks number place marked))
          ∙ sym (before_past_trues (length func.args) (results_before func.blocks number place) (result_marks marks func.blocks))
          ∙ ap (marks_before (value_marks marks func)) (sym is);
    }

-- the arguments have a mark
pub argument_marked : (marks : List Bool) (func : Function) (value : ℕ) → value < length func.args → Marked (value_marks marks func) value
argument_marked marks func value below =
    get_front (replicate (length func.args) true) (result_marks marks func.blocks) value true (get_replicate (length func.args) value true below)
