-- The map of a target module is a map: each of its numbers fits in its field.
use Rattle.std.proofs.Common.{◌≡◌, ◌∙◌, ℕ, suc, ◌+◌, ◌*◌, ◌^◌, ◌<◌, ◌≤◌, Bool, true, false, cond, ◌&&◌, List, [], ◌∷◌, ◌++◌, length, get_or, take, drop, map, filter, fold, max, count_by, nat_lt, Some, slice_get, Result, Ok, Err, IfOk, Vec, Global, refl, ap, sym, subst, arith, append_assoc, length-append}
use Rattle.std.specs.Prelude.{pos}
use Rattle.std.specs.List.{All, AllByRecursion, flat_map}
use Rattle.std.proofs.lemmas.Int.{ints}
use Rattle.std.proofs.lemmas.List.Elements.{All-head, All-tail, filter-append}
use Rattle.std.proofs.lemmas.List.Sums.{count_by-le-length, length-filter}
use Rattle.list_laws.proofs.Contents.{all_at, each_append}
use Rattle.list_laws.proofs.Places.{get_middle}
use Rattle.sp_ids.specs.declared.memory.Memory.{Memory}
use Rattle.ir_ast.specs.declared.modules.Form.TheVariants.{Rewritten}
use Rattle.ir_ast.specs.declared.ops.Op.{Op}
use Rattle.ir_ast.specs.declared.ops.Op.TheVariants.{Statepoint}
use Rattle.ir_ast.specs.Insts.{Instruction}
use Rattle.ir_ast.specs.Funcs.{Function, instructions_of}
use Rattle.ir_ast.specs.Modules.{ModuleContent}
use Rattle.ir_ast.specs.Faultless.{FunctionHasNoFault, OfForm}
use Rattle.ir_ast.specs.Faults.GroupShape.{GroupsInShape, entries_of, is_statepoint, is_part, number_at}
use Rattle.ir_cfg.specs.Statepoints.{IdIsWord, is_relocate}
use Rattle.ir_cfg.specs.TypedModules.{IsTypedFunction, IsSmallTarget}
use Rattle.ir_cfg.specs.TargetModules.{IsTargetModule}
use Rattle.frame_forms.specs.Groups.{group_size}
use Rattle.frame_forms.specs.CodeAddresses.{next_start}
use Rattle.frame_forms.specs.FrameSizes.{frame_words, is_named_integer, words_at, words_of}
use Rattle.frame_forms.specs.ModuleLayouts.{FunctionLayout, laid_at, laid_from, layout_of, statepoints_of}
use Rattle.frame_forms.proofs.ReturnLemmas.{group_within}
use Rattle.frame_forms.proofs.LayoutLemmas.{length-laid_from}
use Rattle.map_bytes.specs.declared.values.Place.{Place}
use Rattle.map_bytes.specs.Maps.{IsMap, IsMapOf, counted_records, map_bytes}
use Rattle.map_bytes.specs.Fits.{FunctionFits, MapFits, PlaceFits, RecordFits}
use Rattle.map_bytes.proofs.FitsLaws.{fits-map}
use Rattle.stackmap_write.specs.Constants.{constants_of, large_by, large_in, large_of}
use Rattle.stackmap_write.specs.ModuleMaps.{deopt_places, entries_of as function_entries, entry_of, map_of, member_places, records_at, records_from, records_of}
use Rattle.stackmap_write.proofs.AppendLemmas.{all_back, all_front}
use Rattle.stackmap_write.proofs.ConstantLaws.{Listed, all_listed, constant_fits, count_in, fold_length, fold_words, words_of as all_words}
use Rattle.stackmap_write.proofs.EntryLemmas.{counted_step, entries_short}
use Rattle.stackmap_write.proofs.PlaceFitLaws.{FitsInMap, all_taken, deopts_count, deopts_fit, members_fit, places_fit}
use Rattle.stackmap_write.proofs.GroupLaws.{Head, run_count}

-- ---- records

-- what a target module says of a function
pub record IsTarget (func : Function) : Type 0 where
  pub shape : GroupsInShape func
  pub small : IsSmallTarget func
  pub bundles : All (λ inst. length inst.bundle ≤ 64) (instructions_of func.blocks)

filtered_short : {A : Type 0} (p : A → Bool) (front rest : List A) → length (filter p rest) ≤ length (filter p (front ++ rest))
filtered_short p front rest =
    let split = ap length (filter-append p front rest) ∙ length-append (filter p front) (filter p rest) in
    omega (arith, split)

statepoint_fits : (constants : List ℕ) → length constants < 2 ^ 32 → (func : Function) → IsTarget func → (front : List Instruction) (inst : Instruction) (rest : List Instruction)
    → instructions_of func.blocks ≡ front ++ inst ∷ rest → (op : Op) → inst.op ≡ op → AllByRecursion (Listed constants) (large_by op inst.bundle)
    → AllByRecursion (RecordFits (length constants)) (records_at (length front) (deopt_places constants inst) op rest)
statepoint_fits constants few_constants func target front inst rest whole (Statepoint id callee types) is listed =
    let insts = instructions_of func.blocks in
    let place = length front in
    let op = Statepoint id callee types in
    let size = group_size op rest in
    let group = take size rest in
    let deopts = deopt_places constants inst in
    let members = flat_map member_places group in
    let stands : slice_get insts place ≡ Some inst = ap (λ (xs : List Instruction). slice_get xs place) whole ∙ get_middle front inst rest in
    let heads : is_statepoint inst.op ≡ true = ap is_statepoint is in
    let head : Head func place = record { statepoint = inst; stands = stands; op = heads } in
    let behind : insts ≡ (front ++ inst ∷ []) ++ rest = whole ∙ sym (append_assoc front (inst ∷ []) rest) in
    let further : length (front ++ inst ∷ []) ≡ place + 1 = length-append front (inst ∷ []) in
    let none = λ (k : ℕ) (after : place < k) (below : k < length (front ++ inst ∷ [])). absurd (omega arith) in
    let token = number_at func place in
    let q : Instruction → Bool = λ one. is_relocate one.op && is_part token one in
    let run : length members ≤ 2 * length (filter q rest) = run_count func target.shape place head (front ++ inst ∷ []) rest behind (omega arith) none in
    let among : length (filter q rest) ≤ length (filter q insts) =
    let P : List Instruction → Type 0 = λ xs. length (filter q rest) ≤ length (filter q xs) in subst P (sym behind) (filtered_short q (front ++ inst ∷ []) rest) in
    let few : length (filter q insts) ≤ 16384 = (target.small.statepoints place inst stands heads).1 in
    let live : length (entries_of inst) ≤ 16384 = (target.small.statepoints place inst stands heads).0 in
    let bundle : length inst.bundle ≤ 64 = all_at (λ (one : Instruction). length one.bundle ≤ 64) insts place inst target.bundles stands in
    let many : length deopts ≡ length inst.bundle = deopts_count constants inst in
    let split : length (deopts ++ members) ≡ length deopts + length members = length-append deopts members in
    let within : size ≤ length rest = group_within op rest in
    let total : length insts ≡ place + suc (length rest) = ap length whole ∙ length-append front (inst ∷ rest) in
    let word : id < 2 ^ 64 = subst IdIsWord is (all_at (λ (one : Instruction). IdIsWord one.op) insts place inst target.small.ids stands) in
    let fit = all_taken (FitsInMap (length constants)) size rest
    (members_fit (length constants) func target.shape target.small.statepoints (front ++ inst ∷ []) rest behind) in
    let zeros = constant_fits (length constants) (pos 0) (omega (arith, ints)) in
    let third = constant_fits (length constants) (pos (length deopts)) (omega (arith, ints)) in
    let locations = each_append (PlaceFits (length constants)) deopts members (deopts_fit constants few_constants inst live bundle listed) (places_fit (length constants) group fit) in (
      record {
        id = word;
        offset = omega (arith, target.small.few_instructions);
        few_places = omega arith;
        few_live_outs = omega arith;
        places = (zeros, (zeros, (third, locations)));
        live_outs = tt;
      },
      tt,
    )
statepoint_fits constants few_constants func target front inst rest whole _ is listed = tt

records_fit : (constants : List ℕ) → length constants < 2 ^ 32 → (func : Function) → IsTarget func → (front rest : List Instruction) → instructions_of func.blocks ≡ front ++ rest
    → AllByRecursion (Listed constants) (flat_map large_in rest) → AllByRecursion (RecordFits (length constants)) (records_from constants (length front) rest)
records_fit constants few func target front [] whole listed = tt
records_fit constants few func target front (inst ∷ rest) whole listed =
    let behind : instructions_of func.blocks ≡ (front ++ inst ∷ []) ++ rest = whole ∙ sym (append_assoc front (inst ∷ []) rest) in
    let further : length (front ++ inst ∷ []) ≡ length front + 1 = length-append front (inst ∷ []) in
    let P : ℕ → Type 0 = λ n. AllByRecursion (RecordFits (length constants)) (records_from constants n rest) in
    each_append (RecordFits (length constants)) (records_at (length front) (deopt_places constants inst) inst.op rest) (records_from constants (length front + 1) rest)
    (statepoint_fits constants few func target front inst rest whole inst.op refl (all_front (Listed constants) (large_in inst) (flat_map large_in rest) listed))
    (subst P further (records_fit constants few func target (front ++ inst ∷ []) rest behind (all_back (Listed constants) (large_in inst) (flat_map large_in rest) listed)))

all_records_fit : (constants : List ℕ) → length constants < 2 ^ 32 → (funcs : List Function) → All IsTarget funcs → AllByRecursion (Listed constants) (flat_map large_of funcs)
    → AllByRecursion (RecordFits (length constants)) (flat_map (records_of constants) funcs)
all_records_fit constants few [] targets listed = tt
all_records_fit constants few (func ∷ funcs) targets listed =
    each_append (RecordFits (length constants)) (records_of constants func) (flat_map (records_of constants) funcs)
    (records_fit constants few func (All-head IsTarget func funcs targets) [] (instructions_of func.blocks) refl (all_front (Listed constants) (large_of func) (flat_map large_of funcs) listed))
    (all_records_fit constants few funcs (All-tail IsTarget func funcs targets) (all_back (Listed constants) (large_of func) (flat_map large_of funcs) listed))

-- ---- counts

abbrev HasRecord : Instruction → Bool
HasRecord inst = is_statepoint inst.op

one_at : (place : ℕ) (deopts : List Place) (op : Op) (rest : List Instruction) → length (records_at place deopts op rest) ≡ cond (is_statepoint op) 1 0
one_at place deopts (Statepoint id callee types) rest = refl
one_at place deopts _ rest = refl

filtered_more : (b : Bool) (inst : Instruction) (insts : List Instruction) → length (cond b (inst ∷ insts) insts) ≡ cond b 1 0 + length insts
filtered_more true inst insts = omega arith
filtered_more false inst insts = omega arith

pub length-records : (constants : List ℕ) (place : ℕ) (insts : List Instruction) → length (records_from constants place insts) ≡ length (filter HasRecord insts)
length-records constants place [] = refl
length-records constants place (inst ∷ insts) =
    let deopts = deopt_places constants inst in
    length-append (records_at place deopts inst.op insts) (records_from constants (place + 1) insts)
    ∙ ap (λ n. n + length (records_from constants (place + 1) insts)) (one_at place deopts inst.op insts)
    ∙ ap (λ n. cond (is_statepoint inst.op) 1 0 + n) (length-records constants (place + 1) insts)
    ∙ sym (filtered_more (is_statepoint inst.op) inst (filter HasRecord insts))

pub counted_is : (constants : List ℕ) (start : ℕ) (funcs : List Function) → counted_records (function_entries (laid_from start funcs)) ≡ length (flat_map (records_of constants) funcs)
counted_is constants start [] = refl
counted_is constants start (func ∷ funcs) =
    let laid = laid_from start (func ∷ funcs) in
    counted_step laid 0 (omega arith)
    ∙ ap (λ n. n + counted_records (function_entries (laid_from (next_start start func) funcs)))
    (sym (length-filter HasRecord (instructions_of func.blocks)) ∙ sym (length-records constants 0 (instructions_of func.blocks)))
    ∙ ap (λ n. length (records_of constants func) + n) (counted_is constants (next_start start func) funcs)
    ∙ sym (length-append (records_of constants func) (flat_map (records_of constants) funcs))

length-all_records : (constants : List ℕ) (funcs : List Function)
    → length (flat_map (records_of constants) funcs) ≡ length (filter HasRecord (flat_map (λ func. instructions_of func.blocks) funcs))
length-all_records constants [] = refl
length-all_records constants (func ∷ funcs) =
    let rest = flat_map (λ (one : Function). instructions_of one.blocks) funcs in
    length-append (records_of constants func) (flat_map (records_of constants) funcs)
    ∙ ap (λ n. n + length (flat_map (records_of constants) funcs)) (length-records constants 0 (instructions_of func.blocks))
    ∙ ap (λ n. length (filter HasRecord (instructions_of func.blocks)) + n) (length-all_records constants funcs)
    ∙ sym (ap length (filter-append HasRecord (instructions_of func.blocks) rest) ∙ length-append (filter HasRecord (instructions_of func.blocks)) (filter HasRecord rest))

-- at most 64 numbers for each record
few_in : (func : Function) → IsTarget func → (front rest : List Instruction) → instructions_of func.blocks ≡ front ++ rest → AllByRecursion (λ inst. length inst.bundle ≤ 64) rest
few_in func target front [] whole = tt
few_in func target front (inst ∷ rest) whole =
    let stands : slice_get (instructions_of func.blocks) (length front) ≡ Some inst = ap (λ (xs : List Instruction). slice_get xs (length front)) whole ∙ get_middle front inst rest in (
      all_at (λ (one : Instruction). length one.bundle ≤ 64) (instructions_of func.blocks) (length front) inst target.bundles stands,
      few_in func target (front ++ inst ∷ []) rest (whole ∙ sym (append_assoc front (inst ∷ []) rest)),
    )

all_numbers : (funcs : List Function) → All IsTarget funcs
    → length (flat_map large_of funcs) ≤ 64 * length (filter HasRecord (flat_map (λ func. instructions_of func.blocks) funcs))
all_numbers [] targets = omega arith
all_numbers (func ∷ funcs) targets =
    let insts = instructions_of func.blocks in
    let rest = flat_map (λ (one : Function). instructions_of one.blocks) funcs in
    let here = count_in insts (few_in func (All-head IsTarget func funcs targets) [] insts refl) in
    let more = all_numbers funcs (All-tail IsTarget func funcs targets) in
    let numbers = length-append (large_of func) (flat_map large_of funcs) in
    let records = ap length (filter-append HasRecord insts rest) ∙ length-append (filter HasRecord insts) (filter HasRecord rest) in
    omega (arith, here, more, numbers, records)

-- ---- entries

abbrev AskFew : Instruction → Type 0
AskFew inst = words_at inst ≤ 16448

most_few : (start : ℕ) (insts : List Instruction) → start ≤ 16448 → AllByRecursion AskFew insts → fold max start (map words_at insts) ≤ 16448
most_few start [] first all = first
most_few start (inst ∷ insts) first all =
    let one : words_at inst ≤ 16448 = all.0 in
    most_few (max start (words_at inst)) insts (omega arith) all.1

asks_by : (func : Function) → IsTarget func → (place : ℕ) (inst : Instruction) → slice_get (instructions_of func.blocks) place ≡ Some inst → (op : Op) → inst.op ≡ op
    → words_of op inst.operands inst.bundle ≤ 16448
asks_by func target place inst stands (Statepoint id callee types) is =
    let live : length (entries_of inst) ≤ 16384 = (target.small.statepoints place inst stands (ap is_statepoint is)).0 in
    let entries : length (entries_of inst) ≡ length (drop (length types) inst.operands)
    = ap (λ (o : Op). length (entries_of (record inst { op = o }))) is in
    let kept : count_by (λ entry. is_named_integer entry.0 entry.1) inst.bundle ≤ length inst.bundle = count_by-le-length (λ entry. is_named_integer entry.0 entry.1) inst.bundle in
    let few : length inst.bundle ≤ 64 = all_at (λ (one : Instruction). length one.bundle ≤ 64) (instructions_of func.blocks) place inst target.bundles stands in
    omega arith
asks_by func target place inst stands _ is = omega arith

all_ask_few : (func : Function) → IsTarget func → (front rest : List Instruction) → instructions_of func.blocks ≡ front ++ rest → AllByRecursion AskFew rest
all_ask_few func target front [] whole = tt
all_ask_few func target front (inst ∷ rest) whole =
    let stands : slice_get (instructions_of func.blocks) (length front) ≡ Some inst = ap (λ (xs : List Instruction). slice_get xs (length front)) whole ∙ get_middle front inst rest in
    (asks_by func target (length front) inst stands inst.op refl, all_ask_few func target (front ++ inst ∷ []) rest (whole ∙ sym (append_assoc front (inst ∷ []) rest)))

frame_fits : (func : Function) → IsTarget func → frame_words func ≤ 16448
frame_fits func target = most_few 0 (instructions_of func.blocks) (omega arith) (all_ask_few func target [] (instructions_of func.blocks) refl)

entries_from_test : (has : Bool) (one : FunctionLayout) (laid : List FunctionLayout) → FunctionFits (entry_of one) → AllByRecursion FunctionFits (function_entries laid)
    → AllByRecursion FunctionFits (map entry_of (cond has (one ∷ filter (λ other. nat_lt 0 other.statepoints) laid) (filter (λ other. nat_lt 0 other.statepoints) laid)))
entries_from_test true one laid fits rest = (fits, rest)
entries_from_test false one laid fits rest = rest

entries_fit : (start : ℕ) (funcs : List Function) → start + length funcs * 4294967312 < 2 ^ 64 → All IsTarget funcs
    → AllByRecursion FunctionFits (function_entries (laid_from start funcs))
entries_fit start [] room targets = tt
entries_fit start (func ∷ funcs) room targets =
    let target : IsTarget func = All-head IsTarget func funcs targets in
    let words : frame_words func ≤ 16448 = frame_fits func target in
    let few : length (instructions_of func.blocks) < 2 ^ 30 = target.small.few_instructions in
    let counted : statepoints_of func ≤ length (instructions_of func.blocks) = count_by-le-length HasRecord (instructions_of func.blocks) in
    let next : next_start start func ≤ start + 4294967312 = omega arith in
    let room_left : next_start start func + length funcs * 4294967312 < 2 ^ 64 = omega arith in
    entries_from_test (nat_lt 0 (statepoints_of func)) (laid_at start func) (laid_from (next_start start func) funcs)
    (record { address = omega arith; frame_bytes = omega arith; records = omega arith })
    (entries_fit (next_start start func) funcs room_left (All-tail IsTarget func funcs targets))

-- ---- the map

pub targets_of : (content : ModuleContent) → IsTargetModule content → All IsTarget content.funcs
targets_of content target k d below =
    let func : Function = get_or content.funcs k d in
    let typed : IsTypedFunction Rewritten func = target.typed.functions k d below in
    let faultless : FunctionHasNoFault content func = target.typed.no_fault.functions k d below in
    record { shape = subst (λ form. OfForm form func) target.typed.of_form faultless.form; small = typed.small; bundles = typed.bundles }

pub target_map_fits : (content : ModuleContent) → IsTargetModule content → MapFits (map_of content)
target_map_fits content target =
    let targets = targets_of content target in
    let constants = constants_of content in
    let numbers = flat_map large_of content.funcs in
    let all = flat_map (λ (func : Function). instructions_of func.blocks) content.funcs in
    let few : length content.funcs ≤ 4096 = target.typed.limits.functions in
    let laid : length (layout_of content) ≡ length content.funcs = length-laid_from 4096 content.funcs in
    let short : length (function_entries (layout_of content)) ≤ length (layout_of content) = entries_short (layout_of content) in
    let records : length (flat_map (records_of constants) content.funcs) ≡ length (filter HasRecord all) = length-all_records constants content.funcs in
    let statepoints : length (filter HasRecord all) < 2 ^ 26 = target.typed.small in
    let large : length numbers ≤ 64 * length (filter HasRecord all) = all_numbers content.funcs targets in
    let shorter : length constants ≤ 0 + length numbers = fold_length [] numbers in
    let few_numbers : length constants < 2 ^ 32 = omega arith in
    record {
      few_functions = omega arith;
      few_constants = few_numbers;
      few_records = omega arith;
      functions = entries_fit 4096 content.funcs (omega arith) targets;
      counted = counted_is constants 4096 content.funcs;
      constants = fold_words [] numbers tt (all_words content.funcs);
      records = all_records_fit constants few_numbers content.funcs targets (all_listed [] numbers);
    }

pub target_map_is_map : (content : ModuleContent) → IsTargetModule content → IsMap (map_of content)
target_map_is_map content target = fits-map (map_of content) (target_map_fits content target)

-- what was spelled so is a map
pub written_is_map : (content : ModuleContent) → IsTargetModule content → (written : Result (Vec ℕ Global) Memory)
    → IfOk written (λ bytes. bytes.items ≡ map_bytes (map_of content)) → IfOk written (λ bytes. IsMapOf bytes.items (map_of content))
written_is_map content target (Ok bytes) spelled = record { allowed = target_map_is_map content target; spelled = spelled }
written_is_map content target (Err memory) spelled = tt
