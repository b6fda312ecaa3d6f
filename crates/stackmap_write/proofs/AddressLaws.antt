-- Return addresses rise along the records of a written map.
use Rattle.std.proofs.Common.{◌≡◌, ◌∙◌, ℕ, zero, suc, ◌+◌, ◌*◌, ◌%◌, ◌^◌, ◌<◌, ◌≤◌, Bool, true, false, cond, List, [], ◌∷◌, ◌++◌, length, take, drop, map, filter, nat_lt, get_or, refl, ap, sym, subst, arith}
use Rattle.std.specs.List.{All, flat_map, prefix_len}
use Rattle.std.proofs.lemmas.Bool.{ltb-false}
use Rattle.std.proofs.lemmas.List.Elements.{All-head, All-tail}
use Rattle.std.specs.List.Sorted.{IsStrictlyIncreasing}
use Rattle.std.proofs.lemmas.List.{map-append}
use Rattle.std.proofs.lemmas.List.Sums.{length-filter}
use Rattle.std.proofs.Math.Seq.{take-append_seam, drop-append_seam}
use Rattle.ir_ast.specs.declared.ops.Op.{Op}
use Rattle.ir_ast.specs.declared.ops.Op.TheVariants.{Statepoint}
use Rattle.ir_ast.specs.Insts.{Instruction}
use Rattle.ir_ast.specs.Funcs.{Function, instructions_of}
use Rattle.ir_ast.specs.Modules.{ModuleContent}
use Rattle.ir_ast.specs.Faults.GroupShape.{is_statepoint}
use Rattle.ir_cfg.specs.TargetModules.{IsTargetModule}
use Rattle.object_meaning.specs.Frames.{is_member}
use Rattle.frame_forms.specs.CodeAddresses.{next_start}
use Rattle.frame_forms.specs.ModuleLayouts.{FunctionLayout, laid_at, laid_from, statepoints_of}
use Rattle.map_bytes.specs.declared.values.FuncEntry.{FuncEntry}
use Rattle.map_bytes.specs.declared.values.Place.{Place}
use Rattle.map_bytes.specs.Entries.{Entry, entry_of, entries_of, entries}
use Rattle.map_bytes.specs.Maps.{MapRecord}
use Rattle.stackmap_write.specs.Constants.{constants_of}
use Rattle.stackmap_write.specs.ModuleMaps.{deopt_places, entries_of as function_entries, entry_of as function_entry, map_of, records_at, records_from, records_of}
use Rattle.stackmap_write.proofs.FitLaws.{IsTarget, length-records, targets_of}

-- ---- rising numbers between two ends: above the lower one, at most the upper one

abbrev pub Rises : ℕ → ℕ → List ℕ → Type 0
Rises low high [] = low ≤ high
Rises low high (x ∷ xs) = (low < x) × Rises x high xs

rises_within : (low high : ℕ) (xs : List ℕ) → Rises low high xs → low ≤ high
rises_within low high [] rises = rises
rises_within low high (x ∷ xs) rises =
    let above : low < x = rises.0 in
    let rest : x ≤ high = rises_within x high xs rises.1 in
    omega arith

rises_lower : (lower low high : ℕ) (xs : List ℕ) → lower ≤ low → Rises low high xs → Rises lower high xs
rises_lower lower low high [] below rises = let known : low ≤ high = rises in omega arith
rises_lower lower low high (x ∷ xs) below rises = let above : low < x = rises.0 in (omega arith, rises.1)

rises_joined : (low middle high : ℕ) (xs ys : List ℕ) → Rises low middle xs → Rises middle high ys → Rises low high (xs ++ ys)
rises_joined low middle high [] ys front back = rises_lower low middle high ys front back
rises_joined low middle high (x ∷ xs) ys front back = (front.0, rises_joined x middle high xs ys front.1 back)

rises_shifted : (shift low high : ℕ) (xs : List ℕ) → Rises low high xs → Rises (shift + low) (shift + high) (map (λ x. shift + x) xs)
rises_shifted shift low high [] rises = let known : low ≤ high = rises in omega arith
rises_shifted shift low high (x ∷ xs) rises = let above : low < x = rises.0 in (omega arith, rises_shifted shift x high xs rises.1)

rises_at : (low high : ℕ) (xs : List ℕ) → Rises low high xs → (k : ℕ) → k + 1 < length xs → get_or xs k 0 < get_or xs (k + 1) 0
rises_at low high [] rises k within = absurd (omega arith)
rises_at low high (x ∷ []) rises k within = absurd (omega arith)
rises_at low high (x ∷ y ∷ xs) rises zero within = rises.1.0
rises_at low high (x ∷ y ∷ xs) rises (suc k) within =
    let next : suc k + 1 ≡ suc (k + 1) = omega arith in
    rw next (rises_at x high (y ∷ xs) rises.1 k (omega arith))

-- ---- offsets of a function's records

abbrev offsets_of : List MapRecord → List ℕ
offsets_of records = map (λ one. one.offset) records

abbrev run_of : List Instruction → ℕ
run_of insts = prefix_len (λ inst. is_member inst.op) insts

ends_below : (member : Bool) (place run : ℕ) → 4 * (place + cond member (1 + run) 0) ≤ 4 * (place + 1 + run)
ends_below true place run = omega arith
ends_below false place run = omega arith

starts_below : (member : Bool) (place run : ℕ) → false ≡ member → 4 * (place + cond member (1 + run) 0) < 4 * (place + 1 + run)
starts_below true place run none = cc
starts_below false place run none = omega arith

-- what an operator's record, if it has one, adds before the others
at_op : (constants : List ℕ) (deopts : List Place) (member : Bool) (place : ℕ) (rest : List Instruction) (op : Op) → is_member op ≡ member → (high : ℕ)
    → Rises (4 * (place + 1 + run_of rest)) high (offsets_of (records_from constants (place + 1) rest))
    → Rises (4 * (place + cond member (1 + run_of rest) 0)) high (offsets_of (records_at place deopts op rest ++ records_from constants (place + 1) rest))
at_op constants deopts member place rest (Statepoint id callee types) kind high rises = (starts_below member place (run_of rest) kind, rises)
at_op constants deopts member place rest _ kind high rises =
    rises_lower (4 * (place + cond member (1 + run_of rest) 0)) (4 * (place + 1 + run_of rest)) high (offsets_of (records_from constants (place + 1) rest))
    (ends_below member place (run_of rest)) rises

offsets_rise : (constants : List ℕ) (place : ℕ) (insts : List Instruction)
    → Rises (4 * (place + run_of insts)) (4 * (place + length insts)) (offsets_of (records_from constants place insts))
offsets_rise constants place [] = omega arith
offsets_rise constants place (inst ∷ rest) =
    let more : 4 * (place + 1 + length rest) ≡ 4 * (place + suc (length rest)) = omega arith in
    let P : ℕ → Type 0 = λ high. Rises (4 * (place + 1 + run_of rest)) high (offsets_of (records_from constants (place + 1) rest)) in
    at_op constants (deopt_places constants inst) (is_member inst.op) place rest inst.op refl (4 * (place + suc (length rest)))
    (subst P more (offsets_rise constants (place + 1) rest))

-- ---- addresses of a module's records

abbrev addresses_of : List Entry → List ℕ
addresses_of found = map (λ one. one.return_address) found

-- no address of a function passes 2 ^ 64
plain_addresses : (function : FuncEntry) (high : ℕ) (records : List MapRecord) (low : ℕ) → Rises low high (offsets_of records) → function.address + high < 2 ^ 64
    → addresses_of (map (entry_of function) records) ≡ map (λ x. function.address + x) (offsets_of records)
plain_addresses function high [] low rises room = refl
plain_addresses function high (one ∷ records) low rises room =
    let within : one.offset ≤ high = rises_within one.offset high (offsets_of records) rises.1 in
    let small : (function.address + one.offset) % 2 ^ 64 ≡ function.address + one.offset = omega arith in
    ap (λ (n : ℕ). n ∷ addresses_of (map (entry_of function) records)) small
    ∙ ap (λ (ns : List ℕ). (function.address + one.offset) ∷ ns) (plain_addresses function high records one.offset rises.1 room)

none_left : (records : List MapRecord) → length records ≡ 0 → records ≡ []
none_left [] none = refl
none_left (one ∷ records) none = absurd (omega arith)

-- the records of a function and of those behind it
pub split_by : (constants : List ℕ) (has : Bool) (start : ℕ) (func : Function) (laid : List FunctionLayout) (rest : List MapRecord) → nat_lt 0 (statepoints_of func) ≡ has
    → entries_of (map function_entry (cond has (laid_at start func ∷ filter (λ other. nat_lt 0 other.statepoints) laid) (filter (λ other. nat_lt 0 other.statepoints) laid)))
    (records_of constants func ++ rest)
    ≡ map (entry_of (function_entry (laid_at start func))) (records_of constants func) ++ entries_of (function_entries laid) rest
unfolding entries_of
split_by constants true start func laid rest has =
    let count : statepoints_of func ≡ length (records_of constants func) = sym (length-filter (λ inst. is_statepoint inst.op) (instructions_of func.blocks)) ∙ sym (length-records constants 0 (instructions_of func.blocks)) in
    ap (λ n. map (entry_of (function_entry (laid_at start func))) (take n (records_of constants func ++ rest)) ++ entries_of (function_entries laid) (drop n (records_of constants func ++ rest))) count
    ∙ ap (λ front. map (entry_of (function_entry (laid_at start func))) front ++ entries_of (function_entries laid) (drop (length (records_of constants func)) (records_of constants func ++ rest))) (take-append_seam (records_of constants func) rest)
    ∙ ap (λ back. map (entry_of (function_entry (laid_at start func))) (records_of constants func) ++ entries_of (function_entries laid) back) (drop-append_seam (records_of constants func) rest)
split_by constants false start func laid rest has =
    let count : statepoints_of func ≡ length (records_of constants func) = sym (length-filter (λ inst. is_statepoint inst.op) (instructions_of func.blocks)) ∙ sym (length-records constants 0 (instructions_of func.blocks)) in
    let few : statepoints_of func ≤ 0 = ltb-false 0 (statepoints_of func) has in
    let none : records_of constants func ≡ [] = none_left (records_of constants func) (omega arith) in
    ap (λ records. entries_of (function_entries laid) (records ++ rest)) none
    ∙ sym (ap (λ records. map (entry_of (function_entry (laid_at start func))) records ++ entries_of (function_entries laid) rest) none)

rises_upper : (low high higher : ℕ) (xs : List ℕ) → high ≤ higher → Rises low high xs → Rises low higher xs
rises_upper low high higher [] above rises = let known : low ≤ high = rises in omega arith
rises_upper low high higher (x ∷ xs) above rises = (rises.0, rises_upper x high higher xs above rises.1)

addresses_rise : (constants : List ℕ) (start : ℕ) (funcs : List Function) → start + length funcs * 4294967312 < 2 ^ 64 → All IsTarget funcs
    → Rises start (start + length funcs * 4294967312) (addresses_of (entries_of (function_entries (laid_from start funcs)) (flat_map (records_of constants) funcs)))
unfolding entries_of
addresses_rise constants start [] room targets = omega arith
addresses_rise constants start (func ∷ funcs) room targets =
    let target : IsTarget func = All-head IsTarget func funcs targets in
    let few : length (instructions_of func.blocks) < 2 ^ 30 = target.small.few_instructions in
    let next = next_start start func in
    let within : next ≤ start + 4294967312 = omega arith in
    let behind : start + 4 * (0 + length (instructions_of func.blocks)) ≤ next = omega arith in
    let left : next + length funcs * 4294967312 < 2 ^ 64 = omega arith in
    let laid = laid_from next funcs in
    let rest = flat_map (records_of constants) funcs in
    let one = function_entry (laid_at start func) in
    let high = 4 * (0 + length (instructions_of func.blocks)) in
    let offsets : Rises 0 high (offsets_of (records_of constants func)) =
    rises_lower 0 (4 * (0 + run_of (instructions_of func.blocks))) high (offsets_of (records_of constants func)) (omega arith) (offsets_rise constants 0 (instructions_of func.blocks)) in
    let split = ap addresses_of (split_by constants (nat_lt 0 (statepoints_of func)) start func laid rest refl)
    ∙ map-append (λ (e : Entry). e.return_address) (map (entry_of one) (records_of constants func)) (entries_of (function_entries laid) rest)
    ∙ ap (λ front. front ++ addresses_of (entries_of (function_entries laid) rest)) (plain_addresses one high (records_of constants func) 0 offsets (omega arith)) in
    let front : Rises start (start + high) (map (λ x. start + x) (offsets_of (records_of constants func))) =
    rises_lower start (start + 0) (start + high) (map (λ x. start + x) (offsets_of (records_of constants func))) (omega arith) (rises_shifted start 0 high (offsets_of (records_of constants func)) offsets) in
    let later : Rises (start + high) (next + length funcs * 4294967312) (addresses_of (entries_of (function_entries laid) rest)) =
    rises_lower (start + high) next (next + length funcs * 4294967312) (addresses_of (entries_of (function_entries laid) rest)) behind
    (addresses_rise constants next funcs left (All-tail IsTarget func funcs targets)) in
    let whole = rises_upper start (next + length funcs * 4294967312) (start + suc (length funcs) * 4294967312)
    (map (λ x. start + x) (offsets_of (records_of constants func)) ++ addresses_of (entries_of (function_entries laid) rest)) (omega arith)
    (rises_joined start (start + high) (next + length funcs * 4294967312) (map (λ x. start + x) (offsets_of (records_of constants func))) (addresses_of (entries_of (function_entries laid) rest)) front later) in
    subst (Rises start (start + suc (length funcs) * 4294967312)) (sym split) whole

-- each return address of a target module's map is above the one before it
pub target_addresses_rise : (content : ModuleContent) → IsTargetModule content → IsStrictlyIncreasing (addresses_of (entries (map_of content)))
target_addresses_rise content target =
    let few : length content.funcs ≤ 4096 = target.typed.limits.functions in
    rises_at 4096 (4096 + length content.funcs * 4294967312) (addresses_of (entries (map_of content)))
    (addresses_rise (constants_of content) 4096 content.funcs (omega arith) (targets_of content target))
