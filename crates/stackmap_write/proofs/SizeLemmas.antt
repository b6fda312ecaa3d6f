-- The bytes of records are as many as their sizes say.
use Rattle.std.proofs.Common.{◌≡◌, ◌∙◌, ℕ, ◌+◌, ◌*◌, ◌%◌, ◌^◌, ◌<◌, ◌≤◌, Bool, true, false, cond, eqb, List, [], ◌∷◌, ◌++◌, length, get_or, take, drop, map, count_by, refl, ap, sym, arith, length-append}
use Rattle.std.specs.List.{flat_map, AllByRecursion}
use Rattle.std.proofs.lemmas.Grind.{flat_map-append}
use Rattle.std.proofs.lemmas.List.Sums.{sum_by-cons}
use Rattle.list_laws.proofs.Places.{drop_item}
use Rattle.byteorder.specs.Endian.{little_bytes}
use Rattle.ir_ast.specs.declared.ops.Op.{Op}
use Rattle.ir_ast.specs.declared.ops.Op.TheVariants.{Statepoint, GcRelocate}
use Rattle.ir_ast.specs.declared.ops.Operand.{Operand}
use Rattle.ir_ast.specs.Insts.{Instruction}
use Rattle.ir_ast.specs.Blocks.{BasicBlock, EndsAtTerminator}
use Rattle.ir_ast.specs.Funcs.{Function, LinedFunction, content_of, instructions_of}
use Rattle.ir_ast.specs.Modules.{ModuleContent}
use Rattle.ir_cfg.specs.Statepoints.{is_relocate}
use Rattle.frame_forms.specs.Groups.{group_size}
use Rattle.frame_forms.specs.ModuleLayouts.{layout_of}
use Rattle.map_bytes.specs.Fits.{MapFits, RecordFits}
use Rattle.map_bytes.specs.declared.values.Place.{Place}
use Rattle.map_bytes.specs.Maps.{MapRecord, function_bytes, header_bytes, map_bytes, record_bytes}
use Rattle.map_bytes.specs.Reads.{places_end}
use Rattle.map_bytes.proofs.PartLaws.{map_bytes-parts}
use Rattle.map_bytes.proofs.ReadLaws.{length-constants, length-functions, length-record}
use Rattle.stackmap_write.specs.Constants.{constants_of}
use Rattle.stackmap_write.specs.ModuleMaps.{deopt_places, entries_of, group_places, map_of, member_places, pair_places, records_at, records_from, records_of, statepoint_record}
use Rattle.stackmap_write.specs.Sizes.{places_of, record_size, records_size, size_at}
use Rattle.stackmap_write.proofs.PlaceFitLaws.{deopts_count}
use Rattle.stackmap_write.proofs.RecordLemmas.{function_step, records_joined}

-- ---- a record

pairs_by : (op : Op) (operands : List Operand) → length (pair_places op operands) ≡ 2 * cond (is_relocate op) 1 0
pairs_by GcRelocate operands = refl
pairs_by _ operands = refl

members_count : (group : List Instruction) → length (flat_map member_places group) ≡ 2 * count_by (λ inst. is_relocate inst.op) group
members_count [] = refl
members_count (inst ∷ group) =
    let split = length-append (member_places inst) (flat_map member_places group) in
    let one = pairs_by inst.op inst.operands in
    let more = members_count group in
    let sum = sum_by-cons (λ (i : Instruction). cond (is_relocate i.op) 1 0) inst group in
    omega (arith, split, one, more, sum)

pub record_length : (id offset : ℕ) (deopts : List Place) (group : List Instruction)
    → length (record_bytes (statepoint_record id offset deopts group)) ≡ record_size (length deopts) group
record_length id offset deopts group =
    let members : length (flat_map member_places group) ≡ 2 * count_by (λ inst. is_relocate inst.op) group = members_count group in
    let split = length-append deopts (flat_map member_places group) in
    let count : length (group_places deopts group) ≡ places_of (length deopts) group = omega (arith, members, split) in
    let whole = length-record (statepoint_record id offset deopts group) in
    let ends : places_end (length (group_places deopts group)) ≡ places_end (places_of (length deopts) group) = ap places_end count in
    omega (arith, whole, ends)

-- ---- records

at_length : (place : ℕ) (deopts : List Place) (op : Op) (rest : List Instruction) → length (flat_map record_bytes (records_at place deopts op rest)) ≡ size_at (length deopts) op rest
at_length place deopts (Statepoint id callee types) rest =
    let op = Statepoint id callee types in
    let size = group_size op rest in
    let one = record_length id (4 * (place + 1 + size)) deopts (take size rest) in
    let joined = length-append (record_bytes (statepoint_record id (4 * (place + 1 + size)) deopts (take size rest))) [] in
    omega (arith, joined, one)
at_length place deopts _ rest = refl

-- wherever they stand
pub records_length : (constants : List ℕ) (place : ℕ) (insts : List Instruction) → length (flat_map record_bytes (records_from constants place insts)) ≡ records_size insts
records_length constants place [] = refl
records_length constants place (inst ∷ insts) =
    let deopts = deopt_places constants inst in
    let later = records_from constants (place + 1) insts in
    ap length (flat_map-append record_bytes (records_at place deopts inst.op insts) later)
    ∙ (length-append (flat_map record_bytes (records_at place deopts inst.op insts)) (flat_map record_bytes later)
    ∙ (ap (λ n. n + length (flat_map record_bytes later)) (at_length place deopts inst.op insts ∙ ap (λ n. size_at n inst.op insts) (deopts_count constants inst))
    ∙ ap (λ n. size_at (length inst.bundle) inst.op insts + n) (records_length constants (place + 1) insts)))

size_joined : (block after : List Instruction) → EndsAtTerminator block → records_size (block ++ after) ≡ records_size block + records_size after
size_joined block after ends =
    sym (records_length [] 0 (block ++ after))
    ∙ (ap (λ records. length (flat_map record_bytes records)) (records_joined [] 0 block after ends)
    ∙ (ap length (flat_map-append record_bytes (records_from [] 0 block) (records_from [] (0 + length block) after))
    ∙ (length-append (flat_map record_bytes (records_from [] 0 block)) (flat_map record_bytes (records_from [] (0 + length block) after))
    ∙ (ap (λ n. n + length (flat_map record_bytes (records_from [] (0 + length block) after))) (records_length [] 0 block)
    ∙ ap (λ n. records_size block + n) (records_length [] (0 + length block) after)))))

-- of the blocks from one on
pub block_sizes : (blocks : List BasicBlock) (k : ℕ) (block : BasicBlock) (insts : List Instruction) → k < length blocks → block ≡ get_or blocks k block
    → insts ≡ block.insts → EndsAtTerminator insts
    → records_size (instructions_of (drop k blocks)) ≡ records_size insts + records_size (instructions_of (drop (k + 1) blocks))
block_sizes blocks k block insts below is same ends =
    ap (λ rest. records_size (instructions_of rest)) (drop_item blocks k block below is)
    ∙ (ap (λ first. records_size (first ++ instructions_of (drop (k + 1) blocks))) (sym same) ∙ size_joined insts (instructions_of (drop (k + 1) blocks)) ends)

-- of the functions from one on
pub function_sizes : (constants : List ℕ) (funcs : List LinedFunction) (contents : List Function) (k : ℕ) (func : LinedFunction) → map content_of funcs ≡ contents → k < length funcs
    → func ≡ get_or funcs k func
    → length (flat_map record_bytes (flat_map (records_of constants) (drop k contents)))
    ≡ records_size (instructions_of func.content.blocks) + length (flat_map record_bytes (flat_map (records_of constants) (drop (k + 1) contents)))
function_sizes constants funcs contents k func same below is =
    let later = flat_map (records_of constants) (drop (k + 1) contents) in
    ap (λ records. length (flat_map record_bytes records)) (function_step constants funcs contents k func same below is)
    ∙ (ap length (flat_map-append record_bytes (records_of constants func.content) later)
    ∙ (length-append (flat_map record_bytes (records_of constants func.content)) (flat_map record_bytes later)
    ∙ ap (λ n. n + length (flat_map record_bytes later)) (records_length constants 0 (instructions_of func.content.blocks))))

-- ---- the map

header_length : (content : ModuleContent) → length (header_bytes (map_of content)) ≡ 16
unfolding header_bytes
header_length content = omega arith

pub map_length : (content : ModuleContent)
    → length (map_bytes (map_of content))
    ≡ 16 + 24 * length (entries_of (layout_of content)) + 8 * length (constants_of content) + length (flat_map record_bytes (flat_map (records_of (constants_of content)) content.funcs))
map_length content =
    let entries = flat_map function_bytes (entries_of (layout_of content)) in
    let constants = flat_map (little_bytes 8) (constants_of content) in
    let records = flat_map record_bytes (flat_map (records_of (constants_of content)) content.funcs) in
    let header = header_length content in
    let whole = ap length (map_bytes-parts (map_of content)) ∙ length-append (header_bytes (map_of content)) (entries ++ (constants ++ records)) in
    let parts = length-append entries (constants ++ records) in
    let rest = length-append constants records in
    let heads = length-functions (entries_of (layout_of content)) in
    let numbers = length-constants (constants_of content) in
    omega (arith, whole, parts, rest, heads, numbers, header)

-- ---- numbers that fit

records_short : (constants : ℕ) (records : List MapRecord) → AllByRecursion (RecordFits constants) records → length (flat_map record_bytes records) ≤ 2097152 * length records
records_short constants [] fits = omega arith
records_short constants (one ∷ records) fits =
    let split = length-append (record_bytes one) (flat_map record_bytes records) in
    let here = length-record one in
    let few : length one.places < 2 ^ 16 = fits.0.few_places in
    let live : length one.live_outs < 2 ^ 16 = fits.0.few_live_outs in
    let first = at_most (eqb ((16 + 12 * length one.places) % 8) 0) in
    let second = at_most (eqb ((4 + 4 * length one.live_outs) % 8) 0) in
    let more = records_short constants records fits.1 in
    omega (arith, split, here, few, live, first, second, more)
  where
    at_most : (b : Bool) → cond b 0 4 ≤ 4
    at_most true = omega arith
    at_most false = omega arith

pub map_short : (content : ModuleContent) → MapFits (map_of content) → length (map_bytes (map_of content)) < 2 ^ 60
map_short content fits =
    let constants = constants_of content in
    let few : length (flat_map (records_of constants) content.funcs) < 2 ^ 32 = fits.few_records in
    let functions : length (entries_of (layout_of content)) < 2 ^ 32 = fits.few_functions in
    let numbers : length constants < 2 ^ 32 = fits.few_constants in
    let records = records_short (length constants) (flat_map (records_of constants) content.funcs) fits.records in
    omega (arith, map_length content, few, functions, numbers, records)
