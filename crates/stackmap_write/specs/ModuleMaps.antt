-- The stack map of a rewritten module: one function entry for each function with a statepoint and one record for each
-- statepoint, in text order, and the constants that its records need.
use Rattle.std.specs.Prelude.{ℕ, ℤ, ◌+◌, ◌*◌, ◌==◌, if◌then◌else◌, List, [], ◌∷◌, ◌++◌, length, map, filter, take, zip, Option, Some, None, slice_get, nat_lt, pos}
use Rattle.std.specs.List.{flat_map, position}
use Rattle.std.specs.Option.{unwrap_or}
use Rattle.std.specs.Int.{w32, cast_signed}
use Rattle.ir_ast.specs.declared.types.Ty.{Ty}
use Rattle.ir_ast.specs.declared.ops.Operand.{Operand}
use Rattle.ir_ast.specs.declared.ops.Op.{Op}
use Rattle.ir_ast.specs.declared.ops.Op.TheVariants.{Statepoint, GcRelocate}
use Rattle.ir_ast.specs.Insts.{Instruction}
use Rattle.ir_ast.specs.Funcs.{Function, instructions_of}
use Rattle.ir_ast.specs.Modules.{ModuleContent}
use Rattle.object_meaning.specs.Frames.{index_in}
use Rattle.frame_forms.specs.Groups.{group_size}
use Rattle.frame_forms.specs.FrameSizes.{slot}
use Rattle.frame_forms.specs.BundleWords.{deopt_words}
use Rattle.frame_forms.specs.ModuleLayouts.{FunctionLayout, address_in, frame_bytes_in, statepoints_in, layout_of}
use Rattle.map_bytes.specs.declared.values.FuncEntry.{FuncEntry}
use Rattle.map_bytes.specs.declared.values.Place.{Place}
use Rattle.map_bytes.specs.Maps.{MapRecord, StackMap}
use Rattle.stackmap_write.specs.Constants.{constant_of, constants_of, entry_number, is_small}

-- ---- locations

-- a small constant
abbrev pub constant_place : ℤ → Place
constant_place number = record { kind = 4; size = 8; register = 0; offset = number }

-- one of the map's constants, by its place among them, which a reader takes as an unsigned number
abbrev pub listed_place : ℕ → Place
listed_place place = record { kind = 5; size = 8; register = 0; offset = cast_signed w32 place }

-- a word of the frame; register 7 is the stack pointer
abbrev pub slot_place : ℕ → Place
slot_place word = record { kind = 3; size = 8; register = 7; offset = pos (slot word) }

-- the calling convention, the flags, and how many "deopt" locations follow
abbrev pub head_places : ℕ → List Place
head_places deopts = constant_place (pos 0) ∷ constant_place (pos 0) ∷ constant_place (pos deopts) ∷ []

-- the place of a number among constants
abbrev pub constant_at : List ℕ → ℕ → ℕ
constant_at constants number = unwrap_or (position (λ one. number == one) constants) 0

abbrev pub number_place : List ℕ → ℤ → Place
number_place constants number = if is_small number then constant_place number else listed_place (constant_at constants (constant_of number))

-- an operand of a bundle, in a map of these constants: its word of the frame, or its number
abbrev pub deopt_place : List ℕ → Ty → Operand → Option ℕ → Place
deopt_place constants ty operand (Some word) = slot_place word
deopt_place constants ty operand None = number_place constants (entry_number ty operand)

-- of each operand of a bundle and its word
abbrev pub places_by : List ℕ → List (Ty × Operand) → List (Option ℕ) → List Place
places_by constants bundle words = map (λ one. deopt_place constants one.0.0 one.0.1 one.1) (zip bundle words)

abbrev pub deopt_places : List ℕ → Instruction → List Place
deopt_places constants inst = places_by constants inst.bundle (deopt_words inst)

-- the base slot and the derived slot of a relocate; its operands are the token and two places in the "gc-live" list
abbrev pub pair_places : Op → List Operand → List Place
pair_places GcRelocate operands = slot_place (index_in (slice_get operands 1)) ∷ slot_place (index_in (slice_get operands 2)) ∷ []
pair_places op operands = []

abbrev pub member_places : Instruction → List Place
member_places inst = pair_places inst.op inst.operands

-- of a record with these "deopt" locations and this group
abbrev pub group_places : List Place → List Instruction → List Place
group_places deopts group = head_places (length deopts) ++ (deopts ++ flat_map member_places group)

-- ---- records

-- of a statepoint with this id, whose return address has this offset, with these "deopt" locations and this group
abbrev pub statepoint_record : ℕ → ℕ → List Place → List Instruction → MapRecord
statepoint_record id offset deopts group = record { id = id; offset = offset; places = group_places deopts group; live_outs = [] }

-- of an instruction with this place in its function and these "deopt" locations, and those behind it
abbrev pub records_at : ℕ → List Place → Op → List Instruction → List MapRecord
records_at place deopts (Statepoint id callee types) rest =
    let size = group_size (Statepoint id callee types) rest in
    statepoint_record id (4 * (place + 1 + size)) deopts (take size rest) ∷ []
records_at place deopts op rest = []

-- of instructions of which the first has this place, in a map of these constants
abbrev pub records_from : List ℕ → ℕ → List Instruction → List MapRecord
records_from constants place [] = []
records_from constants place (inst ∷ insts) =
    records_at place (deopt_places constants inst) inst.op insts ++ records_from constants (place + 1) insts

abbrev pub records_of : List ℕ → Function → List MapRecord
records_of constants func = records_from constants 0 (instructions_of func.blocks)

-- ---- function entries

abbrev pub entry_of : FunctionLayout → FuncEntry
entry_of laid = record { address = laid.address; frame_bytes = laid.frame_bytes; records = laid.statepoints }

abbrev pub entries_of : List FunctionLayout → List FuncEntry
entries_of laid = map entry_of (filter (λ one. nat_lt 0 one.statepoints) laid)

-- that of the function with this number
abbrev pub entry_in : List FunctionLayout → ℕ → FuncEntry
entry_in laid func = record { address = address_in laid func; frame_bytes = frame_bytes_in laid func; records = statepoints_in laid func }

-- ---- the map of a module

abbrev pub map_of : ModuleContent → StackMap
map_of content = record {
  functions = entries_of (layout_of content);
  constants = constants_of content;
  records = flat_map (records_of (constants_of content)) content.funcs;
}
