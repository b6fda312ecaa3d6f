-- The maps of small modules by computation, as a check that the definitions say what is meant.
use Rattle.std.proofs.Common.{◌≡◌, refl, ℕ, ◌^◌, ◌-◌, List, [], ◌∷◌, ◌++◌, length, Some, None, codes}
use Rattle.std.specs.Prelude.{ℤ, pos, neg_ℤ}
use Rattle.ir_ast.specs.declared.modules.Form.TheVariants.{Rewritten}
use Rattle.ir_ast.specs.declared.ops.Callee.{Callee}
use Rattle.ir_ast.specs.declared.ops.Callee.TheVariants as callees
use Rattle.ir_ast.specs.declared.ops.Elem.TheVariants as elems
use Rattle.ir_ast.specs.declared.ops.Op.{Op}
use Rattle.ir_ast.specs.declared.ops.Op.TheVariants as ops
use Rattle.ir_ast.specs.declared.ops.Operand.{Operand}
use Rattle.ir_ast.specs.declared.ops.Operand.TheVariants as operands
use Rattle.ir_ast.specs.declared.types.Ty.{Ty}
use Rattle.ir_ast.specs.declared.types.Ty.TheVariants.{Void, Int, Ptr, Token}
use Rattle.ir_ast.specs.Insts.{Instruction}
use Rattle.ir_ast.specs.Funcs.{Function}
use Rattle.ir_ast.specs.Modules.{ModuleContent}
use Rattle.frame_forms.specs.FrameSizes.{frame_words}
use Rattle.map_bytes.specs.declared.values.Place.{Place}
use Rattle.map_bytes.specs.Tables.{padded, functions_then, constants_then, places_then, live_outs_then, record_then, records_then, behind_functions, map_format}
use Rattle.map_bytes.specs.Maps.{MapRecord, StackMap, map_bytes, map_numbers, record_bytes, record_numbers}
use Rattle.map_bytes.specs.Formats.{laid}
use Rattle.stackmap_write.specs.ModuleMaps.{map_of}

-- ---- modules

abbrev value : ℕ → Operand
value number = operands.Value (record { 0 = number })

abbrev literal : ℕ → Operand
literal number = operands.Int number

abbrev gives : Op → Ty → List Operand → Instruction
gives op ty operands = record { result = Some []; op = op; ty = ty; operands = operands; labels = []; bundle = [] }

abbrev does : Op → Ty → List Operand → Instruction
does op ty operands = record { result = None; op = op; ty = ty; operands = operands; labels = []; bundle = [] }

abbrev print : Operand → Instruction
print operand = does (ops.Call callees.Print (Int 64 ∷ [])) Void (operand ∷ [])

abbrev load : Operand → Instruction
load from = gives ops.Load (Int 64) (from ∷ [])

abbrev store : Operand → Operand → Instruction
store word to = does ops.Store (Int 64) (word ∷ to ∷ [])

-- getelementptr i8, ptr addrspace(1) from, i64 index
abbrev byte : Operand → ℕ → Instruction
byte from index = gives (ops.Gep (elems.Int 8) 64 None) Ptr (from ∷ literal index ∷ [])

abbrev return_void : Instruction
return_void = does ops.Ret Void []

abbrev return : Operand → Instruction
return operand = does ops.Ret (Int 64) (operand ∷ [])

-- a function with one block, and a module without layouts
abbrev function : List ℕ → Ty → List Instruction → Function
function name answer insts = record { name = name; answer = answer; args = []; blocks = record { name = codes "0"; insts = insts } ∷ [] }

abbrev module_of : List Function → ModuleContent
module_of funcs = record { layouts = []; funcs = funcs; form = Rewritten }

abbrev statepoint : Callee → List Ty → List Operand → Instruction
statepoint callee types operands = gives (ops.Statepoint 2882400000 callee types) Token operands

abbrev relocate : ℕ → ℕ → ℕ → Instruction
relocate token base derived = gives ops.GcRelocate Ptr (value token ∷ literal base ∷ literal derived ∷ [])

abbrev result : ℕ → Instruction
result token = gives ops.GcResult Ptr (value token ∷ [])

abbrev check : Operand → Operand → Instruction
check base address = does (ops.Call callees.Check (Ptr ∷ Ptr ∷ Int 64 ∷ [])) Void (base ∷ address ∷ literal 0 ∷ [])

abbrev poll : Instruction
poll = statepoint callees.Poll [] []

abbrev new_object : Instruction
new_object = statepoint (callees.New 0) (Int 64 ∷ []) (literal 1 ∷ [])

abbrev to_f : List Operand → Instruction
to_f live = statepoint (callees.Fun (record { 0 = 0 })) [] live

abbrev f : Function
f = function (codes "f") Void (poll ∷ return_void ∷ [])

-- a pointer lives across a call
abbrev plainest : ModuleContent
plainest = module_of
    (f
    ∷ function (codes "main") (Int 64)
    (poll ∷ new_object ∷ result 1 ∷ check (value 2) (value 2) ∷ store (literal 7) (value 2)
    ∷ to_f (value 2 ∷ []) ∷ relocate 3 0 0 ∷ check (value 4) (value 4) ∷ load (value 4) ∷ print (value 5) ∷ return (literal 0) ∷ []) ∷ [])

-- and one that points before its object with it
abbrev before_its_object : ModuleContent
before_its_object = module_of
    (f
    ∷ function (codes "main") (Int 64)
    (poll ∷ new_object ∷ result 1 ∷ check (value 2) (value 2) ∷ store (literal 7) (value 2) ∷ byte (value 2) (2 ^ 64 - 8)
    ∷ to_f (value 2 ∷ value 3 ∷ []) ∷ relocate 4 0 0 ∷ relocate 4 0 1 ∷ byte (value 6) 8 ∷ check (value 5) (value 7)
    ∷ load (value 7) ∷ print (value 8) ∷ return (literal 0) ∷ []) ∷ [])

-- a function without a statepoint, of five instructions, before one with a statepoint
abbrev without_statepoints : ModuleContent
without_statepoints = module_of
    (function (codes "leaf") Void (print (literal 1) ∷ print (literal 2) ∷ print (literal 3) ∷ print (literal 4) ∷ return_void ∷ [])
    ∷ function (codes "main") (Int 64) (print (literal 0) ∷ poll ∷ return (literal 0) ∷ []) ∷ [])

-- ---- their maps

abbrev constant_0 : Place
constant_0 = record { kind = 4; size = 8; register = 0; offset = pos 0 }

abbrev slot_at : ℕ → Place
slot_at offset = record { kind = 3; size = 8; register = 7; offset = pos offset }

abbrev at_offset : ℕ → List Place → MapRecord
at_offset offset pairs = record { id = 2882400000; offset = offset; places = constant_0 ∷ constant_0 ∷ constant_0 ∷ pairs; live_outs = [] }

plainest_map : map_of plainest ≡ record {
  functions = record { address = 4096; frame_bytes = 0; records = 1 } ∷ record { address = 4112; frame_bytes = 8; records = 3 } ∷ [];
  constants = [];
  records = at_offset 4 [] ∷ at_offset 4 [] ∷ at_offset 12 [] ∷ at_offset 28 (slot_at 0 ∷ slot_at 0 ∷ []) ∷ [];
}
plainest_map = refl

before_its_object_map : map_of before_its_object ≡ record {
  functions = record { address = 4096; frame_bytes = 0; records = 1 } ∷ record { address = 4112; frame_bytes = 16; records = 3 } ∷ [];
  constants = [];
  records = at_offset 4 [] ∷ at_offset 4 [] ∷ at_offset 12 [] ∷ at_offset 36 (slot_at 0 ∷ slot_at 0 ∷ slot_at 0 ∷ slot_at 8 ∷ []) ∷ [];
}
before_its_object_map = refl

-- twenty bytes of code end at 4116, so the next function starts at 4128
without_statepoints_map : map_of without_statepoints ≡ record {
  functions = record { address = 4128; frame_bytes = 0; records = 1 } ∷ [];
  constants = [];
  records = at_offset 8 [] ∷ [];
}
without_statepoints_map = refl

-- a bundle's named integer has a word behind the live entries, its literals and pointers none
abbrev with_bundle : Instruction
with_bundle = record {
  result = Some [];
  op = ops.Statepoint 2882400000 callees.Poll [];
  ty = Token;
  operands = value 0 ∷ value 1 ∷ [];
  labels = [];
  bundle = (Int 64, value 2) ∷ (Ptr, value 0) ∷ (Int 32, literal 5) ∷ [];
}

bundle_words : frame_words (function (codes "g") Void (with_bundle ∷ return_void ∷ [])) ≡ 3
bundle_words = refl

-- ---- bundles

abbrev keeping : Instruction → List (Ty × Operand) → Instruction
keeping call bundle = record call { bundle = bundle }

abbrev read_number : Instruction
read_number = gives (ops.Call callees.Read []) (Int 64) []

-- the bits of a negative number
abbrev minus : ℕ → ℕ → Operand
minus width number = literal (2 ^ width - number)

-- an integer that was read, a derived pointer, a small and a large literal and `null` are kept over the call of @u
abbrev keeps_five : ModuleContent
keeps_five = module_of
    (f
    ∷ function (codes "main") (Int 64)
    (poll ∷ new_object ∷ result 1 ∷ byte (value 2) 8 ∷ read_number
    ∷ keeping (to_f (value 2 ∷ value 3 ∷ []))
    ((Int 64, value 4) ∷ (Ptr, value 3) ∷ (Int 32, minus 32 5) ∷ (Int 64, literal 5000000000) ∷ (Ptr, operands.Null) ∷ [])
    ∷ relocate 5 0 0 ∷ relocate 5 0 1 ∷ return (literal 0) ∷ [])
    ∷ function (codes "u") Void (poll ∷ to_f [] ∷ return_void ∷ []) ∷ [])

abbrev fixed : ℤ → Place
fixed number = record constant_0 { offset = number }

abbrev listed : ℕ → Place
listed place = record { kind = 5; size = 8; register = 0; offset = pos place }

abbrev with_deopts : ℕ → List Place → List Place → MapRecord
with_deopts offset deopts pairs = record {
  id = 2882400000;
  offset = offset;
  places = constant_0 ∷ constant_0 ∷ fixed (pos (length deopts)) ∷ (deopts ++ pairs);
  live_outs = [];
}

abbrev five_kept : MapRecord
five_kept = with_deopts 32 (slot_at 16 ∷ slot_at 8 ∷ fixed (neg_ℤ (pos 5)) ∷ listed 0 ∷ fixed (pos 0) ∷ []) (slot_at 0 ∷ slot_at 0 ∷ slot_at 0 ∷ slot_at 8 ∷ [])

abbrev keeps_five_map : StackMap
keeps_five_map = record {
  functions = record { address = 4096; frame_bytes = 0; records = 1 } ∷ record { address = 4112; frame_bytes = 24; records = 3 }
      ∷ record { address = 4160; frame_bytes = 0; records = 2 } ∷ [];
  constants = 5000000000 ∷ [];
  records = at_offset 4 [] ∷ at_offset 4 [] ∷ at_offset 12 [] ∷ five_kept ∷ at_offset 4 [] ∷ at_offset 8 [] ∷ [];
}

keeps_five_is : map_of keeps_five ≡ keeps_five_map
keeps_five_is = refl

-- twelve locations, 168 bytes
keeps_five_record : length (record_bytes five_kept) ≡ 168
unfolding record_bytes record_numbers laid padded places_then live_outs_then record_then
keeps_five_record = refl

keeps_five_bytes : length (map_bytes keeps_five_map) ≡ 584
unfolding map_bytes laid map_format map_numbers record_numbers padded functions_then constants_then places_then live_outs_then record_then records_then behind_functions
keeps_five_bytes = refl

-- the least small number, and bits whose width decides what number they are; the next lower number is listed, once for two uses
abbrev keeps_edges : ModuleContent
keeps_edges = module_of
    (f
    ∷ function (codes "main") (Int 64)
    (keeping (to_f []) ((Int 64, minus 64 2147483648) ∷ (Int 32, literal 4294967295) ∷ (Int 1, literal 1) ∷ (Int 64, minus 64 2147483649) ∷ [])
    ∷ keeping (to_f []) ((Int 64, literal 2147483648) ∷ (Int 64, minus 64 2147483649) ∷ (Int 64, literal 2147483647) ∷ [])
    ∷ return (literal 0) ∷ []) ∷ [])

keeps_edges_map : map_of keeps_edges ≡ record {
  functions = record { address = 4096; frame_bytes = 0; records = 1 } ∷ record { address = 4112; frame_bytes = 0; records = 2 } ∷ [];
  constants = (2 ^ 64 - 2147483649) ∷ 2147483648 ∷ [];
  records = at_offset 4 []
      ∷ with_deopts 4 (fixed (neg_ℤ (pos 2147483648)) ∷ fixed (neg_ℤ (pos 1)) ∷ fixed (neg_ℤ (pos 1)) ∷ listed 0 ∷ []) []
      ∷ with_deopts 8 (listed 1 ∷ listed 0 ∷ fixed (pos 2147483647) ∷ []) [] ∷ [];
}
keeps_edges_map = refl

-- a pointer that is kept beside `null`, its base
abbrev keeps_behind_null : ModuleContent
keeps_behind_null = module_of
    (f
    ∷ function (codes "main") (Int 64)
    (byte operands.Null 5 ∷ keeping (to_f (operands.Null ∷ value 0 ∷ [])) ((Ptr, value 0) ∷ []) ∷ relocate 1 0 1 ∷ return (literal 0) ∷ []) ∷ [])

keeps_behind_null_map : map_of keeps_behind_null ≡ record {
  functions = record { address = 4096; frame_bytes = 0; records = 1 } ∷ record { address = 4112; frame_bytes = 16; records = 1 } ∷ [];
  constants = [];
  records = at_offset 4 [] ∷ with_deopts 12 (slot_at 8 ∷ []) (slot_at 0 ∷ slot_at 8 ∷ []) ∷ [];
}
keeps_behind_null_map = refl
