-- What a frame that waits shows at a trap, through the map.
use Rattle.std.proofs.Common.{◌≡◌, ℕ, ◌-◌, ◌^◌, List, [], ◌∷◌, ◌++◌, refl, codes, pos, neg_ℤ, Some, None}
use Rattle.std.specs.Fmt.{signed_decimal}
use Rattle.std.specs.List.{flat_map}
use Rattle.std.specs.Prelude.{ℤ, decimal}
use Rattle.sp_ids.specs.declared.ends.End.TheVariants as ended
use Rattle.sp_ids.specs.declared.ends.Trap.TheVariants as traps
use Rattle.ir_ast.specs.declared.cells.Cell.TheVariants as cells
use Rattle.ir_ast.specs.declared.ops.Callee.TheVariants as callees
use Rattle.ir_ast.specs.declared.ops.Op.TheVariants as ops
use Rattle.ir_ast.specs.declared.ops.Operand.TheVariants.{Null}
use Rattle.ir_ast.specs.declared.types.Ty.TheVariants.{Void, Int, Ptr}
use Rattle.ir_ast.specs.Insts.{Instruction}
use Rattle.ir_ast.specs.Modules.{ModuleContent}
use Rattle.ir_ast.specs.Sizes.{laid, size_of}
use Rattle.map_bytes.specs.declared.values.Place.{Place}
use Rattle.map_bytes.specs.Entries.{entries_of}
use Rattle.map_bytes.specs.Maps.{MapRecord, StackMap}
use Rattle.moving_heap.specs.declared.stands.Verdict.TheVariants.{Empty}
use Rattle.object_meaning.specs.Accesses.{field_at}
use Rattle.object_meaning.specs.Effects.{newline}
use Rattle.object_meaning.specs.Numbers.{sign_extended}
use Rattle.object_meaning.specs.Steps.{step}
use Rattle.object_meaning.specs.Traces.{at_new, at_poll}
use Rattle.machine_meaning.specs.Code.{machinery_of}
use Rattle.machine_meaning.specs.MachineSteps.{machine_step}
use Rattle.machine_meaning.specs.TrapLines.{shown_at, shown_over, shown_word, values_of}
use Rattle.machine_meaning.specs.MachineRuns.{MachineOutcome, MachineGives, machine_proceeds}
use Rattle.machine_meaning.proofs.OutcomeLaws.{gives_within}
use Rattle.machine_meaning.proofs.Samples.{rewritten, function, value, literal, gives, next_field, return, return_void, statepoint, poll, new_cell, result, relocate, constant, slot, kept, frames}

-- a call of @u with an integer that was read, a pointer 8 bytes behind an object's front, literals and null
abbrev shows : Instruction
shows = record (statepoint (callees.Fun (record { 0 = 2 })) [] (value 2 ∷ value 3 ∷ [])) {
  bundle = (Int 64, value 4) ∷ (Ptr, value 3) ∷ (Int 32, literal (2 ^ 32 - 5)) ∷ (Int 64, literal 5000000000) ∷ (Ptr, Null) ∷ [];
}

abbrev bundles : ModuleContent
bundles = rewritten
    (function (codes "f") Void [] (poll [] ∷ return_void ∷ [])
    ∷ function (codes "main") (Int 64) []
    (poll [] ∷ new_cell ∷ result 1 ∷ next_field (value 2) ∷ gives (ops.Call callees.Read []) (Int 64) []
    ∷ shows ∷ relocate 5 0 0 ∷ relocate 5 0 1 ∷ return (literal 0) ∷ [])
    ∷ function (codes "u") Void []
    (poll [] ∷ statepoint (callees.Fun (record { 0 = 0 })) [] [] ∷ gives ops.Udiv (Int 64) (literal 1 ∷ literal 0 ∷ []) ∷ return_void ∷ []) ∷ [])

abbrev fixed : ℤ → Place
fixed number = record constant { offset = number }

abbrev listed : ℕ → Place
listed place = record { kind = 5; size = 8; register = 0; offset = pos place }

-- five "deopt" locations before the pairs: the slot of the integer, which stands behind those of the live entries, the slot of
-- the derived pointer, and three constants, of which one stands in the map's list
abbrev shown_record : MapRecord
shown_record = record (kept 32 []) {
  places = constant ∷ constant ∷ fixed (pos 5) ∷ slot 16 ∷ slot 8 ∷ fixed (neg_ℤ (pos 5)) ∷ listed 0 ∷ fixed (pos 0)
      ∷ slot 0 ∷ slot 0 ∷ slot 0 ∷ slot 8 ∷ [];
}

abbrev bundle_map : StackMap
bundle_map = record {
  functions = frames 4096 0 1 ∷ frames 4112 24 3 ∷ frames 4160 0 2 ∷ [];
  constants = 5000000000 ∷ [];
  records = kept 4 [] ∷ kept 4 [] ∷ kept 12 [] ∷ shown_record ∷ kept 4 [] ∷ kept 8 [] ∷ [];
}

-- ! 1 @main 9 1+8 -5 5000000000 0
abbrev shown_words : List (List ℕ)
shown_words =
    signed_decimal (pos 9) ∷ (decimal 1 ++ codes "+" ++ decimal 8) ∷ signed_decimal (neg_ℤ (pos 5)) ∷ signed_decimal (pos 5000000000) ∷ signed_decimal (pos 0) ∷ []

abbrev shown_line : List ℕ
shown_line = codes "! " ++ decimal 1 ++ codes " @" ++ codes "main" ++ flat_map (λ word. codes " " ++ word) shown_words ++ newline

abbrev trapped_outcome : MachineOutcome
trapped_outcome = record {
  lines = shown_line ∷ [];
  end = ended.Trap traps.Div;
  func = 2;
  steps = 3;
  events = 4;
  printed = 0;
  happened = record { event = at_poll; verdict = Empty; moves = []; slots = [] }
      ∷ record { event = at_new; verdict = Empty; moves = []; slots = [] }
      ∷ record { event = at_poll; verdict = Empty; moves = []; slots = [] }
      ∷ record { event = at_poll; verdict = Empty; moves = []; slots = [] } ∷ [];
  accesses = [];
  heap = record {
    stands = record { number = 1; size = 16; address = 65536 } ∷ [];
    contents = record { layout = 0; count = 1; kinds = cells.I64 ∷ cells.Ptr ∷ []; words = 0 ∷ 0 ∷ [] } ∷ [];
    moves = [];
  };
}

trapped : MachineGives bundles bundle_map (pos 9 ∷ []) [] 1000 trapped_outcome
unfolding machine_proceeds machine_step step laid size_of field_at entries_of
trapped = gives_within (machinery_of bundles bundle_map [] 1000) (pos 9 ∷ []) 30 trapped_outcome refl

-- a map that has no record there shows nothing, and so does one whose record has a location of another kind
abbrev unshown : MachineOutcome
unshown = record trapped_outcome { lines = [] }

elsewhere : MachineGives bundles (record bundle_map { records = kept 4 [] ∷ kept 4 [] ∷ kept 12 [] ∷ record shown_record { offset = 28 } ∷ kept 4 [] ∷ kept 8 [] ∷ [] })
    (pos 9 ∷ []) [] 1000 unshown
unfolding machine_proceeds machine_step step laid size_of field_at entries_of
elsewhere = gives_within (machinery_of bundles (record bundle_map { records = kept 4 [] ∷ kept 4 [] ∷ kept 12 [] ∷ record shown_record { offset = 28 } ∷ kept 4 [] ∷ kept 8 [] ∷ [] }) [] 1000)
    (pos 9 ∷ []) 30 unshown refl

-- a listed constant's place has no sign: it lies behind the list here
abbrev beyond : Place
beyond = record { kind = 5; size = 8; register = 0; offset = neg_ℤ (pos 1) }

unsigned : shown_at (7 ∷ 9 ∷ []) [] [] [] beyond ≡ signed_decimal (pos 0)
unsigned = refl

-- -8 from an object at 65536; 5 without an object; -1 of 8 bits
before_front : shown_over 65536 65528 (Some (record { number = 1; size = 16; address = 65536 })) ≡ decimal 1 ++ codes "+" ++ decimal 18446744073709551608
before_front = refl

no_object : shown_over 0 5 None ≡ signed_decimal (pos 5)
no_object = refl

minus_one : shown_word (sign_extended 8 64 255) ≡ signed_decimal (neg_ℤ (pos 1))
minus_one = refl

-- two "deopt" locations and no pair: both slots are plain words
bare_pairs : values_of (machinery_of bundles bundle_map [] 1000) (record { number = 1; size = 16; address = 65536 } ∷ []) (65536 ∷ 65544 ∷ [])
    (record { frame_bytes = 16; places = constant ∷ constant ∷ fixed (pos 2) ∷ slot 0 ∷ slot 8 ∷ [] })
    ≡ decimal 65536 ∷ decimal 65544 ∷ []
bare_pairs = refl
