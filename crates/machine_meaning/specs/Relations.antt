-- What the machine's words are of the target meaning's values: an address is that of the object and the offset.
use Rattle.std.specs.Prelude.{◌≡◌, ℕ, ◌+◌, ◌<◌, ◌≤◌, ◌%◌, ◌^◌, Bool, true, List, length, map, Some, slice_get, slice_index, slice_index_or, ◌⊎◌, Result, Ok, Err}
use Rattle.std.specs.List.{AllZip}
use Rattle.std.specs.Option.{option_map_or}
use Rattle.ir_ast.specs.declared.ops.Operand.{Operand}
use Rattle.ir_ast.specs.Layouts.{ObjectLayout}
use Rattle.ir_ast.specs.Sizes.{fields_in}
use Rattle.ir_ast.specs.Objects.{Pointer, Datum, number, pointer, Object, footprint}
use Rattle.sp_ids.specs.declared.ends.Trap.{Trap}
use Rattle.sp_ids.specs.declared.ends.Trap.TheVariants as traps
use Rattle.moving_heap.specs.declared.heap.Deny.{Deny}
use Rattle.moving_heap.specs.declared.heap.Deny.TheVariants as denies
use Rattle.moving_heap.specs.declared.stands.Stand.{Stand}
use Rattle.moving_heap.specs.Contents.{Content, repeated}
use Rattle.moving_heap.specs.Settled.{AreSettled}
use Rattle.moving_heap.specs.Heaps.{of_number}
use Rattle.object_meaning.specs.Accesses.{Place}
use Rattle.object_meaning.specs.Registers.{value, pointer_in, number_in}
use Rattle.object_meaning.specs.States.{Frame}
use Rattle.machine_meaning.specs.Words.{worded_operand}
use Rattle.frame_walk.specs.Maps.{Pair}

-- the address of a pointer's object and its offset, or the offset alone
abbrev pub addr : List Stand → Pointer → ℕ
addr stands to = (option_map_or (λ stand. stand.address) (of_number stands to.object) 0 + to.offset) % 2 ^ 64

-- the object exists, or there is none
pub record IsInHeap (stands : List Stand) (to : Pointer) : Type 0 where
  pub object : to.object ≤ length stands
  pub offset : to.offset < 2 ^ 64

-- a pair of U's values and their words: both are `addr`, both have one object or none has one, the base has offset 0
pub record IsPair (stands : List Stand) (derived base : Pointer) (derived_word base_word : ℕ) : Type 0 where
  pub heap : IsInHeap stands derived
  pub same : base.object ≡ derived.object
  pub first : base.offset ≡ 0
  pub derived_is : derived_word ≡ addr stands derived
  pub base_is : base_word ≡ addr stands base

-- a cell
abbrev pub IsCell : List Stand → Datum → ℕ → Type 0
IsCell stands (number word) held = held ≡ word
IsCell stands (pointer to) held = IsInHeap stands to × (to.offset ≡ 0) × (held ≡ addr stands to)

pub record IsObject (layouts : List ObjectLayout) (stands : List Stand) (object : Object) (content : Content) : Type 0 where
  pub layout : content.layout ≡ object.layout
  pub count : content.count ≡ object.count
  pub kinds : content.kinds ≡ repeated (fields_in layouts object.layout) object.count
  pub cells : AllZip (IsCell stands) object.cells content.words

abbrev pub HasSize : List ObjectLayout → Object → Stand → Type 0
HasSize layouts object stand = stand.size ≡ footprint layouts object

-- the objects: the places are those of the definition of places, since they are settled and only events and new objects change them
pub record AreObjects (layouts : List ObjectLayout) (objects : List Object) (stands : List Stand) (contents : List Content) : Type 0 where
  pub settled : AreSettled stands
  pub sizes : AllZip (HasSize layouts) objects stands
  pub contents_are : AllZip (IsObject layouts stands) objects contents

-- what an operand is of a frame with these words
abbrev pub word_in : List ℕ → Operand → ℕ
word_in words operand = number_in (value (map number words) (worded_operand operand))

-- a frame with these words: integer registers are the same, and so are pairs that stand, by the facts along the path
abbrev pub IsRegister : Datum → ℕ → Type 0
IsRegister (number word) held = held ≡ word
IsRegister (pointer to) held = Unit {0}

pub record IsFrame (stands : List Stand) (facts : Operand → Operand → Bool) (frame : Frame) (words : List ℕ) : Type 0 where
  pub integers : AllZip IsRegister frame.registers words
  pub pairs : (v b : Operand) → facts v b ≡ true
      → IsPair stands (pointer_in (value frame.registers v)) (pointer_in (value frame.registers b)) (word_in words v) (word_in words b)

-- a frame that waits: each pair of its record has in its slots the words of U's base and derived entries
pub record AreSlots (stands : List Stand) (entries : List Pointer) (slots : List ℕ) (pairs : List Pair) : Type 0 where
  pub each : (k : ℕ) (pair : Pair) → slice_get pairs k ≡ Some pair
      → IsPair stands (slice_index_or entries pair.derived (record { object = 0; offset = 0 })) (slice_index_or entries pair.base (record { object = 0; offset = 0 }))
      (slice_index slots pair.derived) (slice_index slots pair.base)

-- each base is named with both indices by a pair of the group, or is `null` (a closed group)
pub record AreClosed (entries : List Pointer) (pairs : List Pair) (count : ℕ) : Type 0 where
  pub bases : (k : ℕ) (pair : Pair) → slice_get pairs k ≡ Some pair
      → ((m : ℕ) × (slice_get pairs m ≡ Some (record { base = pair.base; derived = pair.base }))) ⊎ ((slice_index_or entries pair.base (record { object = 0; offset = 0 })).object ≡ 0)
  pub within : (k : ℕ) (pair : Pair) → slice_get pairs k ≡ Some pair → (pair.derived < count) × (pair.base < count)

-- what a check of the machine answers where an access of the target meaning finds this
abbrev pub deny_of : Trap → Deny
deny_of traps.Null = denies.Null
deny_of traps.Kind = denies.Kind
deny_of trap = denies.Bounds

abbrev pub check_of : Result Place Trap → Result (Unit {0}) Deny
check_of (Ok place) = Ok tt
check_of (Err trap) = Err (deny_of trap)
