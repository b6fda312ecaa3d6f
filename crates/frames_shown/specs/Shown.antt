-- What a map has of a frame that waits where the machine shows of it, through the map, what its call's bundle names.
use Rattle.std.specs.Prelude.{◌≡◌, ℕ, ◌+◌, ◌<◌, ℤ, pos, true, false, List, length, filter, Some, slice_get, slice_index}
use Rattle.std.specs.Int.{cast_unsigned, w32, w64}
use Rattle.std.specs.List.{AllZip}
use Rattle.sp_ids.specs.Numbers.{signed}
use Rattle.sp_ids.specs.declared.ids.ValueId.{ValueId}
use Rattle.ir_ast.specs.declared.types.Ty.{Ty}
use Rattle.ir_ast.specs.declared.types.Ty.TheVariants.{Int, Ptr}
use Rattle.ir_ast.specs.declared.ops.Operand.{Operand}
use Rattle.ir_ast.specs.declared.ops.Operand.TheVariants.{Value, Int as Literal, Null}
use Rattle.ir_ast.specs.Insts.{Instruction}
use Rattle.ir_ast.specs.Faults.GroupShape.{entries_of}
use Rattle.map_bytes.specs.declared.values.Place.{Place}
use Rattle.frame_forms.specs.FrameSizes.{is_named_integer}
use Rattle.frame_walk.specs.Maps.{FrameEntry, Pair, deopt_places, is_constant, is_listed, pairs_of, usable, word_place}
use Rattle.frame_walk.specs.Walks.{frame_words}
use Rattle.object_meaning.specs.Numbers.{width_of}
use Rattle.object_meaning.specs.States.{Frame}
use Rattle.machine_meaning.specs.Machines.{Machinery, return_address}
use Rattle.moves_unseen.specs.Frames.{FrameWords}
use Rattle.moves_unseen.specs.States.{worded_frame}

-- ---- locations

-- a number that the text has: it is the location's own, or the map's list has its word
pub data ShowsNumber (constants : List ℕ) (number : ℤ) (place : Place) : Type 0 where
  own : is_constant place ≡ true → place.offset ≡ number → ShowsNumber constants number place
  listed : is_constant place ≡ false → is_listed place ≡ true → slice_index constants (cast_unsigned w32 place.offset) ≡ cast_unsigned w64 number
      → ShowsNumber constants number place

-- a word of the frame
pub record ShowsWord (word : ℕ) (place : Place) : Type 0 where
  pub constant : is_constant place ≡ false
  pub unlisted : is_listed place ≡ false
  pub is : word_place place ≡ word

-- an entry of a call's bundle: a pointer by a live entry that is this value and whose slot a pair of the frame has, an integer
-- by the slot of its place among those that the bundle names, behind the live entries, and a literal or `null` by its number
pub data ShowsEntry (call : Instruction) (pairs : List Pair) (constants : List ℕ) (place : Place) : Ty × Operand → Type 0 where
  pointer : (value : ValueId) (word : ℕ) → slice_get (entries_of call) word ≡ Some (Value value) → (at : ℕ) (pair : Pair) → slice_get pairs at ≡ Some pair
      → pair.derived ≡ word → ShowsWord word place → ShowsEntry call pairs constants place (Ptr, Value value)
  integer : (width : ℕ) (value : ValueId) (at : ℕ) → slice_get (filter (λ entry. is_named_integer entry.0 entry.1) call.bundle) at ≡ Some (Int width, Value value)
      → ShowsWord (length (entries_of call) + at) place → ShowsEntry call pairs constants place (Int width, Value value)
  literal : (width number : ℕ) → ShowsNumber constants (signed (width_of (Int width)) number) place → ShowsEntry call pairs constants place (Int width, Literal number)
  null : ShowsNumber constants (pos 0) place → ShowsEntry call pairs constants place (Ptr, Null)

-- ---- frames

-- the record of a frame that waits at a call, and the name of its function
pub record IsMapped (machinery : Machinery) (names : ℕ → List ℕ) (call : Instruction) (pairs : List Pair) (frame : Frame) (held : FrameWords) : Type 0 where
  pub entry : FrameEntry
  pub found : machinery.found (return_address machinery (worded_frame frame held.words)) ≡ Some entry
  pub returns : return_address machinery (worded_frame frame held.words) ≡ 0 → ⊥
  pub size : frame_words entry ≡ length held.slots
  pub fits : (left : ℕ) → length held.slots < left → usable left entry ≡ true
  pub pairs_are : pairs_of entry ≡ pairs
  pub entries : AllZip (λ each place. ShowsEntry call pairs machinery.constants place each) call.bundle (deopt_places entry)
  pub named : machinery.name_at (return_address machinery (worded_frame frame held.words)) ≡ Some (names frame.func)
