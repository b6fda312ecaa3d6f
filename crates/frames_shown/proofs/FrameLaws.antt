-- What is shown of a frame: each entry of its call's bundle, and the line of them.
use Rattle.std.proofs.Common.{◌≡◌, ℕ, ◌+◌, ℤ, List, [], ◌∷◌, ◌++◌, length, map, refl, ap, ◌∙◌, arith}
use Rattle.std.specs.Prelude.{codes, decimal}
use Rattle.std.specs.Fmt.{signed_decimal}
use Rattle.std.specs.Int.{w64}
use Rattle.std.specs.Int.RustNames.{FitsSigned}
use Rattle.std.specs.List.{AllZip}
use Rattle.std.proofs.lemmas.Int.{ints}
use Rattle.std.proofs.lemmas.List.Folds.{flat_map-map}
use Rattle.std.proofs.lemmas.Option.{get_or_from_slice_get}
use Rattle.list_laws.proofs.Places.{get_map}
use Rattle.ir_ast.specs.declared.types.Ty.{Ty}
use Rattle.ir_ast.specs.declared.types.Ty.TheVariants.{Int}
use Rattle.ir_ast.specs.declared.ops.Operand.{Operand}
use Rattle.ir_ast.specs.declared.ops.Operand.TheVariants.{Value}
use Rattle.ir_ast.specs.Faults.GroupShape.{entries_of}
use Rattle.ir_ast.specs.Insts.{Instruction}
use Rattle.ir_ast.specs.Objects.{Datum}
use Rattle.map_bytes.specs.declared.values.Place.{Place}
use Rattle.frame_walk.specs.Maps.{FrameEntry, Pair, deopt_places, pairs_of}
use Rattle.moving_heap.specs.declared.stands.Stand.{Stand}
use Rattle.moving_heap.specs.Settled.{AreSettled}
use Rattle.object_meaning.specs.Effects.{newline}
use Rattle.object_meaning.specs.Numbers.{width_of}
use Rattle.object_meaning.specs.Registers.{number_in, pointer_in, value}
use Rattle.object_meaning.specs.States.{Frame}
use Rattle.object_meaning.specs.Texts.{bundle_line, shown, shown_pointer}
use Rattle.machine_meaning.specs.Machines.{Machinery}
use Rattle.machine_meaning.specs.TrapLines.{frame_line, shown_place, shown_slot, values_of}
use Rattle.frames_shown.specs.Shown.{ShowsEntry, ShowsNumber, integer, listed, literal, null, own, pointer}
use Rattle.frames_shown.specs.Statements.{KeepsEntries}
use Rattle.frames_shown.proofs.NumberLaws.{signed_fits}
use Rattle.frames_shown.proofs.PairLaws.{HasNone}
use Rattle.frames_shown.proofs.ValueLaws.{constant_shown, integer_shown, listed_shown, pointer_shown, slot_shown}

number_shown : (machinery : Machinery) (stands : List Stand) (slots : List ℕ) (pairs : List Pair) (place : Place) (number : ℤ) → FitsSigned w64 number
    → ShowsNumber machinery.constants number place → shown_place machinery stands slots pairs place ≡ signed_decimal number
number_shown machinery stands slots pairs place number fits (own is same) = constant_shown machinery stands slots pairs place is ∙ ap signed_decimal same
number_shown machinery stands slots pairs place number fits (listed other is same) = listed_shown machinery stands slots pairs place other is number fits same

module _ (machinery : Machinery) (stands : List Stand) (settled : AreSettled stands) (registers : List Datum) (call : Instruction) (slots : List ℕ) (pairs : List Pair)
    (keeps : KeepsEntries stands registers call slots pairs) where
  -- no pair has the slot of an integer, which stands behind the live entries
  none_behind : (at : ℕ) → HasNone pairs (length (entries_of call) + at)
  none_behind at place pair stands_so same = let within = keeps.within place pair stands_so in let no : ⊥ = omega arith in no

  entry_shown : (entry : Ty × Operand) (place : Place) → ShowsEntry call pairs machinery.constants place entry
      → shown_place machinery stands slots pairs place ≡ shown entry.0 (value registers entry.1)
  entry_shown _ place (pointer one word is at pair stands_so derived shows) =
      slot_shown machinery stands slots pairs place shows.constant shows.unlisted
      ∙ (ap (shown_slot stands slots pairs) shows.is
      ∙ (pointer_shown stands settled (map (λ (entry : Operand). pointer_in (value registers entry)) (entries_of call)) slots pairs keeps.slots_are word at pair stands_so derived
      ∙ ap shown_pointer (get_or_from_slice_get (map (λ (entry : Operand). pointer_in (value registers entry)) (entries_of call)) word (pointer_in (value registers (Value one))) (record { object = 0; offset = 0 })
      (get_map (λ (entry : Operand). pointer_in (value registers entry)) (entries_of call) word (Value one) is))))
  entry_shown _ place (integer width one at is shows) =
      slot_shown machinery stands slots pairs place shows.constant shows.unlisted
      ∙ (ap (shown_slot stands slots pairs) shows.is
      ∙ integer_shown stands slots pairs (length (entries_of call) + at) (width_of (Int width)) (number_in (value registers (Value one))) (omega arith)
      (keeps.bundle at (Int width, Value one) is) (none_behind at))
  entry_shown _ place (literal width number shows) =
      number_shown machinery stands slots pairs place _ (signed_fits (width_of (Int width)) number (omega arith)) shows
  entry_shown _ place (null shows) = number_shown machinery stands slots pairs place _ (omega (arith, ints)) shows

  entries_shown : (bundle : List (Ty × Operand)) (places : List Place) → AllZip (λ each place. ShowsEntry call pairs machinery.constants place each) bundle places
      → map (shown_place machinery stands slots pairs) places ≡ map (λ (each : Ty × Operand). shown each.0 (value registers each.1)) bundle
  entries_shown [] [] all = refl
  entries_shown [] (place ∷ places) all = absurd all
  entries_shown (entry ∷ bundle) [] all = absurd all
  entries_shown (entry ∷ bundle) (place ∷ places) all =
      ap (λ (first : List ℕ). first ∷ map (shown_place machinery stands slots pairs) places) (entry_shown entry place all.0)
      ∙ ap (λ (rest : List (List ℕ)). shown entry.0 (value registers entry.1) ∷ rest) (entries_shown bundle places all.1)

  pub values_shown : (one : FrameEntry) → pairs_of one ≡ pairs → AllZip (λ each place. ShowsEntry call pairs machinery.constants place each) call.bundle (deopt_places one)
      → values_of machinery stands slots one ≡ map (λ (each : Ty × Operand). shown each.0 (value registers each.1)) call.bundle
  values_shown one is all =
      ap (λ (given : List Pair). map (shown_place machinery stands slots given) (deopt_places one)) is ∙ entries_shown call.bundle (deopt_places one) all

-- the line of a frame
pub line_shown : (number : ℕ) (names : ℕ → List ℕ) (frame : Frame) (bundle : List (Ty × Operand)) (values : List (List ℕ))
    → values ≡ map (λ (each : Ty × Operand). shown each.0 (value frame.registers each.1)) bundle
    → frame_line number (names frame.func) values ≡ bundle_line names number frame bundle
line_shown number names frame [] values is = ap (frame_line number (names frame.func)) is
line_shown number names frame (entry ∷ bundle) values is =
    ap (frame_line number (names frame.func)) is
    ∙ ap (λ (all : List ℕ). (codes "! " ++ decimal number ++ codes " @" ++ names frame.func ++ all ++ newline) ∷ [])
    (flat_map-map (λ (each : List ℕ). codes " " ++ each) (λ (each : Ty × Operand). shown each.0 (value frame.registers each.1)) (entry ∷ bundle))
