-- The numbers of entries of phis, in the order of the text.
use Rattle.std.specs.Prelude.{◌≡◌, ℕ, suc, ◌<◌, ◌+◌, if◌then◌else◌, List, [], ◌∷◌, ◌++◌, length, map, drop, Some, slice_get, slice_index, slice_set}
use Rattle.std.specs.List.{flat_map, range_with_len}
use Rattle.std.specs.Global.{Vec}
use Rattle.sp_ids.specs.declared.ids.BlockId.{BlockId}
use Rattle.ir_ast.specs.declared.ops.Operand.{Operand}
use Rattle.ir_ast.specs.Insts.{Instruction}
use Rattle.ir_ast.specs.Blocks.{BasicBlock}
use Rattle.ir_ast.specs.Funcs.{Function}
use Rattle.ir_ast.specs.Faults.PhiEdges.{is_phi}
use Rattle.rewriting_forms.specs.Numbered.{preds}
use Rattle.rewriting_forms.specs.Names.{Naming}
use Rattle.rewriting_forms.specs.Rewritten.{joined_at, names_of, place_in}
use Rattle.version_walk.specs.declared.slots.Slot.{Slot}
use Rattle.version_walk.specs.declared.slots.Slot.TheVariants.{Number}
use Rattle.ssa_rebuild.specs.declared.arrivals.Arrivals.{Arrivals}
use Rattle.version_walk.specs.Forest.{list_at}
use Rattle.ssa_rebuild.specs.Rows.{use_numbers, number_behind}
use Rattle.ssa_rebuild.specs.Answers.{number_of}

-- the number of each value at the end of each block
abbrev pub Behind : Type 0
Behind = ℕ → ℕ → ℕ

abbrev pub labeled_numbers : Behind → List BlockId → List Operand → List ℕ
labeled_numbers here (label ∷ labels) (o ∷ operands) = use_numbers (here label.0) (o ∷ []) ++ labeled_numbers here labels operands
labeled_numbers here labels operands = []

abbrev pub phi_numbers : Behind → Instruction → List ℕ
phi_numbers here inst = if is_phi inst.op then labeled_numbers here inst.labels inst.operands else []

abbrev pub inserted_numbers : Behind → List ℕ → ℕ → List ℕ
inserted_numbers here preds v = flat_map (λ p. here p v ∷ []) preds

abbrev pub into_numbers : Behind → List ℕ → List ℕ → List Instruction → List ℕ
into_numbers here preds join insts = flat_map (inserted_numbers here preds) join ++ flat_map (phi_numbers here) insts

-- of all blocks, of which the first has this number
abbrev pub arriving_numbers : Behind → (ℕ → List ℕ) → List (List ℕ) → ℕ → List BasicBlock → List ℕ
arriving_numbers here before joins to [] = []
arriving_numbers here before [] to (block ∷ blocks) = flat_map (phi_numbers here) block.insts ++ arriving_numbers here before [] (suc to) blocks
arriving_numbers here before (join ∷ joins) to (block ∷ blocks) =
    into_numbers here (before to) join block.insts ++ arriving_numbers here before joins (suc to) blocks

-- the entries of each block that are still to come stand in its row from its place on
pub record AreToCome (here : Behind) (rows : List (Vec Slot)) (places : List ℕ) (entries : ℕ → List Operand) : Type 0 where
  pub each : (p : ℕ) → p < length rows → drop (slice_index places p) (list_at rows p) ≡ map Number (use_numbers (here p) (entries p))

-- one number is taken from the row of a block
pub record Pops (row : List Slot) (block : ℕ) (old new : Arrivals) : Type 0 where
  pub slot : Slot
  pub stands : slice_get row (slice_index old.places.items block) ≡ Some slot
  pub numbers : new.numbers.items ≡ old.numbers.items ++ number_of slot ∷ []
  pub places : new.places.items ≡ slice_set old.places.items block (slice_index old.places.items block + 1)

-- the numbers of these entries are taken, where they are the next ones
pub record Takes (rows : List (Vec Slot)) (old new : Arrivals) (entries : ℕ → List Operand) (numbers : Behind → List ℕ) : Type 0 where
  pub taken : (here : Behind) (rest : ℕ → List Operand) → AreToCome here rows old.places.items (λ p. entries p ++ rest p)
      → (new.numbers.items ≡ old.numbers.items ++ numbers here) × AreToCome here rows new.places.items rest

abbrev pub HoldsAll : List (Vec Slot) → List ℕ → List ℕ → (ℕ → List Operand) → (Behind → List ℕ) → Type 0
HoldsAll rows places found entries numbers = (here : Behind) → AreToCome here rows places entries → found ≡ numbers here

-- the numbers of all entries of phis of a function
abbrev pub entry_numbers : Function → List Operand → Naming → List ℕ
entry_numbers func table naming =
    arriving_numbers (λ p. number_behind func table naming (place_in (names_of func table naming)) p) (preds func)
    (map (joined_at func naming) (range_with_len 0 (length func.blocks))) 0 func.blocks
