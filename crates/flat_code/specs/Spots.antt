-- Where a frame stands in a function, and the lines there. A function that isn't there has none.
use Rattle.std.specs.Prelude.{◌≡◌, ℕ, ◌+◌, ◌-◌, List, [], ◌∷◌, length, take, drop, Option, slice_index}
use Rattle.std.specs.List.{All}
use Rattle.std.specs.Option.{option_map_or}
use Rattle.std.specs.Prelude.{false}
use Rattle.ir_ast.specs.Layouts.{ObjectLayout}
use Rattle.ir_ast.specs.Insts.{Instruction}
use Rattle.ir_ast.specs.Funcs.{Function}
pub use Rattle.ir_ast.specs.Funcs.{phis_of}
use Rattle.ir_ast.specs.Lines.{is_rewritten}
use Rattle.object_meaning.specs.Lines.{Line, poll, numbered, following, after_all, lines_from, insts_in, registers_of}
use Rattle.flat_code.specs.declared.spots.Due.{Due}
use Rattle.flat_code.specs.declared.spots.Due.TheVariants.{Front, Line as Next, Behind}
use Rattle.flat_code.specs.declared.spots.Spot.{Spot}

-- a function's instructions by blocks, the registers of their first results, and how many registers it has
abbrev pub insts_at : Option Function → ℕ → List Instruction
insts_at defined block = option_map_or (λ func. insts_in func block) defined []

abbrev pub first_at : Option Function → ℕ → ℕ
first_at defined block = option_map_or (λ func. slice_index (registers_of func) block) defined 0

abbrev pub count_at : Option Function → ℕ
count_at defined = option_map_or (λ func. slice_index (registers_of func) (length (registers_of func) - 1)) defined 0

-- the lines at which a frame stands
abbrev pub lines_due : Due → ℕ → ℕ → List Instruction → List Line
lines_due Front block next insts = poll ∷ lines_from block next insts
lines_due Next block next insts = lines_from block next insts
lines_due Behind block next [] = []
lines_due Behind block next (inst ∷ insts) = numbered next inst ∷ lines_from block (following next inst) insts

abbrev pub lines_at : Option Function → Spot → List Line
lines_at defined spot = lines_due spot.due spot.block spot.next (drop spot.at (insts_at defined spot.block))

-- behind the line at which a frame stands
abbrev pub passed_spot : Spot → Instruction → Spot
passed_spot spot inst = record spot { at = spot.at + 1; next = following spot.next inst; due = Next }

-- the front of a function, its first line, and the line behind the phis of a block
abbrev pub front_spot : Option Function → Spot
front_spot defined = record { block = 0; at = 0; next = first_at defined 0; due = Front }

abbrev pub entry_spot : Option Function → Spot
entry_spot defined = record { block = 0; at = 0; next = first_at defined 0; due = Next }

abbrev pub behind_phis : Option Function → ℕ → Spot
behind_phis defined block = record {
  block = block;
  at = phis_of (insts_at defined block);
  next = after_all (first_at defined block) (take (phis_of (insts_at defined block)) (insts_at defined block));
  due = Next;
}

-- a line of the source form
pub record IsReady (inst : Instruction) : Type 0 where
  pub source : is_rewritten inst.op ≡ false

abbrev pub AllReady : List Instruction → Type 0
AllReady insts = All IsReady insts

abbrev pub IsReadyFunction : Option Function → Type 0
IsReadyFunction defined = (block : ℕ) → AllReady (insts_at defined block)

-- the function that is decoded, with the layouts of its module
pub record Decoded : Type 0 where
  pub layouts : List ObjectLayout
  pub defined : Option Function
