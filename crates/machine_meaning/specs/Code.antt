-- The machinery of a rewritten module, a stack map and a plan.
use Rattle.std.specs.Prelude.{ℕ, ◌+◌, ◌-◌, ◌*◌, ◌/◌, ◌%◌, ◌==◌, ◌&&◌, nat_le, nat_lt, if◌then◌else◌, Bool, List, [], ◌∷◌, length, take, Option, Some, None}
use Rattle.std.specs.Option.{option_map_or}
use Rattle.std.specs.Prelude.{slice_get}
use Rattle.ir_ast.specs.Funcs.{Function, instructions_of}
use Rattle.ir_ast.specs.Modules.{ModuleContent}
use Rattle.move_plan.specs.declared.plan_lines.PlanLine.{PlanLine}
use Rattle.move_plan.specs.Plans.{group, go, flips}
use Rattle.map_bytes.specs.Maps.{StackMap}
use Rattle.frame_forms.specs.CodeAddresses.{first_start, next_start}
use Rattle.frame_forms.specs.FrameSizes.{frame_words}
use Rattle.frame_forms.specs.ModuleLayouts.{address_in, layout_of}
use Rattle.frame_walk.specs.Maps.{found_in}
use Rattle.object_meaning.specs.TargetRuns.{target_setting}
use Rattle.machine_meaning.specs.Words.{worded_setting}
use Rattle.machine_meaning.specs.Machines.{Machinery}

-- how many instructions of a function stand before a block
abbrev pub place_before : ModuleContent → ℕ → ℕ → ℕ
place_before content func block =
    option_map_or (λ defined. length (instructions_of (take block defined.blocks))) (slice_get content.funcs func) 0

-- where an instruction of a block stands, which has this place in the block
abbrev pub code_address : ModuleContent → ℕ → ℕ → ℕ → ℕ
code_address content func block place = address_in (layout_of content) func + 4 * (place_before content func block + place)

-- the words of the frames that the machine makes, whatever the map says
abbrev pub words_in : ModuleContent → ℕ → ℕ
words_in content func = option_map_or frame_words (slice_get content.funcs func) 0

-- whether a function that starts here has an instruction at an address
abbrev pub has_instruction : ℕ → Function → ℕ → Bool
has_instruction start func address =
    nat_le start address && (((address - start) % 4 == 0) && nat_lt ((address - start) / 4) (length (instructions_of func.blocks)))

-- the name of that of these functions, of which the first starts here
abbrev pub name_in : ℕ → List Function → ℕ → Option (List ℕ)
name_in start [] address = None
name_in start (func ∷ funcs) address =
    if has_instruction start func address then Some func.name else name_in (next_start start func) funcs address

abbrev pub machinery_of : ModuleContent → StackMap → List PlanLine → ℕ → Machinery
machinery_of content map plan bound = record {
  setting = worded_setting (target_setting content (go plan) bound);
  address = code_address content;
  frame_words = words_in content;
  found = found_in map;
  constants = map.constants;
  name_at = name_in first_start content.funcs;
  plan = record { group = group plan; flips = flips plan };
}
