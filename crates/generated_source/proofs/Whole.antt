-- Generated modules are source modules.
use Rattle.std.proofs.Common.{◌≡◌, ◌≢◌, ◌∙◌, ℕ, zero, suc, ◌+◌, ◌*◌, ◌<◌, ◌≤◌, List, [], ◌∷◌, ◌++◌, length, map, refl, sym, ap, subst, inr, codes, arith}
use Rattle.std.specs.Option.{option_map}
use Rattle.std.specs.List.{All, flat_map, range_with_len}
use Rattle.std.proofs.lemmas.Grind.{flat_map-append}
use Rattle.std.proofs.lemmas.Fmt.{length-decimal-le_succ}
use Rattle.std.proofs.lemmas.List.{append-nil, length-append, map-append}
use Rattle.std.proofs.lemmas.List.Elements.{All-append, All-from_recursion}
use Rattle.std.proofs.lemmas.List.FromFn.{length-map-range_with_len}
use Rattle.ir_cfg.proofs.KeepsForms.{flat_all}
use Rattle.ir_ast.specs.declared.funcs.Arg.{Arg}
use Rattle.ir_ast.specs.declared.ops.Operand.TheVariants.{Int}
use Rattle.ir_ast.specs.declared.modules.Form.TheVariants.{Source}
use Rattle.ir_ast.specs.Insts.{Instruction}
use Rattle.ir_ast.specs.Layouts.{ObjectLayout}
use Rattle.ir_ast.specs.Funcs.{Function, instructions_of}
use Rattle.ir_ast.specs.Widths.{IsWidth, type_widths, line_widths, widths_of}
use Rattle.ir_ast.specs.Lists.{Distinct}
use Rattle.ir_ast.specs.Scope.{scope_of, signature_of}
use Rattle.ir_ast.specs.Faultless.{FunctionHasNoFault, HasNoFault}
use Rattle.ir_ast.specs.Faults.TypeClash.{FunctionIsTyped}
use Rattle.ir_cfg.specs.Limits.{IsName}
use Rattle.ir_cfg.specs.TypedModules.{IsTypedFunction, IsTypedModule}
use Rattle.ir_cfg.proofs.NameLaws.{differ, first_byte, absent, all_distinct, names_distinct}
use Rattle.generated_forms.specs.Draws.{state_after}
use Rattle.generated_forms.specs.Bodies.{Shape, Making, Merging, Looping, shape_at, constant_at, bound_of, body}
use Rattle.generated_forms.specs.Lines.{numbered_name, return_line}
use Rattle.generated_forms.specs.Modules.{node, function, function_at, visits, main_of, generated}
use Rattle.generated_forms.proofs.Visits.{main_length}
use Rattle.generated_source.specs.Statements.{GeneratedIsSource}
use Rattle.generated_source.proofs.Lines.{module_of, Calls}
use Rattle.generated_source.proofs.Functions.{IsSound, making_sound, looping_sound, first_sound, later_sound}
use Rattle.generated_source.proofs.Main.{map_range_all, distinct_numbered, main_sound}
use Rattle.generated_runs.proofs.Chain.{drawn_below}
use Rattle.generated_runs.proofs.Main.{function_there}

-- ---- the functions of a module

abbrev functions : ℕ → ℕ → List Function
functions seed size = map (function_at seed) (range_with_len 0 size)

abbrev funcs_of : ℕ → ℕ → List Function
funcs_of seed size = functions seed size ++ main_of size ∷ []

count : (seed size : ℕ) → length (funcs_of seed size) ≡ size + 1
count seed size = omega (arith, length-append (functions seed size) (main_of size ∷ []), length-map-range_with_len (function_at seed) 0 size)

calls_there : (seed size place : ℕ) → place < size → Calls (funcs_of seed size) place
unfolding function_at
calls_there seed size place less = record {
  inside = omega (arith, count seed size);
  taken = ap (option_map signature_of) (function_there seed size place less);
}

short_name : (place : ℕ) → place < 1000 → length (numbered_name (codes "g") (place + 1)) ≤ 4096
short_name place few = omega (arith, length-decimal-le_succ (place + 1) (omega arith))

body_sound : (seed size place : ℕ) (shape : Shape) (constant : ℕ) → size ≤ 1000 → place < size → constant < 100
    → IsSound (funcs_of seed size) (function place (body shape place constant))
body_sound seed size place Making constant few less low = making_sound (funcs_of seed size) place (omega arith) (short_name place (omega arith)) constant low
body_sound seed size zero Merging constant few less low = first_sound (funcs_of seed size) 0 (omega arith) (short_name 0 (omega arith)) constant low
body_sound seed size (suc before) Merging constant few less low =
    later_sound (funcs_of seed size) (suc before) (omega arith) (short_name (suc before) (omega arith)) constant low before (calls_there seed size before (omega arith))
body_sound seed size place Looping constant few less low = looping_sound (funcs_of seed size) place (omega arith) (short_name place (omega arith)) constant low

bound_low : (shape : Shape) → (0 < bound_of shape) × (bound_of shape ≤ 100)
bound_low Making = (omega arith, omega arith)
bound_low Merging = (omega arith, omega arith)
bound_low Looping = (omega arith, omega arith)

constant_low : (seed place : ℕ) → constant_at seed place < 100
constant_low seed place =
    let bound = bound_low (shape_at seed place) in
    omega (arith, bound.1, drawn_below (bound_of (shape_at seed place)) (state_after seed (2 * place + 2)) bound.0)

function_sound : (seed size place : ℕ) → size ≤ 1000 → place < size → IsSound (funcs_of seed size) (function_at seed place)
unfolding function_at
function_sound seed size place few less = body_sound seed size place (shape_at seed place) (constant_at seed place) few less (constant_low seed place)

all_sound : (seed size : ℕ) → size ≤ 1000 → All (IsSound (funcs_of seed size)) (funcs_of seed size)
all_sound seed size few =
    All-append (IsSound (funcs_of seed size)) (functions seed size) (main_of size ∷ [])
    (map_range_all (IsSound (funcs_of seed size)) (function_at seed) 0 size (λ place low high. function_sound seed size place few (omega arith)))
    (All-from_recursion (IsSound (funcs_of seed size)) (main_of size ∷ []) (main_sound (funcs_of seed size) size few (calls_there seed size), tt))

-- ---- what each function has

module _ (funcs : List Function) (func : Function) (sound : IsSound funcs func) where
  no_fault_in : FunctionHasNoFault (module_of funcs) func
  no_fault_in = record {
    local = λ k d less. (sound.lines k d less).local;
    global = λ k d less. (sound.lines k d less).global;
    entry = λ k d less. (sound.lines k d less).entry;
    phis = sound.phis;
    pointers = λ k d less. (sound.lines k d less).pointers;
    form = (record { values = sound.free_values; labels = sound.free_labels; lines = λ k d less. (sound.lines k d less).plain }, λ k d less. (sound.lines k d less).stays);
  }

  typed_in : FunctionIsTyped (scope_of (module_of funcs) func) func
  typed_in = record { answer = sound.answer; args = sound.args; lines = λ k d less. (sound.lines k d less).typed }

  widths_in : All IsWidth (widths_of func)
  widths_in =
      All-append IsWidth (type_widths func.answer ++ flat_map (λ (arg : Arg). type_widths arg.ty) func.args) (flat_map line_widths (instructions_of func.blocks))
      (All-append IsWidth (type_widths func.answer) (flat_map (λ (arg : Arg). type_widths arg.ty) func.args) sound.answer_widths sound.argument_widths)
      (flat_all IsWidth line_widths (instructions_of func.blocks) (λ k d less. (sound.lines k d less).widths))

  function_typed : IsTypedFunction Source func
  function_typed = record {
    has_block = sound.has_block;
    ends = sound.ends;
    lines = λ k d less. (sound.lines k d less).line;
    names = sound.names;
    widths = widths_in;
    bundles = λ k d less. rw (sound.lines k d less).bundle (omega arith);
    small = sound.small;
  }

-- ---- names of functions

names_of : (seed : ℕ) (places : List ℕ) → map (λ (func : Function). func.name) (map (function_at seed) places) ≡ map (λ place. numbered_name (codes "g") (place + 1)) places
unfolding function_at
names_of seed [] = refl
names_of seed (place ∷ places) = ap (λ (names : List (List ℕ)). numbered_name (codes "g") (place + 1) ∷ names) (names_of seed places)

names_apart : (seed size : ℕ) → size ≤ 1000 → Distinct (map (λ (func : Function). func.name) (funcs_of seed size))
unfolding first_byte main_of all_distinct absent
names_apart seed size few =
    let names : map (λ (func : Function). func.name) (funcs_of seed size) ≡ map (λ place. numbered_name (codes "g") (place + 1)) (range_with_len 0 size) ++ codes "main" ∷ [] =
    map-append (λ (func : Function). func.name) (functions seed size) (main_of size ∷ []) ∙ ap (λ (front : List (List ℕ)). front ++ codes "main" ∷ []) (names_of seed (range_with_len 0 size)) in
    subst Distinct (sym names)
    (distinct_numbered 103 0 size (codes "main" ∷ []) (omega arith)
    (All-from_recursion (λ (name : List ℕ). first_byte name ≢ 103) (codes "main" ∷ []) (differ 109 103 refl, tt)) (names_distinct (codes "main" ∷ []) refl))

not_main : (seed place : ℕ) → (function_at seed place).name ≢ codes "main"
unfolding function_at first_byte
not_main seed place same = differ 103 109 refl (ap first_byte same)

-- ---- how many lines there are

body_length : (shape : Shape) (place constant : ℕ) → length (instructions_of (body shape place constant)) ≤ 12
body_length Making place constant = omega arith
body_length Merging zero constant = omega arith
body_length Merging (suc before) constant = omega arith
body_length Looping place constant = omega arith

function_length : (seed place : ℕ) → length (instructions_of (function_at seed place).blocks) ≤ 12
unfolding function_at
function_length seed place = body_length (shape_at seed place) place (constant_at seed place)

lines_of : Function → List Instruction
lines_of func = instructions_of func.blocks

functions_length : (seed : ℕ) (places : List ℕ) → length (flat_map lines_of (map (function_at seed) places)) ≤ 12 * length places
unfolding lines_of
functions_length seed [] = omega arith
functions_length seed (place ∷ places) =
    omega (arith, length-append (instructions_of (function_at seed place).blocks) (flat_map lines_of (map (function_at seed) places)), function_length seed place, functions_length seed places)

main_count : (size : ℕ) → length (lines_of (main_of size)) ≡ 2 * size + 2
unfolding lines_of main_of
main_count size = ap length (append-nil (visits size ++ return_line (Int 0) ∷ [])) ∙ main_length size

module_length : (seed size : ℕ) → size ≤ 1000 → length (flat_map lines_of (funcs_of seed size)) ≤ 65536
module_length seed size few =
    let parts : length (flat_map lines_of (funcs_of seed size)) ≡ length (flat_map lines_of (functions seed size)) + length (lines_of (main_of size) ++ []) =
    ap length (flat_map-append lines_of (functions seed size) (main_of size ∷ [])) ∙ length-append (flat_map lines_of (functions seed size)) (lines_of (main_of size) ++ []) in
    omega (arith, parts, length-append (lines_of (main_of size)) [], main_count size, functions_length seed (range_with_len 0 size), Rattle.std.proofs.lemmas.List.FromFn.length-range_with_len 0 size)

-- ---- the module

module _ (seed size : ℕ) (few : size ≤ 1000) where
  sound_all : All (IsSound (funcs_of seed size)) (funcs_of seed size)
  sound_all = all_sound seed size few

  no_fault : HasNoFault (module_of (funcs_of seed size))
  unfolding all_distinct absent main_of
  no_fault = record {
    names = record {
      layouts = names_distinct (codes "N" ∷ []) refl;
      functions = names_apart seed size few;
      labels = λ k d less. (sound_all k d less).labels;
      values = λ k d less. (sound_all k d less).values;
    };
    typed = λ k d less. typed_in (funcs_of seed size) _ (sound_all k d less);
    functions = λ k d less. no_fault_in (funcs_of seed size) _ (sound_all k d less);
    main = record {
      earlier = functions seed size;
      main = main_of size;
      later = [];
      whole = refl;
      first = map_range_all (λ (func : Function). func.name ≢ codes "main") (function_at seed) 0 size (λ place low high. not_main seed place);
      name = refl;
      args = refl;
      answer = inr refl;
    };
    fields = All-from_recursion (λ (layout : ObjectLayout). 0 < length layout.fields) (node ∷ []) (omega arith, tt);
    free = λ k d less. (sound_all k d less).free;
  }

  typed_module : IsTypedModule Source (module_of (funcs_of seed size))
  unfolding lines_of
  typed_module = record {
    of_form = refl;
    no_fault = no_fault;
    functions = λ k d less. function_typed (funcs_of seed size) _ (sound_all k d less);
    layout_names = All-from_recursion (λ (layout : ObjectLayout). IsName layout.name) (node ∷ []) (refl, tt);
    limits = record {
      layouts = omega arith;
      functions = omega (arith, count seed size);
      layout_names = All-from_recursion (λ (layout : ObjectLayout). length layout.name ≤ 4096) (node ∷ []) (omega arith, tt);
      function_names = λ k d less. (sound_all k d less).short;
      fields = All-from_recursion (λ (layout : ObjectLayout). length layout.fields ≤ 64) (node ∷ []) (omega arith, tt);
      arguments = λ k d less. let two = (sound_all k d less).few_arguments in omega (arith, two);
    };
    small = module_length seed size few;
  }

pub generated_is_source : GeneratedIsSource
unfolding generated
generated_is_source seed size few = record { typed = typed_module seed size few; definite = λ k d less. (sound_all seed size few k d less).definite }
