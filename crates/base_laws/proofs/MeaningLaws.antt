-- The module with bases, checks and polls does what its source does.
use Rattle.std.proofs.Common.{◌≡◌, ◌==◌, ℕ, zero, suc, ◌+◌, ◌-◌, ◌<◌, Bool, true, false, not, if◌then◌else◌, List, [], ◌∷◌, ◌++◌, length, map, refl, sym, ap, subst, ◌∙◌, arith}
use Rattle.std.specs.Prelude.{Option, Some, None, is_some, slice_get, slice_index, codes, nat_lt, unwrap_or}
use Rattle.std.specs.List.{prefix_len}
use Rattle.std.specs.Option.{option_map, option_map_or}
use Rattle.std.specs.Str.{bytes_eq}
use Rattle.std.proofs.lemmas.Bool.Decides.{nat_tests}
use Rattle.std.proofs.lemmas.List.{length-append, length-map}
use Rattle.list_laws.proofs.Places.{get_map, get_some}
use Rattle.list_laws.proofs.Contents.{all_at, all_from_at}
use Rattle.ir_ast.specs.Insts.{Instruction}
use Rattle.ir_ast.specs.Blocks.{BasicBlock}
use Rattle.ir_ast.specs.Funcs.{Function, instructions_of}
use Rattle.ir_ast.specs.Modules.{ModuleContent}
use Rattle.ir_ast.specs.Values.{definitions_of}
use Rattle.ir_cfg.specs.SourceModules.{IsSourceModule}
use Rattle.object_meaning.specs.Lines.{Line, after_all, first_register, insts_in, insts_of, lines_from, lines_of, main_of, poll, register_count, registers_of}
use Rattle.object_meaning.specs.SourceRuns.{source_setting}
use Rattle.object_meaning.specs.TargetRuns.{plain_lines, target_setting}
use Rattle.object_meaning.specs.Texts.{function_name}
use Rattle.base_forms.specs.Polls.{placed, placed_block}
use Rattle.base_forms.specs.DerivedMarks.{derived_marks}
use Rattle.base_forms.specs.Based.{based, based_blocks, based_module}
use Rattle.renaming_laws.specs.Images.{HasImages, Images, no_lines}
use Rattle.renaming_laws.proofs.ImageLaws.{images_give_the_same}
use Rattle.base_laws.specs.Statements.{BasesKeepMeaning}
use Rattle.base_forms.proofs.PlacedLaws.{block_placed, plain_polled, registers_placed}
use Rattle.base_laws.proofs.TypeLaws.{IsTypedLine, MarksPointers, derived_are_pointers}
use Rattle.base_laws.proofs.NumberLaws.{is_renaming, renaming_of}
use Rattle.base_laws.proofs.LineLaws.{IsReady}
use Rattle.base_laws.proofs.BlockLaws.{based_block, now_room_is, room_is}
use Rattle.base_laws.proofs.ReadyLaws.{has_block, ready, renaming_found, renamings}
use Rattle.object_meaning.proofs.LineLaws.{last_register}

-- ---- functions by number

abbrev now_function : Function → Function
now_function func = based (placed func)

pub found_now : (content : ModuleContent) (number : ℕ) (found : Option Function) → slice_get content.funcs number ≡ found
    → slice_get (based_module content).funcs number ≡ option_map now_function found
found_now content number None is = missing content.funcs number is
  where
    missing : (funcs : List Function) (place : ℕ) → slice_get funcs place ≡ None → slice_get (map now_function funcs) place ≡ None
    missing [] place none = refl
    missing (func ∷ funcs) zero none = absurd cc
    missing (func ∷ funcs) (suc place) none = missing funcs place none
found_now content number (Some func) is = get_map now_function content.funcs number func is

no_block : (func : Function) (next place : ℕ) (blocks : List BasicBlock) → slice_get blocks place ≡ None → slice_get (based_blocks func (derived_marks func) next blocks) place ≡ None
no_block func next place [] none = refl
no_block func next zero (block ∷ blocks) none = absurd cc
no_block func next (suc place) (block ∷ blocks) none = no_block func (after_all next block.insts) place blocks none

-- ---- one function of the module

-- the poll in front of the entry block
abbrev front_lines : ℕ → List Line
front_lines zero = poll ∷ []
front_lines (suc block) = []

plain_placed : (number next : ℕ) (block : BasicBlock) → plain_lines next (placed_block number block).insts ≡ front_lines number ++ lines_from number next block.insts
plain_placed zero next block = ap (λ lines. poll ∷ lines) (plain_polled zero next block.insts)
plain_placed (suc number) next block = plain_polled (suc number) next block.insts

module _ (content : ModuleContent) (source : IsSourceModule content) (number : ℕ) (func : Function) (found : slice_get content.funcs number ≡ Some func) where
  abbrev F : Function
  F = placed func

  is_here : renamings content number ≡ renaming_of true (placed func)
  is_here = ap renaming_found found

  pointers : MarksPointers (placed func) (derived_marks (placed func))
  pointers = derived_are_pointers (placed func)
      (all_from_at (IsTypedLine (placed func)) (instructions_of (placed func).blocks)
      (λ place inst at. (all_at (IsReady (renamings content) (placed func)) (instructions_of (placed func).blocks) place inst (ready content source number func found) at).typed))

  lines_before : (block : ℕ) → lines_of content number block ≡ lines_from block (slice_index (registers_of func) block) (insts_in func block)
  lines_before block =
      ap (λ (here : Option Function). lines_from block (option_map_or (λ defined. slice_index (registers_of defined) block) here 0) (option_map_or (λ defined. insts_in defined block) here [])) found

  lines_now : (block : ℕ) → plain_lines (first_register (based_module content) number block) (insts_of (based_module content) number block)
      ≡ plain_lines (slice_index (registers_of (now_function func)) block) (insts_in (now_function func) block)
  lines_now block =
      ap (λ (here : Option Function). plain_lines (option_map_or (λ defined. slice_index (registers_of defined) block) here 0) (option_map_or (λ defined. insts_in defined block) here []))
      (found_now content number (Some func) found)

  registers_are : registers_of (placed func) ≡ registers_of func
  registers_are = registers_placed 0 (length func.args) func.blocks

  images_at : (place : ℕ) (block : BasicBlock) → slice_get func.blocks place ≡ Some block
      → Images (renamings content) number (front_lines place ++ lines_from place (slice_index (registers_of func) place) (insts_in func place))
      (plain_lines (slice_index (registers_of (now_function func)) place) (insts_in (now_function func) place))
  images_at place block at =
      let there : slice_get (placed func).blocks place ≡ Some (placed_block place block) =
      block_placed 0 place func.blocks ∙ (ap (option_map (placed_block (0 + place))) at ∙ (let same : 0 + place ≡ place = omega arith in ap (λ n. Some (placed_block n block)) same)) in
      let made = based_block (renamings content) number (placed func) true is_here pointers (ready content source number func found) place (placed_block place block) there in
      let before : plain_lines (slice_index (registers_of (placed func)) place) (placed_block place block).insts
      ≡ front_lines place ++ lines_from place (slice_index (registers_of func) place) (insts_in func place) =
      ap (λ (registers : List ℕ). plain_lines (slice_index registers place) (placed_block place block).insts) registers_are
      ∙ (plain_placed place (slice_index (registers_of func) place) block
      ∙ sym (ap (λ (here : Option BasicBlock). front_lines place ++ lines_from place (slice_index (registers_of func) place) (option_map_or (λ b. b.insts) here [])) at)) in
      let after : plain_lines (slice_index (registers_of (now_function func)) place) made.becomes.insts
      ≡ plain_lines (slice_index (registers_of (now_function func)) place) (insts_in (now_function func) place) =
      sym (ap (λ (here : Option BasicBlock). plain_lines (slice_index (registers_of (now_function func)) place) (option_map_or (λ b. b.insts) here [])) made.found) in
      subst (λ (lines : List Line). Images (renamings content) number (front_lines place ++ lines_from place (slice_index (registers_of func) place) (insts_in func place)) lines) after
      (subst (λ (lines : List Line). Images (renamings content) number lines (plain_lines (slice_index (registers_of (now_function func)) place) made.becomes.insts)) before made.images)

  nothing_at : (place : ℕ) → slice_get func.blocks place ≡ None
      → Images (renamings content) number (lines_from place (slice_index (registers_of func) place) (insts_in func place))
      (plain_lines (slice_index (registers_of (now_function func)) place) (insts_in (now_function func) place))
  nothing_at place none =
      let there : slice_get (placed func).blocks place ≡ None = block_placed 0 place func.blocks ∙ ap (option_map (placed_block (0 + place))) none in
      let gone = no_block (placed func) (length func.args) place (placed func).blocks there in
      subst (λ (insts : List Instruction). Images (renamings content) number (lines_from place (slice_index (registers_of func) place) (insts_in func place))
      (plain_lines (slice_index (registers_of (now_function func)) place) insts)) (sym (ap (λ (here : Option BasicBlock). option_map_or (λ b. b.insts) here []) gone))
      (subst (λ (insts : List Instruction). Images (renamings content) number (lines_from place (slice_index (registers_of func) place) insts) [])
      (sym (ap (λ (here : Option BasicBlock). option_map_or (λ b. b.insts) here []) none)) no_lines)

  front_images : Images (renamings content) number (poll ∷ lines_of content number 0) (plain_lines (first_register (based_module content) number 0) (insts_of (based_module content) number 0))
  front_images =
      let first = get_some func.blocks 0 (has_block content source number func found) in
      subst (λ (lines : List Line). Images (renamings content) number (poll ∷ lines_of content number 0) lines) (sym (lines_now 0))
      (subst (λ (lines : List Line). Images (renamings content) number (poll ∷ lines) (plain_lines (slice_index (registers_of (now_function func)) 0) (insts_in (now_function func) 0)))
      (sym (lines_before 0)) (images_at 0 first.0 first.1))

  block_images : (block : ℕ) → not (block == 0) ≡ true
      → Images (renamings content) number (lines_of content number block) (plain_lines (first_register (based_module content) number block) (insts_of (based_module content) number block))
  block_images zero entered = absurd cc
  block_images (suc block) entered =
      subst (λ (lines : List Line). Images (renamings content) number (lines_of content number (suc block)) lines) (sym (lines_now (suc block)))
      (subst (λ (lines : List Line). Images (renamings content) number lines (plain_lines (slice_index (registers_of (now_function func)) (suc block)) (insts_in (now_function func) (suc block))))
      (sym (lines_before (suc block))) (by (slice_get func.blocks (suc block)) refl))
    where
      by : (here : Option BasicBlock) → slice_get func.blocks (suc block) ≡ here
          → Images (renamings content) number (lines_from (suc block) (slice_index (registers_of func) (suc block)) (insts_in func (suc block)))
          (plain_lines (slice_index (registers_of (now_function func)) (suc block)) (insts_in (now_function func) (suc block)))
      by None none = nothing_at (suc block) none
      by (Some here) at = images_at (suc block) here at

  room_here : register_count content number ≡ length (definitions_of (placed func))
  room_here =
      ap (λ (here : Option Function). option_map_or (λ defined. slice_index (registers_of defined) (length (registers_of defined) - 1)) here 0) found
      ∙ (ap (λ (registers : List ℕ). slice_index registers (length registers - 1)) (sym registers_are)
      ∙ (last_register (length func.args) (placed func).blocks ∙ room_is (renamings content) number (placed func) true is_here pointers))

  now_room_here : register_count (based_module content) number ≡ (renaming_of true (placed func)).now_room
  now_room_here =
      ap (λ (here : Option Function). option_map_or (λ defined. slice_index (registers_of defined) (length (registers_of defined) - 1)) here 0) (found_now content number (Some func) found)
      ∙ (last_register (length func.args) (now_function func).blocks
      ∙ now_room_is (renamings content) number (placed func) true is_here pointers (ready content source number func found))

-- ---- the module

module _ (content : ModuleContent) (source : IsSourceModule content) where
  now : ModuleContent
  now = based_module content

  front_at : (number : ℕ) (here : Option Function) → slice_get content.funcs number ≡ here → is_some here ≡ true
      → Images (renamings content) number (poll ∷ lines_of content number 0) (plain_lines (first_register (based_module content) number 0) (insts_of (based_module content) number 0))
  front_at number None found called = absurd cc
  front_at number (Some func) found called = front_images content source number func found

  blocks_at : (number block : ℕ) → not (block == 0) ≡ true → (here : Option Function) → slice_get content.funcs number ≡ here
      → Images (renamings content) number (lines_of content number block) (plain_lines (first_register (based_module content) number block) (insts_of (based_module content) number block))
  blocks_at number block entered None found =
      subst (λ (insts : List Instruction). Images (renamings content) number (lines_of content number block) (plain_lines (first_register (based_module content) number block) insts))
      (sym (ap (λ (here : Option Function). option_map_or (λ defined. insts_in defined block) here []) (found_now content number None found)))
      (subst (λ (insts : List Instruction). Images (renamings content) number (lines_from block (first_register content number block) insts) [])
      (sym (ap (λ (here : Option Function). option_map_or (λ defined. insts_in defined block) here []) found)) no_lines)
  blocks_at number block entered (Some func) found = block_images content source number func found block entered

  room_at : (number : ℕ) (here : Option Function) → slice_get content.funcs number ≡ here → register_count content number ≡ (renaming_found here).room
  room_at number None found =
      ap (λ (here : Option Function). option_map_or (λ defined. slice_index (registers_of defined) (length (registers_of defined) - 1)) here 0) found
  room_at number (Some func) found = room_here content source number func found

  now_room_at : (number : ℕ) (here : Option Function) → slice_get content.funcs number ≡ here → register_count (based_module content) number ≡ (renaming_found here).now_room
  now_room_at number None found =
      ap (λ (here : Option Function). option_map_or (λ defined. slice_index (registers_of defined) (length (registers_of defined) - 1)) here 0) (found_now content number None found)
  now_room_at number (Some func) found = now_room_here content source number func found

  names_at : (number : ℕ) (here : Option Function) → slice_get content.funcs number ≡ here → function_name (based_module content) number ≡ function_name content number
  names_at number None found =
      ap (λ (each : Option Function). option_map_or (λ defined. defined.name) each []) (found_now content number None found)
      ∙ sym (ap (λ (each : Option Function). option_map_or (λ defined. defined.name) each []) found)
  names_at number (Some func) found =
      ap (λ (each : Option Function). option_map_or (λ defined. defined.name) each []) (found_now content number (Some func) found)
      ∙ sym (ap (λ (each : Option Function). option_map_or (λ defined. defined.name) each []) found)

  before_main : (funcs : List Function) → prefix_len (λ func. not (bytes_eq func.name (codes "main"))) (map now_function funcs) ≡ prefix_len (λ func. not (bytes_eq func.name (codes "main"))) funcs
  before_main [] = refl
  before_main (func ∷ funcs) = ap (λ n. if not (bytes_eq func.name (codes "main")) then 1 + n else 0) (before_main funcs)

  main_same : main_of (based_module content) ≡ main_of content
  main_same = rw (before_main content.funcs, length-map content.funcs now_function) refl

  some_functions : 0 < length content.funcs
  some_functions =
      let has = ((source.typed).no_fault).main in
      let long = length-append has.earlier (has.main ∷ has.later) in
      let same = ap length has.whole in
      omega arith

  is_there : (place : ℕ) → place < length content.funcs → is_some (slice_get content.funcs place) ≡ true
  is_there place below = ap is_some (get_some content.funcs place below).1

  main_called : is_some (slice_get content.funcs (main_of content)) ≡ true
  main_called =
      by (prefix_len (λ func. not (bytes_eq func.name (codes "main"))) content.funcs)
      (nat_lt (prefix_len (λ func. not (bytes_eq func.name (codes "main"))) content.funcs) (length content.funcs)) refl
    where
      by : (place : ℕ) (b : Bool) → nat_lt place (length content.funcs) ≡ b → is_some (slice_get content.funcs (unwrap_or (if b then Some place else None) 0)) ≡ true
      by place true less = is_there place (grind (arith, nat_tests))
      by place false less = is_there 0 some_functions

  has_images : (go : ℕ → Option ℕ) (bound : ℕ) → HasImages (renamings content) (source_setting content go bound) (target_setting (based_module content) go bound)
  has_images go bound = record {
    renaming = λ number. is_renaming (placed (option_map_or (λ func. func) (slice_get content.funcs number) _)) (is_some (slice_get content.funcs number));
    front = λ number called. front_at number (slice_get content.funcs number) refl called;
    blocks = λ number block entered. blocks_at number block entered (slice_get content.funcs number) refl;
    room = λ number. room_at number (slice_get content.funcs number) refl;
    now_room = λ number. now_room_at number (slice_get content.funcs number) refl;
    names = λ number. names_at number (slice_get content.funcs number) refl;
    layouts = refl;
    main = main_same;
    main_called = main_called;
    go = λ event. refl;
    bound = refl;
  }

pub bases_keep_meaning : BasesKeepMeaning
bases_keep_meaning content source input go bound outcome =
    images_give_the_same (renamings content) (source_setting content go bound) (target_setting (based_module content) go bound) (has_images content source go bound) input outcome
