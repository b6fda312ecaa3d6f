-- The run of the module under fitting names is that of the module before liveness.
use Rattle.std.proofs.Common.{◌≡◌, ℕ, zero, suc, ◌<◌, ◌≤◌, ◌+◌, ◌-◌, Bool, true, if◌then◌else◌, List, [], ◌∷◌, ◌++◌, length, map, filter, refl, ap, sym, arith, Some, None, Option, slice_get, get_or, inl, inr, ◌∙◌, append-nil, append_assoc, subst}
use Rattle.std.specs.Prelude.{slice_index}
use Rattle.std.specs.List.{flat_map, range_with_len}
use Rattle.std.specs.Option.{option_map_or, option_map}
use Rattle.std.proofs.lemmas.Bool.{cases_Bool, cases_lt, false≢true}
use Rattle.std.proofs.lemmas.Option.{slice_get-get_or, slice_get_past, get_or_from_slice_get}
use Rattle.std.proofs.lemmas.List.{get_or_past, length-map, length-append}
use Rattle.std.proofs.lemmas.List.FromFn.{length-range_with_len}
use Rattle.ir_ast.specs.declared.ops.Operand.{Operand}
use Rattle.ir_ast.specs.Blocks.{BasicBlock}
use Rattle.ir_ast.specs.Funcs.{Function}
use Rattle.ir_ast.specs.Modules.{ModuleContent}
use Rattle.object_meaning.specs.Texts.{function_name}
use Rattle.object_meaning.specs.Lines.{Line, main_of, register_count, registers_of, first_registers, after_all, insts_in, insts_of, first_register}
use Rattle.object_meaning.specs.TargetRuns.{plain_lines, target_setting}
use Rattle.rewriting_forms.specs.Numbered.{lines_at, line_at, calls, pointers}
use Rattle.rewriting_forms.specs.Names.{Name, Naming, naming_of, own}
use Rattle.rewriting_forms.specs.Rewritten.{Choice, names_of, block_names, place_in, spelled, piece_inst, inserted_phi, expanded, pieces_of, rewritten, rewritten_blocks, rewritten_with, rewritten_funcs_by, rewritten_module, rewritten_module_by}
use Rattle.ir_ast.specs.declared.ops.Callee.{Callee}
use Rattle.ir_ast.specs.declared.ops.Callee.TheVariants.{Fun as Defined, TaskStart}
use Rattle.rewriting_laws.specs.Related.{ArgumentsFit, Rewriting, IsRewriting, AreModules, setting_of, setting_now, lines_now, piece_line}
use Rattle.rewriting_laws.specs.Statements.{HaveFittingNames, IsBefore, func_of, no_function, rewriting_by, rewritings, rewritings_by}
use Rattle.rewriting_laws.proofs.VersionLaws.{no_lines}
use Rattle.rewriting_laws.proofs.LiveLaws.{table_closed}
use Rattle.rewriting_laws.proofs.NamingLaws.{naming_fits, naming_inside}
use Rattle.rewriting_laws.proofs.NumberLaws.{numbers_of_text}
use Rattle.rewriting_laws.proofs.ApartLaws.{names_apart}
use Rattle.rewriting_laws.proofs.PlaceLaws.{text_lines, block_lines, pieces_names}

-- what the laws ask of each function
in_block : (func : Function) (table : List Operand) (b k : ℕ) (line : Line) → slice_get (lines_at func b) k ≡ Some line → b < length func.blocks
in_block func table b k line stands = elim (cases_lt b (length func.blocks)) [
  | inl below ↦ below
  | inr past ↦
      let none = no_lines func table b past in
      let h : slice_get [] k ≡ Some line = ap (λ (ls : List Line). slice_get ls k) (sym none) ∙ stands in
      absurd (cc)
]

in_call : (func : Function) (table : List Operand) (b k : ℕ) → calls (line_at func b k) ≡ true → (b < length func.blocks) × (k < length (lines_at func b))
in_call func table b k is = elim (cases_lt k (length (lines_at func b))) [
  | inl below ↦ (in_block func table b k (line_at func b k) (slice_get-get_or (lines_at func b) k _ below), below)
  | inr past ↦ absurd (false≢true (sym (ap (λ (l : Line). calls l) (get_or_past (lines_at func b) k _ past)) ∙ is))
]

-- calls pass what functions take, whichever names are chosen
arguments_by : (content : ModuleContent) (tables : ℕ → List Operand) (choose : Choice) (callee : Callee) (given : List Operand)
    → ArgumentsFit (rewritings content tables) callee given → ArgumentsFit (rewritings_by content tables choose) callee given
arguments_by content tables choose (Defined g) given fit = fit
arguments_by content tables choose TaskStart given fit = fit
arguments_by content tables choose callee given fit = tt

module _ (content : ModuleContent) (tables : ℕ → List Operand) (choose : Choice) (before : IsBefore content tables) (fitting : HaveFittingNames content tables choose) where
  abbrev all : ℕ → Rewriting
  all = rewritings_by content tables choose

  each : (g : ℕ) → IsRewriting all (all g)
  each g =
      let func = func_of content g in
      let table = tables g in
      record {
        fits = fitting.fits g;
        numbers = numbers_of_text func table (choose g func table) (in_block func table) (in_call func table) (fitting.inside g);
        plain = before.plain g;
        closed = table_closed func table;
        few_arguments = before.few_arguments g;
        few_arguments_now =
            let split = length-append (map own (range_with_len 0 (length func.args))) (flat_map (block_names func table (choose g func table)) (range_with_len 0 (length func.blocks))) in
            let args : length (map own (range_with_len 0 (length func.args))) ≡ length func.args = length-map (range_with_len 0 (length func.args)) own ∙ length-range_with_len 0 (length func.args) in
            omega (arith, split, args);
        arguments = λ b k line callee types stands is. arguments_by content tables choose callee line.inst.operands (before.arguments g b k line callee types stands is);
      }

  abbrev now_content : ModuleContent
  now_content = rewritten_module_by content tables choose

  funcs_get : (from : ℕ) (funcs : List Function) (g : ℕ) → slice_get (rewritten_funcs_by tables choose from funcs) g ≡ option_map (λ (f : Function). rewritten_with f (tables (from + g)) (choose (from + g) f (tables (from + g)))) (slice_get funcs g)
  funcs_get from [] g = refl
  funcs_get from (f ∷ funcs) zero = let e : from ≡ from + 0 = omega arith in ap (λ (n : ℕ). Some (rewritten_with f (tables n) (choose n f (tables n)))) e
  funcs_get from (f ∷ funcs) (suc g) =
      let e : suc from + g ≡ from + suc g = omega arith in
      funcs_get (suc from) funcs g ∙ ap (λ (n : ℕ). option_map (λ (f : Function). rewritten_with f (tables n) (choose n f (tables n))) (slice_get funcs g)) e

  pub get_by : (g : ℕ) → slice_get now_content.funcs g ≡ option_map (λ (f : Function). rewritten_with f (tables g) (choose g f (tables g))) (slice_get content.funcs g)
  get_by g = let z : 0 + g ≡ g = omega arith in funcs_get 0 content.funcs g ∙ ap (λ (n : ℕ). option_map (λ (f : Function). rewritten_with f (tables n) (choose n f (tables n))) (slice_get content.funcs g)) z

  func_is : (g : ℕ) (f : Function) → slice_get content.funcs g ≡ Some f → func_of content g ≡ f
  func_is g f is = get_or_from_slice_get content.funcs g f no_function is

  func_none : (g : ℕ) → slice_get content.funcs g ≡ None → func_of content g ≡ no_function
  func_none g none = elim (cases_lt g (length content.funcs)) [
    | inr past ↦ get_or_past content.funcs g no_function past
    | inl below ↦ absurd (let h : None ≡ Some (get_or content.funcs g no_function) = sym none ∙ slice_get-get_or content.funcs g no_function below in cc)
  ]

  -- the lines before liveness
  lines_before : (g b : ℕ) → plain_lines (first_register content g b) (insts_of content g b) ≡ lines_at (func_of content g) b
  lines_before g b = go (slice_get content.funcs g) refl
    where
      go : (o : Option Function) → slice_get content.funcs g ≡ o → plain_lines (first_register content g b) (insts_of content g b) ≡ lines_at (func_of content g) b
      go (Some f) is =
          ap (λ (o : Option Function). plain_lines (option_map_or (λ (d : Function). slice_index (registers_of d) b) o 0) (option_map_or (λ (d : Function). insts_in d b) o [])) is
          ∙ sym (ap (λ (d : Function). lines_at d b) (func_is g f is))
      go None none =
          ap (λ (o : Option Function). plain_lines (option_map_or (λ (d : Function). slice_index (registers_of d) b) o 0) (option_map_or (λ (d : Function). insts_in d b) o [])) none
          ∙ sym (ap (λ (d : Function). lines_at d b) (func_none g none) ∙ no_lines no_function (tables g) b (omega arith))

  -- blocks of the rewritten function
  blocks_length : (func : Function) (table : List Operand) (naming : Naming) (names : List Name) (b : ℕ) (blocks : List BasicBlock) → length (rewritten_blocks func table naming names b blocks) ≡ length blocks
  blocks_length func table naming names b [] = refl
  blocks_length func table naming names b (block ∷ blocks) = ap suc (blocks_length func table naming names (suc b) blocks)

  none_joined : (naming : Naming) (b count : ℕ) → ((v : ℕ) → naming.joins b v ≡ true → b < count) → count ≤ b → (xs : List ℕ) → filter (naming.joins b) xs ≡ []
  none_joined naming b count inside past [] = refl
  none_joined naming b count inside past (x ∷ xs) = elim (cases_Bool (naming.joins b x)) [
    | inl joins ↦ let below = inside x joins in absurd (omega arith)
    | inr none ↦ ap (λ (t : Bool). if t then x ∷ filter (naming.joins b) xs else filter (naming.joins b) xs) none ∙ none_joined naming b count inside past xs
  ]

  function_lines : (func : Function) (table : List Operand) (naming : Naming) → ((b v : ℕ) → naming.joins b v ≡ true → b < length func.blocks) → (room b : ℕ)
      → plain_lines (slice_index (registers_of (rewritten_with func table naming)) b) (insts_in (rewritten_with func table naming) b) ≡ lines_now (rewriting_by func table naming room) b
  function_lines func table naming inside room b = elim (cases_lt b (length func.blocks)) [
    | inl below ↦
        let count = blocks_length func table naming (names_of func table naming) 0 func.blocks in
        let block = get_or (rewritten_with func table naming).blocks b (record { name = []; insts = [] }) in
        let is = slice_get-get_or (rewritten_with func table naming).blocks b (record { name = []; insts = [] }) (omega (arith, count, below)) in
        ap (λ (o : Option BasicBlock). plain_lines (slice_index (registers_of (rewritten_with func table naming)) b) (option_map_or (λ (x : BasicBlock). x.insts) o [])) is
        ∙ text_lines func table naming (names_apart func table naming) b block is
    | inr past ↦
        let count = blocks_length func table naming (names_of func table naming) 0 func.blocks in
        ap (λ (o : Option BasicBlock). plain_lines (slice_index (registers_of (rewritten_with func table naming)) b) (option_map_or (λ (x : BasicBlock). x.insts) o []))
        (slice_get_past (rewritten_with func table naming).blocks b (omega (arith, count, past)))
        ∙ sym (nothing_there past)
  ]
    where
      nothing_there : length func.blocks ≤ b → lines_now (rewriting_by func table naming room) b ≡ []
      nothing_there past =
          ap (λ (vs : List ℕ). map (piece_line (spelled func (names_of func table naming)) (place_in (names_of func table naming)))
          (map (inserted_phi func table naming (place_in (names_of func table naming)) b) vs
          ++ expanded func table naming (place_in (names_of func table naming)) b 0 (lines_at func b))) (none_joined naming b (length func.blocks) (inside b) past (pointers func))
          ∙ ap (λ (ls : List Line). map (piece_line (spelled func (names_of func table naming)) (place_in (names_of func table naming)))
          (expanded func table naming (place_in (names_of func table naming)) b 0 ls)) (no_lines func table b past)

  abbrev lines_there : ℕ → Option Function → List Line
  lines_there b o = plain_lines (option_map_or (λ (d : Function). slice_index (registers_of d) b) o 0) (option_map_or (λ (d : Function). insts_in d b) o [])

  lines_behind : (g b : ℕ) → plain_lines (first_register now_content g b) (insts_of now_content g b) ≡ lines_now (all g) b
  lines_behind g b = go (slice_get content.funcs g) refl
    where
      go : (o : Option Function) → slice_get content.funcs g ≡ o → plain_lines (first_register now_content g b) (insts_of now_content g b) ≡ lines_now (all g) b
      go (Some f) is =
          ap (lines_there b) (get_by g ∙ ap (option_map (λ (f : Function). rewritten_with f (tables g) (choose g f (tables g)))) (is ∙ ap (λ (d : Function). Some d) (sym (func_is g f is))))
          ∙ function_lines (func_of content g) (tables g) (choose g (func_of content g) (tables g)) (fitting.inside g) (register_count content g) b
      go None none =
          ap (lines_there b) (get_by g ∙ ap (option_map (λ (f : Function). rewritten_with f (tables g) (choose g f (tables g)))) none)
          ∙ sym (ap (λ (o : Option BasicBlock). plain_lines (slice_index (registers_of (rewritten_with no_function (tables g) (choose g no_function (tables g)))) b) (option_map_or (λ (x : BasicBlock). x.insts) o [])) (slice_get_past [] b (omega arith)))
          ∙ function_lines no_function (tables g) (choose g no_function (tables g))
          (subst (λ (d : Function). (b v : ℕ) → (choose g d (tables g)).joins b v ≡ true → b < length d.blocks) (func_none g none) (fitting.inside g)) (register_count content g) b
          ∙ ap (λ (d : Function). lines_now (rewriting_by d (tables g) (choose g d (tables g)) (register_count content g)) b) (sym (func_none g none))

  -- how many registers a rewritten function has
  last_register : (func : Function) (table : List Operand) (naming : Naming) (before : List Name) (b : ℕ) (blocks : List BasicBlock)
      → names_of func table naming ≡ before ++ flat_map (block_names func table naming) (range_with_len b (length blocks))
      → slice_index (first_registers (length before) (rewritten_blocks func table naming (names_of func table naming) b blocks)) (length blocks)
      ≡ length (names_of func table naming)
  last_register func table naming before b [] split = sym (ap length split ∙ ap length (append-nil before))
  last_register func table naming before b (block ∷ blocks) split =
      let names = names_of func table naming in
      let rest = flat_map (block_names func table naming) (range_with_len (b + 1) (length blocks)) in
      let one : suc b ≡ b + 1 = omega arith in
      let this = block_lines func table naming names (names_apart func table naming) before rest b split in
      let longer : length (before ++ block_names func table naming b) ≡ after_all (length before) (map (piece_inst (spelled func names)) (pieces_of func table naming (place_in names) b)) =
      length-append before (block_names func table naming b) ∙ ap (λ (ns : List Name). length before + length ns) (sym (pieces_names func table naming (place_in names) b)) ∙ sym this.1 in
      ap (λ (n : ℕ). slice_index (first_registers (after_all (length before) (map (piece_inst (spelled func names)) (pieces_of func table naming (place_in names) b))) (rewritten_blocks func table naming names n blocks)) (length blocks)) one
      ∙ ap (λ (n : ℕ). slice_index (first_registers n (rewritten_blocks func table naming names (b + 1) blocks)) (length blocks)) (sym longer)
      ∙ last_register func table naming (before ++ block_names func table naming b) (b + 1) blocks (split ∙ sym (append_assoc before (block_names func table naming b) rest))

  firsts_length : (next : ℕ) (blocks : List BasicBlock) → length (first_registers next blocks) ≡ suc (length blocks)
  firsts_length next [] = refl
  firsts_length next (block ∷ blocks) = ap suc (firsts_length (after_all next block.insts) blocks)

  function_count : (func : Function) (table : List Operand) (naming : Naming)
      → slice_index (registers_of (rewritten_with func table naming)) (length (registers_of (rewritten_with func table naming)) - 1) ≡ length (names_of func table naming)
  function_count func table naming =
      let names = names_of func table naming in
      let args = map own (range_with_len 0 (length func.args)) in
      let count : length args ≡ length func.args = length-map (range_with_len 0 (length func.args)) own ∙ length-range_with_len 0 (length func.args) in
      let long = firsts_length (length func.args) (rewritten_blocks func table naming names 0 func.blocks) in
      let same = blocks_length func table naming names 0 func.blocks in
      let e : length (registers_of (rewritten_with func table naming)) - 1 ≡ length func.blocks = omega (arith, long, same) in
      ap (slice_index (registers_of (rewritten_with func table naming))) e
      ∙ ap (λ (n : ℕ). slice_index (first_registers n (rewritten_blocks func table naming names 0 func.blocks)) (length func.blocks)) (sym count)
      ∙ last_register func table naming args 0 func.blocks refl

  count_behind : (g : ℕ) → register_count now_content g ≡ (all g).now_room
  count_behind g = go (slice_get content.funcs g) refl
    where
      go : (o : Option Function) → slice_get content.funcs g ≡ o → register_count now_content g ≡ (all g).now_room
      go (Some f) is =
          ap (λ (o : Option Function). option_map_or (λ (d : Function). slice_index (registers_of d) (length (registers_of d) - 1)) o 0)
          (get_by g ∙ ap (option_map (λ (f : Function). rewritten_with f (tables g) (choose g f (tables g)))) is)
          ∙ function_count f (tables g) (choose g f (tables g))
          ∙ ap (λ (d : Function). length (names_of d (tables g) (choose g d (tables g)))) (sym (func_is g f is))
      go None none =
          ap (λ (o : Option Function). option_map_or (λ (d : Function). slice_index (registers_of d) (length (registers_of d) - 1)) o 0)
          (get_by g ∙ ap (option_map (λ (f : Function). rewritten_with f (tables g) (choose g f (tables g)))) none)
          ∙ ap (λ (d : Function). length (names_of d (tables g) (choose g d (tables g)))) (sym (func_none g none))

  pub modules_by : AreModules all content now_content
  modules_by = record { each = each; layouts = refl; room = λ g. refl; room_now = count_behind }

  -- the settings of the two runs are those of the target meaning
  pub setting_before : (go : ℕ → Option ℕ) (bound : ℕ) → target_setting content go bound ≡ setting_of content all go bound
  setting_before go bound = λ i. record {
    lines = λ g b. lines_before g b i;
    front = [];
    registers = register_count content;
    layouts = content.layouts;
    main = main_of content;
    names = function_name content;
    go = go;
    bound = bound;
  }

  pub setting_behind : (go : ℕ → Option ℕ) (bound : ℕ) → target_setting now_content go bound ≡ setting_now now_content all go bound
  setting_behind go bound = λ i. record {
    lines = λ g b. lines_behind g b i;
    front = [];
    registers = register_count now_content;
    layouts = now_content.layouts;
    main = main_of now_content;
    names = function_name now_content;
    go = go;
    bound = bound;
  }

-- ---- the rewritten module

pub chosen_fit : (content : ModuleContent) (tables : ℕ → List Operand) → IsBefore content tables → HaveFittingNames content tables (λ g. naming_of)
chosen_fit content tables before = record {
  fits = λ g. naming_fits (func_of content g) (tables g) (before.graph g);
  inside = λ g b v joins. naming_inside (func_of content g) (tables g) b v joins;
}

pub now_get : (content : ModuleContent) (tables : ℕ → List Operand) → IsBefore content tables → (g : ℕ)
    → slice_get (rewritten_module content tables).funcs g ≡ option_map (λ (f : Function). rewritten f (tables g)) (slice_get content.funcs g)
now_get content tables before = get_by content tables (λ g. naming_of) before (chosen_fit content tables before)

pub modules : (content : ModuleContent) (tables : ℕ → List Operand) → IsBefore content tables → AreModules (rewritings content tables) content (rewritten_module content tables)
modules content tables before = modules_by content tables (λ g. naming_of) before (chosen_fit content tables before)
