-- The tables of a module.
use Rattle.std.proofs.Common.{◌≡◌, ℕ, zero, suc, ◌+◌, ◌*◌, ◌<◌, ◌≤◌, ◌^◌, List, [], ◌∷◌, ◌++◌, length, map, take, refl, sym, ap, ◌∙◌, length-append, arith}
use Rattle.std.specs.Prelude.{Option, Some, None, slice_get, slice_index, slice_index_or, ◌-◌}
use Rattle.std.specs.Option.{option_map, option_map_or}
use Rattle.std.specs.List.{All}
use Rattle.std.proofs.lemmas.List.{length-map}
use Rattle.std.proofs.lemmas.Option.{slice_get-map, slice_get_past, slice_get_within}
use Rattle.ir_ast.specs.Blocks.{BasicBlock}
use Rattle.ir_ast.specs.Funcs.{Function, LinedFunction, content_of, instructions_of}
use Rattle.ir_ast.specs.Modules.{ModuleContent}
use Rattle.object_meaning.specs.Lines.{registers_of, first_register, register_count, insts_of, insts_in}
use Rattle.frame_forms.specs.CodeAddresses.{next_start}
use Rattle.frame_forms.specs.FrameSizes.{frame_words}
use Rattle.frame_forms.specs.ModuleLayouts.{FunctionLayout, laid_from, frame_bytes_in, address_in}
use Rattle.frame_forms.proofs.LayoutLemmas.{length-laid_from}
use Rattle.machine_meaning.specs.Code.{place_before, code_address, words_in}
use Rattle.machine_frames.specs.Tables.{Tabled, befores_from, before_in, table_of, IsSmallFunction, AreOf}

pub tables_from : (content : ModuleContent) (funcs : List LinedFunction) → map content_of funcs ≡ content.funcs
    → map (λ (func : LinedFunction). table_of func.content) funcs ≡ map table_of content.funcs
tables_from content funcs e = all funcs ∙ ap (map table_of) e
  where
    all : (funcs : List LinedFunction) → map (λ (func : LinedFunction). table_of func.content) funcs ≡ map table_of (map content_of funcs)
    all [] = refl
    all (func ∷ funcs) = ap (λ rest. table_of func.content ∷ rest) (all funcs)

-- what is looked up in a table is what the function has
pub tabled : {X : Type 0} (f : Tabled → X) (g : Function → X) (d : X) → ((func : Function) → f (table_of func) ≡ g func)
    → (content : ModuleContent) (laid : List FunctionLayout) (tables : List Tabled) (func : ℕ) (found : Option Tabled) → AreOf content laid tables → slice_get tables func ≡ found
    → option_map_or f found d ≡ option_map_or g (slice_get content.funcs func) d
tabled f g d same content laid tables func found are is =
    ap (λ (o : Option Tabled). option_map_or f o d) (sym is ∙ ap (λ (ts : List Tabled). slice_get ts func) are.tables_are ∙ slice_get-map table_of content.funcs func)
    ∙ by (slice_get content.funcs func)
  where
    by : (found : Option Function) → option_map_or f (option_map table_of found) d ≡ option_map_or g found d
    by None = refl
    by (Some one) = same one

pub first_is : (content : ModuleContent) (laid : List FunctionLayout) (tables : List Tabled) (func block : ℕ) (found : Option Tabled) → AreOf content laid tables → slice_get tables func ≡ found
    → option_map_or (λ table. slice_index table.firsts block) found 0 ≡ first_register content func block
first_is content laid tables func block found are is =
    tabled (λ table. slice_index table.firsts block) (λ func. slice_index (registers_of func) block) 0 (λ func. refl) content laid tables func found are is

pub last_is : (content : ModuleContent) (laid : List FunctionLayout) (tables : List Tabled) (func : ℕ) (found : Option Tabled) → AreOf content laid tables → slice_get tables func ≡ found
    → option_map_or (λ table. slice_index table.firsts (length table.firsts - 1)) found 0 ≡ register_count content func
last_is content laid tables func found are is =
    tabled (λ table. slice_index table.firsts (length table.firsts - 1)) (λ func. slice_index (registers_of func) (length (registers_of func) - 1)) 0 (λ func. refl) content laid tables func found are is

-- how many instructions stand before a block
pub before_all : (count : ℕ) (blocks : List BasicBlock) (block : ℕ) → before_in (befores_from count blocks) block ≡ count + length (instructions_of (take block blocks))
before_all count [] zero = omega arith
before_all count [] (suc block) = omega arith
before_all count (one ∷ blocks) zero = omega arith
before_all count (one ∷ blocks) (suc block) =
    last_of count (befores_from (count + length one.insts) blocks) block (some (count + length one.insts) blocks)
    ∙ before_all (count + length one.insts) blocks block
    ∙ (let more = length-append one.insts (instructions_of (take block blocks)) in
    let e : count + length one.insts + length (instructions_of (take block blocks)) ≡ count + length (instructions_of (take (suc block) (one ∷ blocks))) = omega arith in e)
  where
    some : (count : ℕ) (blocks : List BasicBlock) → 0 < length (befores_from count blocks)
    some count [] = omega arith
    some count (one ∷ blocks) = omega arith

    last_of : (count : ℕ) (rest : List ℕ) (block : ℕ) → 0 < length rest → before_in (count ∷ rest) (suc block) ≡ before_in rest block
    last_of count [] block l = absurd (omega arith)
    last_of count (one ∷ rest) block l =
        let e : length (count ∷ one ∷ rest) - 1 ≡ suc (length (one ∷ rest) - 1) = omega arith in
        ap (λ (n : ℕ). slice_index_or (one ∷ rest) block (slice_index (count ∷ one ∷ rest) n)) e

pub before_is : (content : ModuleContent) (laid : List FunctionLayout) (tables : List Tabled) (func block : ℕ) (table : Tabled) → AreOf content laid tables
    → slice_get tables func ≡ Some table → before_in table.befores block ≡ place_before content func block
before_is content laid tables func block table are is =
    by (slice_get content.funcs func) (sym (slice_get-map table_of content.funcs func) ∙ ap (λ (ts : List Tabled). slice_get ts func) (sym are.tables_are) ∙ is)
  where
    by : (found : Option Function) → option_map table_of found ≡ Some table → before_in table.befores block ≡ option_map_or (λ defined. length (instructions_of (take block defined.blocks))) found 0
    by None e = absurd (let no : None ≡ Some table = e in cc)
    by (Some one) e =
        let same : table_of one ≡ table = cc in
        let zero : 0 + length (instructions_of (take block one.blocks)) ≡ length (instructions_of (take block one.blocks)) = omega arith in
        ap (λ (t : Tabled). before_in t.befores block) (sym same) ∙ before_all 0 one.blocks block ∙ zero

-- ---- code is small

pub all_push : {X : Type 0} (P : X → Type 0) (xs : List X) (x : X) → All P xs → P x → All P (xs ++ x ∷ [])
all_push P [] x all here zero d l = here
all_push P [] x all here (suc k) d l = absurd (omega arith)
all_push P (y ∷ ys) x all here zero d l = all 0 y (omega arith)
all_push P (y ∷ ys) x all here (suc k) d l = all_push P ys x (λ i e m. all (suc i) e (omega arith)) here k d (omega arith)

pub small_contents : (funcs : List LinedFunction) → All (λ func. IsSmallFunction func.content) funcs → All IsSmallFunction (map content_of funcs)
small_contents [] all k d l = absurd (omega arith)
small_contents (func ∷ funcs) all zero d l = all 0 func (omega arith)
small_contents (func ∷ funcs) all (suc k) d l = small_contents funcs (λ i e m. all (suc i) e (omega arith)) k d (omega arith)

next_near : (start : ℕ) (func : Function) → IsSmallFunction func → next_start start func ≤ start + 8589934592
next_near start func small = omega arith

starts_near : (start : ℕ) (funcs : List Function) (func : ℕ) → All IsSmallFunction funcs → address_in (laid_from start funcs) func ≤ start + 8589934592 * func
starts_near start [] func all = omega arith
starts_near start (one ∷ funcs) zero all = omega arith
starts_near start (one ∷ funcs) (suc func) all =
    let near = next_near start one (all 0 one (omega arith)) in
    let rest = starts_near (next_start start one) funcs func (λ k d l. all (suc k) d (omega arith)) in omega arith

-- the instructions of a block and those before it
block_within : (blocks : List BasicBlock) (block : ℕ)
    → length (instructions_of (take block blocks)) + length (option_map_or (λ (one : BasicBlock). one.insts) (slice_get blocks block) []) ≤ length (instructions_of blocks)
block_within [] zero = omega arith
block_within [] (suc block) = omega arith
block_within (one ∷ blocks) zero = let all = length-append one.insts (instructions_of blocks) in omega arith
block_within (one ∷ blocks) (suc block) =
    let all = length-append one.insts (instructions_of blocks) in
    let front = length-append one.insts (instructions_of (take block blocks)) in
    let rest = block_within blocks block in omega arith

place_within : (funcs : List Function) (func block place : ℕ) → All IsSmallFunction funcs
    → place ≤ length (option_map_or (λ (one : Function). insts_in one block) (slice_get funcs func) [])
    → option_map_or (λ (one : Function). length (instructions_of (take block one.blocks))) (slice_get funcs func) 0 + place < 2 ^ 30
place_within [] func block place all l = omega arith
place_within (one ∷ funcs) zero block place all l =
    let small = all 0 one (omega arith) in let within = block_within one.blocks block in omega arith
place_within (one ∷ funcs) (suc func) block place all l = place_within funcs func block place (λ k d m. all (suc k) d (omega arith)) l

-- what is known of an instruction of a table's function
pub record IsNear (content : ModuleContent) (laid : List FunctionLayout) (func block place : ℕ) (table : Tabled) : Type 0 where
  pub there : func < length laid
  pub before : before_in table.befores block ≡ place_before content func block
  pub within : before_in table.befores block + place < 2 ^ 30
  pub start : address_in laid func < 2 ^ 46
  pub address : address_in laid func + 4 * (before_in table.befores block + place) ≡ code_address content func block place

pub near_is : (content : ModuleContent) (laid : List FunctionLayout) (tables : List Tabled) (func block place : ℕ) (table : Tabled) → AreOf content laid tables
    → slice_get tables func ≡ Some table → place ≤ length (insts_of content func block) → IsNear content laid func block place table
near_is content laid tables func block place table are is here =
    let before = before_is content laid tables func block table are is in
    let among : func < length tables = slice_get_within tables func table is in
    let count = ap length are.tables_are ∙ length-map content.funcs table_of in
    let laid_all = ap length are.laid_is ∙ length-laid_from 4096 content.funcs in
    let small = place_within content.funcs func block place are.small here in
    let start = ap (λ (l : List FunctionLayout). address_in l func) are.laid_is in
    let near = starts_near 4096 content.funcs func are.small in
    record {
      there = omega arith;
      before = before;
      within = omega arith;
      start = omega (arith, are.few);
      address = ap (λ (n : ℕ). address_in laid func + 4 * (n + place)) before ∙ ap (λ (n : ℕ). n + 4 * (place_before content func block + place)) start;
    }

pub no_code : (content : ModuleContent) (laid : List FunctionLayout) (tables : List Tabled) (func block place : ℕ) → AreOf content laid tables
    → slice_get tables func ≡ None → place ≤ length (insts_of content func block) → 0 ≡ code_address content func block place
no_code content laid tables func block place are is within =
    let none : slice_get content.funcs func ≡ None =
    by (slice_get content.funcs func) (sym (slice_get-map table_of content.funcs func) ∙ ap (λ (ts : List Tabled). slice_get ts func) (sym are.tables_are) ∙ is) in
    let before : place_before content func block ≡ 0 = ap (λ (o : Option Function). option_map_or (λ (one : Function). length (instructions_of (take block one.blocks))) o 0) none in
    let insts = ap (λ (o : Option Function). length (option_map_or (λ (one : Function). insts_in one block) o [])) none in
    let start = none_laid 4096 content.funcs func none in omega arith
  where
    by : (found : Option Function) → option_map table_of found ≡ None → found ≡ None
    by None e = refl
    by (Some one) e = absurd (let no : Some (table_of one) ≡ None = e in cc)

    none_laid : (start : ℕ) (funcs : List Function) (func : ℕ) → slice_get funcs func ≡ None → address_in (laid_from start funcs) func ≡ 0
    none_laid start [] func e = refl
    none_laid start (one ∷ funcs) zero e = absurd (let no : Some one ≡ None = e in cc)
    none_laid start (one ∷ funcs) (suc func) e = none_laid (next_start start one) funcs func e

-- the words of frames
bytes_are : (start : ℕ) (funcs : List Function) (func : ℕ) → frame_bytes_in (laid_from start funcs) func ≡ 8 * option_map_or frame_words (slice_get funcs func) 0
bytes_are start [] func = refl
bytes_are start (one ∷ funcs) zero = refl
bytes_are start (one ∷ funcs) (suc func) = bytes_are (next_start start one) funcs func

pub words_are : (content : ModuleContent) (laid : List FunctionLayout) (tables : List Tabled) (func : ℕ) → AreOf content laid tables
    → frame_bytes_in laid func ≡ 8 * words_in content func
words_are content laid tables func are = ap (λ (l : List FunctionLayout). frame_bytes_in l func) are.laid_is ∙ bytes_are 4096 content.funcs func

pub no_words : (content : ModuleContent) (laid : List FunctionLayout) (tables : List Tabled) (func : ℕ) → AreOf content laid tables
    → length laid ≤ func → words_in content func ≡ 0
no_words content laid tables func are past =
    let count : length content.funcs ≤ func = omega (arith, ap length are.laid_is, length-laid_from 4096 content.funcs) in
    ap (λ (found : Option Function). option_map_or frame_words found 0) (slice_get_past content.funcs func count)
