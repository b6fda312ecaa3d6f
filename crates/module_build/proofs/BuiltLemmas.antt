-- What building a function relies on: one line for each instruction, and the names of its tables.
use Rattle.std.proofs.Common.{◌≡◌, ◌∙◌, ℕ, List, [], ◌∷◌, length, refl, ap, sym, subst, arith}
use Rattle.std.specs.Prelude.{map, flat_map}
use Rattle.std.proofs.lemmas.List.{length-map, length-append}
use Rattle.std.specs.List.{All}
use Rattle.std.proofs.lemmas.List.Elements.{All-weaker, All-same}
use Rattle.ir_ast.specs.declared.modules.Form.{Form}
use Rattle.ir_ast.specs.Insts.{Instruction}
use Rattle.ir_ast.specs.Blocks.{BasicBlock}
use Rattle.ir_ast.specs.Layouts.{ObjectLayout}
use Rattle.ir_ast.specs.Funcs.{Function, LinedFunction, instructions_of, content_of, lines_of}
use Rattle.ir_ast.specs.Modules.{ModuleContent, LinedModule}
use Rattle.ir_lines.specs.declared.scope.Top.{Top}
use Rattle.ir_lines.specs.Statements.{Line}
use Rattle.ir_lines.specs.Sections.{Definition, BlockLines, values_of, blocks_of, layouts_of, definitions_of}
use Rattle.ir_lines.specs.Modules.{Known, known_of, layout_of, function_of, instruction_lines, module_of, block_of, numbers_of, insts_of, instructions_of as lined_instructions}
use Rattle.ir_lines.specs.Tables.{IsTop}
use Rattle.module_build.specs.Placed.{IsPlacedFunction}
use Rattle.module_build.specs.Built.{known_with, lined_function}

pub one-line_each : (known : Known) (blocks : List BlockLines)
    → length (flat_map (λ (block : BlockLines). numbers_of known block.lines) blocks) ≡ length (instructions_of (map (block_of known) blocks))
one-line_each known [] = refl
one-line_each known (block ∷ blocks) =
    let a = length-append (numbers_of known block.lines) (flat_map (λ (one : BlockLines). numbers_of known one.lines) blocks) in
    let b = length-append (insts_of known block.lines) (instructions_of (map (block_of known) blocks)) in
    let c = length-map (lined_instructions known block.lines) (λ (x : ℕ × Instruction). x.0) in
    let d = length-map (lined_instructions known block.lines) (λ (x : ℕ × Instruction). x.1) in
    let e = one-line_each known blocks in
    omega (arith, a, b, c, d, e)

abbrev pub known_by : List (List ℕ) → List (List ℕ) → List (List ℕ) → List (List ℕ) → Known
known_by layouts functions values blocks = record { layouts = layouts; functions = functions; values = values; blocks = blocks }

pub known-top : (lines : List Line) (top : Top) (func : Definition) → IsTop lines top → known_with top func ≡ known_of lines func
known-top lines top func h =
    ap (λ (layouts : List (List ℕ)). known_by layouts top.functions (map (λ one. one.name) (values_of func)) (map (λ one. one.name) (blocks_of func))) h.layouts
    ∙ ap (λ (functions : List (List ℕ)). known_by (known_of lines func).layouts functions (known_of lines func).values (known_of lines func).blocks) h.functions

pub known-local : (top : Top) (func : Definition) (values blocks : List (List ℕ))
    → values ≡ map (λ one. one.name) (values_of func) → blocks ≡ map (λ one. one.name) (blocks_of func)
    → known_by top.layouts top.functions values blocks ≡ known_with top func
known-local top func values blocks v b =
    ap (λ (xs : List (List ℕ)). known_by top.layouts top.functions xs blocks) v
    ∙ ap (λ (xs : List (List ℕ)). known_by top.layouts top.functions (known_with top func).values xs) b

-- ---- the whole module

abbrev pub lined_with : Top → Definition → LinedFunction
lined_with top func = lined_function (known_with top func) func

abbrev content_with : Form → List ObjectLayout → List Function → ModuleContent
content_with form layouts funcs = record { layouts = layouts; funcs = funcs; form = form }

abbrev module_with : ModuleContent → List (List ℕ) → LinedModule
module_with content numbers = record { content = content; lines = numbers }

built-contents : (lines : List Line) (top : Top) → IsTop lines top → (funcs : List Definition)
    → map content_of (map (lined_with top) funcs) ≡ map (λ (func : Definition). function_of (known_of lines func) func) funcs
built-contents lines top h [] = refl
built-contents lines top h (func ∷ funcs) =
    ap (λ (known : Known). function_of known func ∷ map content_of (map (lined_with top) funcs)) (known-top lines top func h)
    ∙ ap (λ (more : List Function). function_of (known_of lines func) func ∷ more) (built-contents lines top h funcs)

built-lines : (lines : List Line) (top : Top) → IsTop lines top → (funcs : List Definition)
    → map lines_of (map (lined_with top) funcs) ≡ map (λ (func : Definition). instruction_lines (known_of lines func) func) funcs
built-lines lines top h [] = refl
built-lines lines top h (func ∷ funcs) =
    ap (λ (known : Known). instruction_lines known func ∷ map lines_of (map (lined_with top) funcs)) (known-top lines top func h)
    ∙ ap (λ (more : List (List ℕ)). instruction_lines (known_of lines func) func ∷ more) (built-lines lines top h funcs)

pub built-module : (form : Form) (lines : List Line) (top : Top) → IsTop lines top → (whole : LinedModule) (layouts : List ObjectLayout) (funcs : List LinedFunction)
    → layouts ≡ map layout_of (layouts_of lines) → funcs ≡ map (lined_with top) (definitions_of lines)
    → whole.content ≡ record { layouts = layouts; funcs = map content_of funcs; form = form } → whole.lines ≡ map lines_of funcs
    → whole ≡ module_of form lines
built-module form lines top h whole layouts funcs l f content numbers =
    let contents : map content_of funcs ≡ (module_of form lines).content.funcs =
    ap (λ (fs : List LinedFunction). map content_of fs) f ∙ built-contents lines top h (definitions_of lines) in
    let same : whole.content ≡ (module_of form lines).content =
    content ∙ ap (λ (ls : List ObjectLayout). content_with form ls (map content_of funcs)) l
    ∙ ap (λ (fs : List Function). content_with form (map layout_of (layouts_of lines)) fs) contents in
    let lined : whole.lines ≡ (module_of form lines).lines =
    numbers ∙ ap (λ (fs : List LinedFunction). map lines_of fs) f ∙ built-lines lines top h (definitions_of lines) in
    ap (λ (one : ModuleContent). module_with one whole.lines) same ∙ ap (λ (ns : List (List ℕ)). module_with (module_of form lines).content ns) lined

-- ---- a function

pub all-placed : (lines : List Line) (top : Top) (funcs : List Definition) → IsTop lines top → funcs ≡ definitions_of lines
    → All (λ (func : Definition). IsPlacedFunction (known_of lines func) func) (definitions_of lines)
    → All (λ (func : Definition). IsPlacedFunction (known_with top func) func) funcs
all-placed lines top funcs h e placed =
    let P : Definition → Type 0 = λ func. IsPlacedFunction (known_of lines func) func in
    let Q : Definition → Type 0 = λ func. IsPlacedFunction (known_with top func) func in
    All-weaker P Q (λ func one. subst (λ (known : Known). IsPlacedFunction known func) (sym (known-top lines top func h)) one) funcs
    (All-same P funcs (definitions_of lines) e placed)

pub lines-many : (known : Known) (blocks : List BlockLines) (numbers : List ℕ) (built : List BasicBlock)
    → numbers ≡ flat_map (λ (block : BlockLines). numbers_of known block.lines) blocks → built ≡ map (block_of known) blocks
    → length numbers ≡ length (instructions_of built)
lines-many known blocks numbers built n b =
    ap length n ∙ one-line_each known blocks ∙ ap (λ (bs : List BasicBlock). length (instructions_of bs)) (sym b)
