-- The lines of the cases of a text, a function of its parts, and what holds of the whole.
use Rattle.std.proofs.Common.{◌≡◌, ◌∙◌, ℕ, ◌+◌, ◌<◌, ◌≤◌, List, [], ◌∷◌, ◌++◌, length, get_or, drop, refl, ap, sym, subst, append_assoc}
use Rattle.std.specs.Prelude.{Option, Result, Ok, Err, IfOk, map, flat_map}
use Rattle.std.proofs.lemmas.List.{map-append, append-nil, drop_all}
use Rattle.ir_ast.specs.declared.types.Ty.{Ty}
use Rattle.ir_ast.specs.declared.funcs.Arg.{Arg}
use Rattle.ir_ast.specs.Insts.{Instruction}
use Rattle.ir_ast.specs.Blocks.{BasicBlock}
use Rattle.ir_ast.specs.Funcs.{Function, LinedFunction, IsSmall}
use Rattle.line_parts.specs.Types.{TypeWord}
use Rattle.ir_lines.specs.declared.scope.Top.{Top}
use Rattle.ir_lines.specs.Statements.{Statement, Line, layout, declare, define, close, label, switch_case, switch_end}
use Rattle.ir_lines.specs.Sections.{Definition, BlockLines, arguments_named, definitions_of, blocks_of}
use Rattle.ir_lines.specs.Modules.{Known, known_of, type_of, instruction_said, with_line, instructions_of, numbers_of, block_of, argument_of, function_of}
use Rattle.ir_reader.specs.declared.raw.NumberedReading.{NumberedReading}
use Rattle.list_laws.proofs.Places.{drop_item}
use Rattle.ir_lines.specs.Views.{said, seen_lines}
use Rattle.ir_resolve.specs.Resolved.{Spot, case_lines, spot_said, spots_of, function_cases}
use Rattle.module_build.specs.Built.{lined_function}
use Rattle.module_build.proofs.BuiltLemmas.{lined_with}
use Rattle.text_resolve.specs.Rows.{row_said, rows_of}

-- ---- the lines of cases

abbrev rows_in : List Spot → List (List ℕ)
rows_in spots = map (λ (spot : Spot). spot.cases) spots

-- a line has a row exactly where it stands for an instruction
spot-row : (known : Known) (number : ℕ) (ls : List Line) (what : Statement)
    → rows_in (spot_said number (case_lines ls what) (instruction_said known ls what)) ≡ row_said ls what
spot-row known number ls (layout name fields) = refl
spot-row known number ls (declare answer name parameters) = refl
spot-row known number ls (define answer name arguments strategy) = refl
spot-row known number ls close = refl
spot-row known number ls (label name) = refl
spot-row known number ls (switch_case width value to) = refl
spot-row known number ls switch_end = refl
spot-row known number ls _ = refl

rows-spots : (known : Known) (ls : List Line) → rows_in (spots_of known ls) ≡ rows_of ls
rows-spots known [] = refl
rows-spots known (l ∷ ls) =
    map-append (λ (spot : Spot). spot.cases) (spot_said l.number (case_lines ls l.says) (instruction_said known ls l.says)) (spots_of known ls)
    ∙ ap (λ (rows : List (List ℕ)). rows ++ rows_in (spots_of known ls)) (spot-row known l.number ls l.says)
    ∙ ap (λ (rows : List (List ℕ)). row_said ls l.says ++ rows) (rows-spots known ls)

rows-all : (lines : List Line) (funcs : List Definition) → map (λ (func : Definition). rows_of func.body) funcs ≡ map (function_cases lines) funcs
rows-all lines [] = refl
rows-all lines (func ∷ funcs) =
    ap (λ (rows : List (List ℕ)). rows ∷ map (λ (one : Definition). rows_of one.body) funcs) (sym (rows-spots (known_of lines func) func.body))
    ∙ ap (λ (rest : List (List (List ℕ))). function_cases lines func ∷ rest) (rows-all lines funcs)

-- ---- instructions

-- what one more line adds
pub lined-more : {B : Type 0} (f : ℕ × Instruction → B) (known : Known) (xs : List NumberedReading) (i : ℕ) (x : NumberedReading) (made : Option Instruction)
    (old new whole : List B) → i < length xs → x ≡ get_or xs i x → made ≡ instruction_said known (seen_lines (drop (i + 1) xs)) (said x.reading)
    → new ≡ old ++ map f (with_line x.line made) → old ++ map f (instructions_of known (seen_lines (drop i xs))) ≡ whole
    → new ++ map f (instructions_of known (seen_lines (drop (i + 1) xs))) ≡ whole
lined-more {B} f known xs i x made old new whole below is m added so_far =
    let behind = instructions_of known (seen_lines (drop (i + 1) xs)) in
    let own = with_line x.line (instruction_said known (seen_lines (drop (i + 1) xs)) (said x.reading)) in
    ap (λ (ys : List B). ys ++ map f behind) (added ∙ ap (λ (o : Option Instruction). old ++ map f (with_line x.line o)) m)
    ∙ append_assoc old (map f own) (map f behind)
    ∙ ap (λ (ys : List B). old ++ ys) (sym (map-append f own behind))
    ∙ ap (λ (ys : List NumberedReading). old ++ map f (instructions_of known (seen_lines ys))) (sym (drop_item xs i x below is))
    ∙ so_far

-- ---- a function

abbrev pub content_as : List ℕ → Ty → List Arg → List BasicBlock → Function
content_as name answer args blocks = record { name = name; answer = answer; args = args; blocks = blocks }

abbrev pub content_with : List ℕ → TypeWord → List Arg → List BasicBlock → Function
content_with name answer args blocks = content_as name (type_of answer) args blocks

pub content-built : (content : Function) (named name : List ℕ) (ty : Ty) (answer : TypeWord) (args : List Arg) (blocks : List BasicBlock)
    → content ≡ content_as named ty args blocks → named ≡ name → ty ≡ type_of answer → content ≡ content_with name answer args blocks
content-built content named name ty answer args blocks e n t =
    e ∙ ap (λ (x : List ℕ). content_as x ty args blocks) n ∙ ap (λ (x : Ty). content_as name x args blocks) t

pub function-built : (known : Known) (func : Definition) (whole : LinedFunction) (args : List Arg) (built : List BasicBlock) (numbers : List ℕ) (blocks : List BlockLines)
    → blocks ≡ blocks_of func → args ≡ map argument_of (arguments_named func.line [] func.arguments) → built ≡ map (block_of known) blocks
    → numbers ≡ flat_map (λ (one : BlockLines). numbers_of known one.lines) blocks → whole.content ≡ content_with func.name func.answer args built
    → whole.lines ≡ numbers → whole ≡ lined_function known func
function-built known func whole args built numbers blocks e a b n content lines =
    let contents : whole.content ≡ (lined_function known func).content =
    content ∙ ap (λ (xs : List Arg). content_with func.name func.answer xs built) a
    ∙ ap (λ (xs : List BasicBlock). content_with func.name func.answer (function_of known func).args xs) (b ∙ ap (λ (xs : List BlockLines). map (block_of known) xs) e) in
    let numbered : whole.lines ≡ (lined_function known func).lines =
    lines ∙ n ∙ ap (λ (xs : List BlockLines). flat_map (λ (one : BlockLines). numbers_of known one.lines) xs) e in
    ap (λ (one : Function). lined_with_lines one whole.lines) contents ∙ ap (λ (ns : List ℕ). lined_with_lines (lined_function known func).content ns) numbered
  where
    lined_with_lines : Function → List ℕ → LinedFunction
    lined_with_lines content lines = record { content = content; lines = lines }

pub small-built : (args made : List Arg) (blocks built : List BasicBlock) → args ≡ made → blocks ≡ built → IsSmall made built → IsSmall args blocks
small-built args made blocks built a b small =
    subst (λ (xs : List Arg). IsSmall xs blocks) (sym a) (subst (λ (xs : List BasicBlock). IsSmall made xs) (sym b) small)

-- ---- the whole text

pub funcs-resolved : (lines : List Line) (top : Top) (funcs : List Definition) (start new : List LinedFunction) → start ≡ [] → funcs ≡ definitions_of lines
    → new ≡ start ++ map (lined_with top) funcs → new ≡ map (lined_with top) (definitions_of lines)
funcs-resolved lines top funcs start new empty e n =
    n ∙ ap (λ (xs : List LinedFunction). xs ++ map (lined_with top) funcs) empty ∙ ap (λ (fs : List Definition). map (lined_with top) fs) e

pub rows-resolved : (lines : List Line) (funcs : List Definition) (start new : List (List (List ℕ))) → start ≡ [] → funcs ≡ definitions_of lines
    → new ≡ start ++ map (λ (func : Definition). rows_of func.body) funcs → new ≡ map (function_cases lines) (definitions_of lines)
rows-resolved lines funcs start new empty e n =
    n ∙ ap (λ (xs : List (List (List ℕ))). xs ++ map (λ (func : Definition). rows_of func.body) funcs) empty
    ∙ ap (λ (fs : List Definition). map (λ (func : Definition). rows_of func.body) fs) e ∙ rows-all lines (definitions_of lines)

-- ---- lists
