-- The lines of a module's instructions rise in the order of its text: in a function and from one function to the next.
use Rattle.std.proofs.Common.{◌≡◌, ◌∙◌, ℕ, ◌≤◌, ◌<◌, zero, suc, refl, sym, ap, subst, Bool, true, false, not, cond, List, [], ◌∷◌, ◌++◌, length, map, Option, Some, None, arith}
use Rattle.std.specs.Prelude.{decimal, flat_map, take_while, slice_get, unwrap_or, is_some, if◌then◌else◌}
use Rattle.std.proofs.lemmas.List.Sums.{take_while-cons}
use Rattle.ir_reader.specs.declared.states.Place.{Place}
use Rattle.ir_reader.specs.declared.states.Place.TheVariants as places
use Rattle.line_parts.specs.Types.{TypeWord}
use Rattle.line_parts.specs.Lists.{Named}
use Rattle.ir_ast.specs.declared.modules.Form.{Form}
use Rattle.ir_ast.specs.Insts.{Instruction}
use Rattle.ir_ast.specs.Funcs.{Function, instructions_of}
use Rattle.ir_ast.specs.Modules.{line_at}
use Rattle.ir_lines.specs.Statements.{Statement, Line, define, label}
use Rattle.ir_lines.specs.Sections.{Definition, BlockLines, is_close, is_label, label_said, until_label, block_at, labelled_blocks, first_block, blocks_of, count_numbered, definition_said, definitions_of}
use Rattle.ir_lines.specs.Modules.{Known, known_of, with_line, instruction_said, instructions_of as lined_instructions, numbers_of, function_of, instruction_lines, module_of}
use Rattle.ir_lines.specs.TextLines.{place_behind, Stand}
use Rattle.module_build.proofs.Bodies.{Inside, inside_function, stays}
use Rattle.module_build.proofs.BuiltLemmas.{one-line_each}
use Rattle.module_build.proofs.Placing.{opens_function, define-opens, entry-is}
use Rattle.module_laws.proofs.Rising.{Within, within-later, within-spans, within-from, within-to, within-order, numbers}

-- ---- the lines of a body

abbrev numbers_in : Known → List BlockLines → List ℕ
numbers_in known blocks = flat_map (λ block. numbers_of known block.lines) blocks

-- those of the instructions up to the next label, and of the blocks behind them
abbrev numbers_left : Known → List Line → List ℕ
numbers_left known ls = numbers_of known (until_label ls) ++ numbers_in known (labelled_blocks ls)

abbrev before_label : Line → Bool
before_label l = not (is_label l.says)

line-numbered : (n : ℕ) (o : Option Instruction) (more : List (ℕ × Instruction)) (rest : List ℕ) (from to : ℕ) → from ≤ n
    → Within n (map (λ one. one.0) more ++ rest) to → Within from (map (λ one. one.0) (with_line n o ++ more) ++ rest) to
line-numbered n None more rest from to first within = within-later (map (λ one. one.0) more ++ rest) from n to first within
line-numbered n (Some inst) more rest from to first within = (first, within)

label-said : (what : Statement) → is_label what ≡ is_some (label_said what)
label-said (label name) = refl
label-said what = refl

left-step : (known : Known) (l : Line) (ls : List Line) (o : Option (List ℕ)) (b : Bool) (from to : ℕ) → b ≡ is_some o → from ≤ l.number
    → Within l.number (numbers_left known ls) to
    → Within from (numbers_of known (cond (not b) (l ∷ until_label ls) []) ++ numbers_in known (block_at l.number o ls ++ labelled_blocks ls)) to
left-step known l ls None false from to same first within =
    line-numbered l.number (instruction_said known (until_label ls) l.says) (lined_instructions known (until_label ls))
    (numbers_in known (labelled_blocks ls)) from to first within
left-step known l ls (Some name) true from to same first within = within-later (numbers_left known ls) from l.number to first within
left-step known l ls None true from to same first within = absurd (let bad : true ≡ false = same in cc)
left-step known l ls (Some name) false from to same first within = absurd (let bad : false ≡ true = same in cc)

left-rises : (known : Known) (ls : List Line) (from to : ℕ) → Within from (numbers ls) to → Within from (numbers_left known ls) to
left-rises known [] from to within = within
left-rises known (l ∷ ls) from to within =
    subst (λ (until : List Line). Within from (numbers_of known until ++ numbers_in known (labelled_blocks (l ∷ ls))) to)
    (sym (take_while-cons before_label l ls))
    (left-step known l ls (label_said l.says) (is_label l.says) from to (label-said l.says) within.0
    (left-rises known ls l.number to within.1))

first-left : (known : Known) (b : Bool) (block : BlockLines) (rest : List BlockLines) (until : List Line) → block.lines ≡ cond (not b) until []
    → numbers_in known ((if b then [] else block ∷ []) ++ rest) ≡ numbers_of known (cond (not b) until []) ++ numbers_in known rest
first-left known true block rest until e = refl
first-left known false block rest until e = ap (λ (ls : List Line). numbers_of known ls ++ numbers_in known rest) e

all-left : (known : Known) (func : Definition) (ls : List Line)
    → numbers_in known (first_block func ls ++ labelled_blocks ls) ≡ numbers_left known ls
all-left known func [] = refl
all-left known func (l ∷ ls) =
    let block : BlockLines = record { line = func.line; name = decimal (count_numbered func.arguments); lines = until_label (l ∷ ls) } in
    let until : until_label (l ∷ ls) ≡ cond (before_label l) (l ∷ until_label ls) [] = take_while-cons before_label l ls in
    first-left known (is_label l.says) block (labelled_blocks (l ∷ ls)) (l ∷ until_label ls) until
    ∙ ap (λ (us : List Line). numbers_of known us ++ numbers_in known (labelled_blocks (l ∷ ls))) (sym until)

-- the lines of a definition's instructions are among those of its body
body-rises : (known : Known) (func : Definition) (from to : ℕ) → Within from (numbers func.body) to → Within from (instruction_lines known func) to
body-rises known func from to within =
    subst (λ (ns : List ℕ). Within from ns to) (sym (all-left known func func.body)) (left-rises known func.body from to within)

-- ---- the definitions of a text

abbrev pub InOrder : ℕ → List (List ℕ) → ℕ → Type 0
InOrder from [] to = from ≤ to
InOrder from (xs ∷ xss) to = (middle : ℕ) × (Within from xs middle × InOrder middle xss to)

in_order-later : (xss : List (List ℕ)) (before from to : ℕ) → before ≤ from → InOrder from xss to → InOrder before xss to
in_order-later [] before from to first order = omega (arith, first, order)
in_order-later (xs ∷ xss) before from to first order = (order.0, (within-later xs before from order.0 first order.1.0, order.1.1))

abbrev LinesOfBody : (Definition → List ℕ) → Type 0
LinesOfBody lines = (func : Definition) (from to : ℕ) → Within from (numbers func.body) to → Within from (lines func) to

-- up to the end of the body in which these lines stand, and behind it
abbrev Behind : (Definition → List ℕ) → List Line → ℕ → ℕ → Type 0
Behind lines ls from to = (middle : ℕ) × (Within from (numbers (take_while inside_function ls)) middle × InOrder middle (map lines (definitions_of ls)) to)

record BothRise (lines : Definition → List ℕ) (ls : List Line) (place : Place) (from to : ℕ) : Type 0 where
  outside : InOrder from (map lines (definitions_of ls)) to
  inside : Inside place → Behind lines ls from to

inside-entry : (next : Place) → next ≡ places.Entry → Inside next
inside-entry next e = rw e tt

definition-rises : (lines : Definition → List ℕ) → LinesOfBody lines → (number : ℕ) (what : Statement) (place next : Place) (ls : List Line) (from to : ℕ)
    → place_behind place what ≡ Some next → from ≤ number → BothRise lines ls next number to
    → InOrder from (map lines (definition_said number what ls ++ definitions_of ls)) to
definition-rises lines own number (define answer name arguments strategy) place next ls from to is first both =
    let entry = entry-is next (sym (ap opens_function is) ∙ define-opens place answer name arguments strategy) in
    let behind = both.inside (inside-entry next entry) in
    let func : Definition = record {
      line = number;
      answer = answer;
      name = name;
      arguments = arguments;
      strategy = strategy;
      body = take_while inside_function ls;
    } in (behind.0, (within-later (lines func) from number behind.0 first (own func number behind.0 behind.1.0), behind.1.1))
definition-rises lines own number what place next ls from to is first both =
    in_order-later (map lines (definitions_of ls)) from number to first both.outside

no-define : (place : Place) → Inside place → (answer : TypeWord) (name : List ℕ) (arguments : List Named) (strategy : Option (List ℕ))
    → place_behind place (define answer name arguments strategy) ≡ None
no-define places.Top in' answer name arguments strategy = absurd in'
no-define places.Entry in' answer name arguments strategy = refl
no-define places.Block in' answer name arguments strategy = refl
no-define places.Closed in' answer name arguments strategy = refl
no-define places.Cases in' answer name arguments strategy = refl

nothing-defined : (what : Statement) (place next : Place) (number : ℕ) (ls : List Line) → Inside place → place_behind place what ≡ Some next
    → definition_said number what ls ≡ []
nothing-defined (define answer name arguments strategy) place next number ls in' is =
    absurd (let bad : None ≡ Some next = sym (no-define place in' answer name arguments strategy) ∙ is in cc)
nothing-defined what place next number ls in' is = refl

body-step : (lines : Definition → List ℕ) (l : Line) (ls : List Line) (place next : Place) (b : Bool) (from to : ℕ) → is_close l.says ≡ b → Inside place
    → place_behind place l.says ≡ Some next → from ≤ l.number → BothRise lines ls next l.number to
    → (middle : ℕ) × (Within from (numbers (cond (not b) (l ∷ take_while inside_function ls) [])) middle × InOrder middle (map lines (definitions_of ls)) to)
body-step lines l ls place next true from to e in' is first both =
    (from, (omega arith, in_order-later (map lines (definitions_of ls)) from l.number to first both.outside))
body-step lines l ls place next false from to e in' is first both =
    let behind = both.inside (stays place l.says next in' e is) in (behind.0, ((first, behind.1.0), behind.1.1))

body-behind : (lines : Definition → List ℕ) (l : Line) (ls : List Line) (place next : Place) (from to : ℕ) → Inside place
    → place_behind place l.says ≡ Some next → from ≤ l.number → BothRise lines ls next l.number to → Behind lines (l ∷ ls) from to
body-behind lines l ls place next from to in' is first both =
    let step = body-step lines l ls place next (is_close l.says) from to refl in' is first both in
    let none = nothing-defined l.says place next l.number ls in' is in (
      step.0,
      (
        subst (λ (xs : List Line). Within from (numbers xs) step.0) (sym (take_while-cons inside_function l ls)) step.1.0,
        subst (λ (ds : List Definition). InOrder step.0 (map lines (ds ++ definitions_of ls)) to) (sym none) step.1.1,
      ),
    )

both-rise : (lines : Definition → List ℕ) → LinesOfBody lines → (ls : List Line) (place : Place) (from to : ℕ) → Stand place ls
    → Within from (numbers ls) to → BothRise lines ls place from to
both-rise lines own [] place from to stand within = record { outside = within; inside = λ in'. (from, (omega arith, within)) }
both-rise lines own (l ∷ ls) place from to stand within =
    let both = both-rise lines own ls stand.next l.number to stand.more within.1 in
    record {
      outside = definition-rises lines own l.number l.says place stand.next ls from to stand.is within.0 both;
      inside = λ in'. body-behind lines l ls place stand.next from to in' stand.is within.0 both;
    }

-- the lines of the module of lines that stand in their places
pub module-rises : (form : Form) (lines : List Line) (from to : ℕ) → Stand places.Top lines → Within from (numbers lines) to → InOrder from (module_of form lines).lines to
module-rises form lines from to stand within =
    (both-rise (λ func. instruction_lines (known_of lines func) func) (λ func first last h. body-rises (known_of lines func) func first last h)
    lines places.Top from to stand within).outside

-- ---- of two instructions

abbrev pub lines_at : List (List ℕ) → ℕ → List ℕ
lines_at xss func = unwrap_or (slice_get xss func) []

later-from : (xss : List (List ℕ)) (from to func place : ℕ) → InOrder from xss to → place < length (lines_at xss func) → from ≤ line_at xss func place
later-from [] from to func place order below = absurd (omega (arith, below))
later-from (xs ∷ xss) from to zero place order below = within-from xs from order.0 place order.1.0 below
later-from (xs ∷ xss) from to (suc func) place order below =
    let here = within-spans xs from order.0 order.1.0 in
    let there = later-from xss order.0 to func place order.1.1 below in omega (arith, here, there)

pub later-function : (xss : List (List ℕ)) (from to func other place there : ℕ) → InOrder from xss to → func < other
    → place < length (lines_at xss func) → there < length (lines_at xss other) → line_at xss func place ≤ line_at xss other there
later-function [] from to func other place there order before below within = absurd (omega (arith, below))
later-function (xs ∷ xss) from to func zero place there order before below within = absurd (omega (arith, before))
later-function (xs ∷ xss) from to zero (suc other) place there order before below within =
    let here = within-to xs from order.0 place order.1.0 below in
    let rest = later-from xss order.0 to other there order.1.1 within in omega (arith, here, rest)
later-function (xs ∷ xss) from to (suc func) (suc other) place there order before below within =
    later-function xss order.0 to func other place there order.1.1 (omega (arith, before)) below within

pub later-place : (xss : List (List ℕ)) (from to func place there : ℕ) → InOrder from xss to → place ≤ there
    → there < length (lines_at xss func) → line_at xss func place ≤ line_at xss func there
later-place [] from to func place there order before within = absurd (omega (arith, within))
later-place (xs ∷ xss) from to zero place there order before within = within-order xs from order.0 place there order.1.0 before within
later-place (xs ∷ xss) from to (suc func) place there order before within =
    later-place xss order.0 to func place there order.1.1 before within

-- ---- each instruction of the module has a line

lined : (G : Definition → Function) (F : Definition → List ℕ) → ((d : Definition) → length (F d) ≡ length (instructions_of (G d).blocks))
    → (ds : List Definition) (number : ℕ) (func : Function) → slice_get (map G ds) number ≡ Some func
    → length (lines_at (map F ds) number) ≡ length (instructions_of func.blocks)
lined G F each [] number func stands = absurd (cc)
lined G F each (d ∷ ds) zero func stands =
    let same : G d ≡ func = cc in each d ∙ ap (λ (f : Function). length (instructions_of f.blocks)) same
lined G F each (d ∷ ds) (suc number) func stands = lined G F each ds number func stands

pub each-lined : (form : Form) (lines : List Line) (number : ℕ) (func : Function) → slice_get (module_of form lines).content.funcs number ≡ Some func
    → length (lines_at (module_of form lines).lines number) ≡ length (instructions_of func.blocks)
each-lined form lines number func stands =
    lined (λ func. function_of (known_of lines func) func) (λ func. instruction_lines (known_of lines func) func)
    (λ func. one-line_each (known_of lines func) (blocks_of func)) (definitions_of lines) number func stands
