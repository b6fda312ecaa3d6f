-- The lines of a text that was read are in their places.
use Rattle.std.proofs.Common.{◌≡◌, ◌∙◌, ℕ, ◌<◌, ◌≤◌, ◌^◌, refl, sym, ap, subst, Bool, true, false, cond, ◌&&◌, List, [], ◌∷◌, length, arith}
use Rattle.std.specs.Prelude.{Option, Some, None, take_while, nat_le, not}
use Rattle.std.specs.List.{All, list_all}
use Rattle.std.proofs.lemmas.List.{length-map}
use Rattle.std.proofs.lemmas.List.Elements.{All-nil, All-cons, All-append, All-head, All-tail, All-weaker}
use Rattle.std.proofs.lemmas.List.Sums.{take_while-cons}
use Rattle.std.proofs.lemmas.Bool.{leb-true, and_parts}
use Rattle.ir_ast.specs.declared.modules.Form.{Form}
use Rattle.ir_reader.specs.declared.states.Place.{Place}
use Rattle.ir_reader.specs.declared.states.Place.TheVariants as places
use Rattle.line_parts.specs.Types.{TypeWord}
use Rattle.line_parts.specs.Lists.{Named}
use Rattle.ir_reader.specs.Limits.{name_fits}
use Rattle.ir_lines.specs.Statements.{Statement, Line, define}
use Rattle.ir_lines.specs.Sections.{is_close, Definition, definition_said, definitions_of, arguments_named, blocks_of}
use Rattle.ir_lines.specs.Modules.{Known, known_of, block_of, argument_of}
use Rattle.ir_lines.specs.TextLines.{place_behind, Stand, statement_fits, IsTextLines}
use Rattle.module_build.specs.Placed.{IsPlacedFunction, IsPlaced}
use Rattle.module_build.proofs.Bodies.{Body, Inside, body-of, blocks-end, inside_function, stays}
use Rattle.module_build.proofs.Sizes.{few-layouts, few-definitions, few-blocks, few-instructions}
use Rattle.ir_lines.proofs.TableLemmas.{length-arguments}

-- ---- a definition

-- what holds of each definition, whatever its lines name
pub record IsPlacedBody (func : Definition) : Type 0 where
  pub body : Body places.Entry func.body
  pub short : length func.body < 2 ^ 24
  pub few_arguments : length func.arguments ≤ 64

abbrev pub opens_function : Option Place → Bool
opens_function (Some places.Entry) = true
opens_function None = true
opens_function _ = false

pub define-opens : (place : Place) (answer : TypeWord) (name : List ℕ) (arguments : List Named) (strategy : Option (List ℕ))
    → opens_function (place_behind place (define answer name arguments strategy)) ≡ true
define-opens places.Top answer name arguments strategy = refl
define-opens place answer name arguments strategy = refl

pub entry-is : (next : Place) → opens_function (Some next) ≡ true → next ≡ places.Entry
entry-is places.Entry e = refl
entry-is next e = absurd (let bad : false ≡ true = e in cc)

-- a brace ends the body, so that the body is shorter than what stands behind the head
closed_within : (ls : List Line) (place : Place) → Inside place → Stand place ls → length (take_while inside_function ls) < length ls
closed_within [] place in' stand = absurd (subst Inside stand in')
closed_within (l ∷ ls) place in' stand = by (is_close l.says) refl (λ e. closed_within ls stand.next (stays place l.says stand.next in' e stand.is) stand.more)
  where
    cut : (b : Bool) → is_close l.says ≡ b → length (take_while inside_function (l ∷ ls)) ≡ length (cond (not b) (l ∷ take_while inside_function ls) [])
    cut b e = ap length (take_while-cons inside_function l ls ∙ ap (λ (x : Bool). cond (not x) (l ∷ take_while inside_function ls) []) e)

    by : (b : Bool) → is_close l.says ≡ b → (is_close l.says ≡ false → length (take_while inside_function ls) < length ls)
        → length (take_while inside_function (l ∷ ls)) < length (l ∷ ls)
    by true e ih = let c = cut true e in omega (arith, c)
    by false e ih =
        let c = cut false e in
        let more = ih e in
        omega (arith, c, more)

define-placed : (line : ℕ) (answer : TypeWord) (name : List ℕ) (arguments : List Named) (strategy : Option (List ℕ)) (place next : Place) (ls : List Line)
    → place_behind place (define answer name arguments strategy) ≡ Some next → Stand next ls
    → statement_fits (define answer name arguments strategy) ≡ true → length ls ≤ 16777216
    → All IsPlacedBody (definition_said line (define answer name arguments strategy) ls)
define-placed line answer name arguments strategy place next ls is stand fits few =
    let entry = entry-is next (sym (ap opens_function is) ∙ define-opens place answer name arguments strategy) in
    let body = body-of ls places.Entry tt (subst (λ (p : Place). Stand p ls) entry stand) in
    let h = and_parts (name_fits name) (nat_le (length arguments) 64) fits in
    let shorter = closed_within ls places.Entry tt (subst (λ (p : Place). Stand p ls) entry stand) in
    All-cons IsPlacedBody (record {
      line = line;
      answer = answer;
      name = name;
      arguments = arguments;
      strategy = strategy;
      body = take_while inside_function ls;
    }) [] (record { body = body; short = omega (arith, shorter, few); few_arguments = leb-true (length arguments) 64 h.1 })
    (All-nil IsPlacedBody)

line-placed : (line : ℕ) (what : Statement) (place next : Place) (ls : List Line)
    → place_behind place what ≡ Some next → Stand next ls → statement_fits what ≡ true → length ls ≤ 16777216
    → All IsPlacedBody (definition_said line what ls)
line-placed line (define answer name arguments strategy) place next ls is stand fits few =
    define-placed line answer name arguments strategy place next ls is stand fits few
line-placed line what place next ls is stand fits few = All-nil IsPlacedBody

abbrev pub Fits : Line → Type 0
Fits l = statement_fits l.says ≡ true

pub definitions-placed : (ls : List Line) (place : Place) → Stand place ls → All Fits ls → length ls ≤ 16777217 → All IsPlacedBody (definitions_of ls)
definitions-placed [] place stand fits few = All-nil IsPlacedBody
definitions-placed (l ∷ ls) place stand fits few =
    let fewer : length ls ≤ 16777216 = omega (arith, few) in
    All-append IsPlacedBody (definition_said l.number l.says ls) (definitions_of ls)
    (line-placed l.number l.says place stand.next ls stand.is stand.more (All-head Fits l ls fits) fewer)
    (definitions-placed ls stand.next stand.more (All-tail Fits l ls fits) (omega (arith, fewer)))

body-placed : (known : Known) (func : Definition) → IsPlacedBody func → IsPlacedFunction known func
body-placed known func h =
    let arguments = length-arguments func.line [] func.arguments in
    let named = length-map (arguments_named func.line [] func.arguments) argument_of in
    let blocks = few-blocks func in
    let built = length-map (blocks_of func) (block_of known) in
    let insts = few-instructions known func in
    record {
      blocks = blocks-end known func h.body;
      small = record {
        few_arguments = omega (arith, arguments, named, h.few_arguments);
        few_blocks = omega (arith, blocks, built, h.short);
        few_instructions = omega (arith, insts, h.short);
      };
    }

pub lines-placed : (lines : List Line) → Stand places.Top lines → All Fits lines → length lines ≤ 16777217 → IsPlaced lines
lines-placed lines stand fits few =
    let layouts = few-layouts lines in
    let functions = few-definitions lines in
    record {
      functions = All-weaker IsPlacedBody (λ func. IsPlacedFunction (known_of lines func) func)
          (λ func h. body-placed (known_of lines func) func h) (definitions_of lines) (definitions-placed lines places.Top stand fits few);
      few_layouts = omega (arith, layouts, few);
      few_functions = omega (arith, functions, few);
    }

pub read-placed : (form : Form) (lines : List Line) → IsTextLines form lines → IsPlaced lines
read-placed form lines read = lines-placed lines read.placed read.fit read.few
