-- The sections of lines that a module is printed as: its layouts and its definitions.
use Rattle.std.proofs.Common.{◌≡◌, ◌∙◌, ℕ, Bool, true, false, not, cond, if◌then◌else◌, List, [], ◌∷◌, ◌++◌, map, refl, ap, sym, subst, append_assoc, codes}
use Rattle.std.specs.Prelude.{Some, flat_map, take_while}
use Rattle.std.specs.List.{AllByRecursion, AllZip}
use Rattle.std.proofs.lemmas.List.{append-nil, map-append}
use Rattle.std.proofs.lemmas.List.Sums.{take_while-cons}
use Rattle.ir_ast.specs.declared.cells.Cell.{Cell}
use Rattle.ir_ast.specs.Blocks.{BasicBlock}
use Rattle.ir_ast.specs.Layouts.{ObjectLayout}
use Rattle.ir_ast.specs.Funcs.{Function}
use Rattle.ir_ast.specs.Modules.{ModuleContent}
use Rattle.ir_printer.specs.Names.{Names}
use Rattle.ir_printer.specs.Declarations.{calls, externals}
use Rattle.print_tables.specs.declared.externals.External.{External}
use Rattle.print_tables.specs.declared.externals.External.TheVariants as externs
use Rattle.line_parts.specs.Types.{TypeWord}
use Rattle.line_parts.specs.Lists.{Named}
use Rattle.ir_lines.specs.Statements.{Line, Statement, layout, declare, define, close}
use Rattle.ir_lines.specs.Sections.{LayoutLine, Definition, layout_said, layouts_of, is_close, definition_said, definitions_of}
use Rattle.ir_lines.specs.Modules.{cell_of, layout_of}
use Rattle.read_back.specs.Said.{word_of, argument_says, instruction_says, block_says, function_says, layout_says, declaration_says, declaration_if_called, said_by}
use Rattle.read_back.proofs.Cells.{cells-back}
use Rattle.read_back.proofs.BackLines.{said, cons_parts}
use Rattle.read_back.proofs.BackBlocks.{cut, nothing_said, weaker, all_append, all_flat, InBlock, insts_inner, lines_all}
use Rattle.std.proofs.lemmas.Grind.{flat_map-append}

-- ---- bodies

abbrev pub in_body : Statement → Bool
in_body (layout name fields) = false
in_body (declare answer name parameters) = false
in_body (define answer name arguments strategy) = false
in_body close = false
in_body _ = true

abbrev pub InBody : Statement → Type 0
InBody s = in_body s ≡ true

block_body : (s : Statement) → InBlock s → InBody s
block_body (layout name fields) e = e
block_body (declare answer name parameters) e = e
block_body (define answer name arguments strategy) e = e
block_body close e = e
block_body _ e = refl

pub blocks_inner : (names : Names) (blocks : List BasicBlock) → AllByRecursion InBody (flat_map (block_says names) blocks)
blocks_inner names blocks =
    all_flat (block_says names) InBody (λ b. (refl, weaker InBlock InBody block_body (flat_map (instruction_says names) b.insts) (insts_inner names b.insts))) blocks

not_close : (s : Statement) → InBody s → is_close s ≡ false
not_close close e = absurd (let bad : false ≡ true = e in cc)
not_close _ e = refl

-- a line that begins no definition
abbrev pub no_define : Statement → Bool
no_define (define answer name arguments strategy) = false
no_define _ = true

abbrev pub NoDefine : Statement → Type 0
NoDefine s = no_define s ≡ true

body_no_define : (s : Statement) → InBody s → NoDefine s
body_no_define (define answer name arguments strategy) e = e
body_no_define _ e = refl

no_definition : (n : ℕ) (s : Statement) (rest : List Line) → NoDefine s → definition_said n s rest ≡ []
no_definition n (define answer name arguments strategy) rest e = absurd (let bad : false ≡ true = e in cc)
no_definition n _ rest e = refl

pub definitions_skip : (xs ys : List Line) → AllByRecursion (λ l. NoDefine l.says) xs → definitions_of (xs ++ ys) ≡ definitions_of ys
definitions_skip [] ys h = refl
definitions_skip (x ∷ xs) ys h =
    ap (λ (ds : List Definition). ds ++ definitions_of (xs ++ ys)) (no_definition x.number x.says (xs ++ ys) h.0) ∙ definitions_skip xs ys h.1

abbrev body_taken : List Line → List Line
body_taken ls = take_while (λ l. not (is_close l.says)) ls

taken_skip : (xs ys : List Line) → AllByRecursion (λ l. InBody l.says) xs → body_taken (xs ++ ys) ≡ xs ++ body_taken ys
taken_skip [] ys h = refl
taken_skip (x ∷ xs) ys h =
    take_while-cons (λ (l : Line). not (is_close l.says)) x (xs ++ ys)
    ∙ ap (λ (b : Bool). cond (not b) (x ∷ body_taken (xs ++ ys)) []) (not_close x.says h.0)
    ∙ ap (λ (ls : List Line). x ∷ ls) (taken_skip xs ys h.1)

taken_close : (l : Line) (ls : List Line) → l.says ≡ close → body_taken (l ∷ ls) ≡ []
taken_close l ls e =
    take_while-cons (λ (k : Line). not (is_close k.says)) l ls ∙ ap (λ (s : Statement). cond (not (is_close s)) (l ∷ body_taken ls) []) e

-- ---- definitions

pub record SaysDefinition (layouts : List ObjectLayout) (funcs : List Function) (one : Definition) (func : Function) : Type 0 where
  pub answer : one.answer ≡ word_of func.answer
  pub name : one.name ≡ func.name
  pub arguments : one.arguments ≡ map argument_says func.args
  pub strategy : one.strategy ≡ Some (codes "statepoint-example")
  pub body : said one.body ≡ flat_map (block_says (record { layouts = layouts; funcs = funcs; func = func })) func.blocks

abbrev head_says : Function → Statement
head_says func = define (word_of func.answer) func.name (map argument_says func.args) (Some (codes "statepoint-example"))

pub definitions-said : (layouts : List ObjectLayout) (funcs fs : List Function) (ls : List Line) → said ls ≡ flat_map (function_says layouts funcs) fs
    → AllZip (SaysDefinition layouts funcs) (definitions_of ls) fs
definitions-said layouts funcs [] ls e =
    subst (λ (ms : List Line). AllZip (SaysDefinition layouts funcs) (definitions_of ms) []) (sym (nothing_said ls e)) tt
definitions-said layouts funcs (f ∷ fs) [] e =
    absurd (let bad : [] ≡ head_says f ∷ ((flat_map (block_says (record { layouts = layouts; funcs = funcs; func = f })) f.blocks ++ close ∷ []) ++ flat_map (function_says layouts funcs) fs) = e in cc)
definitions-said layouts funcs (f ∷ fs) (l ∷ ls) e =
    let body = flat_map (block_says (record { layouts = layouts; funcs = funcs; func = f })) f.blocks in
    let more = flat_map (function_says layouts funcs) fs in
    let parts = cons_parts l.says (said ls) (head_says f) ((body ++ close ∷ []) ++ more) e in
    let c = cut ls body (close ∷ more) (parts.1 ∙ append_assoc body (close ∷ []) more) in
    behind c.front c.back c.whole c.front_says c.back_says parts.0 (definitions-said layouts funcs fs)
  where
    behind : (front back : List Line) → ls ≡ front ++ back → said front ≡ flat_map (block_says (record { layouts = layouts; funcs = funcs; func = f })) f.blocks
        → said back ≡ close ∷ flat_map (function_says layouts funcs) fs → l.says ≡ head_says f
        → ((ms : List Line) → said ms ≡ flat_map (function_says layouts funcs) fs → AllZip (SaysDefinition layouts funcs) (definitions_of ms) fs)
        → AllZip (SaysDefinition layouts funcs) (definitions_of (l ∷ ls)) (f ∷ fs)
    behind front [] whole front_says back_says head others =
        absurd (let bad : [] ≡ close ∷ flat_map (function_says layouts funcs) fs = back_says in cc)
    behind front (k ∷ ks) whole front_says back_says head others =
        let end = cons_parts k.says (said ks) close (flat_map (function_says layouts funcs) fs) back_says in
        let inside = lines_all InBody front (flat_map (block_says (record { layouts = layouts; funcs = funcs; func = f })) f.blocks) front_says
        (blocks_inner (record { layouts = layouts; funcs = funcs; func = f }) f.blocks) in
        let taken : body_taken ls ≡ front =
        ap body_taken whole ∙ taken_skip front (k ∷ ks) inside ∙ ap (λ (ms : List Line). front ++ ms) (taken_close k ks end.0) ∙ append-nil front in
        let rest : definitions_of ls ≡ definitions_of ks =
        ap definitions_of whole ∙ definitions_skip front (k ∷ ks) (weaker (λ (l : Line). InBody l.says) (λ (l : Line). NoDefine l.says) (λ l. body_no_define l.says) front inside)
        ∙ ap (λ (s : Statement). definition_said k.number s ks ++ definitions_of ks) end.0 in
        let is : definitions_of (l ∷ ls) ≡ record {
          line = l.number;
          answer = word_of f.answer;
          name = f.name;
          arguments = map argument_says f.args;
          strategy = Some (codes "statepoint-example");
          body = front;
        } ∷ definitions_of ks =
        ap (λ (s : Statement). definition_said l.number s ls ++ definitions_of ls) head
        ∙ ap (λ (b : List Line). record {
          line = l.number;
          answer = word_of f.answer;
          name = f.name;
          arguments = map argument_says f.args;
          strategy = Some (codes "statepoint-example");
          body = b;
        } ∷ definitions_of ls) taken
        ∙ ap (λ (ds : List Definition). record {
          line = l.number;
          answer = word_of f.answer;
          name = f.name;
          arguments = map argument_says f.args;
          strategy = Some (codes "statepoint-example");
          body = front;
        } ∷ ds) rest in
        subst (λ (ds : List Definition). AllZip (SaysDefinition layouts funcs) ds (f ∷ fs)) (sym is)
        (record { answer = refl; name = refl; arguments = refl; strategy = refl; body = front_says }, others ks end.1)

-- ---- above the functions

layouts_no_define : (layouts : List ObjectLayout) → AllByRecursion NoDefine (map layout_says layouts)
layouts_no_define [] = tt
layouts_no_define (l ∷ ls) = (refl, layouts_no_define ls)

-- what holds of all declarations holds of that of an external
pub each_declared : (P : Statement → Type 0) → ((answer : TypeWord) (name : List ℕ) (parameters : List Named) → P (declare answer name parameters))
    → (layouts : List ObjectLayout) (external : External) → AllByRecursion P (declaration_says layouts external)
each_declared P each layouts (externs.New number) = (each _ _ _, tt)
each_declared P each layouts externs.Print = (each _ _ _, tt)
each_declared P each layouts externs.Read = (each _ _ _, tt)
each_declared P each layouts externs.TaskStart = (each _ _ _, tt)
each_declared P each layouts externs.Poll = (each _ _ _, tt)
each_declared P each layouts externs.Check = (each _ _ _, tt)
each_declared P each layouts externs.Same = (each _ _ _, tt)
each_declared P each layouts _ = tt

if_declared : (P : Statement → Type 0) → ((answer : TypeWord) (name : List ℕ) (parameters : List Named) → P (declare answer name parameters))
    → (layouts : List ObjectLayout) (funcs : List Function) (external : External) → AllByRecursion P (declaration_if_called layouts funcs external)
if_declared P each layouts funcs external = by (calls funcs external)
  where
    by : (b : Bool) → AllByRecursion P (if b then declaration_says layouts external else [])
    by true = each_declared P each layouts external
    by false = tt

-- the definitions of lines that say what the module is printed as
pub definitions-are : (content : ModuleContent) (lines : List Line) → said lines ≡ said_by content
    → AllZip (SaysDefinition content.layouts content.funcs) (definitions_of lines) content.funcs
unfolding said_by
definitions-are content lines e =
    let declared = flat_map (declaration_if_called content.layouts content.funcs) (externals content.layouts) in
    let defined = flat_map (function_says content.layouts content.funcs) content.funcs in
    let c = cut lines (map layout_says content.layouts) (declared ++ defined) e in
    let d = cut c.back declared defined c.back_says in
    let first = lines_all NoDefine c.front (map layout_says content.layouts) c.front_says (layouts_no_define content.layouts) in
    let second = lines_all NoDefine d.front declared d.front_says
    (all_flat (declaration_if_called content.layouts content.funcs) NoDefine (if_declared NoDefine (λ answer name parameters. refl) content.layouts content.funcs) (externals content.layouts)) in
    let is : definitions_of lines ≡ definitions_of d.back =
    ap definitions_of c.whole ∙ definitions_skip c.front c.back first ∙ ap definitions_of d.whole ∙ definitions_skip d.front d.back second in
    subst (λ (ds : List Definition). AllZip (SaysDefinition content.layouts content.funcs) ds content.funcs) (sym is)
    (definitions-said content.layouts content.funcs content.funcs d.back d.back_says)

-- ---- layouts

abbrev layout_seen : Statement → List ObjectLayout
layout_seen (layout name fields) = record { name = name; fields = map cell_of fields } ∷ []
layout_seen _ = []

one_layout : (n : ℕ) (s : Statement) → map layout_of (layout_said n s) ≡ layout_seen s
one_layout n (layout name fields) = refl
one_layout n _ = refl

layouts_seen : (ls : List Line) → map layout_of (layouts_of ls) ≡ flat_map layout_seen (said ls)
layouts_seen [] = refl
layouts_seen (l ∷ ls) =
    map-append layout_of (layout_said l.number l.says) (layouts_of ls)
    ∙ ap (λ (xs : List ObjectLayout). xs ++ map layout_of (layouts_of ls)) (one_layout l.number l.says)
    ∙ ap (λ (xs : List ObjectLayout). layout_seen l.says ++ xs) (layouts_seen ls)

said_layouts : (layouts : List ObjectLayout) → flat_map layout_seen (map layout_says layouts) ≡ layouts
said_layouts [] = refl
said_layouts (l ∷ ls) =
    ap (λ (cs : List Cell). record { name = l.name; fields = cs } ∷ flat_map layout_seen (map layout_says ls)) (cells-back l.fields)
    ∙ ap (λ (xs : List ObjectLayout). l ∷ xs) (said_layouts ls)

abbrev NoLayout : Statement → Type 0
NoLayout s = layout_seen s ≡ []

none_seen : (ss : List Statement) → AllByRecursion NoLayout ss → flat_map layout_seen ss ≡ []
none_seen [] h = refl
none_seen (s ∷ ss) h = ap (λ (xs : List ObjectLayout). xs ++ flat_map layout_seen ss) h.0 ∙ none_seen ss h.1

body_no_layout : (s : Statement) → InBody s → NoLayout s
body_no_layout (layout name fields) e = absurd (let bad : false ≡ true = e in cc)
body_no_layout _ e = refl

function_no_layout : (layouts : List ObjectLayout) (funcs : List Function) (f : Function) → AllByRecursion NoLayout (function_says layouts funcs f)
function_no_layout layouts funcs f = (
  refl,
  all_append NoLayout (flat_map (block_says (record { layouts = layouts; funcs = funcs; func = f })) f.blocks) (close ∷ [])
      (weaker InBody NoLayout body_no_layout (flat_map (block_says (record { layouts = layouts; funcs = funcs; func = f })) f.blocks) (blocks_inner (record { layouts = layouts; funcs = funcs; func = f }) f.blocks)) (refl, tt),
)

pub layouts-back : (content : ModuleContent) (lines : List Line) → said lines ≡ said_by content → map layout_of (layouts_of lines) ≡ content.layouts
unfolding said_by
layouts-back content lines e =
    let declared = flat_map (declaration_if_called content.layouts content.funcs) (externals content.layouts) in
    let defined = flat_map (function_says content.layouts content.funcs) content.funcs in
    layouts_seen lines ∙ ap (flat_map layout_seen) e ∙ flat_map-append layout_seen (map layout_says content.layouts) (declared ++ defined)
    ∙ ap (λ (xs : List ObjectLayout). xs ++ flat_map layout_seen (declared ++ defined)) (said_layouts content.layouts)
    ∙ ap (λ (xs : List ObjectLayout). content.layouts ++ xs)
    (none_seen (declared ++ defined) (all_append NoLayout declared defined
    (all_flat (declaration_if_called content.layouts content.funcs) NoLayout (if_declared NoLayout (λ answer name parameters. refl) content.layouts content.funcs) (externals content.layouts))
    (all_flat (function_says content.layouts content.funcs) NoLayout (function_no_layout content.layouts content.funcs) content.funcs)))
    ∙ append-nil content.layouts

layout_names_same : (xs : List LayoutLine) → map (λ one. one.name) xs ≡ map (λ layout. layout.name) (map layout_of xs)
layout_names_same [] = refl
layout_names_same (x ∷ xs) = ap (λ (ns : List (List ℕ)). x.name ∷ ns) (layout_names_same xs)

pub layout-names : (content : ModuleContent) (lines : List Line) → said lines ≡ said_by content
    → map (λ one. one.name) (layouts_of lines) ≡ map (λ layout. layout.name) content.layouts
layout-names content lines e =
    layout_names_same (layouts_of lines) ∙ ap (map (λ (layout : ObjectLayout). layout.name)) (layouts-back content lines e)
