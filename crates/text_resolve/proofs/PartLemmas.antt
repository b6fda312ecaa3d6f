-- A text by its two parts: what is found of layouts and heads is found outside bodies, and each definition has its body.
use Rattle.std.proofs.Common.{◌≡◌, ◌∙◌, ℕ, suc, ◌⊎◌, inl, inr, refl, sym, ap, subst, Bool, true, false, cond, not, List, [], ◌∷◌, ◌++◌, length, append_assoc}
use Rattle.std.specs.Prelude.{Option, Some, map, flat_map, take_while, is_some}
use Rattle.std.specs.List.{All, Contains}
use Rattle.std.specs.Global.{Vec}
use Rattle.std.proofs.lemmas.List.{map-append}
use Rattle.std.proofs.lemmas.List.Elements.{All-head, All-tail, All-map, All-weaker, All-contains, Contains-append_left, Contains-append_right, Contains-append_cases}
use Rattle.std.proofs.lemmas.List.Sums.{take_while-cons}
use Rattle.ir_ast.specs.declared.modules.Form.{Form}
use Rattle.line_parts.specs.Types.{TypeWord}
use Rattle.line_parts.specs.Lists.{Named}
use Rattle.line_forms.specs.declared.readings.Reading.{Reading}
use Rattle.line_forms.specs.declared.readings.Reading.TheVariants as readings
use Rattle.ir_reader.specs.declared.raw.NumberedReading.{NumberedReading}
use Rattle.ir_reader.specs.declared.states.Place.{Place}
use Rattle.ir_reader.specs.declared.states.Place.TheVariants as places
use Rattle.ir_reader.specs.Woven.{IsInner, woven, IsWoven}
use Rattle.ir_reader.specs.Woven.{is_outer as is_outer_reading}
use Rattle.ir_lines.specs.declared.scope.Top.{Top}
use Rattle.ir_lines.specs.declared.faults.Fault.{Fault}
use Rattle.ir_lines.specs.Notes.{Notes}
use Rattle.ir_lines.specs.Again.{TopAgain, named_layouts, named_heads}
use Rattle.ir_lines.specs.InBody.{Repeats}
use Rattle.ir_lines.specs.Statements.{Statement, Line, layout, declare, define, close}
use Rattle.ir_lines.specs.Sections.{LayoutLine, Head, Definition, layout_said, layouts_of, head_said, heads_of, is_close, definition_said, definitions_of}
use Rattle.ir_lines.specs.Parted.{is_outer, definition_with, definitions_with}
use Rattle.ir_lines.specs.Tables.{IsTop}
use Rattle.ir_lines.specs.TextLines.{place_behind, Stand, IsTextLines}
use Rattle.ir_lines.specs.Views.{said, seen_line, seen_lines}
use Rattle.ir_lines.proofs.NoteLemmas.{notes-same}
use Rattle.module_build.proofs.Bodies.{Inside, inside_function, stays}
use Rattle.module_build.proofs.Placing.{opens_function, define-opens, entry-is}
use Rattle.text_resolve.specs.Parts.{lines_in}
use Rattle.text_resolve.specs.TopFaults.{OuterFault, OuterFaults}

-- ---- from readings to lines

said-outer : (reading : Reading) → is_outer (said reading) ≡ is_outer_reading reading
said-outer (readings.Layout name fields) = refl
said-outer (readings.Declare answer name parameters) = refl
said-outer (readings.Define answer name arguments strategy) = refl
said-outer readings.Close = refl
said-outer reading = refl

abbrev pub InnerLine : Line → Type 0
InnerLine l = is_outer l.says ≡ false

abbrev pub OpensOuterLine : List Line → Type 0
OpensOuterLine [] = Unit {0}
OpensOuterLine (l ∷ ls) = is_outer l.says ≡ true

-- the lines of readings in two parts
abbrev pub LinesWoven : List Line → List (List Line) → Type 0
LinesWoven [] [] = Unit {0}
LinesWoven [] (body ∷ bodies) = ⊥
LinesWoven (l ∷ ls) [] = ⊥
LinesWoven (l ∷ ls) (body ∷ bodies) = All InnerLine body × (OpensOuterLine ls × LinesWoven ls bodies)

inner-lines : (body : List NumberedReading) → All IsInner body → All InnerLine (seen_lines body)
inner-lines body h =
    All-map InnerLine seen_line body (All-weaker IsInner (λ one. InnerLine (seen_line one)) (λ one inner. said-outer one.reading ∙ inner) body h)

pub lines-woven : (xs : List NumberedReading) (bodies : List (List NumberedReading)) → IsWoven xs bodies → LinesWoven (seen_lines xs) (map seen_lines bodies)
lines-woven [] [] w = tt
lines-woven [] (body ∷ bodies) w = absurd w
lines-woven (x ∷ xs) [] w = absurd w
lines-woven (x ∷ []) (body ∷ []) w = (inner-lines body w.0, (tt, tt))
lines-woven (x ∷ []) (body ∷ next ∷ bodies) w = absurd w.1.1
lines-woven (x ∷ y ∷ xs) (body ∷ bodies) w = (inner-lines body w.0, (said-outer y.reading ∙ w.1.0, lines-woven (y ∷ xs) bodies w.1.1))

pub seen-woven : (xs : List NumberedReading) (bodies : List (List NumberedReading)) → seen_lines (woven xs bodies) ≡ woven (seen_lines xs) (map seen_lines bodies)
seen-woven [] bodies = refl
seen-woven (x ∷ xs) [] = refl
seen-woven (x ∷ xs) (body ∷ bodies) =
    ap (λ (ls : List Line). seen_line x ∷ ls)
    (map-append seen_line body (woven xs bodies) ∙ ap (λ (ls : List Line). seen_lines body ++ ls) (seen-woven xs bodies))

pub as-many : (xs : List Line) (bodies : List (List Line)) → LinesWoven xs bodies → length bodies ≡ length xs
as-many [] [] w = refl
as-many [] (body ∷ bodies) w = absurd w
as-many (l ∷ ls) [] w = absurd w
as-many (l ∷ ls) (body ∷ bodies) w = ap (λ (n : ℕ). suc n) (as-many ls bodies w.1.1)

-- ---- what a line inside isn't

no-layout : (line : ℕ) (what : Statement) → is_outer what ≡ false → layout_said line what ≡ []
no-layout line (layout name fields) e = absurd (let bad : true ≡ false = e in cc)
no-layout line what e = refl

no-head : (line : ℕ) (what : Statement) → is_outer what ≡ false → head_said line what ≡ []
no-head line (declare answer name parameters) e = absurd (let bad : true ≡ false = e in cc)
no-head line (define answer name arguments strategy) e = absurd (let bad : true ≡ false = e in cc)
no-head line what e = refl

no-definition : (line : ℕ) (what : Statement) (after : List Line) → is_outer what ≡ false → definition_said line what after ≡ []
no-definition line (define answer name arguments strategy) after e = absurd (let bad : true ≡ false = e in cc)
no-definition line what after e = refl

no-close : (what : Statement) → is_outer what ≡ false → is_close what ≡ false
no-close close e = absurd (let bad : true ≡ false = e in cc)
no-close what e = refl

no-fault : (form : Form) (functions layouts : List (List ℕ)) (what : Statement) (code : ℕ) → is_outer what ≡ false → OuterFault form functions layouts what code → ⊥
no-fault form functions layouts (layout name fields) code e f = absurd (let bad : true ≡ false = e in cc)
no-fault form functions layouts (declare answer name parameters) code e f = absurd (let bad : true ≡ false = e in cc)
no-fault form functions layouts (define answer name arguments strategy) code e f = absurd (let bad : true ≡ false = e in cc)
no-fault form functions layouts what code e f = absurd f

-- ---- layouts and heads

none-of : {B : Type 0} (f : Line → List B) (body rest : List Line) → ((l : Line) → InnerLine l → f l ≡ []) → All InnerLine body
    → flat_map f (body ++ rest) ≡ flat_map f rest
none-of f [] rest none h = refl
none-of {B} f (l ∷ ls) rest none h =
    ap (λ (xs : List B). xs ++ flat_map f (ls ++ rest)) (none l (All-head InnerLine l ls h)) ∙ none-of f ls rest none (All-tail InnerLine l ls h)

pub all-outside : {B : Type 0} (f : Line → List B) (xs : List Line) (bodies : List (List Line)) → ((l : Line) → InnerLine l → f l ≡ []) → LinesWoven xs bodies
    → flat_map f (woven xs bodies) ≡ flat_map f xs
all-outside f [] bodies none w = refl
all-outside f (l ∷ ls) [] none w = refl
all-outside {B} f (l ∷ ls) (body ∷ bodies) none w =
    ap (λ (xs : List B). f l ++ xs) (none-of f body (woven ls bodies) none w.0 ∙ all-outside f ls bodies none w.1.1)

pub layouts-outside : (xs : List Line) (bodies : List (List Line)) → LinesWoven xs bodies → layouts_of (woven xs bodies) ≡ layouts_of xs
layouts-outside xs bodies w = all-outside (λ l. layout_said l.number l.says) xs bodies (λ l inner. no-layout l.number l.says inner) w

pub heads-outside : (xs : List Line) (bodies : List (List Line)) → LinesWoven xs bodies → heads_of (woven xs bodies) ≡ heads_of xs
heads-outside xs bodies w = all-outside (λ l. head_said l.number l.says) xs bodies (λ l inner. no-head l.number l.says inner) w

-- ---- definitions

definitions-inside : (body rest : List Line) → All InnerLine body → definitions_of (body ++ rest) ≡ definitions_of rest
definitions-inside [] rest h = refl
definitions-inside (l ∷ ls) rest h =
    ap (λ (fs : List Definition). fs ++ definitions_of (ls ++ rest)) (no-definition l.number l.says (ls ++ rest) (All-head InnerLine l ls h))
    ∙ definitions-inside ls rest (All-tail InnerLine l ls h)

body-is : (body rest : List Line) → All InnerLine body → take_while inside_function rest ≡ [] → take_while inside_function (body ++ rest) ≡ body
body-is [] rest h e = e
body-is (l ∷ ls) rest h e =
    take_while-cons inside_function l (ls ++ rest)
    ∙ ap (λ (closes : Bool). cond (not closes) (l ∷ take_while inside_function (ls ++ rest)) []) (no-close l.says (All-head InnerLine l ls h))
    ∙ ap (λ (xs : List Line). l ∷ xs) (body-is ls rest (All-tail InnerLine l ls h) e)

-- the lines that are left stand from a place on
record StandsFrom (inside : Bool) (ls : List Line) : Type 0 where
  place : Place
  stands : Stand place ls
  within : inside ≡ true → Inside place

behind-body : (body rest : List Line) (place : Place) → Stand place (body ++ rest) → StandsFrom false rest
behind-body [] rest place s = record { place = place; stands = s; within = λ e. absurd (let bad : false ≡ true = e in cc) }
behind-body (l ∷ ls) rest place s = behind-body ls rest s.next s.more

inside-body : (body rest : List Line) (place : Place) → Inside place → All InnerLine body → Stand place (body ++ rest) → StandsFrom true rest
inside-body [] rest place in' h s = record { place = place; stands = s; within = λ e. in' }
inside-body (l ∷ ls) rest place in' h s =
    inside-body ls rest s.next (stays place l.says s.next in' (no-close l.says (All-head InnerLine l ls h)) s.is) (All-tail InnerLine l ls h) s.more

-- in a function the only line outside is its brace
stands-out : (place : Place) (what : Statement) → Inside place → is_outer what ≡ true → is_close what ≡ false → is_some (place_behind place what) ≡ false
stands-out places.Top what in' o c = absurd in'
stands-out place (layout name fields) in' o c = refl
stands-out place (declare answer name parameters) in' o c = refl
stands-out place (define answer name arguments strategy) in' o c = refl
stands-out place close in' o c = absurd (let bad : true ≡ false = c in cc)
stands-out place what in' o c = absurd (let bad : false ≡ true = o in cc)

brace-only : (place next : Place) (what : Statement) → Inside place → is_outer what ≡ true → place_behind place what ≡ Some next → is_close what ≡ true
brace-only place next what in' o e = by (is_close what) refl
  where
    by : (c : Bool) → is_close what ≡ c → is_close what ≡ true
    by true is = is
    by false is = absurd (let bad : false ≡ true = sym (stands-out place what in' o is) ∙ ap (λ (at : Option Place). is_some at) e in cc)

closed-there : (xs : List Line) (bodies : List (List Line)) (place : Place) → LinesWoven xs bodies → OpensOuterLine xs → Inside place → Stand place (woven xs bodies)
    → take_while inside_function (woven xs bodies) ≡ []
closed-there [] bodies place w o in' s = refl
closed-there (l ∷ ls) [] place w o in' s = absurd w
closed-there (l ∷ ls) (body ∷ bodies) place w o in' s =
    take_while-cons inside_function l (body ++ woven ls bodies)
    ∙ ap (λ (closes : Bool). cond (not closes) (l ∷ take_while inside_function (body ++ woven ls bodies)) []) (brace-only place s.next l.says in' o s.is)

defined-with : (line : ℕ) (answer : TypeWord) (name : List ℕ) (arguments : List Named) (strategy : Option (List ℕ)) (body other : List Line) → body ≡ other
    → definition_with line (define answer name arguments strategy) body ≡ definition_with line (define answer name arguments strategy) other
defined-with line answer name arguments strategy body other e = ap (λ (ls : List Line). definition_with line (define answer name arguments strategy) ls) e

body-of-head : (line : ℕ) (what : Statement) (place next : Place) (body : List Line) (xs : List Line) (bodies : List (List Line))
    → place_behind place what ≡ Some next → Stand next (body ++ woven xs bodies) → All InnerLine body → OpensOuterLine xs → LinesWoven xs bodies
    → definition_said line what (body ++ woven xs bodies) ≡ definition_with line what body
body-of-head line (define answer name arguments strategy) place next body xs bodies is s h o w =
    let entry = entry-is next (sym (ap opens_function is) ∙ define-opens place answer name arguments strategy) in
    let left : StandsFrom true (woven xs bodies)
    = inside-body body (woven xs bodies) places.Entry tt h (subst (λ (p : Place). Stand p (body ++ woven xs bodies)) entry s) in
    defined-with line answer name arguments strategy (take_while inside_function (body ++ woven xs bodies)) body
    (body-is body (woven xs bodies) h (closed-there xs bodies left.place w o (left.within refl) left.stands))
body-of-head line what place next body xs bodies is s h o w = refl

pub definitions-parted : (xs : List Line) (bodies : List (List Line)) (place : Place) → LinesWoven xs bodies → Stand place (woven xs bodies)
    → definitions_of (woven xs bodies) ≡ definitions_with xs bodies
definitions-parted [] [] place w s = refl
definitions-parted [] (body ∷ bodies) place w s = absurd w
definitions-parted (l ∷ ls) [] place w s = absurd w
definitions-parted (l ∷ ls) (body ∷ bodies) place w s =
    let left : StandsFrom false (woven ls bodies) = behind-body body (woven ls bodies) s.next s.more in
    ap (λ (fs : List Definition). fs ++ definitions_of (body ++ woven ls bodies))
    (body-of-head l.number l.says place s.next body ls bodies s.is s.more w.0 w.1.0 w.1.1)
    ∙ ap (λ (fs : List Definition). definition_with l.number l.says body ++ fs)
    (definitions-inside body (woven ls bodies) w.0 ∙ definitions-parted ls bodies left.place w.1.1 left.stands)

-- the names of definitions don't depend on bodies
name-said : (line : ℕ) (what : Statement) (after body : List Line)
    → map (λ (one : Definition). one.name) (definition_said line what after) ≡ map (λ (one : Definition). one.name) (definition_with line what body)
name-said line (define answer name arguments strategy) after body = refl
name-said line what after body = refl

names-parted : (xs : List Line) (bodies : List (List Line)) → LinesWoven xs bodies
    → map (λ (one : Definition). one.name) (definitions_of xs) ≡ map (λ (one : Definition). one.name) (definitions_with xs bodies)
names-parted [] bodies w = refl
names-parted (l ∷ ls) [] w = absurd w
names-parted (l ∷ ls) (body ∷ bodies) w =
    map-append (λ (one : Definition). one.name) (definition_said l.number l.says ls) (definitions_of ls)
    ∙ ap (λ (ns : List (List ℕ)). ns ++ map (λ (one : Definition). one.name) (definitions_of ls)) (name-said l.number l.says ls body)
    ∙ ap (λ (ns : List (List ℕ)). map (λ (one : Definition). one.name) (definition_with l.number l.says body) ++ ns) (names-parted ls bodies w.1.1)
    ∙ sym (map-append (λ (one : Definition). one.name) (definition_with l.number l.says body) (definitions_with ls bodies))

-- ---- the lines of a text, by its parts

pub record InParts (lines xs : List Line) (bodies : List (List Line)) : Type 0 where
  pub whole : lines ≡ woven xs bodies
  pub parts : LinesWoven xs bodies
  pub stands : Stand places.Top lines

pub layouts-in : (lines xs : List Line) (bodies : List (List Line)) → InParts lines xs bodies → layouts_of lines ≡ layouts_of xs
layouts-in lines xs bodies p = ap layouts_of p.whole ∙ layouts-outside xs bodies p.parts

pub heads-in : (lines xs : List Line) (bodies : List (List Line)) → InParts lines xs bodies → heads_of lines ≡ heads_of xs
heads-in lines xs bodies p = ap heads_of p.whole ∙ heads-outside xs bodies p.parts

pub definitions-in : (lines xs : List Line) (bodies : List (List Line)) → InParts lines xs bodies → definitions_with xs bodies ≡ definitions_of lines
definitions-in lines xs bodies p =
    sym (ap definitions_of p.whole ∙ definitions-parted xs bodies places.Top p.parts (subst (λ (ls : List Line). Stand places.Top ls) p.whole p.stands))

pub top-in : (lines xs : List Line) (bodies : List (List Line)) (top : Top) → InParts lines xs bodies → IsTop xs top → IsTop lines top
top-in lines xs bodies top p t = record {
  layouts = t.layouts ∙ ap (λ (ls : List LayoutLine). map (λ (one : LayoutLine). one.name) ls) (sym (layouts-in lines xs bodies p));
  fields = t.fields ∙ ap (λ (ls : List LayoutLine). map (λ (one : LayoutLine). length one.fields) ls) (sym (layouts-in lines xs bodies p));
  heads = t.heads ∙ ap (λ (hs : List Head). map (λ (one : Head). one.name) hs) (sym (heads-in lines xs bodies p));
  head_list = t.head_list ∙ sym (heads-in lines xs bodies p);
  functions = t.functions ∙ names-parted xs bodies p.parts
      ∙ ap (λ (fs : List Definition). map (λ (one : Definition). one.name) fs) (definitions-in lines xs bodies p);
}

-- ---- faults of lines outside bodies

pub again-in : (lines xs : List Line) (bodies : List (List Line)) (old new : Option Fault) → InParts lines xs bodies
    → Notes old new (TopAgain xs) → Notes old new (TopAgain lines)
again-in lines xs bodies old new p n =
    subst (λ (layouts : List LayoutLine). Notes old new (λ line code. (code ≡ 3) × (Repeats (named_layouts layouts) line ⊎ Repeats (named_heads (heads_of lines)) line)))
    (sym (layouts-in lines xs bodies p))
    (subst (λ (heads : List Head). Notes old new (λ line code. (code ≡ 3) × (Repeats (named_layouts (layouts_of xs)) line ⊎ Repeats (named_heads heads) line)))
    (sym (heads-in lines xs bodies p)) n)

abbrev Within : List Line → Line → Type 0
Within xs l = Contains xs l ⊎ InnerLine l

outside-or-in : (xs : List Line) (bodies : List (List Line)) (l : Line) → LinesWoven xs bodies → Contains (woven xs bodies) l → Within xs l
outside-or-in [] bodies l w c = inl c
outside-or-in (x ∷ xs) [] l w c = inl c
outside-or-in (x ∷ xs) (body ∷ bodies) l w c = first (λ in'. outside-or-in xs bodies l w.1.1 in') (Contains-append_cases (x ∷ []) (body ++ woven xs bodies) l c)
  where
    rest : Within xs l → Within (x ∷ xs) l
    rest (inl in') = inl (Contains-append_right (x ∷ []) xs l in')
    rest (inr in') = inr in'

    second : (Contains (woven xs bodies) l → Within xs l) → Contains body l ⊎ Contains (woven xs bodies) l → Within (x ∷ xs) l
    second behind (inl in') = inr (All-contains InnerLine body l w.0 in')
    second behind (inr in') = rest (behind in')

    first : (Contains (woven xs bodies) l → Within xs l) → Contains (x ∷ []) l ⊎ Contains (body ++ woven xs bodies) l → Within (x ∷ xs) l
    first behind (inl in') = inl (Contains-append_left (x ∷ []) xs l in')
    first behind (inr in') = second behind (Contains-append_cases body (woven xs bodies) l in')

stands-outside : (xs : List Line) (bodies : List (List Line)) (l : Line) → Contains xs l → Contains (woven xs bodies) l
stands-outside [] bodies l c = c
stands-outside (x ∷ xs) [] l c = c
stands-outside (x ∷ xs) (body ∷ bodies) l c = by (λ in'. stands-outside xs bodies l in') (Contains-append_cases (x ∷ []) xs l c)
  where
    by : (Contains xs l → Contains (woven xs bodies) l) → Contains (x ∷ []) l ⊎ Contains xs l → Contains (x ∷ body ++ woven xs bodies) l
    by behind (inl in') = Contains-append_left (x ∷ []) (body ++ woven xs bodies) l in'
    by behind (inr in') = Contains-append_right (x ∷ []) (body ++ woven xs bodies) l (Contains-append_right body (woven xs bodies) l (behind in'))

pub outer-in : (form : Form) (functions layouts : List (List ℕ)) (lines xs : List Line) (bodies : List (List Line)) (old new : Option Fault) → InParts lines xs bodies
    → Notes old new (OuterFaults form functions layouts xs) → Notes old new (OuterFaults form functions layouts lines)
outer-in form functions layouts lines xs bodies old new p n =
    subst (λ (ls : List Line). Notes old new (OuterFaults form functions layouts ls)) (sym p.whole)
    (notes-same old new (OuterFaults form functions layouts xs) (OuterFaults form functions layouts (woven xs bodies)) to from n)
  where
    to : (i c : ℕ) → OuterFaults form functions layouts xs i c → OuterFaults form functions layouts (woven xs bodies) i c
    to i c f = record { found = f.found; inside = stands-outside xs bodies f.found f.inside; number = f.number; faulty = f.faulty }

    by : (i c : ℕ) (found : Line) → found.number ≡ i → OuterFault form functions layouts found.says c → Within xs found → OuterFaults form functions layouts xs i c
    by i c found number faulty (inl in') = record { found = found; inside = in'; number = number; faulty = faulty }
    by i c found number faulty (inr inner) = absurd (no-fault form functions layouts found.says c inner faulty)

    from : (i c : ℕ) → OuterFaults form functions layouts (woven xs bodies) i c → OuterFaults form functions layouts xs i c
    from i c f = by i c f.found f.number f.faulty (outside-or-in xs bodies f.found p.parts f.inside)

-- ---- the parts in which a text is read

pub parts-of : (form : Form) (read outer items : List NumberedReading) (bodies : List (Vec NumberedReading)) → outer ≡ items
    → woven items (map (λ (body : Vec NumberedReading). body.items) bodies) ≡ read → IsWoven items (map (λ (body : Vec NumberedReading). body.items) bodies)
    → IsTextLines form (seen_lines read) → InParts (seen_lines read) (seen_lines outer) (lines_in bodies)
parts-of form read outer items bodies same whole parts lines =
    subst (λ (ls : List NumberedReading). InParts (seen_lines read) (seen_lines ls) (lines_in bodies)) (sym same) (record {
      whole = sym (ap seen_lines whole) ∙ seen-woven items (map (λ (body : Vec NumberedReading). body.items) bodies);
      parts = lines-woven items (map (λ (body : Vec NumberedReading). body.items) bodies) parts;
      stands = lines.placed;
    })
