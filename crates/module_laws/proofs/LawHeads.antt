-- Heads and definitions: a name that a definition has is that of one head.
use Rattle.std.proofs.Common.{◌≡◌, ◌∙◌, ℕ, true, false, List, [], ◌∷◌, ◌++◌, map, refl, ap, sym, subst}
use Rattle.std.specs.Prelude.{filter, take_while, not}
use Rattle.std.specs.List.{All, Contains}
use Rattle.std.specs.Str.{bytes_eq}
use Rattle.std.proofs.lemmas.List.Elements.{All-nil, All-cons, All-append, All-weaker, All-contains, All-contains_itself, All-take, Contains-append_left, Contains-append_right}
use Rattle.ir_ast.specs.Lists.{Distinct}
use Rattle.ir_ast.specs.declared.modules.Form.{Form}
use Rattle.ir_lines.specs.Statements.{Line, Statement, layout, declare, define}
use Rattle.ir_lines.specs.Sections.{Head, Definition, LayoutLine, types_of, head_said, heads_of, definition_said, definitions_of, layout_said, layouts_of, is_close}
use Rattle.ir_lines.specs.Faults.NameTwice.{layout_again, head_again, label_again, value_again}
use Rattle.ir_resolve.specs.TextFaults.{name_twice}
use Rattle.ir_resolve.specs.FaultSet.{HasNoResolvedFault, of_text}
use Rattle.ir_lines.proofs.LawNames.{Stands, stands, contains_get, get_contained, contains_first, contains_later, contains_map, distinct-once, same_by_name, apart-distinct, distinct-apart, apart-filter}

abbrev pub head_of : Definition → Head
head_of func = record { line = func.line; defined = true; name = func.name; answer = func.answer; parameters = types_of func.arguments }

-- the definitions are the defined heads
one_definition : (n : ℕ) (s : Statement) (ls : List Line) → map head_of (definitions_of ls) ≡ filter (λ h. h.defined) (heads_of ls)
    → map head_of (definitions_of (record { number = n; says = s } ∷ ls)) ≡ filter (λ h. h.defined) (heads_of (record { number = n; says = s } ∷ ls))
one_definition n (define answer name arguments strategy) ls ih =
    ap (λ hs. record { line = n; defined = true; name = name; answer = answer; parameters = types_of arguments } ∷ hs) ih
one_definition n _ ls ih = ih

pub definitions-heads : (lines : List Line) → map head_of (definitions_of lines) ≡ filter (λ h. h.defined) (heads_of lines)
definitions-heads [] = refl
definitions-heads (l ∷ ls) = one_definition l.number l.says ls (definitions-heads ls)

-- each has its head
one_head : (n : ℕ) (s : Statement) (ls : List Line) → All (λ d. Contains (heads_of ls) (head_of d)) (definitions_of ls)
    → All (λ d. Contains (head_said n s ++ heads_of ls) (head_of d)) (definition_said n s ls ++ definitions_of ls)
one_head n (define answer name arguments strategy) ls ih =
    let head : Head = record { line = n; defined = true; name = name; answer = answer; parameters = types_of arguments } in
    All-cons (λ d. Contains (head ∷ heads_of ls) (head_of d)) (record {
      line = n;
      answer = answer;
      name = name;
      arguments = arguments;
      strategy = strategy;
      body = take_while (λ l. not (is_close l.says)) ls;
    }) (definitions_of ls) (contains_first head (heads_of ls))
    (All-weaker (λ d. Contains (heads_of ls) (head_of d)) (λ d. Contains (head ∷ heads_of ls) (head_of d))
    (λ d c. contains_later head (head_of d) (heads_of ls) c) (definitions_of ls) ih)
one_head n (declare answer name parameters) ls ih =
    let head : Head = record { line = n; defined = false; name = name; answer = answer; parameters = types_of parameters } in
    All-weaker (λ d. Contains (heads_of ls) (head_of d)) (λ d. Contains (head ∷ heads_of ls) (head_of d))
    (λ d c. contains_later head (head_of d) (heads_of ls) c) (definitions_of ls) ih
one_head n _ ls ih = ih

pub heads-have : (lines : List Line) → All (λ d. Contains (heads_of lines) (head_of d)) (definitions_of lines)
heads-have [] = All-nil (λ d. Contains (heads_of []) (head_of d))
heads-have (l ∷ ls) = one_head l.number l.says ls (heads-have ls)

-- a defined head is that of a definition, and a declared one that of a line
pub data HeadFrom (lines : List Line) (head : Head) : Type 0 where
  from_definition : (func : Definition) → Contains (definitions_of lines) func → head_of func ≡ head → HeadFrom lines head
  from_declaration : (l : Line) → Contains lines l → (answer : Rattle.line_parts.specs.Types.TypeWord) (name : List ℕ)
      (parameters : List (Rattle.line_parts.specs.Lists.Named)) → l.says ≡ declare answer name parameters
      → head ≡ record { line = l.number; defined = false; name = name; answer = answer; parameters = types_of parameters } → HeadFrom lines head

definition_later : (n : ℕ) (s : Statement) (ls : List Line) (func : Definition) → Contains (definitions_of ls) func
    → Contains (definition_said n s ls ++ definitions_of ls) func
definition_later n s ls func c = Contains-append_right (definition_said n s ls) (definitions_of ls) func c

later_from : (n : ℕ) (s : Statement) (ls : List Line) (head : Head) → HeadFrom ls head → HeadFrom (record { number = n; says = s } ∷ ls) head
later_from n s ls head (from_definition func c e) = from_definition func (definition_later n s ls func c) e
later_from n s ls head (from_declaration l c answer name parameters e f) =
    from_declaration l (contains_later (record { number = n; says = s }) l ls c) answer name parameters e f

all_later : (n : ℕ) (s : Statement) (ls : List Line) → All (HeadFrom ls) (heads_of ls) → All (HeadFrom (record { number = n; says = s } ∷ ls)) (heads_of ls)
all_later n s ls ih = All-weaker (HeadFrom ls) (HeadFrom (record { number = n; says = s } ∷ ls)) (later_from n s ls) (heads_of ls) ih

head_from : (n : ℕ) (s : Statement) (ls : List Line) → All (HeadFrom ls) (heads_of ls)
    → All (HeadFrom (record { number = n; says = s } ∷ ls)) (head_said n s ++ heads_of ls)
head_from n (define answer name arguments strategy) ls ih =
    let func : Definition = record {
      line = n;
      answer = answer;
      name = name;
      arguments = arguments;
      strategy = strategy;
      body = take_while (λ l. not (is_close l.says)) ls;
    } in
    All-cons (HeadFrom (record { number = n; says = define answer name arguments strategy } ∷ ls)) (head_of func) (heads_of ls)
    (from_definition func (contains_first func (definitions_of ls)) refl) (all_later n (define answer name arguments strategy) ls ih)
head_from n (declare answer name parameters) ls ih =
    let l : Line = record { number = n; says = declare answer name parameters } in
    All-cons (HeadFrom (l ∷ ls)) (record { line = n; defined = false; name = name; answer = answer; parameters = types_of parameters }) (heads_of ls)
    (from_declaration l (contains_first l ls) answer name parameters refl refl) (all_later n (declare answer name parameters) ls ih)
head_from n s ls ih = all_later n s ls ih

pub heads-from : (lines : List Line) → All (HeadFrom lines) (heads_of lines)
heads-from [] = All-nil (HeadFrom [])
heads-from (l ∷ ls) = head_from l.number l.says ls (heads-from ls)

-- ---- names that stand once

pub heads-distinct : (form : Form) (lines : List Line) → HasNoResolvedFault form lines → Distinct (map (λ one. one.name) (heads_of lines))
heads-distinct form lines none = distinct-once (heads_of lines) (λ one. one.line) (λ one. one.name) (λ n r. none n 3 (of_text (name_twice (head_again r))))

pub layouts-distinct : (form : Form) (lines : List Line) → HasNoResolvedFault form lines → Distinct (map (λ one. one.name) (layouts_of lines))
layouts-distinct form lines none = distinct-once (layouts_of lines) (λ one. one.line) (λ one. one.name) (λ n r. none n 3 (of_text (name_twice (layout_again r))))

names_headed : (defs : List Definition) → map (λ (one : Head). one.name) (map head_of defs) ≡ map (λ (one : Definition). one.name) defs
names_headed [] = refl
names_headed (d ∷ ds) = ap (λ ns. d.name ∷ ns) (names_headed ds)

pub definitions-distinct : (form : Form) (lines : List Line) → HasNoResolvedFault form lines → Distinct (map (λ one. one.name) (definitions_of lines))
definitions-distinct form lines none =
    let heads = apart-filter (λ (h : Head). h.defined) (λ (h : Head). h.name) (heads_of lines)
    (apart-distinct (map (λ (h : Head). h.name) (heads_of lines)) (heads-distinct form lines none)) in
    distinct-apart (map (λ (one : Definition). one.name) (definitions_of lines))
    (subst Rattle.ir_lines.proofs.LawNames.Apart
    (ap (map (λ (h : Head). h.name)) (sym (definitions-heads lines)) ∙ names_headed (definitions_of lines)) heads)

pub values-distinct : (form : Form) (lines : List Line) → HasNoResolvedFault form lines → (func : Definition) → Contains (definitions_of lines) func
    → Distinct (map (λ one. one.name) (Rattle.ir_lines.specs.Sections.values_of func))
values-distinct form lines none func defined =
    distinct-once (Rattle.ir_lines.specs.Sections.values_of func) (λ one. one.line) (λ one. one.name) (λ n r. none n 3 (of_text (name_twice (value_again func defined r))))

pub blocks-distinct : (form : Form) (lines : List Line) → HasNoResolvedFault form lines → (func : Definition) → Contains (definitions_of lines) func
    → Distinct (map (λ one. one.name) (Rattle.ir_lines.specs.Sections.blocks_of func))
blocks-distinct form lines none func defined =
    distinct-once (Rattle.ir_lines.specs.Sections.blocks_of func) (λ one. one.line) (λ one. one.name) (λ n r. none n 3 (of_text (name_twice (label_again func defined r))))

-- ---- what is said of all lines is said of definitions

pub record SaysOf (P : Statement → Type 0) (func : Definition) : Type 0 where
  pub head : P (define func.answer func.name func.arguments func.strategy)
  pub body : All (λ l. P l.says) func.body

one_defined : (P : Statement → Type 0) (n : ℕ) (s : Statement) (ls : List Line) → P s → All (λ l. P l.says) ls → All (SaysOf P) (definitions_of ls)
    → All (SaysOf P) (definition_said n s ls ++ definitions_of ls)
one_defined P n (define answer name arguments strategy) ls here rest ih =
    All-cons (SaysOf P) (record {
      line = n;
      answer = answer;
      name = name;
      arguments = arguments;
      strategy = strategy;
      body = take_while (λ l. not (is_close l.says)) ls;
    }) (definitions_of ls) (record {
      head = here;
      body = All-take (λ (l : Line). P l.says) (Rattle.std.specs.List.prefix_len (λ (l : Line). not (is_close l.says)) ls) ls rest;
    }) ih
one_defined P n _ ls here rest ih = ih

pub says-defined : (P : Statement → Type 0) (lines : List Line) → All (λ l. P l.says) lines → All (SaysOf P) (definitions_of lines)
says-defined P [] all = All-nil (SaysOf P)
says-defined P (l ∷ ls) all =
    let here : P l.says = Rattle.std.proofs.lemmas.List.Elements.All-head (λ (one : Line). P one.says) l ls all in
    let rest = Rattle.std.proofs.lemmas.List.Elements.All-tail (λ (one : Line). P one.says) l ls all in
    one_defined P l.number l.says ls here rest (says-defined P ls rest)

-- a layout is that of a line
one_layout : (P : LayoutLine → Type 0) (Q : Statement → Type 0) → ((n : ℕ) (name : List ℕ) (fields : List (Rattle.line_parts.specs.Types.TypeWord)) → Q (layout name fields)
    → P (record { line = n; name = name; fields = fields })) → (n : ℕ) (s : Statement) → Q s → All P (layout_said n s)
one_layout P Q f n (layout name fields) q = All-cons P (record { line = n; name = name; fields = fields }) [] (f n name fields q) (All-nil P)
one_layout P Q f n _ q = All-nil P

pub says-layouts : (P : LayoutLine → Type 0) (Q : Statement → Type 0)
    → ((n : ℕ) (name : List ℕ) (fields : List (Rattle.line_parts.specs.Types.TypeWord)) → Q (layout name fields)
    → P (record { line = n; name = name; fields = fields })) → (lines : List Line) → All (λ l. Q l.says) lines → All P (layouts_of lines)
says-layouts P Q f [] all = All-nil P
says-layouts P Q f (l ∷ ls) all =
    All-append P (layout_said l.number l.says) (layouts_of ls)
    (one_layout P Q f l.number l.says (Rattle.std.proofs.lemmas.List.Elements.All-head (λ (one : Line). Q one.says) l ls all))
    (says-layouts P Q f ls (Rattle.std.proofs.lemmas.List.Elements.All-tail (λ (one : Line). Q one.says) l ls all))
