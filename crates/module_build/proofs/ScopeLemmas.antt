-- The tests of a line over tables are those over what its function can name.
use Rattle.std.proofs.Common.{◌≡◌, ◌∙◌, ℕ, ◌<◌, Bool, true, false, cond, ◌&&◌, ◌||◌, List, [], ◌∷◌, ◌++◌, length, refl, ap, sym, arith}
use Rattle.std.specs.Prelude.{Option, Some, None, map, filter_map, find, slice_get, option_map, is_none, not, nat_lt, codes}
use Rattle.std.specs.Option.{option_and_then}
use Rattle.std.specs.List.{list_any, cons_option, position_or_len}
use Rattle.std.specs.Str.{bytes_eq}
use Rattle.std.proofs.Math.Bool.{or_comm, or-false}
use Rattle.std.proofs.lemmas.Option.{slice_get-get_or}
use Rattle.std.proofs.lemmas.Bool.Decides.{nat_tests}
use Rattle.line_parts.specs.Types.{TypeWord}
use Rattle.line_parts.specs.Types.{Int}
use Rattle.line_parts.specs.Parts.{Val}
use Rattle.line_parts.specs.Parts as values
use Rattle.line_parts.specs.Lists.{Given, given, function}
use Rattle.ir_ast.specs.declared.modules.Form.{Form}
use Rattle.ir_lines.specs.Statements.{Guarded, Statement, call, cast, statepoint}
use Rattle.ir_lines.specs.TextForms.{is_source}
use Rattle.ir_lines.specs.Parts.{uses, local_name, values_named, targets, entry_labels, functions_named, layouts_named}
use Rattle.ir_lines.specs.Places.{place_in}
use Rattle.ir_lines.specs.Sections.{Head, Naming}
use Rattle.ir_lines.specs.Scope.{Scope, head_named, value_named}
use Rattle.ir_lines.specs.Types.{literal_fits, naming_fits, fits}
use Rattle.ir_lines.specs.Again.{at_name}
use Rattle.ir_lines.specs.Faults.UnknownName.{names_unknown}
use Rattle.ir_lines.specs.Faults.TypeClash.{is_task, starts_task, checks_kind, takes_operands, agrees, call_agrees, takes_types, statepoint_agrees}
use Rattle.module_build.specs.declared.lost.Lost.{Lost}
use Rattle.module_build.specs.Lost.{Tables, is_missing, after_use, after_uses, after_names, after_line, nothing_lost, type_fits, fits_in, task_starts, operands_fit, call_fits, statepoint_fits, says_wrong_in}
use Rattle.module_build.proofs.LostLemmas.{names-any}
use Rattle.ir_resolve.specs.TextFaults.{is_outside, says_wrong, misspells}
use Rattle.ir_lines.proofs.PlaceLemmas.{at-name}
use Rattle.list_laws.proofs.Booleans.{or_turn}
use Rattle.std.proofs.lemmas.Iterator.Adapters.{option_map_id}

-- the tables hold what the lines of the function can name
pub record AreTables (scope : Scope) (tables : Tables) : Type 0 where
  pub layouts : tables.layouts ≡ map (λ one. one.name) scope.layouts
  pub heads : tables.heads ≡ map (λ one. one.name) scope.heads
  pub head_list : tables.head_list ≡ scope.heads
  pub values : tables.values ≡ map (λ one. one.name) scope.values
  pub types : tables.types ≡ map (λ one. one.ty) scope.values
  pub blocks : tables.blocks ≡ map (λ one. one.name) scope.blocks

-- ---- names

is_none-map : {X Y : Type 0} (f : X → Y) (o : Option X) → is_none (option_map f o) ≡ is_none o
is_none-map f None = refl
is_none-map f (Some x) = refl

missing-at : (names : List (List ℕ)) (name : List ℕ) → is_none (place_in names name) ≡ is_none (at_name names names name)
missing-at names name = by (nat_lt (position_or_len (λ other. bytes_eq name other) names) (length names)) refl
  where
    by : (t : Bool) → nat_lt (position_or_len (λ other. bytes_eq name other) names) (length names) ≡ t
        → is_none (place_in names name) ≡ is_none (at_name names names name)
    by true is =
        let n = position_or_len (λ other. bytes_eq name other) names in
        let below : n < length names = grind (arith, nat_tests) in
        ap (λ t. is_none (cond t (Some n) None)) is
        ∙ sym (ap is_none (slice_get-get_or names n [] below))
        ∙ sym (ap (λ t. is_none (option_and_then (slice_get names) (cond t (Some n) None))) is)
    by false is =
        let n = position_or_len (λ other. bytes_eq name other) names in
        ap (λ t. is_none (cond t (Some n) None)) is
        ∙ sym (ap (λ t. is_none (option_and_then (slice_get names) (cond t (Some n) None))) is)

missing-same : {X : Type 0} (name_of : X → List ℕ) (xs : List X) (names : List (List ℕ)) → names ≡ map name_of xs → (name : List ℕ)
    → is_none (place_in names name) ≡ is_none (find (λ one. bytes_eq name (name_of one)) xs)
missing-same name_of xs names e name =
    ap (λ ns. is_none (place_in ns name)) e
    ∙ missing-at (map name_of xs) name
    ∙ ap is_none (at-name name_of name_of xs name)
    ∙ is_none-map name_of (find (λ one. bytes_eq name (name_of one)) xs)

-- one of these names isn't among the others
abbrev misses : List (List ℕ) → List (List ℕ) → Bool
misses names wanted = list_any (λ name. is_none (place_in names name)) wanted

misses-same : {X : Type 0} (name_of : X → List ℕ) (xs : List X) (names : List (List ℕ)) → names ≡ map name_of xs → (wanted : List (List ℕ))
    → misses names wanted ≡ list_any (λ name. is_none (find (λ one. bytes_eq name (name_of one)) xs)) wanted
misses-same name_of xs names e wanted = λ i. list_any (λ name. missing-same name_of xs names e name i) wanted

misses-step : (names : List (List ℕ)) (o : Option (List ℕ)) (more : List (List ℕ)) (rest : Bool) → rest ≡ misses names more
    → (is_missing names o || rest) ≡ misses names (cons_option o more)
misses-step names None more rest e = e
misses-step names (Some name) more rest e = ap (λ b. is_none (place_in names name) || b) e

misses-filter_map : {X : Type 0} (names : List (List ℕ)) (f : X → Option (List ℕ)) (xs : List X)
    → list_any (λ x. is_missing names (f x)) xs ≡ misses names (filter_map f xs)
misses-filter_map names f [] = refl
misses-filter_map names f (x ∷ xs) =
    misses-step names (f x) (filter_map f xs) (list_any (λ x. is_missing names (f x)) xs) (misses-filter_map names f xs)

-- what uses lose
uses-unknown : (names : List (List ℕ)) (lost : Lost) (used : List (Val × TypeWord))
    → (after_uses names lost used).unknown ≡ (list_any (λ one. is_missing names (local_name one.0)) used || lost.unknown)
uses-unknown names lost [] = refl
uses-unknown names lost (one ∷ more) =
    uses-unknown names (after_use names lost one) more
    ∙ or_turn (is_missing names (local_name one.0)) (list_any (λ other. is_missing names (local_name other.0)) more) lost.unknown

uses-misspelled : (names : List (List ℕ)) (lost : Lost) (used : List (Val × TypeWord))
    → (after_uses names lost used).misspelled ≡ (list_any (λ one. is_outside one.1 one.0) used || lost.misspelled)
uses-misspelled names lost [] = refl
uses-misspelled names lost (one ∷ more) =
    uses-misspelled names (after_use names lost one) more
    ∙ or_turn (is_outside one.1 one.0) (list_any (λ other. is_outside other.1 other.0) more) lost.misspelled

-- what is unknown behind names that are looked for among these
names-behind : {X : Type 0} (name_of : X → List ℕ) (xs : List X) (names : List (List ℕ)) → names ≡ map name_of xs → (wanted : List (List ℕ)) (so_far before : Bool)
    → so_far ≡ before → after_names names so_far wanted ≡ (before || list_any (λ name. is_none (find (λ one. bytes_eq name (name_of one)) xs)) wanted)
names-behind name_of xs names e wanted so_far before is =
    ap (λ b. after_names names b wanted) is
    ∙ names-any names before wanted
    ∙ or_comm (misses names wanted) before
    ∙ ap (λ b. before || b) (misses-same name_of xs names e wanted)

pub unknown-same : (form : Form) (scope : Scope) (tables : Tables) (what : Statement) → AreTables scope tables
    → (after_line form tables nothing_lost what).unknown ≡ names_unknown scope what
unknown-same form scope tables what t =
    names-behind (λ one. one.name) scope.layouts tables.layouts t.layouts (layouts_named what) _ _
    (names-behind (λ one. one.name) scope.heads tables.heads t.heads (functions_named what) _ _
    (names-behind (λ one. one.name) scope.blocks tables.blocks t.blocks (targets what ++ entry_labels what) _ _
    (uses-unknown tables.values nothing_lost (uses what)
    ∙ or-false (list_any (λ one. is_missing tables.values (local_name one.0)) (uses what))
    ∙ misses-filter_map tables.values (λ one. local_name one.0) (uses what)
    ∙ misses-same (λ one. one.name) scope.values tables.values t.values (values_named what))))

-- ---- types

typed-same : (ty : TypeWord) (found : Option Naming) → type_fits ty (option_map (λ one. one.ty) found) ≡ naming_fits ty found
typed-same ty None = refl
typed-same ty (Some one) = refl

fits-same : (scope : Scope) (tables : Tables) → AreTables scope tables → (ty : TypeWord) (value : Val)
    → fits_in tables.values tables.types ty value ≡ fits scope ty value
fits-same scope tables t ty (values.local name) =
    ap (λ ns. type_fits ty (at_name ns tables.types name)) t.values
    ∙ ap (λ ts. type_fits ty (at_name (map (λ one. one.name) scope.values) ts name)) t.types
    ∙ ap (type_fits ty) (at-name (λ (one : Naming). one.name) (λ (one : Naming). one.ty) scope.values name)
    ∙ typed-same ty (value_named scope name)
fits-same scope tables t ty (values.number literal) = refl
fits-same scope tables t ty (values.truth said) = refl
fits-same scope tables t ty values.null = refl

map-itself : {X : Type 0} (xs : List X) → map (λ x. x) xs ≡ xs
map-itself [] = refl
map-itself (x ∷ xs) = ap (λ ys. x ∷ ys) (map-itself xs)

head-same : (scope : Scope) (tables : Tables) → AreTables scope tables → (name : List ℕ)
    → at_name tables.heads tables.head_list name ≡ head_named scope name
head-same scope tables t name =
    ap (λ ns. at_name ns tables.head_list name) t.heads
    ∙ ap (λ hs. at_name (map (λ one. one.name) scope.heads) hs name) (t.head_list ∙ sym (map-itself scope.heads))
    ∙ at-name (λ (one : Head). one.name) (λ (one : Head). one) scope.heads name
    ∙ option_map_id (head_named scope name)

starts-same : (scope : Scope) (tables : Tables) → AreTables scope tables → (passed : List Given) → task_starts tables passed ≡ starts_task scope passed
starts-same scope tables t [] = refl
starts-same scope tables t (given ty value ∷ passed) = refl
starts-same scope tables t (function name ∷ passed) = ap is_task (head-same scope tables t name)

operands-same : (form : Form) (scope : Scope) (tables : Tables) → AreTables scope tables → (callee : List ℕ) (passed : List Given)
    → operands_fit form tables callee passed ≡ takes_operands form scope callee passed
operands-same form scope tables t callee passed =
    ap
    (λ b. (not (bytes_eq callee (codes "task_start")) || b) && (is_source form || not (bytes_eq callee (codes "gc_check")) || checks_kind passed))
    (starts-same scope tables t passed)

call-same : (form : Form) (scope : Scope) (tables : Tables) → AreTables scope tables → (answer : TypeWord) (callee : List ℕ) (passed : List Given)
    → call_fits form tables answer callee passed ≡ call_agrees form scope answer callee passed
call-same form scope tables t answer callee passed =
    ap (λ found. agrees answer passed found && operands_fit form tables callee passed) (head-same scope tables t callee)
    ∙ ap (λ b. agrees answer passed (head_named scope callee) && b) (operands-same form scope tables t callee passed)

statepoint-same : (form : Form) (scope : Scope) (tables : Tables) → AreTables scope tables → (made : Guarded)
    → statepoint_fits form tables made ≡ statepoint_agrees form scope made
statepoint-same form scope tables t made =
    ap
    (λ b. b && (takes_types made.signature.parameters (at_name tables.heads tables.head_list made.callee) && literal_fits (Int 32) made.count))
    (call-same form scope tables t made.signature.answer made.callee made.passed)
    ∙ ap
    (λ found. call_agrees form scope made.signature.answer made.callee made.passed && (takes_types made.signature.parameters found && literal_fits (Int 32) made.count))
    (head-same scope tables t made.callee)

says-same : (form : Form) (scope : Scope) (tables : Tables) (what : Statement) → AreTables scope tables → says_wrong_in form tables what ≡ says_wrong form scope what
says-same form scope tables (call result made) t = ap not (call-same form scope tables t made.answer made.callee made.passed)
says-same form scope tables (statepoint result made live) t = ap not (statepoint-same form scope tables t made)
says-same form scope tables (cast result op from value to) t = ap not (fits-same scope tables t from value)
says-same form scope tables _ t = refl

pub spelled-same : (form : Form) (scope : Scope) (tables : Tables) (what : Statement) → AreTables scope tables
    → (after_line form tables nothing_lost what).misspelled ≡ misspells form scope what
spelled-same form scope tables what t =
    let outside = list_any (λ used. is_outside used.1 used.0) (uses what) in
    ap (λ (b : Bool). says_wrong_in form tables what || b) (uses-misspelled tables.values nothing_lost (uses what) ∙ or-false outside)
    ∙ or_comm (says_wrong_in form tables what) outside
    ∙ ap (λ (b : Bool). outside || b) (says-same form scope tables what t)
