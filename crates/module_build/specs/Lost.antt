-- What a line loses: names that there aren't, literals outside their types, and what it spells besides; over the tables of
-- the code, names with what stands beside them.
use Rattle.std.specs.Prelude.{◌≡◌, ℕ, Bool, true, false, not, ◌&&◌, ◌||◌, List, [], ◌∷◌, ◌++◌, map, length, codes, Option, Some, None, is_none}
use Rattle.std.specs.Str.{bytes_eq}
use Rattle.line_parts.specs.Types.{TypeWord}
use Rattle.line_parts.specs.Types.{Int}
use Rattle.line_parts.specs.Parts.{Val}
use Rattle.line_parts.specs.Parts as values
use Rattle.line_parts.specs.Seen.{seen_type}
use Rattle.line_parts.specs.Lists.{Given, given, function}
use Rattle.ir_ast.specs.declared.modules.Form.{Form}
use Rattle.ir_ast.specs.declared.modules.Form.TheVariants.{Source, Rewritten}
use Rattle.module_build.specs.declared.lost.Lost.{Lost}
use Rattle.module_build.specs.declared.scope.Scope.{Scope as ScopeTable}
use Rattle.ir_lines.specs.Statements.{Guarded, Statement, select, layout_step, call, cast, statepoint}
use Rattle.ir_lines.specs.TextForms.{is_source}
use Rattle.ir_lines.specs.Parts.{uses, local_name, targets, entry_labels, functions_named, layouts_named}
use Rattle.ir_lines.specs.Places.{place_in}
use Rattle.ir_lines.specs.Sections.{Head}
use Rattle.ir_lines.specs.Types.{same_type, literal_fits, takes_null}
use Rattle.ir_lines.specs.Again.{at_name}
use Rattle.ir_lines.specs.Tables.{seen_head}
use Rattle.ir_lines.specs.Faults.TypeClash.{is_task, checks_kind, agrees, takes_types}
use Rattle.ir_lines.specs.Faults.PointerCast.{is_cast}
use Rattle.ir_lines.specs.Faults.GroupShape.{is_count}
use Rattle.ir_resolve.specs.TextFaults.{is_outside, is_below_zero}

pub record Tables : Type 0 where
  pub layouts : List (List ℕ)
  pub heads : List (List ℕ)
  pub head_list : List Head
  pub values : List (List ℕ)
  pub types : List TypeWord
  pub blocks : List (List ℕ)

abbrev pub tables_in : ScopeTable → Tables
tables_in scope = record {
  layouts = scope.top.now.layouts;
  heads = scope.top.now.heads;
  head_list = map seen_head scope.top.now.head_list.items;
  values = scope.local.now.values;
  types = map seen_type scope.local.now.types.items;
  blocks = scope.local.now.blocks;
}

-- ---- names and literals

-- a name, where there is one, that isn't among these
abbrev pub is_missing : List (List ℕ) → Option (List ℕ) → Bool
is_missing names None = false
is_missing names (Some name) = is_none (place_in names name)

-- what is lost behind the use of a value, where these are the names of all
abbrev pub after_use : List (List ℕ) → Lost → Val × TypeWord → Lost
after_use names lost used = record {
  unknown = is_missing names (local_name used.0) || lost.unknown;
  misspelled = is_outside used.1 used.0 || lost.misspelled;
}

abbrev pub after_uses : List (List ℕ) → Lost → List (Val × TypeWord) → Lost
after_uses names lost [] = lost
after_uses names lost (used ∷ more) = after_uses names (after_use names lost used) more

-- whether a name is unknown behind these, which are looked for among the others
abbrev pub after_names : List (List ℕ) → Bool → List (List ℕ) → Bool
after_names names unknown [] = unknown
after_names names unknown (name ∷ more) = after_names names (is_none (place_in names name) || unknown) more

abbrev pub after_named : List (List ℕ) → List (List ℕ) → Lost → Lost
after_named names wanted lost = record { unknown = after_names names lost.unknown wanted; misspelled = lost.misspelled }

-- and behind what is spelled wrong besides
abbrev pub after_spelling : Bool → Lost → Lost
after_spelling wrong lost = record { unknown = lost.unknown; misspelled = wrong || lost.misspelled }

-- ---- types

abbrev pub type_fits : TypeWord → Option TypeWord → Bool
type_fits ty None = true
type_fits ty (Some given_type) = same_type given_type ty

-- among these values with their types
abbrev pub fits_in : List (List ℕ) → List TypeWord → TypeWord → Val → Bool
fits_in names types ty (values.local name) = type_fits ty (at_name names types name)
fits_in names types ty (values.number literal) = literal_fits ty literal
fits_in names types ty (values.truth said) = same_type ty (Int 1)
fits_in names types ty values.null = takes_null ty

abbrev pub starts_at : Tables → Given → Bool
starts_at tables (given ty value) = false
starts_at tables (function name) = is_task (at_name tables.heads tables.head_list name)

abbrev pub task_starts : Tables → List Given → Bool
task_starts tables [] = true
task_starts tables (one ∷ passed) = starts_at tables one

abbrev pub operands_fit : Form → Tables → List ℕ → List Given → Bool
operands_fit form tables callee passed =
    (not (bytes_eq callee (codes "task_start")) || task_starts tables passed)
    && (is_source form || not (bytes_eq callee (codes "gc_check")) || checks_kind passed)

abbrev pub call_fits : Form → Tables → TypeWord → List ℕ → List Given → Bool
call_fits form tables answer callee passed =
    agrees answer passed (at_name tables.heads tables.head_list callee) && operands_fit form tables callee passed

abbrev pub statepoint_fits : Form → Tables → Guarded → Bool
statepoint_fits form tables made =
    call_fits form tables made.signature.answer made.callee made.passed
    && (takes_types made.signature.parameters (at_name tables.heads tables.head_list made.callee) && literal_fits (Int 32) made.count)

-- what a line spells besides its names and literals
abbrev pub says_wrong_in : Form → Tables → Statement → Bool
says_wrong_in form tables (select result condition left_ty left right_ty right) = not (same_type left_ty right_ty)
says_wrong_in form tables (layout_step result named address width index place) = is_below_zero place
says_wrong_in form tables (call result made) = not (call_fits form tables made.answer made.callee made.passed)
says_wrong_in form tables (statepoint result made live) = not (statepoint_fits form tables made)
says_wrong_in form tables (cast result op from value to) = not (fits_in tables.values tables.types from value)
says_wrong_in form tables _ = false

-- ---- a line

-- what is lost behind a line
abbrev pub after_line : Form → Tables → Lost → Statement → Lost
after_line form tables lost what =
    after_spelling (says_wrong_in form tables what)
    (after_named tables.layouts (layouts_named what)
    (after_named tables.heads (functions_named what)
    (after_named tables.blocks (targets what ++ entry_labels what) (after_uses tables.values lost (uses what)))))

abbrev pub nothing_lost : Lost
nothing_lost = record { unknown = false; misspelled = false }

-- a statepoint that spells another number of arguments than it has; only the rewritten form has statepoints
abbrev pub spells_wrong_count : Statement → Bool
spells_wrong_count (statepoint result made live) = not (is_count made.count (length made.passed))
spells_wrong_count _ = false

abbrev pub miscounts_in : Form → Statement → Bool
miscounts_in Source what = false
miscounts_in Rewritten what = spells_wrong_count what

-- the codes of a line by what its tests say
pub data LostBy (unknown misspelled conversion miscounted : Bool) (code : ℕ) : Type 0 where
  unknown_name : code ≡ 4 → unknown ≡ true → LostBy unknown misspelled conversion miscounted code
  spelled_wrong : code ≡ 5 → misspelled ≡ true → LostBy unknown misspelled conversion miscounted code
  pointer_cast : code ≡ 16 → conversion ≡ true → LostBy unknown misspelled conversion miscounted code
  counted_wrong : code ≡ 18 → miscounted ≡ true → LostBy unknown misspelled conversion miscounted code

abbrev pub LostIn : Form → Tables → Statement → ℕ → Type 0
LostIn form tables what code =
    LostBy (after_line form tables nothing_lost what).unknown (after_line form tables nothing_lost what).misspelled (is_cast what) (miscounts_in form what) code
