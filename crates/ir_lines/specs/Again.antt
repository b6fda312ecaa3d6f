-- Names that are given again, and names of inserted values: what is found where names are added behind others.
use Rattle.std.specs.Prelude.{◌≡◌, ℕ, ◌⊎◌, List, ◌∷◌, ◌++◌, map, flat_map, slice_get, Option}
use Rattle.std.specs.List.{Contains}
use Rattle.std.specs.Option.{option_and_then}
use Rattle.line_parts.specs.Types.{TypeWord}
use Rattle.ir_ast.specs.declared.modules.Form.{Form}
use Rattle.ir_ast.specs.declared.modules.Form.TheVariants.{Source}
use Rattle.ir_ast.specs.Faults.Reserved.{IsInsertedName}
use Rattle.ir_lines.specs.Parts.{gives}
use Rattle.ir_lines.specs.InBody.{Repeats}
use Rattle.ir_lines.specs.Places.{place_in}
use Rattle.ir_lines.specs.Statements.{Line}
use Rattle.ir_lines.specs.Sections.{LayoutLine, Head, Naming, BlockLines, Definition, layouts_of, heads_of, result_named, values_of, blocks_of}

-- what stands beside the first of the name
abbrev pub at_name : {A : Type 0} → List (List ℕ) → List A → List ℕ → Option A
at_name names xs name = option_and_then (slice_get xs) (place_in names name)

-- the lines that give names, each with its name
abbrev pub named_layouts : List LayoutLine → List (ℕ × List ℕ)
named_layouts layouts = map (λ one. (one.line, one.name)) layouts

abbrev pub named_heads : List Head → List (ℕ × List ℕ)
named_heads heads = map (λ one. (one.line, one.name)) heads

abbrev pub named_values : List Naming → List (ℕ × List ℕ)
named_values values = map (λ one. (one.line, one.name)) values

abbrev pub named_blocks : List BlockLines → List (ℕ × List ℕ)
named_blocks blocks = map (λ one. (one.line, one.name)) blocks

abbrev pub layout_line : ℕ → List ℕ → List TypeWord → LayoutLine
layout_line line name fields = record { line = line; name = name; fields = fields }

-- what the lines of a function give
abbrev pub results_of : List Line → List Naming
results_of lines = flat_map (λ l. result_named l.number (gives l.says)) lines

-- added one after another behind these names, the line gives one that is at fault behind those before it
pub record FoundAfter (fault : List (List ℕ) → List ℕ → ℕ → Type 0) (names : List (List ℕ)) (added : List (ℕ × List ℕ)) (line code : ℕ) : Type 0 where
  pub before : List (ℕ × List ℕ)
  pub name : List ℕ
  pub after : List (ℕ × List ℕ)
  pub whole : added ≡ before ++ (line, name) ∷ after
  pub faulty : fault (names ++ map (λ one. one.1) before) name code

-- code 3: one of these names
abbrev pub IsAgain : List (List ℕ) → List ℕ → ℕ → Type 0
IsAgain names name code = (code ≡ 3) × Contains names name

-- and code 14, in the source form: the name of an inserted value or label
abbrev pub IsBadName : Form → List (List ℕ) → List ℕ → ℕ → Type 0
IsBadName form names name code = IsAgain names name code ⊎ ((code ≡ 14) × (form ≡ Source) × IsInsertedName name)

-- the line gives a name of an inserted value or label
pub record NamesInserted (added : List (ℕ × List ℕ)) (line : ℕ) : Type 0 where
  pub name : List ℕ
  pub given : Contains added (line, name)
  pub inserted : IsInsertedName name

-- what these names of values or of labels have
abbrev pub NamesFound : Form → List (ℕ × List ℕ) → ℕ → ℕ → Type 0
NamesFound form given line code = ((code ≡ 3) × Repeats given line) ⊎ ((code ≡ 14) × (form ≡ Source) × NamesInserted given line)

-- a layout or a head whose name an earlier one has
abbrev pub TopAgain : List Line → ℕ → ℕ → Type 0
TopAgain lines line code =
    (code ≡ 3) × (Repeats (named_layouts (layouts_of lines)) line ⊎ Repeats (named_heads (heads_of lines)) line)

-- what the names of the values and of the labels of a definition have
abbrev pub FoundByNames : Form → Definition → ℕ → ℕ → Type 0
FoundByNames form func line code =
    NamesFound form (named_values (values_of func)) line code ⊎ NamesFound form (named_blocks (blocks_of func)) line code
