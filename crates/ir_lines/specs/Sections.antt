-- The parts of a list of lines: layouts, heads, definitions, and of a definition its values and its blocks.
use Rattle.std.specs.Prelude.{ℕ, Bool, true, false, not, ◌&&◌, ◌==◌, nat_le, List, [], ◌∷◌, ◌++◌, map, flat_map, take_while, length, count_by, decimal, Option, Some, None, unwrap_or, if◌then◌else◌}
use Rattle.std.specs.List.{list_all}
use Rattle.line_parts.specs.Types.{TypeWord}
use Rattle.line_parts.specs.Lists.{Named}
use Rattle.ir_lines.specs.Statements.{Statement, Line, layout, declare, define, close, label, switch_case}
use Rattle.ir_lines.specs.Parts.{gives}

-- ---- layouts

pub record LayoutLine : Type 0 where
  pub line : ℕ
  pub name : List ℕ
  pub fields : List TypeWord

abbrev pub layout_said : ℕ → Statement → List LayoutLine
layout_said line (layout name fields) = record { line = line; name = name; fields = fields } ∷ []
layout_said line _ = []

abbrev pub layouts_of : List Line → List LayoutLine
layouts_of lines = flat_map (λ l. layout_said l.number l.says) lines

-- ---- heads: declarations and definitions, one space of names

pub record Head : Type 0 where
  pub line : ℕ
  pub defined : Bool
  pub name : List ℕ
  pub answer : TypeWord
  pub parameters : List TypeWord

abbrev pub types_of : List Named → List TypeWord
types_of named = map (λ one. one.ty) named

abbrev pub head_said : ℕ → Statement → List Head
head_said line (declare answer name parameters) =
    record { line = line; defined = false; name = name; answer = answer; parameters = types_of parameters } ∷ []
head_said line (define answer name arguments strategy) =
    record { line = line; defined = true; name = name; answer = answer; parameters = types_of arguments } ∷ []
head_said line _ = []

abbrev pub heads_of : List Line → List Head
heads_of lines = flat_map (λ l. head_said l.number l.says) lines

-- ---- definitions

pub record Definition : Type 0 where
  pub line : ℕ
  pub answer : TypeWord
  pub name : List ℕ
  pub arguments : List Named
  pub strategy : Option (List ℕ)
  -- the lines between the head and the closing brace
  pub body : List Line

abbrev pub is_close : Statement → Bool
is_close close = true
is_close _ = false

abbrev pub definition_said : ℕ → Statement → List Line → List Definition
definition_said line (define answer name arguments strategy) after = record {
  line = line;
  answer = answer;
  name = name;
  arguments = arguments;
  strategy = strategy;
  body = take_while (λ l. not (is_close l.says)) after;
} ∷ []
definition_said line _ after = []

abbrev pub definitions_of : List Line → List Definition
definitions_of [] = []
definitions_of (l ∷ ls) = definition_said l.number l.says ls ++ definitions_of ls

-- ---- names that a definition doesn't spell

abbrev pub is_digit : ℕ → Bool
is_digit byte = nat_le 48 byte && nat_le byte 57

abbrev pub is_number : List ℕ → Bool
is_number name = not (length name == 0) && list_all is_digit name

-- its name lacks or is a number
abbrev pub is_numbered : Option (List ℕ) → Bool
is_numbered None = true
is_numbered (Some name) = is_number name

abbrev pub count_numbered : List Named → ℕ
count_numbered arguments = count_by (λ one. is_numbered one.name) arguments

-- ---- values: arguments, and then the results of lines

pub record Naming : Type 0 where
  pub line : ℕ
  pub name : List ℕ
  pub ty : TypeWord

-- an argument without a name has as its name the number of those before it whose name lacks or is a number
abbrev pub arguments_named : ℕ → List Named → List Named → List Naming
arguments_named line before [] = []
arguments_named line before (one ∷ more) =
    record { line = line; name = unwrap_or one.name (decimal (count_numbered before)); ty = one.ty }
    ∷ arguments_named line (before ++ one ∷ []) more

abbrev pub result_named : ℕ → Option (List ℕ × TypeWord) → List Naming
result_named line None = []
result_named line (Some (name, ty)) = record { line = line; name = name; ty = ty } ∷ []

-- the arguments of a function, and the results of these lines of it
abbrev pub values_before : Definition → List Line → List Naming
values_before func lines =
    arguments_named func.line [] func.arguments ++ flat_map (λ l. result_named l.number (gives l.says)) lines

abbrev pub values_of : Definition → List Naming
values_of func = values_before func func.body

-- ---- blocks

-- a block by its lines, with the line of its label, or that of the head where the first block has none
pub record BlockLines : Type 0 where
  pub line : ℕ
  pub name : List ℕ
  pub lines : List Line

abbrev pub label_said : Statement → Option (List ℕ)
label_said (label name) = Some name
label_said _ = None

abbrev pub is_label : Statement → Bool
is_label (label name) = true
is_label _ = false

abbrev pub until_label : List Line → List Line
until_label lines = take_while (λ l. not (is_label l.says)) lines

abbrev pub block_at : ℕ → Option (List ℕ) → List Line → List BlockLines
block_at line None after = []
block_at line (Some name) after = record { line = line; name = name; lines = until_label after } ∷ []

abbrev pub labelled_blocks : List Line → List BlockLines
labelled_blocks [] = []
labelled_blocks (l ∷ ls) = block_at l.number (label_said l.says) ls ++ labelled_blocks ls

-- a first block without a label has as its name the number of arguments whose name lacks or is a number
abbrev pub first_block : Definition → List Line → List BlockLines
first_block func [] = []
first_block func (l ∷ ls) =
    if is_label l.says then []
    else record { line = func.line; name = decimal (count_numbered func.arguments); lines = until_label (l ∷ ls) } ∷ []

abbrev pub blocks_of : Definition → List BlockLines
blocks_of func = first_block func func.body ++ labelled_blocks func.body

-- ---- the cases of a `switch`: those directly behind it

abbrev pub is_case : Statement → Bool
is_case (switch_case width value to) = true
is_case _ = false

abbrev pub cases_of : List Line → List Line
cases_of [] = []
cases_of (l ∷ ls) = if is_case l.says then l ∷ cases_of ls else []
