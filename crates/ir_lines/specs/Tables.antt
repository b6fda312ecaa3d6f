-- What the tables of the code hold: the definitions, blocks and heads that they list, and when they are those of lines.
use Rattle.std.specs.Prelude.{◌≡◌, List, ◌++◌, map, filter, length}
use Rattle.std.specs.Option.{option_copied}
use Rattle.line_parts.specs.Seen.{seen_type, seen_argument}
use Rattle.ir_lines.specs.declared.sections.Definition.{Definition as DefinitionTable}
use Rattle.ir_lines.specs.declared.sections.BlockLines.{BlockLines as BlockTable}
use Rattle.ir_lines.specs.declared.scope.Head.{Head as HeadTable}
use Rattle.ir_lines.specs.declared.scope.Top.{Top}
use Rattle.ir_lines.specs.declared.scope.Local.{Local}
use Rattle.ir_lines.specs.Statements.{Line}
use Rattle.ir_lines.specs.Sections.{LayoutLine, Head, Definition, Naming, BlockLines, types_of, layouts_of, heads_of, definitions_of, values_of, blocks_of}
use Rattle.ir_lines.specs.Views.{seen_lines}

abbrev pub seen_definition : DefinitionTable → Definition
seen_definition func = record {
  line = func.line;
  answer = seen_type func.answer;
  name = func.name.now;
  arguments = map seen_argument func.arguments.now;
  strategy = option_copied func.strategy;
  body = seen_lines func.body.now;
}

abbrev pub seen_block : BlockTable → BlockLines
seen_block block = record { line = block.line; name = block.name.now; lines = seen_lines block.lines.now }

abbrev pub seen_head : HeadTable → Head
seen_head head = record {
  line = head.line;
  defined = head.defined;
  name = head.name.now;
  answer = seen_type head.answer;
  parameters = types_of (map seen_argument head.parameters.now);
}

-- the table of what the lines of all functions can name
pub record IsTop (lines : List Line) (top : Top) : Type 0 where
  pub layouts : top.layouts ≡ map (λ one. one.name) (layouts_of lines)
  pub fields : top.fields.items ≡ map (λ one. length one.fields) (layouts_of lines)
  pub heads : top.heads ≡ map (λ one. one.name) (heads_of lines)
  pub head_list : map seen_head top.head_list.items ≡ heads_of lines
  pub functions : top.functions ≡ map (λ one. one.name) (definitions_of lines)

-- the table of what the lines of this function can name besides
pub record IsLocal (func : Definition) (local : Local) : Type 0 where
  pub values : local.values ≡ map (λ one. one.name) (values_of func)
  pub types : map seen_type local.types.items ≡ map (λ one. one.ty) (values_of func)
  pub blocks : local.blocks ≡ map (λ one. one.name) (blocks_of func)
  pub answer : seen_type local.answer ≡ func.answer

-- ---- one step of filling a table

pub record AddsLayouts (old new : Top) (added : List LayoutLine) : Type 0 where
  pub layouts : new.layouts ≡ old.layouts ++ map (λ one. one.name) added
  pub fields : new.fields.items ≡ old.fields.items ++ map (λ one. length one.fields) added
  pub heads : new.heads ≡ old.heads
  pub head_list : new.head_list.items ≡ old.head_list.items
  pub functions : new.functions ≡ old.functions

pub record AddsHeads (old new : Top) (added : List Head) : Type 0 where
  pub layouts : new.layouts ≡ old.layouts
  pub fields : new.fields.items ≡ old.fields.items
  pub heads : new.heads ≡ old.heads ++ map (λ one. one.name) added
  pub head_list : map seen_head new.head_list.items ≡ map seen_head old.head_list.items ++ added
  pub functions : new.functions ≡ old.functions ++ map (λ one. one.name) (filter (λ one. one.defined) added)

pub record AddsValues (old new : Local) (added : List Naming) : Type 0 where
  pub values : new.values ≡ old.values ++ map (λ one. one.name) added
  pub types : map seen_type new.types.items ≡ map seen_type old.types.items ++ map (λ one. one.ty) added
  pub blocks : new.blocks ≡ old.blocks
  pub answer : new.answer ≡ old.answer

pub record AddsBlocks (old new : Local) (added : List BlockLines) : Type 0 where
  pub values : new.values ≡ old.values
  pub types : new.types.items ≡ old.types.items
  pub blocks : new.blocks ≡ old.blocks ++ map (λ one. one.name) added
  pub answer : new.answer ≡ old.answer
