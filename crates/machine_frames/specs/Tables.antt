-- What is made once of each function: how many instructions stand before each block, the first register of each, and the blocks
-- as jumps come to them.
use Rattle.std.specs.Prelude.{◌≡◌, ℕ, ◌+◌, ◌-◌, ◌<◌, ◌≤◌, ◌^◌, List, [], ◌∷◌, length, map, slice_index, slice_index_or}
use Rattle.std.specs.List.{All}
use Rattle.ir_ast.specs.Blocks.{BasicBlock}
use Rattle.ir_ast.specs.Funcs.{Function, instructions_of}
use Rattle.ir_ast.specs.Modules.{ModuleContent}
use Rattle.object_meaning.specs.Lines.{after_all, first_register, insts_of, registers_of}
use Rattle.frame_forms.specs.ModuleLayouts.{FunctionLayout, layout_of}
use Rattle.machine_frames.specs.Landings.{Site}

pub record Tabled : Type 0 where
  pub befores : List ℕ
  pub firsts : List ℕ
  pub sites : List Site

-- how many instructions stand before each block, and last how many there are
abbrev pub befores_from : ℕ → List BasicBlock → List ℕ
befores_from count [] = count ∷ []
befores_from count (block ∷ blocks) = count ∷ befores_from (count + length block.insts) blocks

abbrev pub sites_from : ℕ → List BasicBlock → List Site
sites_from next [] = []
sites_from next (block ∷ blocks) = record { first = next; insts = block.insts } ∷ sites_from (after_all next block.insts) blocks

abbrev pub sites_of : Function → List Site
sites_of func = sites_from (length func.args) func.blocks

-- a block of a module
abbrev pub site_of : ModuleContent → ℕ → ℕ → Site
site_of content func block = record { first = first_register content func block; insts = insts_of content func block }

-- the table of a function
abbrev pub table_of : Function → Tabled
table_of func = record {
  befores = befores_from 0 func.blocks;
  firsts = registers_of func;
  sites = sites_of func;
}

-- how many instructions stand before a block; all, where there is no such block
abbrev pub before_in : List ℕ → ℕ → ℕ
before_in befores block = slice_index_or befores block (slice_index befores (length befores - 1))

abbrev pub IsSmallFunction : Function → Type 0
IsSmallFunction func = length (instructions_of func.blocks) < 2 ^ 30

-- the layout and the tables of a module, whose code is small
pub record AreOf (content : ModuleContent) (laid : List FunctionLayout) (tables : List Tabled) : Type 0 where
  pub laid_is : laid ≡ layout_of content
  pub tables_are : tables ≡ map table_of content.funcs
  pub few : length content.funcs ≤ 4096
  pub small : All IsSmallFunction content.funcs
