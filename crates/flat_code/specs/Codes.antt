-- A module whose functions are decoded.
use Rattle.std.specs.Prelude.{◌≡◌, ℕ, ◌+◌, ◌<◌, length, List, [], ◌∷◌, Option, Some, MatchOption, slice_get, slice_index_or}
use Rattle.std.specs.Option.{option_map_or}
use Rattle.ir_ast.specs.Funcs.{Function as IrFunction}
use Rattle.ir_ast.specs.Modules.{ModuleContent}
use Rattle.object_meaning.specs.Lines.{Line, poll, insts_of, lines_of}
use Rattle.flat_code.specs.declared.lines.Exit.{Exit}
use Rattle.flat_code.specs.declared.lines.Segment.{Segment}
use Rattle.flat_code.specs.declared.lines.Function.{Function}
use Rattle.flat_code.specs.Spots.{lines_at, behind_phis, AllReady}
use Rattle.flat_code.specs.Segments.{IsExit, IsSegment, IsFunction}

-- what the decoder asks for: lines of the source form
abbrev pub IsReadyModule : ModuleContent → Type 0
IsReadyModule content = (func block : ℕ) → AllReady (insts_of content func block)

-- the functions of a module by number, and what stands for each other number: a function without lines
pub record FlatModule : Type 0 where
  pub content : ModuleContent
  pub functions : List Function
  pub nowhere : Function

abbrev pub defined_at : FlatModule → ℕ → Option IrFunction
defined_at code func = slice_get code.content.funcs func

abbrev pub function_at : FlatModule → ℕ → Function
function_at code func = slice_index_or code.functions func code.nowhere

pub record AreFunctions (code : FlatModule) : Type 0 where
  pub each : (func : ℕ) → IsFunction code.content.layouts (defined_at code func) (function_at code func)

abbrev pub segment_at : FlatModule → ℕ → ℕ → Option Segment
segment_at code func place = slice_get (function_at code func).segments.items place

-- the block of a segment, and the lines at its front and at its exit
abbrev pub block_at : FlatModule → ℕ → ℕ → ℕ
block_at code func place = option_map_or (λ segment. segment.start.block) (segment_at code func place) 0

abbrev pub front_lines : FlatModule → ℕ → ℕ → List Line
front_lines code func place =
    option_map_or (λ segment. lines_at (defined_at code func) segment.start) (segment_at code func place) []

abbrev pub exit_lines : FlatModule → ℕ → ℕ → List Line
exit_lines code func place =
    option_map_or (λ segment. lines_at (defined_at code func) segment.end) (segment_at code func place) []

-- the exit of a segment is that of its line, behind which the next segment stands
pub record Leaves (code : FlatModule) (func place : ℕ) (segment : Segment) (exit : Exit) : Type 0 where
  pub line : Line
  pub is : lines_at (defined_at code func) segment.end ≡ line ∷ front_lines code func (place + 1)
  pub block : block_at code func (place + 1) ≡ segment.start.block
  pub to_is : line.to ≡ segment.to
  pub operands_are : line.inst.operands ≡ segment.operands.items
  pub exit_is : IsExit (defined_at code func) segment.start.block line.inst exit

-- the segment at a place
pub record Fits (code : FlatModule) (func place : ℕ) (segment : Segment) : Type 0 where
  pub there : segment_at code func place ≡ Some segment
  pub fits : IsSegment code.content.layouts (defined_at code func) segment
  pub leads : MatchOption segment.exit (lines_at (defined_at code func) segment.end ≡ []) (Leaves code func place segment)

-- the front of a function
pub record HasFront (code : FlatModule) (func : ℕ) : Type 0 where
  pub lines : front_lines code func 0 ≡ poll ∷ lines_of code.content func 0
  pub block : block_at code func 0 ≡ 0

-- the segment behind the phis of a block
pub record Begins (code : FlatModule) (func block place : ℕ) : Type 0 where
  pub lines : front_lines code func place ≡ lines_at (defined_at code func) (behind_phis (defined_at code func) block)
  pub block_is : block_at code func place ≡ block

-- these are the decoded functions of a module
pub record AreDecoded (content : ModuleContent) (functions : List Function) : Type 0 where
  pub count : length functions ≡ length content.funcs
  pub each : (func : ℕ) (d : Function) → func < length functions
      → IsFunction content.layouts (slice_get content.funcs func) (slice_index_or functions func d)
