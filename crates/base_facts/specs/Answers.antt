-- Asks of pairs, and what answers them.
use Rattle.std.specs.Prelude.{◌≡◌, ◌<◌, ◌≤◌, Bool, false, length, MatchBool}
use Rattle.ir_ast.specs.Funcs.{Function}
use Rattle.object_meaning.specs.Frames.{is_member}
use Rattle.pair_facts.specs.Lines.{lines_at, line_in}
use Rattle.pair_facts.specs.Paths.{Stands, Misses}
use Rattle.base_facts.specs.declared.asks.Ask.{Ask}

-- the place is one of the block, or its end, and before no result or relocate
pub record IsAskable (func : Function) (ask : Ask) : Type 0 where
  pub block_inside : ask.block.0 < length func.blocks
  pub place_inside : ask.place ≤ length (lines_at func ask.block.0)
  pub outside : is_member (line_in (lines_at func ask.block.0) ask.place).inst.op ≡ false

-- yes where the pair stands on every path to its place, and no where it doesn't on some path
abbrev pub IsAnswered : Function → Ask → Bool → Type 0
IsAnswered func ask answer =
    MatchBool answer (Stands func ask.block.0 ask.place ask.pointer ask.base) (Misses func ask.block.0 ask.place ask.pointer ask.base)
