-- A line of a block among all instructions of its function.
use Rattle.std.proofs.Common.{◌≡◌, ℕ, zero, suc, ◌+◌, List, [], ◌∷◌, ◌++◌, length, take, sym, ap, ◌∙◌, arith, Some}
use Rattle.std.specs.Prelude.{slice_get, slice_index}
use Rattle.std.specs.Option.{option_map_or}
use Rattle.std.proofs.lemmas.List.{length-append}
use Rattle.std.proofs.lemmas.Option.{none-some, same_Some}
use Rattle.list_laws.proofs.Places.{get_front, get_past}
use Rattle.ir_ast.specs.Blocks.{BasicBlock}
use Rattle.ir_ast.specs.Funcs.{Function, instructions_of}
use Rattle.ir_ast.specs.Insts.{Instruction}
use Rattle.ir_cfg.specs.DefiniteUses.{text_place}
use Rattle.object_meaning.specs.Lines.{Line, following, insts_in, numbered, registers_of}
use Rattle.object_meaning.specs.TargetRuns.{plain_lines}
use Rattle.pair_facts.specs.Lines.{lines_at}
use Rattle.object_meaning.proofs.LineLaws.{plain_from}

in_text : (blocks : List BasicBlock) (number place : ℕ) (inst : Instruction)
    → slice_get (option_map_or (λ (block : BasicBlock). block.insts) (slice_get blocks number) []) place ≡ Some inst
    → slice_get (instructions_of blocks) (length (instructions_of (take number blocks)) + place) ≡ Some inst
in_text [] number place inst is = absurd (none-some inst is)
in_text (block ∷ blocks) zero place inst is =
    let same : 0 + place ≡ place = omega arith in
    ap (slice_get (instructions_of (block ∷ blocks))) same ∙ get_front block.insts (instructions_of blocks) place inst is
in_text (block ∷ blocks) (suc number) place inst is =
    let before = length (instructions_of (take number blocks)) in
    let long = length-append block.insts (instructions_of (take number blocks)) in
    let same : length (block.insts ++ instructions_of (take number blocks)) + place ≡ length block.insts + (before + place) = omega arith in
    ap (slice_get (instructions_of (block ∷ blocks))) same
    ∙ (get_past block.insts (instructions_of blocks) (before + place) ∙ in_text blocks number place inst is)

-- the line at a place of a block is that of its text place
pub line_in_text : (func : Function) (block place : ℕ) (line : Line) → slice_get (lines_at func block) place ≡ Some line
    → slice_get (instructions_of func.blocks) (text_place func block place) ≡ Some line.inst
line_in_text func block place line is =
    in_text func.blocks block place line.inst (plain_from (slice_index (registers_of func) block) (insts_in func block) place line is).0
