-- The lines of a function by their places in the text: which instruction each is, and which value it gives.
use Rattle.std.proofs.Common.{◌≡◌, ℕ, ◌≤◌, Bool, true, false, if◌then◌else◌, List, [], length, take, refl, sym, ap, ◌∙◌, arith}
use Rattle.std.specs.Prelude.{Option, Some, None, is_some, slice_get, slice_index}
use Rattle.std.specs.Option.{option_map_or}
use Rattle.std.proofs.lemmas.Option.{none-some, same_Some, slice_get_within}
use Rattle.ir_ast.specs.Insts.{Instruction}
use Rattle.ir_ast.specs.Blocks.{BasicBlock}
use Rattle.ir_ast.specs.Funcs.{Function, instructions_of}
use Rattle.ir_ast.specs.Faults.GroupShape.{number_at}
use Rattle.ir_cfg.specs.DefiniteUses.{Defines, Stands, text_place}
use Rattle.object_meaning.specs.BlockLines.{lines_at}
use Rattle.object_meaning.specs.Lines.{Line, after_all, numbered, registers_of}
use Rattle.object_meaning.specs.TargetRuns.{plain_lines}
use Rattle.object_meaning.proofs.GivenLaws.{after_is}
use Rattle.object_meaning.proofs.LineLaws.{given_from, plain_at, plain_from, registers_at}
use Rattle.base_definite.proofs.CutLaws.{number_cut}

module _ (func : Function) where
  number_there : (number place : ℕ) (block : BasicBlock) → slice_get func.blocks number ≡ Some block → place ≤ length block.insts
      → after_all (slice_index (registers_of func) number) (take place block.insts) ≡ number_at func (text_place func number place)
  number_there number place block found within =
      let first = registers_at (length func.args) func.blocks number block found in
      let before = after_is (length func.args) (instructions_of (take number func.blocks)) in
      let here = after_is (slice_index (registers_of func) number) (take place block.insts) in
      let cut = number_cut func number place block found within in
      omega (arith, first, before, here, cut)

  pub lines_as : (number : ℕ) (found : Option BasicBlock) → slice_get func.blocks number ≡ found
      → lines_at func number ≡ plain_lines (slice_index (registers_of func) number) (option_map_or (λ block. block.insts) found [])
  lines_as number found is = ap (λ (here : Option BasicBlock). plain_lines (slice_index (registers_of func) number) (option_map_or (λ block. block.insts) here [])) is

  -- a line is an instruction of the block, and gives the value with its number
  pub record LineFrom (number place : ℕ) (line : Line) : Type 0 where
    pub stands : Stands func number place line.inst
    pub to : line.to ≡ given_from (number_at func (text_place func number place)) line.inst

  pub line_from : (number place : ℕ) (line : Line) → slice_get (lines_at func number) place ≡ Some line → LineFrom number place line
  line_from number place line at = by (slice_get func.blocks number) refl
    where
      by : (found : Option BasicBlock) → slice_get func.blocks number ≡ found → LineFrom number place line
      by None none =
          absurd (none-some line (sym (ap (λ (lines : List Line). slice_get lines place) (lines_as number None none)) ∙ at))
      by (Some block) found =
          let one = plain_from (slice_index (registers_of func) number) block.insts place line
          (sym (ap (λ (lines : List Line). slice_get lines place) (lines_as number (Some block) found)) ∙ at) in
          let within = slice_get_within block.insts place line.inst one.0 in
          record {
            stands = record { block = block; in_function = found; in_block = one.0 };
            to = one.1 ∙ ap (λ n. given_from n line.inst) (number_there number place block found (omega arith));
          }

  pub line_forth : (number place : ℕ) (inst : Instruction) → Stands func number place inst → (line : Line) × (slice_get (lines_at func number) place ≡ Some line) × (line.inst ≡ inst)
  line_forth number place inst stands =
      let next = slice_index (registers_of func) number in (
        numbered (after_all next (take place stands.block.insts)) inst,
        ap (λ (lines : List Line). slice_get lines place) (lines_as number (Some stands.block) stands.in_function) ∙ plain_at next stands.block.insts place inst stands.in_block,
        refl,
      )

  -- a line that writes a register defines the value with its number
  pub writes_own : (number place : ℕ) (line : Line) → LineFrom number place line → (value : ℕ) → line.to ≡ Some value → Defines func value number place
  writes_own number place line from value is = by (is_some line.inst.result) refl
    where
      by : (named : Bool) → is_some line.inst.result ≡ named → Defines func value number place
      by true named =
          let there : Some (number_at func (text_place func number place)) ≡ Some value =
          sym (from.to ∙ ap (λ b. if b then Some (number_at func (text_place func number place)) else None) named) ∙ is in
          record { inst = line.inst; stands = from.stands; named = named; numbered = same_Some (number_at func (text_place func number place)) value there }
      by false named =
          absurd (none-some value (sym (from.to ∙ ap (λ b. if b then Some (number_at func (text_place func number place)) else None) named) ∙ is))
