-- A line's value has the name that its instruction gives it.
use Rattle.std.proofs.Common.{◌≡◌, ℕ, zero, suc, ◌+◌, true, if◌then◌else◌, List, [], ◌∷◌, ◌++◌, length, drop, refl, ap, append_assoc, ◌∙◌, Some, None, Option, slice_get}
use Rattle.std.specs.Prelude.{is_some, slice_index, unwrap_or}
use Rattle.std.specs.Option.{option_map, option_map_or}
use Rattle.ir_ast.specs.Insts.{Instruction}
use Rattle.ir_ast.specs.Blocks.{BasicBlock}
use Rattle.ir_ast.specs.Funcs.{Function, instructions_of}
use Rattle.ir_ast.specs.Values.{Definition, outcome, definition_name, definitions_of}
use Rattle.object_meaning.specs.Lines.{Line, after_all, first_registers, following, numbered}
use Rattle.object_meaning.specs.TargetRuns.{plain_lines}
use Rattle.object_meaning.proofs.GivenLaws.{drop_all, drop_given, given_append, given_by, results_last}
use Rattle.rewriting_forms.specs.Numbered.{lines_at}
use Rattle.rewriting_forms.specs.Rewritten.{old_name}

module _ (func : Function) where
  abbrev IsNamed : Line → Type 0
  IsNamed line = option_map (old_name func) line.to ≡ line.inst.result

  named_by : (next : ℕ) (inst : Instruction) (result : Option (List ℕ)) → inst.result ≡ result
      → (is_some result ≡ true → slice_get (definitions_of func) next ≡ Some (outcome inst))
      → option_map (old_name func) (if is_some result then Some next else None) ≡ result
  named_by next inst None is given = refl
  named_by next inst (Some name) is given =
      ap (λ (d : Option Definition). Some (option_map_or definition_name d [])) (given refl) ∙ ap (λ (r : Option (List ℕ)). Some (unwrap_or r [])) is

  line_named : (next k : ℕ) (line : Line) (insts : List Instruction) (after : List Definition) → drop next (definitions_of func) ≡ given_by insts ++ after
      → slice_get (plain_lines next insts) k ≡ Some line → IsNamed line
  line_named next k line [] after given stands = absurd cc
  line_named next zero line (inst ∷ insts) after given stands =
      let here = (drop_given (definitions_of func) next inst insts after given).0 in
      let is : numbered next inst ≡ line = cc in
      rw (← is) (named_by next inst inst.result refl here)
  line_named next (suc k) line (inst ∷ insts) after given stands =
      line_named (following next inst) k line insts after (drop_given (definitions_of func) next inst insts after given).1 stands

  first_given : (next : ℕ) (block : BasicBlock) (blocks : List BasicBlock) (after : List Definition)
      → drop next (definitions_of func) ≡ given_by (instructions_of (block ∷ blocks)) ++ after
      → drop next (definitions_of func) ≡ given_by block.insts ++ (given_by (instructions_of blocks) ++ after)
  first_given next block blocks after given =
      given ∙ ap (λ (ds : List Definition). ds ++ after) (given_append block.insts (instructions_of blocks))
      ∙ append_assoc (given_by block.insts) (given_by (instructions_of blocks)) after

  block_named : (next b k : ℕ) (line : Line) (blocks : List BasicBlock) (after : List Definition)
      → drop next (definitions_of func) ≡ given_by (instructions_of blocks) ++ after
      → slice_get (plain_lines (slice_index (first_registers next blocks) b) (option_map_or (λ (block : BasicBlock). block.insts) (slice_get blocks b) [])) k ≡ Some line
      → IsNamed line
  block_named next b k line [] after given stands = absurd cc
  block_named next zero k line (block ∷ blocks) after given stands =
      line_named next k line block.insts (given_by (instructions_of blocks) ++ after) (first_given next block blocks after given) stands
  block_named next (suc b) k line (block ∷ blocks) after given stands =
      block_named (after_all next block.insts) b k line blocks after
      (drop_all (definitions_of func) next block.insts (given_by (instructions_of blocks) ++ after) (first_given next block blocks after given)) stands

  pub old_name_is : (b k : ℕ) (line : Line) → slice_get (lines_at func b) k ≡ Some line → option_map (old_name func) line.to ≡ line.inst.result
  old_name_is b k line stands = block_named (length func.args) b k line func.blocks [] (results_last func) stands
