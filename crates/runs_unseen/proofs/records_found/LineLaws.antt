-- The lines of a block are its instructions, and so are groups and their pairs.
use Rattle.std.proofs.Common.{◌≡◌, ◌∙◌, ℕ, suc, List, [], ◌∷◌, map, drop, take, length, refl, ap, sym, Some, slice_get}
use Rattle.std.specs.Prelude.{slice_index, if◌then◌else◌}
use Rattle.std.specs.List.{prefix_len}
use Rattle.std.proofs.lemmas.List.{drop-map, length-map, take-map}
use Rattle.list_laws.proofs.Places.{get_map}
use Rattle.ir_ast.specs.Funcs.{Function}
use Rattle.ir_ast.specs.Insts.{Instruction}
use Rattle.frame_walk.specs.Maps.{Pair}
use Rattle.object_meaning.specs.Frames.{group_length, index_in, is_member}
use Rattle.object_meaning.specs.Lines.{Line, following, insts_in, registers_of}
use Rattle.object_meaning.specs.TargetRuns.{plain_lines}
use Rattle.pair_facts.specs.Lines.{group_in, is_relocate, lines_at}
use Rattle.runs_unseen.proofs.records_found.ListLaws.{prefix_of_images}

abbrev pub own : Line → Instruction
own line = line.inst

own_of : (next : ℕ) (insts : List Instruction) → map own (plain_lines next insts) ≡ insts
own_of next [] = refl
own_of next (inst ∷ insts) = ap (λ (rest : List Instruction). inst ∷ rest) (own_of (following next inst) insts)

-- the base and the derived entry of a relocate
abbrev pub pair_of : Instruction → List Pair
pair_of inst = if is_relocate inst.op then record { base = index_in (slice_get inst.operands 1); derived = index_in (slice_get inst.operands 2) } ∷ [] else []

-- the results and relocates at the front of instructions
abbrev pub run_of : List Instruction → ℕ
run_of insts = prefix_len (λ inst. is_member inst.op) insts

module _ (func : Function) (block : ℕ) where
  own_lines : map own (lines_at func block) ≡ insts_in func block
  own_lines = own_of (slice_index (registers_of func) block) (insts_in func block)

  pub lines_count : length (lines_at func block) ≡ length (insts_in func block)
  lines_count = sym (length-map (lines_at func block) own) ∙ ap length own_lines

  pub line_stands : (place : ℕ) (line : Line) → slice_get (lines_at func block) place ≡ Some line → slice_get (insts_in func block) place ≡ Some line.inst
  line_stands place line is = sym (ap (λ (insts : List Instruction). slice_get insts place) own_lines) ∙ get_map own (lines_at func block) place line is

  own_behind : (place : ℕ) → map own (drop place (lines_at func block)) ≡ drop place (insts_in func block)
  own_behind place = sym (drop-map own place (lines_at func block)) ∙ ap (drop place) own_lines

  pub group_count : (place : ℕ) → group_length (drop place (lines_at func block)) ≡ run_of (drop place (insts_in func block))
  group_count place =
      sym (prefix_of_images own (λ (inst : Instruction). is_member inst.op) (drop place (lines_at func block))) ∙ ap run_of (own_behind place)

  pub group_is : (place : ℕ) → map own (group_in (lines_at func block) place) ≡ take (run_of (drop (suc place) (insts_in func block))) (drop (suc place) (insts_in func block))
  group_is place =
      sym (take-map own (group_length (drop (suc place) (lines_at func block))) (drop (suc place) (lines_at func block)))
      ∙ (ap (take (group_length (drop (suc place) (lines_at func block)))) (own_behind (suc place))
      ∙ ap (λ n. take n (drop (suc place) (insts_in func block))) (group_count (suc place)))
