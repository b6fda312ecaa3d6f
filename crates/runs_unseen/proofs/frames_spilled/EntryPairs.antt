-- A frame that stands at a statepoint of a verified module: each pair of the group stands before it, so that both entries are there.
use Rattle.std.proofs.Common.{◌≡◌, inl, inr, ℕ, ◌<◌, true, List, length, sym, ap, ◌∙◌, subst, Some}
use Rattle.std.specs.Prelude.{slice_get}
use Rattle.std.proofs.lemmas.Bool.{cases_lt, true≢false}
use Rattle.std.proofs.lemmas.List.{get_or_past}
use Rattle.ir_ast.specs.declared.ops.Operand.{Operand}
use Rattle.ir_ast.specs.declared.ops.Operand.TheVariants.{Int}
use Rattle.ir_ast.specs.Faults.GroupShape.{entries_of, is_statepoint}
use Rattle.ir_ast.specs.Funcs.{Function}
use Rattle.ir_ast.specs.Modules.{ModuleContent}
use Rattle.frame_walk.specs.Maps.{Pair}
use Rattle.object_meaning.specs.Lines.{Line}
use Rattle.object_meaning.specs.States.{Frame}
use Rattle.pair_facts.specs.declared.bases.Base.TheVariants.{Named}
use Rattle.pair_facts.specs.Faults.{IsVerified}
use Rattle.pair_facts.specs.Lines.{line_in, lines_at, operand_at}
use Rattle.pair_facts.specs.Pairs.{Pairs}
use Rattle.pair_facts.specs.Uses.{entries_at, entries_used, relocates}
use Rattle.moves_unseen.specs.Frames.{StandsAt, group_pairs}
use Rattle.moves_unseen.proofs.LiteralLaws.{literals_bare}
use Rattle.moves_unseen.proofs.VerifiedLaws.{pair_stands}
use Rattle.runs_unseen.proofs.frames_spilled.GroupSlots.{IsPairOf, pair_in_group}
use Rattle.object_meaning.proofs.LineLaws.{line_is}

module _ (content : ModuleContent) (verified : IsVerified content) (frame : Frame) (func : Function) (place : ℕ) (pairs : Pairs) (at : StandsAt content frame func place pairs)
    (line : Line) (here : slice_get (lines_at func frame.block) place ≡ Some line) (statepoint : is_statepoint line.inst.op ≡ true) where
  abbrev lines : List Line
  lines = lines_at func frame.block

  abbrev entries : List Operand
  entries = entries_of line.inst

  head_is : line_in lines place ≡ line
  head_is = line_is lines place line here

  entries_here : entries_at lines place ≡ entries
  entries_here = ap (λ (l : Line). entries_of l.inst) head_is

  -- a pair of the group is that of a relocate, which names entries that are a pair before the statepoint
  pair_stood : (pair : Pair) → IsPairOf lines place pair → pairs (operand_at entries pair.derived) (Named (operand_at entries pair.base)) ≡ true
  pair_stood pair found =
      subst (λ (one : Pair). pairs (operand_at entries one.derived) (Named (operand_at entries one.base)) ≡ true) found.is
      (subst (λ (given : List Operand). pairs (entries_used found.line given).address (Named (entries_used found.line given).base) ≡ true) entries_here
      (pair_stands func frame.block found.place (λ code. verified frame.func frame.block found.place code func at.defined)
      2 place (entries_used found.line (entries_at lines place)) (relocates place found.line found.relocates) pairs at.arrived))

  pub stood : (k : ℕ) (pair : Pair) → slice_get (group_pairs (lines_at func frame.block) place) k ≡ Some pair
      → pairs (operand_at (entries_of line.inst) pair.derived) (Named (operand_at (entries_of line.inst) pair.base)) ≡ true
  stood k pair found = pair_stood pair (pair_in_group lines place (ap (λ (l : Line). is_statepoint l.inst.op) head_is ∙ statepoint) k pair found)

  -- an entry that has a base is there
  pub derived_within : (k : ℕ) (pair : Pair) → slice_get (group_pairs (lines_at func frame.block) place) k ≡ Some pair → pair.derived < length (entries_of line.inst)
  derived_within k pair found = elim (cases_lt pair.derived (length entries)) [
    | inl below ↦ below
    | inr past ↦ absurd (true≢false
        (sym (stood k pair found)
        ∙ (ap (λ (operand : Operand). pairs operand (Named (operand_at entries pair.base))) (get_or_past entries pair.derived (Int 0) past)
        ∙ (literals_bare func frame.block place pairs at.arrived 0).0 (Named (operand_at entries pair.base)))))
  ]

  -- and so is its base
  pub base_within : (k : ℕ) (pair : Pair) → slice_get (group_pairs (lines_at func frame.block) place) k ≡ Some pair → pair.base < length (entries_of line.inst)
  base_within k pair found = elim (cases_lt pair.base (length entries)) [
    | inl below ↦ below
    | inr past ↦ absurd (true≢false
        (sym (stood k pair found)
        ∙ (ap (λ (operand : Operand). pairs (operand_at entries pair.derived) (Named operand)) (get_or_past entries pair.base (Int 0) past)
        ∙ (literals_bare func frame.block place pairs at.arrived 0).1 (operand_at entries pair.derived))))
  ]
