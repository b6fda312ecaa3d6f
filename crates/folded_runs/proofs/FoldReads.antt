-- In each state to which a run of a source module comes, what stands for the operands of the line at which the running frame stands
-- reads what they read.
use Rattle.std.proofs.Common.{◌≡◌, ℕ, suc, Bool, true, false, ◌||◌, List, ◌∷◌, length, map, refl, sym, ap, subst, ◌∙◌, inl, inr}
use Rattle.std.specs.Prelude.{Some, slice_get}
use Rattle.std.specs.List.{All, Contains}
use Rattle.list_laws.proofs.Contents.{all_contained, all_from_at, contains_get, get_contained}
use Rattle.list_laws.proofs.Places.{drop_first, filter_map_forth, get_map, take_back}
use Rattle.list_laws.proofs.Tests.{prefix_passes}
use Rattle.ir_ast.specs.declared.ops.Op.{Op}
use Rattle.ir_ast.specs.declared.ops.Op.TheVariants as ops
use Rattle.ir_ast.specs.declared.ops.Operand.{Operand}
use Rattle.ir_ast.specs.Funcs.{Function}
use Rattle.ir_ast.specs.Insts.{Instruction}
use Rattle.ir_ast.specs.Operands.{named, operands_of, value_in, values_used}
use Rattle.ir_ast.specs.Ops.{is_member, is_phi, is_terminator}
use Rattle.ir_cfg.specs.DefiniteUses.{Defines, Uses, by_entry, by_line, text_place}
use Rattle.ir_cfg.specs.Graphs.{Edge, graph_of}
use Rattle.object_meaning.specs.BlockLines.{lines_at, phis_in}
use Rattle.object_meaning.specs.Jumps.{phi_count}
use Rattle.object_meaning.specs.Lines.{Line}
use Rattle.object_meaning.specs.Registers.{operand, value}
use Rattle.object_meaning.specs.States.{Frame, Setting}
use Rattle.base_definite.proofs.base_paths.GivesLaws.{defines_gives, stands_one}
use Rattle.base_definite.proofs.base_paths.UndefinedLaws.{behind_line}
use Rattle.base_definite.proofs.LinePlaces.{LineFrom, line_from}
use Rattle.known_values.specs.Meanings.{AllHold, Meaning}
use Rattle.known_values.specs.Onward.{LeadsTo, computes}
use Rattle.known_values.specs.Statements.{Knows}
use Rattle.known_values.specs.Texts.{RunsText, UsesAreDefined}
use Rattle.known_values.proofs.OnwardLaws.{leading_ends, leads_over}
use Rattle.folded_forms.specs.Folded.{Table, stands_for}
use Rattle.folded_forms.specs.Foldings.{Folds, IsFolding, by_choice, by_entries, by_operator}
use Rattle.folded_forms.specs.Known.{EntryFrom, PhisMeetEdges, meanings_of}
use Rattle.folded_forms.proofs.EntryLaws.{entry_read, entry_stands}
use Rattle.folded_forms.proofs.FoldingLaws.{reads_same}
use Rattle.folded_forms.proofs.TableLaws.{goes}
use Rattle.trimmed_laws.specs.Trims.{ReadSame}
use Rattle.trimmed_laws.specs.Trimmed.{PhiReads}

-- a terminator is none of the lines that go
folds_no_end : {table : Table} {own : ℕ} {inst : Instruction} {to : Operand} → Folds table own inst to → is_terminator inst.op ≡ true → ⊥
folds_no_end {inst = inst} (by_operator literal kind literals is) ends = by inst.op kind ends
  where
    by : (op : Op) → computes op ≡ true → is_terminator op ≡ true → ⊥
    by ops.Br kind ends = cc
    by ops.CondBr kind ends = cc
    by ops.Switch kind ends = cc
    by ops.Ret kind ends = cc
    by ops.Unreachable kind ends = cc
    by op kind ends = cc
folds_no_end (by_choice asked first second condition op operands is) ends = let none = sym (ap is_terminator op) ∙ ends in cc
folds_no_end (by_entries to op entries) ends = let none = sym (ap is_terminator op) ∙ ends in cc

module _ (setting : Setting) (number : ℕ) (func : Function) (table : Table) (text : RunsText setting number func) (folding : IsFolding func table) (defined : UsesAreDefined func)
    (phis : PhisMeetEdges func) (frame : Frame) (same : frame.func ≡ number) (knows : Knows setting func (meanings_of table) frame) (line : Line) (rest : List Line)
    (is : frame.rest ≡ line ∷ rest) where
  abbrev standing : Operand → Operand
  standing each = stands_for table each

  from : LineFrom func frame.block knows.place line
  from = line_from func frame.block knows.place line (drop_first (lines_at func frame.block) knows.place line rest (sym knows.stands ∙ is)).0

  -- ---- the line

  used_here : is_phi line.inst.op ≡ false → (each : Operand) → Contains (operands_of line.inst) each → (own : ℕ) → each ≡ named own
      → Uses func (text_place func frame.block knows.place) own frame.block knows.place
  used_here plain each inside own names =
      let here = get_contained (operands_of line.inst) each inside in
      let there = filter_map_forth value_in (operands_of line.inst) here.0 each own here.1 (ap value_in names) in
      by_line frame.block knows.place own line.inst from.stands plain (contains_get (values_used line.inst) there.0 own there.1)

  pub line_reads : is_phi line.inst.op || is_member line.inst.op ≡ false → ReadSame standing frame.registers (operands_of line.inst)
  line_reads plain =
      all_contained (λ (each : Operand). value frame.registers (standing each) ≡ value frame.registers each) (operands_of line.inst)
      (λ each inside. sym (reads_same setting.layouts func table folding defined phis (text_place func frame.block knows.place) frame.block knows.place frame.registers knows.holds each
      (λ own names. used_here (no_phi (is_phi line.inst.op) plain) each inside own names)))
    where
      no_phi : (b : Bool) → b || is_member line.inst.op ≡ false → b ≡ false
      no_phi true plain = plain
      no_phi false plain = refl

  -- ---- the phis behind an edge

  module _ (to : ℕ) (leads : LeadsTo line frame.registers line.inst.op to) where
    edge : Edge (graph_of func) frame.block to
    edge = leads_over func frame.block line frame.registers line.inst.op to leads (text.leads frame.block knows.place line.inst from.stands)

    at_end : suc knows.place ≡ length from.stands.block.insts
    at_end = text.last frame.block knows.place line.inst from.stands.block from.stands (leading_ends line frame.registers line.inst.op to leads) from.stands.in_function

    gives_none : (own : ℕ) (meaning : Meaning) → meanings_of table own ≡ Some meaning → Defines func own frame.block knows.place → ⊥
    gives_none own meaning known defines =
        let gone = (goes table own meaning known).gone in
        let one = stands_one func frame.block knows.place defines.inst line.inst defines.stands from.stands in
        folds_no_end (folding.each own defines.inst (defines_gives func own frame.block knows.place defines) gone)
        (ap (λ (i : Instruction). is_terminator i.op) one ∙ leading_ends line frame.registers line.inst.op to leads)

    holds_end : AllHold func (meanings_of table) frame.block (length from.stands.block.insts) frame.registers
    holds_end =
        subst (λ (n : ℕ). AllHold func (meanings_of table) frame.block n frame.registers) at_end
        (λ own meaning known. elim (knows.holds own meaning known) [
          | inl undefined ↦ inl (behind_line frame.block knows.place line.inst undefined from.stands (λ defines. gives_none own meaning known defines))
          | inr holds ↦ inr holds
        ])

    module _ (place : ℕ) (phi : Line) (at : slice_get (phis_in (lines_at func to)) place ≡ Some phi) where
      its : LineFrom func to place phi
      its = line_from func to place phi (take_back (phi_count (lines_at func to)) (lines_at func to) place phi at).1

      is_one : is_phi phi.inst.op ≡ true
      is_one = prefix_passes (λ (l : Line). is_phi l.inst.op) (lines_at func to) place phi at

      entry : EntryFrom frame.block phi.inst
      entry = phis.entries to place phi.inst its.stands is_one frame.block edge

      used_there : (own : ℕ) → entry.operand ≡ named own → Uses func (text_place func to place) own frame.block (length from.stands.block.insts)
      used_there own names =
          let label = entry_stands frame.block phi.inst entry in
          subst (λ (n : ℕ). Uses func (text_place func to place) own n (length from.stands.block.insts)) label.2
          (by_entry to place entry.entry own phi.inst entry.operand label.0 from.stands.block its.stands is_one label.1 entry.at (ap value_in names) (ap (slice_get func.blocks) label.2 ∙ from.stands.in_function))

      abbrev phi_now : Instruction
      phi_now = record phi.inst { operands = map standing phi.inst.operands }

      entry_now : EntryFrom frame.block phi_now
      entry_now = record { entry = entry.entry; operand = standing entry.operand; first = entry.first; at = get_map standing phi.inst.operands entry.entry entry.operand entry.at }

      phi_reads : PhiReads standing frame.block frame.registers phi
      unfolding entry_now
      phi_reads =
          entry_read frame.block phi_now entry_now frame.registers
          ∙ (sym (reads_same setting.layouts func table folding defined phis (text_place func to place) frame.block (length from.stands.block.insts) frame.registers holds_end entry.operand used_there)
          ∙ sym (entry_read frame.block phi.inst entry frame.registers))

    pub phis_read : All (PhiReads standing frame.block frame.registers) (phis_in (setting.lines frame.func to))
    phis_read =
        let lines : setting.lines frame.func to ≡ lines_at func to = ap (λ (n : ℕ). setting.lines n to) same ∙ text.blocks frame.block to edge in
        subst (λ (all : List Line). All (PhiReads standing frame.block frame.registers) (phis_in all)) (sym lines)
        (all_from_at (PhiReads standing frame.block frame.registers) (phis_in (lines_at func to)) (λ place phi at. phi_reads place phi at))
