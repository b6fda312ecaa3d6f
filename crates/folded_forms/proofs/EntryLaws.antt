-- The entry of a phi for an edge, and the registers on an edge.
use Rattle.std.proofs.Common.{◌≡◌, ◌==◌, ℕ, zero, suc, ◌+◌, ◌<◌, ◌≤◌, List, [], ◌∷◌, ◌++◌, map, take, refl, ap, ◌∙◌, arith}
use Rattle.std.specs.Prelude.{Option, Some, slice_get}
use Rattle.std.specs.Option.{option_map_or}
use Rattle.std.proofs.lemmas.Bool.{eqb-true}
use Rattle.std.proofs.lemmas.List.{map-append}
use Rattle.std.proofs.lemmas.Option.{slice_get_within}
use Rattle.list_laws.proofs.Places.{get_some, take_back}
use Rattle.list_laws.proofs.Tests.{position_passes}
use Rattle.sp_ids.specs.declared.ids.BlockId.{BlockId}
use Rattle.ir_ast.specs.declared.ops.Operand.{Operand}
use Rattle.ir_ast.specs.Funcs.{Function}
use Rattle.ir_ast.specs.Insts.{Instruction}
use Rattle.ir_ast.specs.Objects.{Datum}
use Rattle.ir_cfg.specs.DefiniteUses.{Stands}
use Rattle.object_meaning.specs.BlockLines.{lines_at}
use Rattle.object_meaning.specs.Jumps.{incoming, phi_write}
use Rattle.object_meaning.specs.Lines.{Line}
use Rattle.object_meaning.specs.Registers.{Write, nothing, operand, put, put_all, value}
use Rattle.base_definite.specs.Comings.{Comes, past_line}
use Rattle.base_definite.proofs.CutLaws.{take_next}
use Rattle.known_values.specs.Meanings.{at_edge, register}
use Rattle.known_values.proofs.WriteLaws.{put_other, write_of}
use Rattle.folded_forms.specs.Known.{EntryFrom}

pub entry_stands : (from : ℕ) (phi : Instruction) (entry : EntryFrom from phi) → (label : BlockId) × (slice_get phi.labels entry.entry ≡ Some label) × (label.0 ≡ from)
entry_stands from phi entry =
    let found = position_passes (λ (label : BlockId). label.0 == from) phi.labels entry.entry entry.first in
    (found.0, found.1, eqb-true found.0.0 from found.2)

pub entry_read : (from : ℕ) (phi : Instruction) (entry : EntryFrom from phi) (registers : List Datum) → incoming from registers phi ≡ value registers entry.operand
entry_read from phi entry registers =
    ap (λ (place : Option ℕ). option_map_or (operand registers phi.operands) place nothing) entry.first
    ∙ ap (λ (each : Option Operand). option_map_or (value registers) each nothing) entry.at

-- ---- registers on an edge

put_pushed : (writes : List Write) (write : Write) (registers : List Datum) → put_all (writes ++ write ∷ []) registers ≡ put write.to write.value (put_all writes registers)
put_pushed [] write registers = refl
put_pushed (first ∷ writes) write registers = put_pushed writes write (put first.to first.value registers)

-- one phi more
pub edge_next : (func : Function) (from block place : ℕ) (phi : Line) (registers : List Datum) → slice_get (lines_at func block) place ≡ Some phi
    → at_edge func from block (suc place) registers ≡ put phi.to (incoming from registers phi.inst) (at_edge func from block place registers)
edge_next func from block place phi registers at =
    ap (λ (phis : List Line). put_all (map (phi_write from registers) phis) registers) (take_next (lines_at func block) place phi at)
    ∙ (ap (λ (writes : List Write). put_all writes registers) (map-append (phi_write from registers) (take place (lines_at func block)) (phi ∷ []))
    ∙ put_pushed (map (phi_write from registers) (take place (lines_at func block))) (phi_write from registers phi) registers)

puts_other : (value_of : Line → Datum) (lines : List Line) (registers : List Datum) (own : ℕ) → ((place : ℕ) (line : Line) → slice_get lines place ≡ Some line → line.to ≡ Some own → ⊥)
    → register (put_all (map (write_of value_of) lines) registers) own ≡ register registers own
puts_other value_of [] registers own apart = refl
puts_other value_of (line ∷ lines) registers own apart =
    puts_other value_of lines (put line.to (value_of line) registers) own (λ place each at. apart (suc place) each at)
    ∙ put_other line.to (value_of line) registers own (apart 0 line refl)

-- what none of the first phis gives stays
pub edge_other : (func : Function) (from block count : ℕ) (registers : List Datum) (own : ℕ)
    → ((place : ℕ) (line : Line) → place < count → slice_get (lines_at func block) place ≡ Some line → line.to ≡ Some own → ⊥)
    → register (at_edge func from block count registers) own ≡ register registers own
edge_other func from block count registers own apart =
    puts_other (λ phi. incoming from registers phi.inst) (take count (lines_at func block)) registers own
    (λ place line at. let inside = take_back count (lines_at func block) place line at in apart place line inside.0 inside.1)

-- a path that comes to the front of a block comes to each of its places
pub comes_on : (func : Function) (block place : ℕ) (inst : Instruction) → Stands func block place inst → Comes func block 0 → (count : ℕ) → count ≤ place → Comes func block count
comes_on func block place inst stands comes zero within = comes
comes_on func block place inst stands comes (suc count) within =
    let inside = slice_get_within stands.block.insts place inst stands.in_block in
    let some = get_some stands.block.insts count (omega arith) in
    past_line block count some.0 (comes_on func block place inst stands comes count (omega arith)) (record { block = stands.block; in_function = stands.in_function; in_block = some.1 })
