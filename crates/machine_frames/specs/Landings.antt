-- Blocks as jumps come to them: where their phis find their words on an edge.
use Rattle.std.specs.Prelude.{◌≡◌, ◌≤◌, ℕ, List, Option, Some, length, take, map, IfSome}
use Rattle.std.specs.List.{prefix_len}
use Rattle.ir_ast.specs.Insts.{Instruction}
use Rattle.ir_ast.specs.Objects.{number}
use Rattle.ir_ast.specs.Faults.PhiEdges.{is_phi}
use Rattle.object_meaning.specs.Jumps.{phi_write}
use Rattle.object_meaning.specs.Lines.{after_all}
use Rattle.object_meaning.specs.Registers.{Write}
use Rattle.machine_lines.specs.declared.decoded.Decoded.{Decoded}
use Rattle.machine_lines.specs.Decoding.{decoded_of, found_word}
use Rattle.machine_lines.specs.Lines.{lines_left}
use Rattle.machine_frames.specs.declared.copies.Copied.{Copied}
use Rattle.machine_frames.specs.declared.copies.Edge.{Edge}

-- the instructions of a block, of which the first result goes to the register `first`
pub record Site : Type 0 where
  pub first : ℕ
  pub insts : List Instruction

abbrev pub phis_of : List Instruction → List Instruction
phis_of insts = take (prefix_len (λ inst. is_phi inst.op) insts) insts

-- what a copy writes in a frame with these registers
abbrev pub copy_write : List ℕ → Copied → Write
copy_write registers copy = record { to = Some copy.to; value = number (found_word registers copy.source) }

-- copies that write what phis assign on the edge from a block, in any frame
abbrev pub AreCopies : ℕ → ℕ → List Instruction → List Copied → Type 0
AreCopies from first phis copies =
    (registers : List ℕ) → map (copy_write registers) copies ≡ map (phi_write from (map number registers)) (lines_left first phis)

abbrev pub IsEdge : Site → Edge → Type 0
IsEdge site edge = AreCopies edge.from site.first (phis_of site.insts) edge.copies.items

-- what is made once of a block
pub record IsLanding (site : Site) (decoded : List Decoded) (phis next : ℕ) (one other : Option Edge) : Type 0 where
  pub decoded_is : decoded ≡ map decoded_of site.insts
  pub phis_are : phis ≡ prefix_len (λ inst. is_phi inst.op) site.insts
  pub within : phis ≤ length site.insts
  pub next_is : next ≡ after_all site.first (phis_of site.insts)
  pub one_is : IfSome one (IsEdge site)
  pub other_is : IfSome other (IsEdge site)
