-- The phis at the front of a block, as instructions and as lines.
use Rattle.std.proofs.Common.{◌≡◌, ℕ, suc, ◌+◌, true, false, inl, inr, List, [], ◌∷◌, ◌++◌, map, take, drop, refl, ap, arith}
use Rattle.std.specs.Prelude.{if◌then◌else◌}
use Rattle.ir_ast.specs.Insts.{Instruction}
use Rattle.ir_ast.specs.Ops.{is_phi}
use Rattle.ir_ast.proofs.OpLaws.{phi_goes_on}
use Rattle.object_meaning.specs.Lines.{poll, numbered, following, after_all, retreats, lines_from}
use Rattle.object_meaning.specs.Jumps.{phi_count}
use Rattle.object_meaning.proofs.ListLemmas.{known}
use Rattle.flat_code.specs.declared.lines.Copied.{Copied}
use Rattle.flat_code.specs.Edges.{copy_of, phis_in, copies_from}
use Rattle.flat_code.specs.Spots.{phis_of}
use Rattle.list_laws.proofs.Numbers.{after_one}

-- no poll stands before a phi
phi_line : (block next : ℕ) (inst : Instruction) (insts : List Instruction) → is_phi inst.op ≡ true
    → lines_from block next (inst ∷ insts) ≡ numbered next inst ∷ lines_from block (following next inst) insts
phi_line block next inst insts e = rw (phi_goes_on inst.op e) refl

other_line : (block next : ℕ) (inst : Instruction) (insts : List Instruction) → is_phi inst.op ≡ false
    → phi_count (lines_from block next (inst ∷ insts)) ≡ 0
other_line block next inst insts e =
    elim (retreats block inst) as (λ polls. phi_count ((if polls then poll ∷ [] else []) ++ numbered next inst ∷ lines_from block (following next inst) insts) ≡ 0) [
      | true ↦ refl
      | false ↦ rw e refl
    ]

-- the lines behind the phis
pub phi_rest : (block next : ℕ) (insts : List Instruction)
    → drop (phi_count (lines_from block next insts)) (lines_from block next insts)
    ≡ lines_from block (after_all next (take (phis_of insts) insts)) (drop (phis_of insts) insts)
phi_rest block next [] = refl
phi_rest block next (inst ∷ insts) = elim (known (is_phi inst.op)) [
  | inl is ↦
      let lines = after_one (phi_count (lines_from block (following next inst) insts)) in
      let phis = after_one (phis_of insts) in
      rw (phi_line block next inst insts is, is, lines, phis) (phi_rest block (following next inst) insts)
  | inr other ↦ rw (other_line block next inst insts other, other) refl
]

-- what the phis assign
pub phi_copies : (from block next : ℕ) (insts : List Instruction)
    → copies_from from next (take (phis_of insts) insts) ≡ map (copy_of from) (phis_in (lines_from block next insts))
phi_copies from block next [] = refl
phi_copies from block next (inst ∷ insts) = elim (known (is_phi inst.op)) [
  | inl is ↦
      let lines = after_one (phi_count (lines_from block (following next inst) insts)) in
      let phis = after_one (phis_of insts) in
      rw (phi_line block next inst insts is, is, lines, phis)
      (ap (λ (rest : List Copied). copy_of from (numbered next inst) ∷ rest) (phi_copies from block (following next inst) insts))
  | inr other ↦ rw (other_line block next inst insts other, other) refl
]
