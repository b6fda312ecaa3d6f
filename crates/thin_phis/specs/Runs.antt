-- The phis of a function over the numbers of its versions, and what is left of these where phis go.
use Rattle.std.specs.Prelude.{◌≡◌, ℕ, suc, Bool, if◌then◌else◌, List, [], ◌∷◌, ◌++◌, length, map, take, drop}
use Rattle.std.specs.List.{filter, flat_map, range_with_len}
use Rattle.std.specs.Global.{Vec}
use Rattle.sp_ids.specs.declared.ids.ValueId.{ValueId}
use Rattle.ir_ast.specs.Insts.{Instruction}
use Rattle.ir_ast.specs.Blocks.{BasicBlock}
use Rattle.ir_ast.specs.Funcs.{Function}
use Rattle.ir_ast.specs.Faults.PhiEdges.{is_phi}
use Rattle.ir_cfg.specs.Graphs.{Graph, preds_of}
use Rattle.phi_webs.specs.Webs.{Phi}
use Rattle.version_walk.specs.declared.slots.Slot.{Slot}
use Rattle.version_walk.specs.Forest.{list_at}
use Rattle.ssa_rebuild.specs.Answers.{number_of}
use Rattle.ssa_rebuild.specs.Rows.{use_numbers}
use Rattle.ssa_rebuild.specs.declared.versions.Versions.{Versions}
use Rattle.thin_phis.specs.Thinned.{stays, number_now}

-- ---- entries of phis, one after another

-- phis of these numbers, each with so many entries
abbrev pub phis_over : ℕ → List ℕ → List ℕ → List (Phi ℕ)
phis_over width [] entries = []
phis_over width (x ∷ numbers) entries = record { name = x; operands = take width entries } ∷ phis_over width numbers (drop width entries)

abbrev pub behind_phis : ℕ → List ℕ → List ℕ → List ℕ
behind_phis width [] entries = entries
behind_phis width (x ∷ numbers) entries = behind_phis width numbers (drop width entries)

-- how many entries of a line take a version
abbrev pub entry_count : Instruction → ℕ
entry_count inst = if is_phi inst.op then length (use_numbers (λ v. 0) (take (length inst.labels) inst.operands)) else 0

abbrev pub entries_over : List Instruction → List ℕ → List ℕ
entries_over [] entries = []
entries_over (inst ∷ insts) entries = take (entry_count inst) entries ++ entries_over insts (drop (entry_count inst) entries)

abbrev pub behind_entries : List Instruction → List ℕ → List ℕ
behind_entries [] entries = entries
behind_entries (inst ∷ insts) entries = behind_entries insts (drop (entry_count inst) entries)

-- the values at whose numbers the test gives true
abbrev pub left_at : {A : Type 0} → (ℕ → Bool) → List A → List ℕ → List A
left_at p [] numbers = []
left_at p (v ∷ values) [] = []
left_at p (v ∷ values) (x ∷ numbers) = if p x then v ∷ left_at p values numbers else left_at p values numbers

-- the entries of a phi, if it stays
abbrev pub phi_left : List ℕ → Phi ℕ → List ℕ
phi_left ends phi = if stays ends phi.name then map (number_now ends) phi.operands else []

module _ (joins : List (Vec ValueId)) (rows : List (Vec Slot)) where
  -- the numbers of a block's inserted phis, and those behind them
  abbrev pub inserted_at : ℕ → List ℕ
  inserted_at b = map number_of (take (length (list_at joins b)) (list_at rows b))

  abbrev pub behind_inserted : ℕ → List ℕ
  behind_inserted b = map number_of (drop (length (list_at joins b)) (list_at rows b))

  module _ (ends : List ℕ) where
    -- the pointers and the numbers of a block, without those of phis that go
    abbrev pub join_left : ℕ → List ValueId
    join_left b = left_at (stays ends) (list_at joins b) (inserted_at b)

    abbrev pub row_left : ℕ → List ℕ
    row_left b = map (number_now ends) (filter (stays ends) (inserted_at b)) ++ map (number_now ends) (behind_inserted b)

  module _ (graph : Graph) where
    abbrev pub block_phis : List ℕ → ℕ → List (Phi ℕ)
    block_phis entries b = phis_over (length (preds_of graph b)) (inserted_at b) entries

    abbrev pub behind_block : List ℕ → ℕ → List Instruction → List ℕ
    behind_block entries b insts = behind_entries insts (behind_phis (length (preds_of graph b)) (inserted_at b) entries)

    -- the inserted phis of these blocks, of which the first has this number, over the entries of all phis there
    abbrev pub web_in : List ℕ → ℕ → List BasicBlock → List (Phi ℕ)
    web_in entries b [] = []
    web_in entries b (block ∷ blocks) = block_phis entries b ++ web_in (behind_block entries b block.insts) (suc b) blocks

    -- the entries that are left
    abbrev pub entries_left : List ℕ → List ℕ → ℕ → List BasicBlock → List ℕ
    entries_left ends entries b [] = []
    entries_left ends entries b (block ∷ blocks) =
        (flat_map (phi_left ends) (block_phis entries b)
        ++ map (number_now ends) (entries_over block.insts (behind_phis (length (preds_of graph b)) (inserted_at b) entries)))
        ++ entries_left ends (behind_block entries b block.insts) (suc b) blocks

-- versions without those of phis that go
pub record IsThinned (func : Function) (graph : Graph) (ends : List ℕ) (old new : Versions) : Type 0 where
  pub joins : map (λ join. join.items) new.joins.items ≡ map (join_left old.joins.items old.rows.items ends) (range_with_len 0 (length old.joins.items))
  pub rows : map (λ row. map number_of row.items) new.rows.items ≡ map (row_left old.joins.items old.rows.items ends) (range_with_len 0 (length old.rows.items))
  pub entries : new.entries.items ≡ entries_left old.joins.items old.rows.items graph ends old.entries.items 0 func.blocks
