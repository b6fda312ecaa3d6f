-- Walks backwards from the starts of a pointer lead to the places where it is live, and to no others.
use Rattle.std.proofs.Common.{◌≡◌, ℕ, zero, suc, Bool, true, false, not, ◌&&◌, if◌then◌else◌, List, [], ◌∷◌, take, refl, ap, sym, arith, inl, inr, ◌⊎◌, Some, slice_get, ◌∙◌, subst}
use Rattle.std.specs.List.{flat_map, Contains}
use Rattle.std.proofs.lemmas.Bool.Decides.{nat_tests}
use Rattle.std.proofs.lemmas.List.Elements.{Contains-append_left, Contains-append_right, Contains-append_cases}
use Rattle.sp_ids.specs.declared.ids.BlockId.{BlockId}
use Rattle.ir_ast.specs.declared.types.Ty.{Ty}
use Rattle.ir_ast.specs.declared.ops.Operand.{Operand}
use Rattle.ir_ast.specs.Insts.{Instruction}
use Rattle.ir_ast.specs.Faults.PhiEdges.{is_phi}
use Rattle.list_laws.proofs.Contents.{contains_none, contains_first, contains_one, contains_joined, joined_contains}
use Rattle.object_meaning.specs.Lines.{following, after_all}
use Rattle.live_sets.specs.Uses.{uses}
use Rattle.live_sets.specs.declared.starts.Spot.{Spot}
use Rattle.live_sets.specs.Starts.{is_given, adds, at_end, entries_add, own_adds, line_adds, block_adds}
use Rattle.ir_ast.specs.Lists.{has_mark}

-- ---- what a start stands for

-- a line uses the value at a place, where it stands
pub data UsesAt (marks : List Bool) (table : List Operand) (v : ℕ) (inst : Instruction) : Type 0 where
  by_operand : (o : Operand) → is_phi inst.op ≡ false → Contains inst.operands o → uses marks table v o ≡ true → UsesAt marks table v inst
  by_bundle : (e : Ty × Operand) → Contains inst.bundle e → uses marks table v e.1 ≡ true → UsesAt marks table v inst

-- a phi uses it at the end of a block
pub record EntryAt (marks : List Bool) (table : List Operand) (v : ℕ) (inst : Instruction) (node : ℕ) : Type 0 where
  pub phi : is_phi inst.op ≡ true
  pub place : ℕ
  pub label : BlockId
  pub operand : Operand
  pub label_is : slice_get inst.labels place ≡ Some label
  pub operand_is : slice_get inst.operands place ≡ Some operand
  pub uses_it : uses marks table v operand ≡ true
  pub at : node ≡ label.0

module _ (marks : List Bool) (table : List Operand) (v : ℕ) (pointer : has_mark marks v ≡ true) where
  -- what an operand adds
  added_by : (spot : Spot) (o : Operand) (node : ℕ) → Contains (adds marks table spot v o) node → (uses marks table v o ≡ true) × (is_given spot v ≡ false) × (node ≡ spot.node)
  added_by spot o node has = go (uses marks table v o) (has_mark marks v) (is_given spot v) refl refl has
    where
      go : (u m g : Bool) → uses marks table v o ≡ u → is_given spot v ≡ g → Contains (if (u && m) && not g then spot.node ∷ [] else []) node
          → (uses marks table v o ≡ true) × (is_given spot v ≡ false) × (node ≡ spot.node)
      go true true false one two has = (one, two, sym (contains_one spot.node node has))
      go true true true one two has = absurd (contains_none node has)
      go true false g one two has = absurd (contains_none node has)
      go false m g one two has = absurd (contains_none node has)

  adds_it : (spot : Spot) (o : Operand) → uses marks table v o ≡ true → is_given spot v ≡ false → Contains (adds marks table spot v o) spot.node
  adds_it spot o one two = rw (one, pointer, two) (contains_first spot.node [])

  entries_back : (labels : List BlockId) (operands : List Operand) (node : ℕ) → Contains (entries_add marks table v labels operands) node
      → (place : ℕ) × (label : BlockId) × (operand : Operand) × (slice_get labels place ≡ Some label) × (slice_get operands place ≡ Some operand)
      × (uses marks table v operand ≡ true) × (node ≡ label.0)
  entries_back [] operands node has = absurd (contains_none node has)
  entries_back (l ∷ labels) [] node has = absurd (contains_none node has)
  entries_back (l ∷ labels) (o ∷ operands) node has = elim (Contains-append_cases (adds marks table (at_end l) v o) (entries_add marks table v labels operands) node has) [
    | inl here ↦ let one = added_by (at_end l) o node here in (0, l, o, refl, refl, one.0, one.2)
    | inr there ↦ let rest = entries_back labels operands node there in (suc rest.0, rest.1, rest.2, rest.3, rest.4, rest.5, rest.6)
  ]

  entries_forth : (labels : List BlockId) (operands : List Operand) (place : ℕ) (label : BlockId) (operand : Operand) → slice_get labels place ≡ Some label
      → slice_get operands place ≡ Some operand → uses marks table v operand ≡ true → Contains (entries_add marks table v labels operands) label.0
  entries_forth [] operands place label operand one two uses_it = absurd (cc)
  entries_forth (l ∷ labels) [] place label operand one two uses_it = absurd (cc)
  entries_forth (l ∷ labels) (o ∷ operands) zero label operand one two uses_it =
      let same_label : l ≡ label = cc in
      let same : o ≡ operand = cc in
      Contains-append_left (adds marks table (at_end l) v o) (entries_add marks table v labels operands) label.0
      (subst (λ (x : BlockId). Contains (adds marks table (at_end l) v o) x.0) same_label
      (adds_it (at_end l) o (ap (uses marks table v) same ∙ uses_it) (let none : is_given (at_end l) v ≡ false = grind (arith, nat_tests) in none)))
  entries_forth (l ∷ labels) (o ∷ operands) (suc place) label operand one two uses_it =
      Contains-append_right (adds marks table (at_end l) v o) (entries_add marks table v labels operands) label.0
      (entries_forth labels operands place label operand one two uses_it)

  -- what a line adds
  pub line_back_adds : (spot : Spot) (inst : Instruction) (node : ℕ) → Contains (line_adds marks table spot v inst) node
      → EntryAt marks table v inst node ⊎ (UsesAt marks table v inst × (is_given spot v ≡ false) × (node ≡ spot.node))
  line_back_adds spot inst node has = elim (Contains-append_cases (own_adds marks table spot v inst) (flat_map (λ (e : Ty × Operand). adds marks table spot v e.1) inst.bundle) node has) [
    | inr bundle ↦
        let from = contains_joined (λ (e : Ty × Operand). adds marks table spot v e.1) inst.bundle node bundle in
        let one = added_by spot from.of.1 node from.given in
        inr (by_bundle from.of from.inside one.0, one.1, one.2)
    | inl own ↦ go (is_phi inst.op) refl own
  ]
    where
      go : (t : Bool) → is_phi inst.op ≡ t
          → Contains (if t then entries_add marks table v inst.labels inst.operands else flat_map (adds marks table spot v) inst.operands) node
          → EntryAt marks table v inst node ⊎ (UsesAt marks table v inst × (is_given spot v ≡ false) × (node ≡ spot.node))
      go true phi has =
          let found = entries_back inst.labels inst.operands node has in
          inl (record { phi = phi; place = found.0; label = found.1; operand = found.2; label_is = found.3; operand_is = found.4; uses_it = found.5; at = found.6 })
      go false other has =
          let from = contains_joined (adds marks table spot v) inst.operands node has in
          let one = added_by spot from.of node from.given in
          inr (by_operand from.of other from.inside one.0, one.1, one.2)

  pub line_forth_entry : (spot : Spot) (inst : Instruction) (node : ℕ) → EntryAt marks table v inst node → Contains (line_adds marks table spot v inst) node
  line_forth_entry spot inst node is =
      Contains-append_left (own_adds marks table spot v inst) (flat_map (λ (e : Ty × Operand). adds marks table spot v e.1) inst.bundle) node
      (rw is.phi (subst (Contains (entries_add marks table v inst.labels inst.operands)) (sym is.at)
      (entries_forth inst.labels inst.operands is.place is.label is.operand is.label_is is.operand_is is.uses_it)))

  pub line_forth_use : (spot : Spot) (inst : Instruction) → UsesAt marks table v inst → is_given spot v ≡ false → Contains (line_adds marks table spot v inst) spot.node
  line_forth_use spot inst (by_operand o other has uses_it) free =
      Contains-append_left (own_adds marks table spot v inst) (flat_map (λ (e : Ty × Operand). adds marks table spot v e.1) inst.bundle) spot.node
      (rw other (joined_contains (adds marks table spot v) inst.operands o spot.node has (adds_it spot o uses_it free)))
  line_forth_use spot inst (by_bundle e has uses_it) free =
      Contains-append_right (own_adds marks table spot v inst) (flat_map (λ (e : Ty × Operand). adds marks table spot v e.1) inst.bundle) spot.node
      (joined_contains (λ (e : Ty × Operand). adds marks table spot v e.1) inst.bundle e spot.node has (adds_it spot e.1 uses_it free))

  -- what a block adds: each of its lines at its place
  pub record LineOf (node first next : ℕ) (insts : List Instruction) (found : ℕ) : Type 0 where
    pub place : ℕ
    pub inst : Instruction
    pub at : slice_get insts place ≡ Some inst
    pub has : Contains (line_adds marks table (record { node = node; first = first; next = after_all next (take place insts) }) v inst) found

  pub block_back : (node first next : ℕ) (insts : List Instruction) (found : ℕ) → Contains (block_adds marks table node first next v insts) found → LineOf node first next insts found
  block_back node first next [] found has = absurd (contains_none found has)
  block_back node first next (inst ∷ insts) found has = elim (Contains-append_cases (line_adds marks table (record { node = node; first = first; next = next }) v inst)
      (block_adds marks table node first (following next inst) v insts) found has) [
        | inl here ↦ record { place = 0; inst = inst; at = refl; has = here }
        | inr there ↦ let rest = block_back node first (following next inst) insts found there in record { place = suc rest.place; inst = rest.inst; at = rest.at; has = rest.has }
      ]

  pub block_forth : (node first next : ℕ) (insts : List Instruction) (place found : ℕ) (inst : Instruction) → slice_get insts place ≡ Some inst
      → Contains (line_adds marks table (record { node = node; first = first; next = after_all next (take place insts) }) v inst) found
      → Contains (block_adds marks table node first next v insts) found
  block_forth node first next [] place found inst at has = absurd (cc)
  block_forth node first next (x ∷ insts) zero found inst at has =
      let same : x ≡ inst = cc in
      Contains-append_left (line_adds marks table (record { node = node; first = first; next = next }) v x) (block_adds marks table node first (following next x) v insts) found
      (subst (λ (y : Instruction). Contains (line_adds marks table (record { node = node; first = first; next = next }) v y) found) (sym same) has)
  block_forth node first next (x ∷ insts) (suc place) found inst at has =
      Contains-append_right (line_adds marks table (record { node = node; first = first; next = next }) v x) (block_adds marks table node first (following next x) v insts) found
      (block_forth node first (following next x) insts place found inst at has)
