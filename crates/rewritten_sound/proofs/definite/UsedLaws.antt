-- A live pointer is defined: where a value isn't defined, no walk leads to a use of it or of a pointer derived from it.
use Rattle.std.proofs.Common.{◌≡◌, ℕ, zero, suc, ◌+◌, ◌≤◌, Bool, true, false, not, eqb, List, [], length, map, take, drop, refl, sym, ap, subst, ◌∙◌, inl, inr, arith}
use Rattle.std.specs.Prelude.{Option, Some, None, slice_get}
use Rattle.std.specs.List.{Contains}
use Rattle.std.specs.Option.{option_map_or}
use Rattle.std.proofs.lemmas.Bool.{cases_eq, cases_lt, eqb-true, false≢true, or_right}
use Rattle.std.proofs.lemmas.List.{get_or_past, length-map}
use Rattle.std.proofs.lemmas.Option.{slice_get-get_or}
use Rattle.list_laws.proofs.Places.{filter_map_forth, get_front, get_map, get_past, get_some, map_back}
use Rattle.list_laws.proofs.Places as places
use Rattle.list_laws.proofs.Contents.{contains_get, get_contained}
use Rattle.sp_ids.specs.declared.ids.BlockId.{BlockId}
use Rattle.sp_ids.specs.declared.ids.ValueId.{ValueId}
use Rattle.ir_ast.specs.declared.types.Ty.{Ty}
use Rattle.ir_ast.specs.declared.ops.Operand.{Operand}
use Rattle.ir_ast.specs.declared.ops.Operand.TheVariants as operands
use Rattle.ir_ast.specs.Bases.{Base, IsBaseTable}
use Rattle.ir_ast.specs.Insts.{Instruction}
use Rattle.ir_ast.specs.Blocks.{BasicBlock}
use Rattle.ir_ast.specs.Edges.{targets}
use Rattle.ir_ast.specs.Funcs.{Function}
use Rattle.ir_ast.specs.Operands.{operands_of, value_in, values_used}
use Rattle.ir_ast.specs.Faults.PhiEdges.{PhiIsRight, PhisAreRight, is_phi}
use Rattle.ir_cfg.specs.DefiniteUses.{Stands, Uses, by_entry, by_line, text_place}
use Rattle.ir_cfg.specs.Graphs.{block_at, graph_of, succs_of}
use Rattle.ir_cfg.specs.Graphs as graphs
use Rattle.ir_cfg.proofs.KeepsCounts.{count_some}
use Rattle.ir_cfg.proofs.PathLemmas.{edge_within}
use Rattle.object_meaning.specs.Lines.{Line}
use Rattle.rewriting_forms.specs.Numbered.{among, base_at, line_at, lines_at, named, pointers, succs}
use Rattle.rewriting_forms.specs.Liveness.{IsEntry, IsUse, Live, any_held, PhisAgree, crosses, entry, held, is_live, is_live_after, later, live_table, used}
use Rattle.base_definite.specs.Paths.{HasDefiniteBases}
use Rattle.base_definite.proofs.base_paths.StayLaws.{base_first, derived_high}
use Rattle.base_definite.proofs.base_paths.UndefinedLaws.{Undefined, behind_edge, behind_line, undefined_unused}
use Rattle.base_definite.proofs.LinePlaces.{line_from}
use Rattle.rewritten_sound.specs.LeadsOut.{PhisAreBare}
use Rattle.rewritten_sound.proofs.definite.LineLaws.{gives_defines, lines_length}
use Rattle.rewritten_sound.proofs.definite.EdgeLaws.{counted_edge}

-- ---- operands that an instruction uses

pub uses_operand : (inst : Instruction) (place u : ℕ) → slice_get inst.operands place ≡ Some (named u) → Contains (values_used inst) u
uses_operand inst place u at =
    let there = filter_map_forth value_in (operands_of inst) place (named u) u (get_front inst.operands (map (λ entry. entry.1) inst.bundle) place (named u) at) refl in
    contains_get (values_used inst) there.0 u there.1

pub uses_entry : (inst : Instruction) (place u : ℕ) → slice_get (map (λ (entry : Ty × Operand). entry.1) inst.bundle) place ≡ Some (named u) → Contains (values_used inst) u
uses_entry inst place u at =
    let there = filter_map_forth value_in (operands_of inst) (length inst.operands + place) (named u) u (get_past inst.operands (map (λ entry. entry.1) inst.bundle) place ∙ at) refl in
    contains_get (values_used inst) there.0 u there.1

entry_label : (b : ℕ) (label : Option BlockId) → option_map_or (λ (l : BlockId). eqb l.0 b) label false ≡ true → (found : BlockId) × (label ≡ Some found) × (found.0 ≡ b)
entry_label b None is = absurd (false≢true is)
entry_label b (Some label) is = (label, refl, eqb-true label.0 b is)

base_stands : (table : List Operand) (x v : ℕ) → base_at table x ≡ named v → slice_get table x ≡ Some (named v)
base_stands table x v is = elim (cases_lt x (length table)) [
  | inl below ↦ slice_get-get_or table x operands.Null below ∙ ap (λ o. Some o) is
  | inr past ↦ absurd (let none : operands.Null ≡ named v = sym (get_or_past table x operands.Null past) ∙ is in cc)
]

-- what is live at a place is in the table there
pub in_table : (func : Function) (table : List Operand) (b k v : ℕ) → is_live func table b k v ≡ true → live_table func table b k v ≡ true
in_table func table b zero v is = or_right (not (among v (pointers func))) (is_live func table b 0 v) is
in_table func table b (suc k) v is =
    or_right (not (among v (pointers func))) (is_live_after func table b k v)
    (or_right (any_held func table v (line_at func b k).inst) (is_live func table b (suc k) v) is)

succ_edge : (func : Function) (b to : ℕ) → Contains (succs func b) to → graphs.Edge (graph_of func) b to
succ_edge func b to has =
    let at = get_contained (succs func b) to has in
    let one = map_back (λ (label : BlockId). label.0) (succs_of (graph_of func) b) at.0 to at.1 in
    record { number = at.0; leads = one.stands ∙ ap (λ (n : ℕ). Some (block_at n)) (sym one.is) }

pub edge_contains : (func : Function) (b to : ℕ) → graphs.Edge (graph_of func) b to → Contains (succs func b) to
edge_contains func b to edge = contains_get (succs func b) edge.number to (get_map (λ (label : BlockId). label.0) (succs_of (graph_of func) b) edge.number (block_at to) edge.leads)

pub edge_block : (func : Function) (b to : ℕ) → graphs.Edge (graph_of func) b to → (block : BasicBlock) × (slice_get func.blocks b ≡ Some block)
edge_block func b to edge =
    let within = edge_within (graph_of func) b to edge in
    let long = length-map func.blocks targets in
    get_some func.blocks b (omega arith)

-- ---- phis

-- the phi at a place
pub phi_right : (func : Function) → PhisAreRight func → (b place : ℕ) (inst : Instruction) → Stands func b place inst → is_phi inst.op ≡ true
    → (before : List Instruction) × PhiIsRight func b before inst
phi_right func phis b place inst stands one =
    let split = places.split_at stands.block.insts place inst stands.in_block in
    (take place stands.block.insts, phis b stands.block (take place stands.block.insts) (drop (place + 1) stands.block.insts) inst stands.in_function split one)

pub phi_edge : (func : Function) → PhisAreRight func → (b place : ℕ) (inst : Instruction) → Stands func b place inst → is_phi inst.op ≡ true
    → (k : ℕ) (label : BlockId) → slice_get inst.labels k ≡ Some label → graphs.Edge (graph_of func) label.0 b
phi_edge func phis b place inst stands one k label at =
    let right = phi_right func phis b place inst stands one in
    let some = count_some label.0 inst.labels k label at refl in
    let counted = (right.1).counted label.0 in
    counted_edge func label.0 b (omega arith)

pub phis_agree : (func : Function) → PhisAreRight func → PhisAgree func
phis_agree func phis b place phi at one = ((phi_right func phis b place phi.inst (line_from func b place phi at).stands one).1).agree

-- ---- live values

module _ (func : Function) (table : List Operand) (merged : ℕ → ValueId) (has : HasDefiniteBases func merged) (bases : IsBaseTable func merged table) (bare : PhisAreBare func) where
  -- a use of a value or of what is derived from it
  pub use_undefined : (v : ℕ) → length func.args ≤ v → (o : Operand) → IsUse func table v o → (b k line : ℕ) → ((x : ℕ) → o ≡ named x → Uses func line x b k)
      → Undefined func v b k → ⊥
  use_undefined v high o (inl itself) b k line uses undefined = undefined_unused func has.definite v high line b k (uses v itself) undefined
  use_undefined v high o (inr derived) b k line uses undefined = elim (cases_eq derived.0 v) [
    | inl same ↦
        undefined_unused func has.definite v high line b k (subst (λ (n : ℕ). Uses func line n b k) same (uses derived.0 derived.1)) undefined
    | inr apart ↦
        let value : ValueId = record { 0 = derived.0 } in
        let base : ValueId = record { 0 = v } in
        let based : Base func merged (operands.Value value) (operands.Value base) = bases.each value (named v) (base_stands table derived.0 v derived.3) in
        undefined_unused func has.definite derived.0 (derived_high func merged has.bases value base based apart) line b k (uses derived.0 derived.1)
        (base_first func merged has base high b k undefined value based apart)
  ]

  not_phi : (b k : ℕ) (line : Line) (o : Operand) → slice_get (lines_at func b) k ≡ Some line → Contains (map (λ (entry : Ty × Operand). entry.1) line.inst.bundle) o → is_phi line.inst.op ≡ false
  not_phi b k line o at within = by (is_phi line.inst.op) refl
    where
      by : (t : Bool) → is_phi line.inst.op ≡ t → t ≡ false
      by false is = refl
      by true is =
          let none = bare b k line.inst (line_from func b k line at).stands is in
          let place = get_contained (map (λ (entry : Ty × Operand). entry.1) line.inst.bundle) o within in
          let empty : slice_get [] place.0 ≡ Some o = ap (λ (entries : List (Ty × Operand)). slice_get (map (λ (entry : Ty × Operand). entry.1) entries) place.0) (sym none) ∙ place.1 in
          absurd cc

  -- a line's operands and its bundle are used where it stands
  pub operand_used : (b k : ℕ) (line : Line) (o : Operand) → slice_get (lines_at func b) k ≡ Some line → is_phi line.inst.op ≡ false → Contains line.inst.operands o
      → (x : ℕ) → o ≡ named x → Uses func (text_place func b k) x b k
  operand_used b k line o at no_phi within x is =
      let place = get_contained line.inst.operands o within in
      by_line b k x line.inst (line_from func b k line at).stands no_phi (uses_operand line.inst place.0 x (place.1 ∙ ap (λ o. Some o) is))

  pub held_used : (b k : ℕ) (line : Line) (o : Operand) → slice_get (lines_at func b) k ≡ Some line → Contains (map (λ (entry : Ty × Operand). entry.1) line.inst.bundle) o
      → (x : ℕ) → o ≡ named x → Uses func (text_place func b k) x b k
  held_used b k line o at within x is =
      let place = get_contained (map (λ (entry : Ty × Operand). entry.1) line.inst.bundle) o within in
      by_line b k x line.inst (line_from func b k line at).stands (not_phi b k line o at within) (uses_entry line.inst place.0 x (place.1 ∙ ap (λ o. Some o) is))

  -- the entry of a phi is used at the end of its label's block
  pub entry_used : (b to place : ℕ) (block : BasicBlock) (phi : Line) (o : Operand) → slice_get func.blocks b ≡ Some block → slice_get (lines_at func to) place ≡ Some phi
      → is_phi phi.inst.op ≡ true → IsEntry phi.inst b o → (x : ℕ) → o ≡ named x → Uses func (text_place func to place) x b (length block.insts)
  entry_used b to place block phi o found at one is_entry x is =
      let label = entry_label b (slice_get phi.inst.labels is_entry.place) is_entry.label in
      subst (λ (n : ℕ). Uses func (text_place func to place) x n (length block.insts)) label.2
      (by_entry to place is_entry.place x phi.inst o label.0 block (line_from func to place phi at).stands one label.1 is_entry.operand_is
      (ap value_in is) (ap (slice_get func.blocks) label.2 ∙ found))

  pub live_defined : (v : ℕ) → length func.args ≤ v → (b k : ℕ) → Live func table v b k → Undefined func v b k → ⊥
  live_defined v high _ _ (used b k line o at no_phi within this) undefined =
      use_undefined v high o this b k (text_place func b k) (operand_used b k line o at no_phi within) undefined
  live_defined v high _ _ (held b k line o at within this) undefined =
      use_undefined v high o this b k (text_place func b k) (held_used b k line o at within) undefined
  live_defined v high _ _ (later b k line at none walk) undefined =
      live_defined v high b (suc k) walk (behind_line b k line.inst undefined (line_from func b k line at).stands (gives_defines func v b k line at none))
  live_defined v high _ _ (entry b k to place phi o last edge at one is_entry this) undefined =
      let block = edge_block func b to (succ_edge func b to edge) in
      use_undefined v high o this b (length block.0.insts) (text_place func to place) (entry_used b to place block.0 phi o block.1 at one is_entry)
      (subst (λ (n : ℕ). Undefined func v b n) (last ∙ lines_length func b block.0 block.1) undefined)
  live_defined v high _ _ (crosses b k to last edge walk) undefined =
      let own = succ_edge func b to edge in
      let block = edge_block func b to own in
      live_defined v high to 0 walk
      (behind_edge b to block.0 (subst (λ (n : ℕ). Undefined func v b n) (last ∙ lines_length func b block.0 block.1) undefined) block.1 own)
