-- In a function whose bases are definite the base of a live pointer is live, and no line defines it again.
use Rattle.std.proofs.Common.{◌≡◌, ℕ, zero, suc, ◌<◌, ◌≤◌, Bool, true, false, not, eqb, ◌||◌, List, length, map, refl, sym, ap, subst, ◌∙◌, inl, inr, arith}
use Rattle.std.specs.Prelude.{Option, Some, None, slice_get}
use Rattle.std.specs.List.{Contains, range_with_len}
use Rattle.std.specs.Option.{option_map_or}
use Rattle.std.proofs.lemmas.Bool.{cases_Bool, cases_eq, cases_lt, eq-eqb, eqb-true, false≢true, true≢false, or_cases, or_left, or_right}
use Rattle.std.proofs.lemmas.List.{get_or_past, length-map}
use Rattle.std.proofs.lemmas.Option.{slice_get-get_or, slice_get_within}
use Rattle.list_laws.proofs.Contents.{contains_get, contains_map, get_contained}
use Rattle.list_laws.proofs.Places.{get_map, get_some}
use Rattle.sp_ids.specs.declared.ids.ValueId.{ValueId}
use Rattle.ir_ast.specs.declared.types.Ty.{Ty}
use Rattle.ir_ast.specs.declared.ops.Operand.{Operand}
use Rattle.ir_ast.specs.declared.ops.Operand.TheVariants as operands
use Rattle.ir_ast.specs.Bases.{Base, IsBaseTable, of_itself, of_merge, of_null, of_step}
use Rattle.ir_ast.specs.Blocks.{BasicBlock}
use Rattle.ir_ast.specs.Funcs.{Function}
use Rattle.ir_ast.specs.Operands.{value_in}
use Rattle.ir_ast.specs.Types.{is_pointer}
use Rattle.ir_ast.specs.Values.{definition_type, definitions_of, value_types}
use Rattle.ir_ast.specs.Faults.PhiEdges.{PhisAreRight, is_phi}
use Rattle.ir_cfg.specs.Graphs.{graph_of}
use Rattle.ir_cfg.specs.Paths.{Path, along, at_entry, IsReached}
use Rattle.ir_cfg.specs.DefiniteUses.{text_place}
use Rattle.object_meaning.specs.Lines.{Line}
use Rattle.rewriting_forms.specs.Numbered.{among, base_at, gives, line_at, lines_at, named, pointers}
use Rattle.rewriting_forms.specs.Liveness.{IsUse, Live, any_held, crosses, entry, held, is_live, is_live_after, is_use, later, live_table, used}
use Rattle.rewriting_laws.proofs.LiveExact.{any_found, live_complete, live_sound, use_from, use_is}
use Rattle.rewriting_laws.proofs.NameLemmas.{among_filter, line_is}
use Rattle.base_definite.specs.Comings.{Comes, over_edge, past_line, to_entry}
use Rattle.base_definite.specs.Paths.{HasDefiniteBases}
use Rattle.base_definite.proofs.base_paths.GivesLaws.{defines_gives, given_high}
use Rattle.base_definite.proofs.base_paths.StayLaws.{base_first, derived_high}
use Rattle.base_definite.proofs.base_paths.UndefinedLaws.{Undefined, at_first, behind_line, first_time, undefined_unused}
use Rattle.base_definite.proofs.LinePlaces.{line_from}
use Rattle.rewritten_sound.specs.LeadsOut.{PhisAreBare}
use Rattle.rewritten_sound.proofs.definite.LineLaws.{given_defines, gives_defines}
use Rattle.rewritten_sound.proofs.definite.UsedLaws.{edge_block, held_used, in_table, live_defined, operand_used, phis_agree, use_undefined}
use Rattle.rewritten_sound.specs.Takes.{IsOwn, IsPointer, base_of}
use Rattle.object_meaning.proofs.LineLaws.{given_is}
use Rattle.std.proofs.lemmas.Map.Keys.{any_passes_from_place}

abbrev pub numbered : ℕ → ValueId
numbered v = record { 0 = v }

pub base_stands : (table : List Operand) (x v : ℕ) → base_at table x ≡ named v → slice_get table x ≡ Some (named v)
base_stands table x v is = elim (cases_lt x (length table)) [
  | inl below ↦ slice_get-get_or table x operands.Null below ∙ ap (λ o. Some o) is
  | inr past ↦ absurd (let none : operands.Null ≡ named v = sym (get_or_past table x operands.Null past) ∙ is in cc)
]

-- the table has an entry for each pointer
pub table_there : (func : Function) (table : List Operand) (merged : ℕ → ValueId) → IsBaseTable func merged table → (v : ℕ) → among v (pointers func) ≡ true
    → slice_get table v ≡ Some (base_at table v)
table_there func table merged bases v pointer =
    let typed = (among_filter (λ (x : ℕ). option_map_or is_pointer (slice_get (value_types func) x) false) v (range_with_len 0 (length (value_types func))) pointer).1 in
    let below = some_below (slice_get (value_types func) v) refl typed in
    let count = length-map (definitions_of func) definition_type in
    let long = bases.whole in
    slice_get-get_or table v operands.Null (omega (arith, below, count, long))
  where
    some_below : (t : Option Ty) → slice_get (value_types func) v ≡ t → option_map_or is_pointer t false ≡ true → v < length (value_types func)
    some_below None none is = absurd (false≢true is)
    some_below (Some ty) at is = slice_get_within (value_types func) v ty at

truly : (s t : Bool) → s ≡ true → (not s || t) ≡ true → t ≡ true
truly true t is either = either
truly false t is either = absurd (false≢true is)

module _ (func : Function) (reached : IsReached func) where
  comes_on : (b : ℕ) (block : BasicBlock) → slice_get func.blocks b ≡ Some block → Comes func b 0 → (place : ℕ) → place ≤ length block.insts → Comes func b place
  comes_on b block found start zero within = start
  comes_on b block found start (suc place) within =
      let inst = get_some block.insts place (omega (arith, within)) in
      past_line b place inst.0 (comes_on b block found start place (omega (arith, within))) (record { block = block; in_function = found; in_block = inst.1 })

  comes_to : (blocks : List ℕ) (b : ℕ) → Path (graph_of func) blocks b → Comes func b 0
  comes_to _ _ at_entry = to_entry
  comes_to _ _ (along blocks from to path edge) =
      let block = edge_block func from to edge in
      over_edge from to block.0 (comes_on from block.0 block.1 (comes_to blocks from path) (length block.0.insts) (omega arith)) block.1 edge

  -- a path comes to each line
  pub comes_there : (b k : ℕ) (line : Line) → slice_get (lines_at func b) k ≡ Some line → Comes func b k
  comes_there b k line at =
      let stands = (line_from func b k line at).stands in
      let below = slice_get_within func.blocks b stands.block stands.in_function in
      let within = slice_get_within stands.block.insts k line.inst stands.in_block in
      let path = reached b below in
      comes_on b stands.block stands.in_function (comes_to path.0 b path.1) k (omega (arith, within))

module _ (func : Function) (table : List Operand) (merged : ℕ → ValueId) (has : HasDefiniteBases func merged) (bases : IsBaseTable func merged table)
    (bare : PhisAreBare func) (phis : PhisAreRight func) (reached : IsReached func) where
  pub based : (v w : ℕ) → base_at table v ≡ named w → Base func merged (named v) (named w)
  based v w is = bases.each (numbered v) (named w) (base_stands table v w is)

  -- where a line defines the base, what is derived isn't defined yet
  defined_again : (b k v w : ℕ) (line : Line) → slice_get (lines_at func b) k ≡ Some line → base_at table v ≡ named w → (v ≡ w → ⊥) → gives line w ≡ true
      → Undefined func v b k
  defined_again b k v w line at base apart given =
      let defines = given_defines func w b k line at (given_is line.to w given) in
      let undefined = first_time func w b k defines (comes_there func reached b k line at) in
      let high = given_high func w defines.inst (defines_gives func w b k defines) in
      base_first func merged has (numbered w) high b k undefined (numbered v) (based v w base) apart

  none_again : (b k v w : ℕ) (line : Line) → slice_get (lines_at func b) k ≡ Some line → gives line v ≡ false → base_at table v ≡ named w
      → (Undefined func v b k → length func.args ≤ v → ⊥) → gives line w ≡ false
  none_again b k v w line at none base unused = elim (cases_Bool (gives line w)) [
    | inr other ↦ other
    | inl given ↦
        let apart : v ≡ w → ⊥ = λ same. true≢false (sym given ∙ ap (gives line) (sym same) ∙ none) in
        absurd (unused (defined_again b k v w line at base apart given) (derived_high func merged has.bases (numbered v) (numbered w) (based v w base) apart))
  ]

  steady_live : (b k v w : ℕ) (line : Line) → slice_get (lines_at func b) k ≡ Some line → gives line v ≡ false → base_at table v ≡ named w → Live func table v b (suc k)
      → gives line w ≡ false
  steady_live b k v w line at none base walk = none_again b k v w line at none base (λ undefined high.
      live_defined func table merged has bases bare v high b (suc k) walk
      (behind_line b k line.inst undefined (line_from func b k line at).stands (gives_defines func v b k line at none)))

  pub steady : (b k v w : ℕ) (line : Line) → slice_get (lines_at func b) k ≡ Some line → among v (pointers func) ≡ true → live_table func table b (suc k) v ≡ true
      → gives line v ≡ false → base_at table v ≡ named w → gives line w ≡ false
  steady b k v w line at pointer alive none base =
      elim (or_cases (any_held func table v (line_at func b k).inst) (is_live func table b (suc k) v) (truly (among v (pointers func)) (is_live_after func table b k v) pointer alive)) [
        | inr walk ↦ steady_live b k v w line at none base (live_sound func table v b (suc k) walk)
        | inl holds ↦
            let here : any_held func table v line.inst ≡ true = ap (λ (l : Line). any_held func table v l.inst) (sym (line_is func b k line at)) ∙ holds in
            let found = any_found (λ (e : Ty × Operand). is_use func table v e.1) line.inst.bundle here in
            none_again b k v w line at none base (λ undefined high.
            use_undefined func table merged has bases bare v high (found.1).1 (use_is func table v (found.1).1 found.3) b k (text_place func b k)
            (held_used func table merged has bases bare b k line (found.1).1 at
            (contains_get (map (λ (e : Ty × Operand). e.1) line.inst.bundle) found.0 (found.1).1 (get_map (λ (e : Ty × Operand). e.1) line.inst.bundle found.0 found.1 found.2)))
            undefined)
      ]

  -- ---- each pointer's base is its own

  module _ (own : (v : ℕ) → among v (pointers func) ≡ true → IsOwn func table (base_at table v)) where
    use_base : (v w : ℕ) → among v (pointers func) ≡ true → base_at table v ≡ named w → (o : Operand) → IsUse func table v o → IsUse func table w o
    use_base v w pointer base o (inl itself) =
        let place = any_found (λ (x : ℕ). eqb x v) (pointers func) pointer in
        let same : place.1 ≡ v = eqb-true place.1 v place.3 in
        inr (v, itself, contains_get (pointers func) place.0 v (place.2 ∙ ap (λ x. Some x) same), base)
    use_base v w pointer base o (inr derived) =
        let at = get_contained (pointers func) derived.0 derived.2 in
        let is_one : among derived.0 (pointers func) ≡ true = any_passes_from_place (λ (x : ℕ). eqb x derived.0) (pointers func) at.0 derived.0 at.1 (eq-eqb derived.0 derived.0 refl) in
        let alone : base_at table v ≡ named v = subst (λ (x : Operand). base_of func table x ≡ x) derived.3 (own derived.0 is_one).1 in
        inr (derived.0, derived.1, derived.2, derived.3 ∙ sym alone ∙ base)

    live_base : (v w : ℕ) → among v (pointers func) ≡ true → base_at table v ≡ named w → (b k : ℕ) → Live func table v b k → Live func table w b k
    live_base v w pointer base _ _ (used b k line o at no_phi within this) = used b k line o at no_phi within (use_base v w pointer base o this)
    live_base v w pointer base _ _ (held b k line o at within this) = held b k line o at within (use_base v w pointer base o this)
    live_base v w pointer base _ _ (later b k line at none walk) =
        later b k line at (steady_live b k v w line at none base walk) (live_base v w pointer base b (suc k) walk)
    live_base v w pointer base _ _ (entry b k to place phi o last edge at one is_entry this) = entry b k to place phi o last edge at one is_entry (use_base v w pointer base o this)
    live_base v w pointer base _ _ (crosses b k to last edge walk) = crosses b k to last edge (live_base v w pointer base to 0 walk)

    base_walk : (b k v w : ℕ) → among v (pointers func) ≡ true → base_at table v ≡ named w → is_live func table b k v ≡ true → is_live func table b k w ≡ true
    base_walk b k v w pointer base walk =
        live_complete func table w (phis_agree func phis) b k (live_base v w pointer base b k (live_sound func table v b k walk))

    pub base_live : (b k v w : ℕ) → among v (pointers func) ≡ true → live_table func table b k v ≡ true → base_at table v ≡ named w → live_table func table b k w ≡ true
    base_live b zero v w pointer alive base =
        in_table func table b 0 w (base_walk b 0 v w pointer base (truly (among v (pointers func)) (is_live func table b 0 v) pointer alive))
    base_live b (suc k) v w pointer alive base =
        elim (or_cases (any_held func table v (line_at func b k).inst) (is_live func table b (suc k) v) (truly (among v (pointers func)) (is_live_after func table b k v) pointer alive)) [
          | inr walk ↦ in_table func table b (suc k) w (base_walk b (suc k) v w pointer base walk)
          | inl holds ↦
              let found = any_found (λ (e : Ty × Operand). is_use func table v e.1) (line_at func b k).inst.bundle holds in
              let this = use_base v w pointer base (found.1).1 (use_is func table v (found.1).1 found.3) in
              or_right (not (among w (pointers func))) (is_live_after func table b k w)
              (or_left (any_held func table w (line_at func b k).inst) (is_live func table b (suc k) w)
              (any_passes_from_place (λ (e : Ty × Operand). is_use func table w e.1) (line_at func b k).inst.bundle found.0 found.1 found.2 (use_from func table w (found.1).1 this)))
        ]

    -- a pointer that is live at the entry is an argument, and its own base
    pub at_entry_own : (v : ℕ) → among v (pointers func) ≡ true → live_table func table 0 0 v ≡ true → (v < length func.args) × (base_at table v ≡ named v)
    at_entry_own v pointer alive = elim (cases_lt v (length func.args)) [
      | inr high ↦
          absurd (live_defined func table merged has bases bare v high 0 0 (live_sound func table v 0 0 (truly (among v (pointers func)) (is_live func table 0 0 v) pointer alive)) at_first)
      | inl below ↦ (below, argument_own v below pointer (base_at table v) refl)
    ]
      where
        no_null : (one two : Operand) → Base func merged one two → (v : ℕ) → one ≡ named v → two ≡ operands.Null → v < length func.args → ⊥
        no_null _ _ of_null v is null below = cc
        no_null _ _ (of_itself value none) v is null below = cc
        no_null _ _ (of_step value inst from two gives step first rest) v is null below =
            let both : Some value.0 ≡ Some v = ap value_in is in
            let same : value.0 ≡ v = cc in
            let high = given_high func value.0 inst gives in
            omega (arith, same, high, below)
        no_null _ _ (of_merge value inst gives merge derived) v is null below = cc

        argument_own : (v : ℕ) → v < length func.args → among v (pointers func) ≡ true → (base : Operand) → base_at table v ≡ base → base ≡ named v
        argument_own v below pointer (operands.Value value) is = elim (cases_eq v value.0) [
          | inl same ↦ ap named (sym same)
          | inr apart ↦ absurd (let high = derived_high func merged has.bases (numbered v) value (based v value.0 is) apart in omega (arith, high, below))
        ]
        argument_own v below pointer operands.Null is = absurd (no_null (named v) operands.Null (bases.each (numbered v) operands.Null (table_there func table merged bases v pointer ∙ ap (λ o. Some o) is)) v refl refl below)
        argument_own v below pointer (operands.Int word) is = absurd (subst (IsPointer func table) is (own v pointer).0)
        argument_own v below pointer (operands.Fun called) is = absurd (subst (IsPointer func table) is (own v pointer).0)

  -- ---- no line uses its own result

  pub others : (b k place v : ℕ) (line : Line) → slice_get (lines_at func b) k ≡ Some line → is_phi line.inst.op ≡ false
      → slice_get line.inst.operands place ≡ Some (named v) → gives line v ≡ false
  others b k place v line at no_phi is = elim (cases_Bool (gives line v)) [
    | inr none ↦ none
    | inl given ↦
        let defines = given_defines func v b k line at (given_is line.to v given) in
        let undefined = first_time func v b k defines (comes_there func reached b k line at) in
        let high = given_high func v defines.inst (defines_gives func v b k defines) in
        absurd (undefined_unused func has.definite v high (text_place func b k) b k
        (operand_used func table merged has bases bare b k line (named v) at no_phi (contains_get line.inst.operands place (named v) is) v refl) undefined)
  ]

  pub held_other : (b k v : ℕ) (line : Line) (entry : Ty × Operand) → slice_get (lines_at func b) k ≡ Some line → Contains line.inst.bundle entry
      → entry.1 ≡ named v → gives line v ≡ false
  held_other b k v line held_entry at contained is = elim (cases_Bool (gives line v)) [
    | inr none ↦ none
    | inl given ↦
        let defines = given_defines func v b k line at (given_is line.to v given) in
        let undefined = first_time func v b k defines (comes_there func reached b k line at) in
        let high = given_high func v defines.inst (defines_gives func v b k defines) in
        absurd (undefined_unused func has.definite v high (text_place func b k) b k
        (held_used func table merged has bases bare b k line held_entry.1 at (contains_map (λ (e : Ty × Operand). e.1) line.inst.bundle held_entry contained) v is) undefined)
  ]
