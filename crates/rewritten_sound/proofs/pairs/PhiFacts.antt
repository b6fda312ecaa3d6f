-- The base of what a phi takes is what the phi of the bases takes, over each edge.
use Rattle.std.proofs.Common.{◌≡◌, ℕ, zero, suc, ◌+◌, ◌<◌, Bool, true, false, eqb, ◌||◌, if◌then◌else◌, List, [], ◌∷◌, ◌++◌, length, drop, replicate, refl, sym, ap, subst, ◌∙◌, inl, inr, arith}
use Rattle.std.specs.Prelude.{Option, Some, None, is_some, slice_get}
use Rattle.std.specs.List.{All, AllZip, position}
use Rattle.std.specs.Option.{option_map_or}
use Rattle.std.proofs.lemmas.Bool.{cases_Bool, eq-eqb, false≢true, true≢false, or_parts}
use Rattle.std.proofs.lemmas.List.{length-append, take-append-drop}
use Rattle.std.proofs.lemmas.Option.{get_or_from_slice_get, none-some, same_Some, slice_get_within}
use Rattle.list_laws.proofs.Contents.{all_at}
use Rattle.list_laws.proofs.Places.{get_middle, get_past, get_some, get_taken}
use Rattle.sp_ids.specs.declared.ids.BlockId.{BlockId}
use Rattle.sp_ids.specs.declared.ids.ValueId.{ValueId}
use Rattle.ir_ast.specs.declared.types.Ty.{Ty}
use Rattle.ir_ast.specs.declared.types.Ty.TheVariants as types
use Rattle.ir_ast.specs.declared.ops.Op.{Op}
use Rattle.ir_ast.specs.declared.ops.Op.TheVariants as ops
use Rattle.ir_ast.specs.declared.ops.Operand.{Operand}
use Rattle.ir_ast.specs.declared.ops.Operand.TheVariants as operands
use Rattle.ir_ast.specs.Bases.{Base, IsBaseTable, MergesBases, of_itself, of_merge, of_null, of_step}
use Rattle.ir_ast.specs.Blocks.{BasicBlock, EndsAtTerminator}
use Rattle.ir_ast.specs.Derived.{Derived, by_merge, is_merge, is_step}
use Rattle.ir_ast.specs.Edges.{count_of, targets}
use Rattle.ir_ast.specs.Insts.{Instruction}
use Rattle.ir_ast.specs.Funcs.{Function, instructions_of}
use Rattle.ir_ast.specs.Lines.{IsLine, LineOf}
use Rattle.ir_ast.specs.Modules.{ModuleContent}
use Rattle.ir_ast.specs.Operands.{value_in}
use Rattle.ir_ast.specs.Ops.{is_terminator}
use Rattle.ir_ast.specs.Scope.{scope_of}
use Rattle.ir_ast.specs.Values.{Gives, outcome, outcome_type, value_types}
use Rattle.ir_ast.specs.Faults.GroupShape.{number_at}
use Rattle.ir_ast.specs.Faults.PhiEdges.{PhisAreRight, is_phi}
use Rattle.ir_ast.specs.Faults.TypeClash.{Fits, IsTyped, asked}
use Rattle.ir_ast.proofs.BaseLemmas.{one_base, same_instruction}
use Rattle.ir_cfg.specs.DefiniteUses.{Stands, text_place}
use Rattle.ir_cfg.proofs.KeepsCounts.{count_found, count_some}
use Rattle.ir_cfg.proofs.KeepsPaths.{succs_at}
use Rattle.ir_cfg.specs.Paths.{IsReached}
use Rattle.definite_assign.proofs.TextLemmas.{one_definition, stands_in_text, text_next}
use Rattle.object_meaning.specs.Jumps.{phi_count}
use Rattle.object_meaning.specs.Lines.{Line}
use Rattle.rewriting_forms.specs.Numbered.{among, base_at, gives, is_given, lines_at, named, pointers}
use Rattle.rewriting_forms.specs.Liveness.{live_table}
use Rattle.rewriting_laws.specs.Laws.{Edge}
use Rattle.rewriting_laws.proofs.LiveLaws.{table_closed}
use Rattle.rewriting_laws.proofs.NameLemmas.{at_rest, found}
use Rattle.base_laws.proofs.TypeLaws.{type_of_given}
use Rattle.base_definite.specs.Paths.{HasDefiniteBases}
use Rattle.base_definite.proofs.base_paths.GivesLaws.{defines_gives, given_named, gives_at, one_text_place, one_value, stands_one}
use Rattle.rewritten_sound.specs.LeadsOut.{PhisAreBare}
use Rattle.rewritten_sound.proofs.definite.EdgeLaws.{edge_from}
use Rattle.rewritten_sound.proofs.definite.LineLaws.{given_defines}
use Rattle.rewritten_sound.proofs.definite.UsedLaws.{edge_block, phi_right, uses_operand}
use Rattle.pair_facts.specs.Lines.{operand_at, phis_in}
use Rattle.pair_facts.specs.Pairs.{along, incoming}
use Rattle.rewritten_sound.specs.Takes.{IsPointer, base_of}
use Rattle.rewritten_sound.proofs.pairs.BaseFacts.{entry_base, fits_pointer, pointer_is, underived_own}
use Rattle.rewritten_sound.proofs.pairs.EdgeFacts.{gives_any, no_phi, phi_found}
use Rattle.rewritten_sound.proofs.pairs.StayFacts.{steady}
use Rattle.object_meaning.proofs.LineLaws.{given_is}
use Rattle.std.proofs.lemmas.Map.Keys.{any_passes_from_place}
use Rattle.ir_ast.proofs.OpLaws.{merge_goes_on, phi_is}
use Rattle.list_laws.proofs.Tests.{prefix_passes}
use Rattle.rewriting_laws.proofs.JumpLemmas.{prefix_within}
use Rattle.base_definite.proofs.base_paths.StayLaws.{last_of_block, text_before}
use Rattle.base_definite.proofs.LinePlaces.{line_from, line_forth}

-- ---- the line before a merge

-- ---- what a value's base says of the line that gives it

pub data Shape (func : Function) (merged : ℕ → ValueId) (v : ℕ) (inst : Instruction) (base : Operand) : Type 0 where
  is_own : (Derived func v → ⊥) → base ≡ named v → Shape func merged v inst base
  is_stepped : (pointer : Operand) → is_step inst.op ≡ true → slice_get inst.operands 0 ≡ Some pointer → Base func merged pointer base → Shape func merged v inst base
  is_merged : is_merge inst.op ≡ true → Derived func v → base ≡ named (merged v).0 → Shape func merged v inst base

pub shape : (func : Function) (merged : ℕ → ValueId) (one base : Operand) → Base func merged one base → (v : ℕ) (inst : Instruction) → one ≡ named v → Gives func v inst → Shape func merged v inst base
shape func merged _ _ of_null v inst is given = absurd cc
shape func merged _ _ (of_itself value none) v inst is given =
    let both : Some value.0 ≡ Some v = ap value_in is in
    let same : value.0 ≡ v = cc in
    is_own (subst (λ (n : ℕ). Derived func n → ⊥) same none) is
shape func merged _ _ (of_step value other pointer base gives_other step first rest) v inst is given =
    let both : Some value.0 ≡ Some v = ap value_in is in
    let same : value.0 ≡ v = cc in
    let same_inst : other ≡ inst = same_instruction func v other inst (subst (λ (n : ℕ). Gives func n other) same gives_other) given in
    is_stepped pointer (ap (λ (i : Instruction). is_step i.op) (sym same_inst) ∙ step) (ap (λ (i : Instruction). slice_get i.operands 0) (sym same_inst) ∙ first) rest
shape func merged _ _ (of_merge value other gives_other merge derived) v inst is given =
    let both : Some value.0 ≡ Some v = ap value_in is in
    let same : value.0 ≡ v = cc in
    let same_inst : other ≡ inst = same_instruction func v other inst (subst (λ (n : ℕ). Gives func n other) same gives_other) given in
    is_merged (ap (λ (i : Instruction). is_merge i.op) (sym same_inst) ∙ merge) (subst (Derived func) same derived) (ap (λ (n : ℕ). named (merged n).0) same)

null_has : (func : Function) (merged : ℕ → ValueId) (one base : Operand) → Base func merged one base → one ≡ operands.Null → base ≡ operands.Null
null_has func merged _ _ of_null is = refl
null_has func merged _ _ (of_itself value none) is = absurd cc
null_has func merged _ _ (of_step value inst pointer base gives_it step first rest) is = absurd cc
null_has func merged _ _ (of_merge value inst gives_it merge derived) is = absurd cc

pub fits_repeated : (values : List Ty) (given : List Operand) (n k : ℕ) (ty : Ty) (o : Operand) → AllZip (Fits values) given (replicate n ty) → slice_get given k ≡ Some o → Fits values o ty
fits_repeated values [] n k ty o fits at = absurd (none-some o at)
fits_repeated values (x ∷ given) zero k ty o fits at = absurd fits
fits_repeated values (x ∷ given) (suc n) zero ty o fits at = let same : x ≡ o = cc in subst (λ (y : Operand). Fits values y ty) same fits.0
fits_repeated values (x ∷ given) (suc n) (suc k) ty o fits at = fits_repeated values given n k ty o fits.1 at

zip_at : (func : Function) (merged : ℕ → ValueId) (given others : List Operand) (k : ℕ) (o : Operand) → AllZip (Base func merged) given others → slice_get given k ≡ Some o
    → Base func merged o (operand_at others k)
zip_at func merged [] others k o zip at = absurd (none-some o at)
zip_at func merged (x ∷ given) [] k o zip at = absurd zip
zip_at func merged (x ∷ given) (y ∷ others) zero o zip at = let same : x ≡ o = cc in subst (λ (z : Operand). Base func merged z y) same zip.0
zip_at func merged (x ∷ given) (y ∷ others) (suc k) o zip at = zip_at func merged given others k o zip.1 at

module _ (content : ModuleContent) (func : Function) (table : List Operand) (merged : ℕ → ValueId) (has : HasDefiniteBases func merged) (bases : IsBaseTable func merged table)
    (bare : PhisAreBare func) (phis_right : PhisAreRight func) (reached : IsReached func) (forms : All IsLine (instructions_of func.blocks))
    (typed : All (IsTyped (scope_of content func)) (instructions_of func.blocks))
    (underived : (pointer base : ValueId) → Base func merged (operands.Value pointer) (operands.Value base) → Derived func base.0 → ⊥) where
  pub gives_here : (b k v : ℕ) (line : Line) → slice_get (lines_at func b) k ≡ Some line → gives line v ≡ true → Gives func v line.inst
  gives_here b k v line at given =
      let defines = given_defines func v b k line at (given_is line.to v given) in
      subst (Gives func v) (stands_one func b k defines.inst line.inst defines.stands (line_from func b k line at).stands) (defines_gives func v b k defines)

  pub entry_of : (v : ℕ) → among v (pointers func) ≡ true → Base func merged (named v) (base_at table v)
  entry_of v pointer = entry_base content func table merged has.bases bases typed underived v pointer

  -- the base of a pointer operand is what the relation gives
  pub base_same : (o base : Operand) → IsPointer func table o → Base func merged o base → base_of func table o ≡ base
  base_same (operands.Value value) base pointer relation = one_base (operands.Value value) (base_at table value.0) base (entry_of value.0 pointer) relation
  base_same operands.Null base pointer relation = sym (null_has func merged operands.Null base relation refl)
  base_same (operands.Int word) base pointer relation = absurd pointer
  base_same (operands.Fun called) base pointer relation = absurd pointer

  -- the line of the bases of a derived phi or select, directly before it
  pub record MergedLine (b k v : ℕ) : Type 0 where
    pub before : ℕ
    pub next : k ≡ suc before
    pub line : Line
    pub stands : slice_get (lines_at func b) before ≡ Some line
    pub gives_merged : line.to ≡ Some (merged v).0
    pub is_inserted : line.inst ≡ has.bases.inserted v

  pub merged_line : (b k v : ℕ) (line : Line) → slice_get (lines_at func b) k ≡ Some line → gives line v ≡ true → is_merge line.inst.op ≡ true → Derived func v → MergedLine b k v
  merged_line b k v line at given merge derived =
      let inst_gives = gives_here b k v line at given in
      let as_in = has.bases.each v line.inst inst_gives merge derived in
      let inserted = has.bases.inserted v in
      let beside = as_in.beside in
      let whole = beside.2 in
      let line_there : slice_get (instructions_of func.blocks) (length beside.0) ≡ Some (has.bases.inserted v) =
      ap (λ insts. slice_get insts (length beside.0)) whole ∙ get_middle beside.0 (has.bases.inserted v) (line.inst ∷ beside.1) in
      let next_place : length beside.0 + 1 ≡ suc (length beside.0) = omega arith in
      let inst_there : slice_get (instructions_of func.blocks) (suc (length beside.0)) ≡ Some line.inst =
      ap (λ insts. slice_get insts (suc (length beside.0))) whole
      ∙ (ap (λ n. slice_get (beside.0 ++ has.bases.inserted v ∷ line.inst ∷ beside.1) n) (sym next_place) ∙ get_past beside.0 (has.bases.inserted v ∷ line.inst ∷ beside.1) 1) in
      let is_named = given_named func v line.inst inst_gives in
      let number_is = one_value func has.names (number_at func (suc (length beside.0))) v (outcome line.inst) (gives_at func (suc (length beside.0)) line.inst inst_there is_named) inst_gives in
      let defines = given_defines func v b k line at (given_is line.to v given) in
      let place = one_text_place func (suc (length beside.0)) (text_place func b k) line.inst defines.inst inst_there
      (stands_in_text func b k defines.inst defines.stands) is_named defines.named (number_is ∙ sym defines.numbered) in
      let goes_on : is_terminator (has.bases.inserted v).op ≡ false = ap is_terminator as_in.op ∙ merge_goes_on line.inst.op merge in
      let before = text_before func has.ends b k defines.inst defines.stands (has.bases.inserted v) (length beside.0) line_there goes_on place in
      let line_named = given_named func (merged v).0 (has.bases.inserted v) as_in.given in
      let line_number = one_value func has.names (number_at func (text_place func b before.0)) (merged v).0 (outcome (has.bases.inserted v))
      (gives_at func (text_place func b before.0) (has.bases.inserted v) (stands_in_text func b before.0 (has.bases.inserted v) before.2) line_named) as_in.given in
      let forth = line_forth func b before.0 (has.bases.inserted v) before.2 in
      let from = line_from func b before.0 forth.0 forth.1 in
      record {
        before = before.0;
        next = before.1;
        line = forth.0;
        stands = forth.1;
        gives_merged = from.to ∙ (ap (λ (t : Bool). if t then Some (number_at func (text_place func b before.0)) else None) (ap (λ (i : Instruction). is_some i.result) forth.2 ∙ line_named)
            ∙ ap (λ n. Some n) line_number);
        is_inserted = forth.2;
      }

  -- ---- over an edge

  module _ (from to : ℕ) (edge : Edge func from to) where
    abbrev phis : List Line
    phis = phis_in (lines_at func to)

    all_phis : (k : ℕ) (x : Line) → slice_get phis k ≡ Some x → is_phi x.inst.op ≡ true
    all_phis k x is = prefix_passes (λ (line : Line). is_phi line.inst.op) (lines_at func to) k x is

    in_lines : (k : ℕ) (x : Line) → slice_get phis k ≡ Some x → slice_get (lines_at func to) k ≡ Some x
    in_lines k x is =
        let within = slice_get_within phis k x is in
        let count = prefix_within (λ (line : Line). is_phi line.inst.op) (lines_at func to) in
        sym (get_taken (lines_at func to) k (phi_count (lines_at func to)) (omega (arith, within, count))) ∙ is

    -- which entry of a phi the edge takes
    record Taken (phi : Instruction) : Type 0 where
      place : ℕ
      is_place : position (λ (label : BlockId). eqb label.0 from) phi.labels ≡ Some place
      operand : Operand
      stands : slice_get phi.operands place ≡ Some operand

    taken : (k : ℕ) (phi : Line) → slice_get (lines_at func to) k ≡ Some phi → is_phi phi.inst.op ≡ true → Taken phi.inst
    taken k phi at is =
        let stands = (line_from func to k phi at).stands in
        let right = (phi_right func phis_right to k phi.inst stands is).1 in
        let own_edge = edge_from func from to edge in
        let block = edge_block func from to own_edge in
        let leads = ap (λ (ls : List BlockId). slice_get ls own_edge.number) (sym (succs_at func from block.0 block.1)) ∙ own_edge.leads in
        let some = count_some to (targets block.0) own_edge.number (record { 0 = to }) leads refl in
        let edges_are = ap (λ (b : Option BasicBlock). option_map_or (λ (x : BasicBlock). count_of to (targets x)) b 0) block.1 in
        let counted = right.counted from in
        let label = count_found from phi.inst.labels (omega (arith, some, edges_are, counted)) in
        let first = found (λ (l : BlockId). eqb l.0 from) phi.inst.labels label.0 label.1 label.2 (eq-eqb (label.1).0 from label.3) in
        let form = subst (λ (o : Op). LineOf o phi.inst) (phi_is phi.inst.op is) (all_at IsLine (instructions_of func.blocks) _ phi.inst forms (stands_in_text func to k phi.inst stands)) in
        let count = form.0.label_count in
        let within = slice_get_within phi.inst.labels first.0 first.1 first.3 in
        let operand = get_some phi.inst.operands first.0 (omega (arith, count, within)) in
        record { place = first.0; is_place = first.2; operand = operand.0; stands = operand.1 }

    takes_operand : (phi : Instruction) (one : Taken phi) → incoming from phi ≡ one.operand
    takes_operand phi one =
        ap (λ (p : Option ℕ). option_map_or (λ (place : ℕ). operand_at phi.operands place) p operands.Null) one.is_place
        ∙ get_or_from_slice_get phi.operands one.place one.operand (operands.Int 0) one.stands

    taken_pointer : (k v : ℕ) (phi : Line) → slice_get (lines_at func to) k ≡ Some phi → is_phi phi.inst.op ≡ true → gives phi v ≡ true → among v (pointers func) ≡ true → (one : Taken phi.inst)
        → IsPointer func table one.operand
    taken_pointer k v phi at is given pointer one =
        let op = phi_is phi.inst.op is in
        let type = same_Some phi.inst.ty types.Ptr
        (sym (ap (λ (o : Op). Some (outcome_type o phi.inst.ty)) op) ∙ sym (type_of_given func v (outcome phi.inst) (gives_here to k v phi at given)) ∙ pointer_is func v pointer) in
        let line = all_at (IsTyped (scope_of content func)) (instructions_of func.blocks) _ phi.inst typed (stands_in_text func to k phi.inst (line_from func to k phi at).stands) in
        let fits = fits_repeated (value_types func) phi.inst.operands (length phi.inst.operands) one.place phi.inst.ty one.operand
        (subst (λ (o : Op). AllZip (Fits (value_types func)) phi.inst.operands (asked o phi.inst.ty (length phi.inst.operands))) op line.operands) one.stands in
        fits_pointer func table one.operand (subst (Fits (value_types func) one.operand) type fits)

    -- an underived phi takes what isn't derived
    taken_own : (v : ℕ) (phi : Instruction) → Gives func v phi → is_phi phi.op ≡ true → (Derived func v → ⊥) → (place : ℕ) (o : Operand) → slice_get phi.operands place ≡ Some o → IsPointer func table o
        → base_of func table o ≡ o
    taken_own v phi given is none place (operands.Value value) at pointer =
        underived_own content func table merged has.bases bases typed underived value.0 pointer
        (λ derived. none (by_merge v value.0 phi given (ap is_merge (phi_is phi.op is)) (uses_operand phi place value.0 at) derived))
    taken_own v phi given is none place (operands.Int word) at pointer = refl
    taken_own v phi given is none place operands.Null at pointer = refl
    taken_own v phi given is none place (operands.Fun called) at pointer = refl

    -- the phi of the bases takes the base
    merged_takes : (k v : ℕ) (phi : Line) → slice_get (lines_at func to) k ≡ Some phi → is_phi phi.inst.op ≡ true → gives phi v ≡ true → Derived func v → k < phi_count (lines_at func to)
        → (one : Taken phi.inst) → IsPointer func table one.operand → along from phis (named (merged v).0) ≡ base_of func table one.operand
    merged_takes k v phi at is given derived below one pointer =
        let op = phi_is phi.inst.op is in
        let merge : is_merge phi.inst.op ≡ true = ap is_merge op in
        let own_line = merged_line to k v phi at given merge derived in
        let next = own_line.next in
        let in_phis : slice_get phis own_line.before ≡ Some own_line.line =
        get_taken (lines_at func to) own_line.before (phi_count (lines_at func to)) (omega (arith, next, below)) ∙ own_line.stands in
        let gives_w : gives own_line.line (merged v).0 ≡ true = ap (λ (t : Option ℕ). is_given t (merged v).0) own_line.gives_merged ∙ eq-eqb (merged v).0 (merged v).0 refl in
        let any = any_passes_from_place (λ (x : Line). gives x (merged v).0) phis own_line.before own_line.line in_phis gives_w in
        let first = phi_found from (merged v).0 phis any in
        let places = one_definition func (merged v).0 to first.0 to own_line.before
        (given_defines func (merged v).0 to first.0 first.1 (in_lines first.0 first.1 first.2) (given_is (first.1).to (merged v).0 first.3))
        (given_defines func (merged v).0 to own_line.before own_line.line own_line.stands own_line.gives_merged) in
        let same : first.1 ≡ own_line.line = same_Some first.1 own_line.line (sym first.2 ∙ ap (slice_get phis) places ∙ in_phis) in
        let as_in = has.bases.each v phi.inst (gives_here to k v phi at given) merge derived in
        let zip = subst (λ (o : Op). MergesBases func merged o phi.inst.operands (has.bases.inserted v).operands) op as_in.operands in
        let relation = zip_at func merged phi.inst.operands (has.bases.inserted v).operands one.place one.operand zip one.stands in
        first.4
        ∙ ap (λ (l : Line). incoming from l.inst) same
        ∙ ap (incoming from) own_line.is_inserted
        ∙ ap (λ (labels : List BlockId). option_map_or (λ (place : ℕ). operand_at (has.bases.inserted v).operands place) (position (λ (label : BlockId). eqb label.0 from) labels) operands.Null) as_in.labels
        ∙ ap (λ (p : Option ℕ). option_map_or (λ (place : ℕ). operand_at (has.bases.inserted v).operands place) p operands.Null) one.is_place
        ∙ sym (base_same one.operand (operand_at (has.bases.inserted v).operands one.place) pointer relation)

    -- ---- what no phi gives

    live_back : (v j : ℕ) (xs rest : List Line) → drop j (lines_at func to) ≡ xs ++ rest → gives_any xs v ≡ false → live_table func table to (j + length xs) v ≡ true → live_table func table to j v ≡ true
    live_back v j [] rest place none alive = let e : j + 0 ≡ j = omega arith in ap (λ (k : ℕ). live_table func table to k v) (sym e) ∙ alive
    live_back v j (x ∷ xs) rest place none alive =
        let here = at_rest (lines_at func to) j x (xs ++ rest) place in
        let parts = or_parts (gives x v) (gives_any xs v) none in
        let e : j + suc (length xs) ≡ suc j + length xs = omega arith in
        (table_closed func table).later to j v x here.0 parts.0 (live_back v (suc j) xs rest here.1 parts.1 (ap (λ (k : ℕ). live_table func table to k v) (sym e) ∙ alive))

    phis_steady : (v w j : ℕ) (xs rest : List Line) → drop j (lines_at func to) ≡ xs ++ rest → among v (pointers func) ≡ true → base_at table v ≡ named w → gives_any xs v ≡ false
        → live_table func table to (j + length xs) v ≡ true → gives_any xs w ≡ false
    phis_steady v w j [] rest place pointer base none alive = refl
    phis_steady v w j (x ∷ xs) rest place pointer base none alive =
        let here = at_rest (lines_at func to) j x (xs ++ rest) place in
        let parts = or_parts (gives x v) (gives_any xs v) none in
        let e : j + suc (length xs) ≡ suc j + length xs = omega arith in
        let later = ap (λ (k : ℕ). live_table func table to k v) (sym e) ∙ alive in
        let first = steady func table merged has bases bare phis_right reached to j v w x here.0 pointer (live_back v (suc j) xs rest here.1 parts.1 later) parts.0 base in
        ap (λ (t : Bool). t || gives_any xs w) first ∙ phis_steady v w (suc j) xs rest here.1 pointer base parts.1 later

    base_stays : (v : ℕ) → among v (pointers func) ≡ true → live_table func table to (phi_count (lines_at func to)) v ≡ true → gives_any phis v ≡ false → (base : Operand) → base_at table v ≡ base
        → along from phis base ≡ base
    base_stays v pointer alive none (operands.Value value) is =
        let count = prefix_within (λ (line : Line). is_phi line.inst.op) (lines_at func to) in
        let e : phi_count (lines_at func to) ≡ 0 + length phis = omega (arith, count) in
        no_phi from value.0 phis (phis_steady v value.0 0 phis (drop (phi_count (lines_at func to)) (lines_at func to)) (sym (take-append-drop (phi_count (lines_at func to)) (lines_at func to))) pointer is none
        (ap (λ (k : ℕ). live_table func table to k v) (sym e) ∙ alive))
    base_stays v pointer alive none (operands.Int word) is = refl
    base_stays v pointer alive none operands.Null is = refl
    base_stays v pointer alive none (operands.Fun called) is = refl

    -- the base of what comes over the edge comes over it too
    pub on_edges : (v : ℕ) → among v (pointers func) ≡ true → live_table func table to (phi_count (lines_at func to)) v ≡ true
        → IsPointer func table (along from phis (named v)) × (along from phis (base_at table v) ≡ base_of func table (along from phis (named v)))
    on_edges v pointer alive = elim (cases_Bool (gives_any phis v)) [
      | inr none ↦
          let same : along from phis (named v) ≡ named v = no_phi from v phis none in (
            subst (IsPointer func table) (sym same) pointer,
            base_stays v pointer alive none (base_at table v) refl ∙ sym (ap (base_of func table) same),
          )
      | inl any ↦
          let phi = phi_found from v phis any in
          let at = in_lines phi.0 phi.1 phi.2 in
          let is = all_phis phi.0 phi.1 phi.2 in
          let one = taken phi.0 phi.1 at is in
          let pointer_there = taken_pointer phi.0 v phi.1 at is phi.3 pointer one in
          let same : along from phis (named v) ≡ one.operand = phi.4 ∙ takes_operand phi.1.inst one in
          (subst (IsPointer func table) (sym same) pointer_there, by phi.0 phi.1 phi.2 phi.3 one pointer_there same (shape func merged (named v) (base_at table v) (entry_of v pointer) v phi.1.inst refl (gives_here to phi.0 v phi.1 at phi.3)))
    ]
      where
        by : (k : ℕ) (phi : Line) → slice_get phis k ≡ Some phi → gives phi v ≡ true → (one : Taken phi.inst) → IsPointer func table one.operand → along from phis (named v) ≡ one.operand
            → Shape func merged v phi.inst (base_at table v) → along from phis (base_at table v) ≡ base_of func table (along from phis (named v))
        by k phi at given one is_pointer_there same (is_own none base) =
            ap (along from phis) base ∙ same
            ∙ sym (ap (base_of func table) same
            ∙ taken_own v phi.inst (gives_here to k v phi (in_lines k phi at) given) (all_phis k phi at) none one.place one.operand one.stands is_pointer_there)
        by k phi at given one is_pointer_there same (is_stepped from_pointer step first rest) =
            absurd (true≢false (sym step ∙ ap is_step (phi_is phi.inst.op (all_phis k phi at))))
        by k phi at given one is_pointer_there same (is_merged merge derived base) =
            let within = slice_get_within phis k phi at in
            let count = prefix_within (λ (line : Line). is_phi line.inst.op) (lines_at func to) in
            ap (along from phis) base
            ∙ merged_takes k v phi (in_lines k phi at) (all_phis k phi at) given derived (omega (arith, within, count)) one is_pointer_there
            ∙ sym (ap (base_of func table) same)
