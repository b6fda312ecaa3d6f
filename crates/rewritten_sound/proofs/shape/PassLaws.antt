-- The lines that the rewriting writes are well formed: plain lines renamed, inserted phis, and groups.
use Rattle.std.proofs.Common.{◌≡◌, ℕ, zero, suc, ◌+◌, ◌-◌, ◌^◌, ◌<◌, ◌≤◌, Bool, true, false, not, eqb, ltb, ◌&&◌, if◌then◌else◌, List, [], ◌∷◌, ◌++◌, length, map, take, drop, replicate, refl, sym, ap, subst, ◌∙◌, ◌⊎◌, inl, inr, arith}
use Rattle.std.specs.Prelude.{Option, Some, None, filter, is_some, slice_get}
use Rattle.std.specs.List.{All, AllZip, filter_map, flat_map, list_all, list_any, position_or_len, range_with_len}
use Rattle.std.specs.Option.{option_map, option_map_or}
use Rattle.std.proofs.lemmas.Bool.{cases_Bool, eq-eqb, false≢true, ltb-true}
use Rattle.std.proofs.Math.Seq.{drop-append_seam}
use Rattle.std.proofs.lemmas.List.{length-append, length-map}
use Rattle.std.proofs.lemmas.List.Elements.{All-append, All-nil}
use Rattle.std.proofs.lemmas.List.FromFn.{length-range_with_len}
use Rattle.std.proofs.lemmas.Option.{none-some, slice_get_within}
use Rattle.list_laws.proofs.Contents.{all_at, all_back, all_from_at, all_front}
use Rattle.list_laws.proofs.Places.{filter_map_back, filter_map_forth, get_front, get_map, get_past, map_back, take_front_of, get_joined}
use Rattle.sp_ids.specs.declared.ids.BlockId.{BlockId}
use Rattle.sp_ids.specs.declared.ids.ValueId.{ValueId}
use Rattle.ir_ast.specs.declared.types.Ty.{Ty}
use Rattle.ir_ast.specs.declared.types.Ty.TheVariants as types
use Rattle.ir_ast.specs.declared.types.Ty.TheVariants.{Ptr, Token}
use Rattle.ir_ast.specs.declared.ops.Callee.{Callee}
use Rattle.ir_ast.specs.declared.ops.Callee.TheVariants as callees
use Rattle.ir_ast.specs.declared.ops.Op.{Op}
use Rattle.ir_ast.specs.declared.ops.Op.TheVariants as ops
use Rattle.ir_ast.specs.declared.ops.Operand.{Operand}
use Rattle.ir_ast.specs.declared.ops.Operand.TheVariants as operands
use Rattle.ir_ast.specs.Callees.{is_leaf}
use Rattle.ir_ast.specs.Insts.{Instruction}
use Rattle.ir_ast.specs.Funcs.{Function}
use Rattle.ir_ast.specs.Modules.{ModuleContent}
use Rattle.ir_ast.specs.Lines.{Arguments, IsCall, IsLine, IsStatepoint, LineOf}
use Rattle.ir_ast.specs.Operands.{functions_named, is_value, layouts_named, operands_of}
use Rattle.ir_ast.specs.Scope.{scope_of}
use Rattle.ir_ast.specs.Types.{is_answer, is_first_class, is_pointer, is_void}
use Rattle.ir_ast.specs.Values.{definition_type, definitions_of, value_types}
use Rattle.ir_ast.specs.Widths.{IsWidth, line_widths, operator_widths, type_widths}
use Rattle.ir_ast.specs.Faults.PhiEdges.{is_phi}
use Rattle.ir_ast.specs.Faults.TypeClash.{Fits, IsCallOf, IsTyped, RuleOf, TakesOperands, asked}
use Rattle.ir_ast.specs.Faults.UnknownName.{NamesOfModule}
use Rattle.ir_ast.specs.Faults.GroupShape.{is_statepoint, number_at}
use Rattle.ir_cfg.specs.DefiniteUses.{text_place}
use Rattle.ir_cfg.specs.Graphs.{graph_of, preds_of}
use Rattle.ir_cfg.proofs.UsedLaws.{values_known}
use Rattle.object_meaning.specs.Frames.{is_member}
use Rattle.object_meaning.specs.Lines.{Line}
use Rattle.rewriting_forms.specs.Numbered.{among, base_at, calls, gives, line_at, lines_at, named, pointers, preds}
use Rattle.rewriting_forms.specs.Liveness.{is_live_after, live_list, live_table}
use Rattle.rewriting_forms.specs.Names as forms
use Rattle.rewriting_forms.specs.Names.{Name, Names, Naming, names_at, names_at_end, own}
use Rattle.rewriting_forms.specs.Rewritten.{entries, index_of, inserted_phi, is_null, phi_operands, piece_inst, plain, relocate_of, renamed, same_operand, statepoint}
use Rattle.rewriting_laws.specs.Laws.{Fits as NamingFits, IsNumbering, Reached, at_first, over, owner_of}
use Rattle.rewriting_laws.specs.Laws as laws
use Rattle.rewriting_laws.proofs.NameLemmas.{names_value}
use Rattle.rewriting_laws.proofs.VersionLaws.{edge_within}
use Rattle.rewritten_sound.proofs.definite.NowLaws.{now, number, text}
use Rattle.rewritten_sound.proofs.definite.PieceLaws.{result_piece}
use Rattle.rewritten_sound.specs.WellFormed.{Carries, CarriesEntry, IsWellFormed, LineCarries}
use Rattle.rewritten_sound.proofs.shape.KeptLaws.{AreAlike, well_carried}
use Rattle.rewritten_sound.proofs.shape.NamedLaws.{InText, a_token, listed_pointer, name_type, names_in_text, owner_type, pointer_is}
use Rattle.rewritten_sound.specs.Takes.{HoldsOthers}
use Rattle.std.proofs.lemmas.Map.Keys.{any_passes_from_place}
use Rattle.base_definite.proofs.LinePlaces.{LineFrom, line_from}

-- ---- lists

all_pointers : (values : List Ty) (given : List Operand) → ((k : ℕ) (o : Operand) → slice_get given k ≡ Some o → Fits values o Ptr) → AllZip (Fits values) given (replicate (length given) Ptr)
all_pointers values [] each = tt
all_pointers values (o ∷ given) each = (each 0 o refl, all_pointers values given (λ k. each (suc k)))

zip_append : (values : List Ty) (xs ys : List Operand) (ts us : List Ty) → AllZip (Fits values) xs ts → AllZip (Fits values) ys us → AllZip (Fits values) (xs ++ ys) (ts ++ us)
zip_append values [] ys [] us first second = second
zip_append values [] ys (t ∷ ts) us first second = absurd first
zip_append values (x ∷ xs) ys [] us first second = absurd first
zip_append values (x ∷ xs) ys (t ∷ ts) us first second = (first.0, zip_append values xs ys ts us first.1 second)

all_values : (given : List Operand) → ((k : ℕ) (o : Operand) → slice_get given k ≡ Some o → is_value o ≡ true) → list_all is_value given ≡ true
all_values [] each = refl
all_values (o ∷ given) each = ap (λ t. t && list_all is_value given) (each 0 o refl) ∙ all_values given (λ k. each (suc k))

filter_few : (test : ℕ → Bool) (xs : List ℕ) → length (filter test xs) ≤ length xs
filter_few test [] = omega arith
filter_few test (x ∷ xs) = by (test x) (filter_few test xs)
  where
    by : (t : Bool) → length (filter test xs) ≤ length xs → length (if t then x ∷ filter test xs else filter test xs) ≤ suc (length xs)
    by true rest = omega arith
    by false rest = omega arith

-- what is read of operands is read of others, or nothing is
items_from : (P : ℕ → Type 0) (h : Operand → Option ℕ) (xs ys : List Operand)
    → ((k : ℕ) (y : Operand) → slice_get ys k ≡ Some y → (h y ≡ None) ⊎ ((j : ℕ) × (slice_get xs j ≡ Some y))) → All P (filter_map h xs) → All P (filter_map h ys)
items_from P h xs ys from all = all_from_at P (filter_map h ys) (λ k n at.
    let item = filter_map_back h ys n k at in
    elim (from item.place item.item item.stands) [
      | inl none ↦ absurd (none-some n (sym none ∙ item.gives))
      | inr there ↦
          let forth = filter_map_forth h xs there.0 item.item n there.1 item.gives in
          all_at P (filter_map h xs) forth.0 n all forth.1
    ])

pub no_items : (P : ℕ → Type 0) (h : Operand → Option ℕ) (ys : List Operand) → ((k : ℕ) (y : Operand) → slice_get ys k ≡ Some y → h y ≡ None) → All P (filter_map h ys)
no_items P h ys none = all_from_at P (filter_map h ys) (λ k n at.
    let item = filter_map_back h ys n k at in
    absurd (none-some n (sym (none item.place item.item item.stands) ∙ item.gives)))

some_among : (x : ℕ) (xs : List ℕ) → among x xs ≡ true → 0 < length xs
some_among x [] is = absurd (false≢true is)
some_among x (y ∷ xs) is = omega arith

-- no more pointers than values
pub pointers_few : (func : Function) → length (pointers func) ≤ length (definitions_of func)
pointers_few func =
    let all = filter_few (λ (v : ℕ). option_map_or is_pointer (slice_get (value_types func) v) false) (range_with_len 0 (length (value_types func))) in
    let range = length-range_with_len 0 (length (value_types func)) in
    let types = length-map (definitions_of func) definition_type in
    omega (arith, all, range, types)

-- and so no more live ones
pub list_few : (func : Function) (table : List Operand) (b k : ℕ) → length (live_list func table b k) ≤ length (definitions_of func)
list_few func table b k =
    let kept = filter_few (λ (v : ℕ). is_live_after func table b k v && not (gives (line_at func b k) v)) (pointers func) in
    let all = pointers_few func in
    omega (arith, kept, all)

-- the entries of a live list are pointers
module _ (func : Function) (table : List Operand) where
  pub entry_of : (b k place : ℕ) (o : Operand) → slice_get (entries func table b k) place ≡ Some o → (o ≡ operands.Null) ⊎ ((v : ℕ) × (o ≡ named v) × (among v (live_list func table b k) ≡ true))
  entry_of b k place o at = elim (get_joined _ (map (λ (v : ℕ). named v) (live_list func table b k)) place o at) [
    | inl null ↦ inl (first_is _ place null)
    | inr there ↦
        let before = map_back (λ (v : ℕ). named v) (live_list func table b k) there.0 o there.2 in
        inr (before.before, before.is, any_passes_from_place (λ (x : ℕ). eqb x before.before) (live_list func table b k) there.0 before.before before.stands (eq-eqb before.before before.before refl))
  ]
    where
      first_is : (t : Bool) (place : ℕ) → slice_get (if t then operands.Null ∷ [] else []) place ≡ Some o → o ≡ operands.Null
      first_is true zero is = cc
      first_is true (suc place) is = absurd cc
      first_is false place is = absurd cc

  -- a listed value has an entry
  pub listed_some : (b k v : ℕ) → among v (live_list func table b k) ≡ true → 0 < length (entries func table b k)
  listed_some b k v listed =
      let some = some_among v (live_list func table b k) listed in
      let long = length-append (if list_any (λ (x : ℕ). is_null (base_at table x)) (live_list func table b k) then operands.Null ∷ [] else []) (map (λ (x : ℕ). named x) (live_list func table b k)) in
      let count = length-map (live_list func table b k) (λ (x : ℕ). named x) in
      omega (arith, some, long, count)

  -- no more entries than values, and `null`
  pub entries_few : (b k : ℕ) → length (entries func table b k) ≤ length (definitions_of func) + 1
  entries_few b k =
      let long = length-append (if list_any (λ (x : ℕ). is_null (base_at table x)) (live_list func table b k) then operands.Null ∷ [] else []) (map (λ (x : ℕ). named x) (live_list func table b k)) in
      let count = length-map (live_list func table b k) (λ (x : ℕ). named x) in
      let one = one_null (list_any (λ (x : ℕ). is_null (base_at table x)) (live_list func table b k)) in
      let listed = list_few func table b k in
      omega (arith, long, count, one, listed)
    where
      one_null : (t : Bool) → length (if t then operands.Null ∷ [] else []) ≤ 1
      one_null true = omega arith
      one_null false = omega arith

  entry_fits : (b k place : ℕ) (o : Operand) → slice_get (entries func table b k) place ≡ Some o → Fits (value_types func) o Ptr
  entry_fits b k place o at = elim (entry_of b k place o at) [
    | inl null ↦ subst (λ (x : Operand). Fits (value_types func) x Ptr) (sym null) refl
    | inr there ↦ subst (λ (x : Operand). Fits (value_types func) x Ptr) (sym there.1) (pointer_is func there.0 (listed_pointer func table b k there.0 there.2))
  ]

  entry_value : (b k place : ℕ) (o : Operand) → slice_get (entries func table b k) place ≡ Some o → is_value o ≡ true
  entry_value b k place o at = elim (entry_of b k place o at) [ inl null ↦ ap is_value null | inr there ↦ ap is_value there.1 ]

-- ---- the statepoint of a call, over the values before

abbrev pub point_of : Function → List Operand → ℕ → ℕ → Line → Callee → List Ty → Instruction
point_of func table b k line callee types = record {
  result = Some [];
  op = ops.Statepoint 2882400000 callee types;
  ty = line.inst.ty;
  operands = line.inst.operands ++ entries func table b k;
  labels = [];
  bundle = line.inst.bundle;
}

module _ (content : ModuleContent) (func : Function) (table : List Operand) (b k : ℕ) (line : Line) (callee : Callee) (types : List Ty)
    (well : IsWellFormed content func line.inst) (op : line.inst.op ≡ ops.Call callee types) (many : length types ≡ length line.inst.operands) (other : is_leaf callee ≡ false) where
  abbrev point : Instruction
  point = point_of func table b k line callee types

  call : IsCall callee types line.inst
  call = subst (λ (o : Op). LineOf o line.inst) op well.line

  call_of : IsCallOf (scope_of content func) callee types line.inst
  call_of = subst (λ (o : Op). RuleOf (scope_of content func) o line.inst) op (well.typed).rule

  point_line : IsStatepoint callee types point
  point_line = record {
    result = refl;
    type = call.type;
    arguments = subst (λ n. Arguments callee (take n (line.inst.operands ++ entries func table b k)) types) (sym many)
        (subst (λ (given : List Operand). Arguments callee given types) (sym (take_front_of line.inst.operands (entries func table b k))) call.arguments);
    entries = subst (λ n. list_all is_value (drop n (line.inst.operands ++ entries func table b k)) ≡ true) (sym many)
        (ap (list_all is_value) (drop-append_seam line.inst.operands (entries func table b k)) ∙ all_values (entries func table b k) (entry_value func table b k));
    no_labels = refl;
    bundle = call.bundle;
  }

  takes : (callee : Callee) → is_leaf callee ≡ false → TakesOperands (scope_of content func) callee line.inst.operands → TakesOperands (scope_of content func) callee (line.inst.operands ++ entries func table b k)
  takes callees.TaskStart other starts = (starts.0, get_front line.inst.operands (entries func table b k) 0 (operands.Fun starts.0) starts.1, starts.2)
  takes callees.Check other checks = absurd cc
  takes callee other asks = tt

  point_typed : IsTyped (scope_of content func) point
  point_typed =
      let long = length-append line.inst.operands (entries func table b k) in
      let count : length (line.inst.operands ++ entries func table b k) - length types ≡ length (entries func table b k) = omega arith in
      record {
        operands = subst (λ n. AllZip (Fits (value_types func)) (line.inst.operands ++ entries func table b k) (types ++ replicate n Ptr)) (sym count)
            (zip_append (value_types func) line.inst.operands (entries func table b k) types (replicate (length (entries func table b k)) Ptr)
            (subst (λ (o : Op). AllZip (Fits (value_types func)) line.inst.operands (asked o line.inst.ty (length line.inst.operands))) op (well.typed).operands)
            (all_pointers (value_types func) (entries func table b k) (entry_fits func table b k)));
        bundle = (well.typed).bundle;
        rule = record { signature = call_of.signature; operands = takes callee other call_of.operands };
      }

  point_item : (h : Operand → Option ℕ) → h operands.Null ≡ None → ((v : ValueId) → h (operands.Value v) ≡ None) → (place : ℕ) (o : Operand) → slice_get (operands_of point) place ≡ Some o
      → (h o ≡ None) ⊎ ((j : ℕ) × (slice_get (operands_of line.inst) j ≡ Some o))
  point_item h null value place o at = elim (get_joined (line.inst.operands ++ entries func table b k) (map (λ (entry : Ty × Operand). entry.1) line.inst.bundle) place o at) [
    | inr there ↦ inr (length line.inst.operands + there.0, get_past line.inst.operands (map (λ (entry : Ty × Operand). entry.1) line.inst.bundle) there.0 ∙ there.2)
    | inl first ↦ elim (get_joined line.inst.operands (entries func table b k) place o first) [
      | inl here ↦ inr (place, get_front line.inst.operands (map (λ (entry : Ty × Operand). entry.1) line.inst.bundle) place o here)
      | inr entry ↦ elim (entry_of func table b k entry.0 o entry.2) [
        | inl is ↦ inl (ap h is ∙ null)
        | inr is ↦ inl (ap h is.1 ∙ value (record { 0 = is.0 }))
      ]
    ]
  ]

  point_items : (P : ℕ → Type 0) (h : Operand → Option ℕ) → h operands.Null ≡ None → ((v : ValueId) → h (operands.Value v) ≡ None) → All P (filter_map h (operands_of line.inst))
      → All P (filter_map h (operands_of point))
  point_items P h null value all = items_from P h (operands_of line.inst) (operands_of point) (point_item h null value) all

  point_global : NamesOfModule content point
  point_global =
      let known : NamesOfModule content (record line.inst { op = ops.Call callee types }) = record {
        layouts = subst (λ (o : Op). All (λ layout. layout < length content.layouts) (layouts_named (record line.inst { op = o }))) op (well.global).layouts;
        functions = subst (λ (o : Op). All (λ named. named < length content.funcs) (functions_named (record line.inst { op = o }))) op (well.global).functions;
      } in
      let P : ℕ → Type 0 = λ named. named < length content.funcs in
      record {
        layouts = known.layouts;
        functions = All-append P _ _ (all_front P _ _ known.functions) (point_items P _ refl (λ v. refl) (all_back P _ _ known.functions));
      }

  pub point_well : IsWellFormed content func point
  point_well = record {
    line = point_line;
    typed = point_typed;
    local = record { values = values_known content func point point_typed; blocks = All-nil (λ (label : BlockId). label.0 < length func.blocks) };
    global = point_global;
    leaves = λ ends. absurd cc;
    unordered = refl;
    widths = subst (λ (o : Op). All IsWidth (line_widths (record line.inst { op = o }))) op well.widths;
    few = well.few;
  }

-- ---- the lines of the rewritten function

not_void : (ty : Ty) → is_answer ty ≡ true → not (is_void ty) ≡ true → is_first_class ty ≡ true
not_void types.Void answer other = absurd cc
not_void (types.Int width) answer other = refl
not_void types.Ptr answer other = refl
not_void types.Token answer other = absurd cc

named_given : (n v : ℕ) (t : Bool) → Some v ≡ (if t then Some n else None) → t ≡ true
named_given n v true same = refl
named_given n v false same = absurd cc

pub record IsNamed (content other : ModuleContent) (func : Function) (table : List Operand) (naming : Naming) (room : ℕ) : Type 0 where
  pub alike : AreAlike content other func (now func table naming)
  pub fits : NamingFits func table naming (live_table func table)
  pub numbers : IsNumbering func table naming.joins (number func table naming) room
  pub fronts : (b v : ℕ) → v < length (definitions_of func) → InText func table naming (naming.front b v)
  pub lines : (b k : ℕ) (line : Line) → slice_get (lines_at func b) k ≡ Some line → IsWellFormed content func line.inst
  pub reached : laws.IsReached func
  pub few : length (definitions_of func) < 16384
  pub tokens : (v : ℕ) → slice_get (value_types func) v ≡ Some Token → ⊥
  pub arguments : (b k : ℕ) (line : Line) (callee : Callee) (types : List Ty) → slice_get (lines_at func b) k ≡ Some line → line.inst.op ≡ ops.Call callee types
      → length types ≡ length line.inst.operands
  pub no_statepoint : (b k : ℕ) (line : Line) → slice_get (lines_at func b) k ≡ Some line → is_statepoint line.inst.op ≡ false
  pub no_member : (b k : ℕ) (line : Line) → slice_get (lines_at func b) k ≡ Some line → is_member line.inst.op ≡ false
  pub held : HoldsOthers func

module _ (content other : ModuleContent) (func : Function) (table : List Operand) (naming : Naming) (room : ℕ) (is : IsNamed content other func table naming room) where
  abbrev to : Name → ℕ
  to = number func table naming

  abbrev before : List Ty
  before = value_types func

  abbrev after : List Ty
  after = value_types (now func table naming)

  abbrev IsWellNow : Instruction → Type 0
  IsWellNow = IsWellFormed other (now func table naming)

  -- a version of a value has its type
  pub named_type : (b k v : ℕ) (ty : Ty) → slice_get before v ≡ Some ty → slice_get after (to (names_at func table naming b k v)) ≡ Some ty
  named_type b k v ty at =
      let within = slice_get_within before v ty at in
      let long = length-map (definitions_of func) definition_type in
      let there = names_in_text func table naming b (naming.front b) v k (is.fronts b v (omega arith)) in
      let owner = names_value func table naming b (naming.front b) v k ((is.fits).own_value b v) in
      name_type func table naming room is.numbers (names_at func table naming b k v) there ∙ (owner_type func table naming (names_at func table naming b k v) v there owner ∙ at)

  renamed_carries : (b k : ℕ) (o : Operand) → Carries before after o (renamed to (names_at func table naming b k) o)
  renamed_carries b k (operands.Value value) = (record { 0 = to (names_at func table naming b k value.0) }, refl, λ ty at. named_type b k value.0 ty at)
  renamed_carries b k (operands.Int word) = refl
  renamed_carries b k operands.Null = refl
  renamed_carries b k (operands.Fun called) = refl

  all_renamed : (b k : ℕ) (given : List Operand) → AllZip (Carries before after) given (map (renamed to (names_at func table naming b k)) given)
  all_renamed b k [] = tt
  all_renamed b k (o ∷ given) = (renamed_carries b k o, all_renamed b k given)

  phi_renamed : (labels : List BlockId) (given : List Operand) → length labels ≡ length given → AllZip (Carries before after) given (phi_operands func table naming to labels given)
  phi_renamed [] [] same = tt
  phi_renamed [] (o ∷ given) same = absurd (omega arith)
  phi_renamed (l ∷ labels) [] same = absurd (omega arith)
  phi_renamed (l ∷ labels) (o ∷ given) same = (renamed_carries l.0 (length (lines_at func l.0)) o, phi_renamed labels given (omega arith))

  bundle_renamed : (b k : ℕ) (bundle : List (Ty × Operand))
      → AllZip (CarriesEntry before after) bundle (map (λ (entry : Ty × Operand). (entry.0, renamed to (names_at func table naming b k) entry.1)) bundle)
  bundle_renamed b k [] = tt
  bundle_renamed b k (entry ∷ bundle) = ((refl, renamed_carries b k entry.1), bundle_renamed b k bundle)

  -- ---- a plain line

  phi_labels : (inst : Instruction) → (op : Op) → inst.op ≡ op → IsLine inst → is_phi op ≡ true → length inst.labels ≡ length inst.operands
  phi_labels inst ops.Phi same line one = ((subst (λ (o : Op). LineOf o inst) same line).0).label_count
  phi_labels inst op same line one = absurd cc

  pub plain_carries : (b k : ℕ) (line : Line) → slice_get (lines_at func b) k ≡ Some line → LineCarries before after line.inst (piece_inst (text func table naming) (plain func table naming to b k line))
  plain_carries b k line at = record {
    op = refl;
    ty = refl;
    labels = refl;
    named = ap (λ (given : Option ℕ). is_some (option_map (text func table naming) (option_map own given))) (line_from func b k line at).to ∙ still (number_at func (text_place func b k)) (is_some line.inst.result);
    operands = by (is_phi line.inst.op) refl;
    bundle = bundle_renamed b k line.inst.bundle;
  }
    where
      still : (n : ℕ) (t : Bool) → is_some (option_map (text func table naming) (option_map own (if t then Some n else None))) ≡ t
      still n true = refl
      still n false = refl

      by : (t : Bool) → is_phi line.inst.op ≡ t
          → AllZip (Carries before after) line.inst.operands (if t then phi_operands func table naming to line.inst.labels line.inst.operands else map (renamed to (names_at func table naming b k)) line.inst.operands)
      by true one = phi_renamed line.inst.labels line.inst.operands (phi_labels line.inst line.inst.op refl (is.lines b k line at).line one)
      by false no_phi = all_renamed b k line.inst.operands

  pub plain_well : (b k : ℕ) (line : Line) → slice_get (lines_at func b) k ≡ Some line → IsWellNow (piece_inst (text func table naming) (plain func table naming to b k line))
  plain_well b k line at =
      well_carried content other func (now func table naming) is.alike line.inst (piece_inst (text func table naming) (plain func table naming to b k line)) (plain_carries b k line at) (is.lines b k line at)

  -- ---- a statepoint

  pub statepoint_carries : (b k : ℕ) (line : Line) (callee : Callee) (types : List Ty)
      → LineCarries before after (point_of func table b k line callee types) (piece_inst (text func table naming) (statepoint func table naming to b k callee types line.inst))
  statepoint_carries b k line callee types = record {
    op = refl;
    ty = refl;
    labels = refl;
    named = refl;
    operands = all_renamed b k (line.inst.operands ++ entries func table b k);
    bundle = bundle_renamed b k line.inst.bundle;
  }

  pub statepoint_well : (b k : ℕ) (line : Line) (callee : Callee) (types : List Ty) → slice_get (lines_at func b) k ≡ Some line → line.inst.op ≡ ops.Call callee types
      → length types ≡ length line.inst.operands → is_leaf callee ≡ false → IsWellNow (piece_inst (text func table naming) (statepoint func table naming to b k callee types line.inst))
  statepoint_well b k line callee types at op many no_leaf =
      well_carried content other func (now func table naming) is.alike (point_of func table b k line callee types)
      (piece_inst (text func table naming) (statepoint func table naming to b k callee types line.inst)) (statepoint_carries b k line callee types)
      (point_well content func table b k line callee types (is.lines b k line at) op many no_leaf)

  -- ---- members of a group

  token_type : (b k : ℕ) (line : Line) → slice_get (lines_at func b) k ≡ Some line → calls line ≡ true → slice_get after (to (forms.token b k)) ≡ Some Token
  token_type b k line at call = name_type func table naming room is.numbers (forms.token b k) (a_token b k line at call)

  pub result_well : (b k v : ℕ) (line : Line) (callee : Callee) (types : List Ty) → slice_get (lines_at func b) k ≡ Some line → line.inst.op ≡ ops.Call callee types → calls line ≡ true → line.to ≡ Some v
      → IsWellNow (piece_inst (text func table naming) (result_piece func table naming to b k line v))
  result_well b k v line callee types at op call given =
      let typed : IsTyped (scope_of other (now func table naming)) result = record {
        operands = (token_type b k line at call, tt);
        bundle = All-nil (λ (entry : Ty × Operand). Fits after entry.1 entry.0);
        rule = tt;
      } in
      record {
        line = (record { result = refl; type = first_class; operand_count = refl; values = refl; label_count = refl; no_bundle = refl }, (record { 0 = to (forms.token b k) }, refl));
        typed = typed;
        local = record { values = values_known other (now func table naming) result typed; blocks = All-nil (λ (label : BlockId). label.0 < length (now func table naming).blocks) };
        global = record { layouts = All-nil (λ layout. layout < length other.layouts); functions = All-nil (λ named. named < length other.funcs) };
        leaves = λ ends. absurd cc;
        unordered = refl;
        widths = All-append IsWidth (type_widths line.inst.ty) [] line_type (All-nil IsWidth);
        few = omega arith;
      }
    where
      result : Instruction
      result = piece_inst (text func table naming) (result_piece func table naming to b k line v)

      is_call : IsCall callee types line.inst
      is_call = subst (λ (o : Op). LineOf o line.inst) op (is.lines b k line at).line

      from : LineFrom func b k line
      from = line_from func b k line at

      named_result : is_some line.inst.result ≡ true
      named_result = named_given (number_at func (text_place func b k)) v (is_some line.inst.result) (sym given ∙ from.to)

      first_class : is_first_class line.inst.ty ≡ true
      first_class = not_void line.inst.ty is_call.type (sym is_call.result ∙ named_result)

      line_type : All IsWidth (type_widths line.inst.ty)
      line_type =
          all_back IsWidth (operator_widths line.inst.op) (type_widths line.inst.ty)
          (all_front IsWidth (operator_widths line.inst.op ++ type_widths line.inst.ty) (flat_map (λ (entry : Ty × Operand). type_widths entry.0) line.inst.bundle) (is.lines b k line at).widths)

  -- an index of an entry is below their number
  pub index_within : (b k : ℕ) (o : Operand) → 0 < length (entries func table b k) → index_of func table b k o < length (entries func table b k)
  index_within b k o some = elim (cases_Bool (ltb (position_or_len (λ (entry : Operand). same_operand entry o) (entries func table b k)) (length (entries func table b k)))) [
    | inl within ↦ rw within (ltb-true (position_or_len (λ (entry : Operand). same_operand entry o) (entries func table b k)) (length (entries func table b k)) within)
    | inr past ↦ rw past some
  ]

  entries_long : (b k : ℕ) → length (entries func table b k) ≤ 16384
  entries_long b k = let long = entries_few func table b k in let few = is.few in omega (arith, long, few)

  pub relocate_well : (b k v : ℕ) (line : Line) → slice_get (lines_at func b) k ≡ Some line → calls line ≡ true → among v (live_list func table b k) ≡ true
      → IsWellNow (piece_inst (text func table naming) (relocate_of func table naming to b k v))
  relocate_well b k v line at call listed =
      let typed : IsTyped (scope_of other (now func table naming)) relocate = record {
        operands = (token_type b k line at call, ((32, refl, index_fits (base_at table v)), ((32, refl, index_fits (named v)), tt)));
        bundle = All-nil (λ (entry : Ty × Operand). Fits after entry.1 entry.0);
        rule = tt;
      } in
      record {
        line = (
          record { result = refl; type = refl; operand_count = refl; values = refl; label_count = refl; no_bundle = refl },
          (index_of func table b k (base_at table v), index_of func table b k (named v), (record { 0 = to (forms.token b k) }, refl)),
        );
        typed = typed;
        local = record { values = values_known other (now func table naming) relocate typed; blocks = All-nil (λ (label : BlockId). label.0 < length (now func table naming).blocks) };
        global = record { layouts = All-nil (λ layout. layout < length other.layouts); functions = All-nil (λ named. named < length other.funcs) };
        leaves = λ ends. absurd cc;
        unordered = refl;
        widths = All-nil IsWidth;
        few = omega arith;
      }
    where
      relocate : Instruction
      relocate = piece_inst (text func table naming) (relocate_of func table naming to b k v)

      index_fits : (o : Operand) → index_of func table b k o < 2 ^ 32
      index_fits o =
          let below = index_within b k o (listed_some func table b k v listed) in
          let long = entries_long b k in
          omega arith

  -- ---- an inserted phi

  has_pred : (b v : ℕ) → Reached func b → naming.joins b v ≡ true → 0 < length (preds func b)
  has_pred _ v at_first joins = absurd (false≢true (sym ((is.fits).no_join v) ∙ joins))
  has_pred _ v (over from b reached edge) joins = some_among from (preds func b) edge

  pub phi_well : (b v : ℕ) → b < length func.blocks → naming.joins b v ≡ true → IsWellNow (piece_inst (text func table naming) (inserted_phi func table naming to b v))
  phi_well b v below joins =
      let pointer = ((is.fits).at_join b v joins).1 in
      let typed : IsTyped (scope_of other (now func table naming)) phi = record {
        operands = all_pointers after phi.operands (λ place o at.
            let from = map_back (λ (p : ℕ). named (to (names_at_end func table naming p v))) (preds func b) place o at in
            subst (λ (x : Operand). Fits after x Ptr) (sym from.is) (named_type from.before (length (lines_at func from.before)) v Ptr (pointer_is func v pointer)));
        bundle = All-nil (λ (entry : Ty × Operand). Fits after entry.1 entry.0);
        rule = tt;
      } in
      let count = length-map (preds func b) (λ (p : ℕ). named (to (names_at_end func table naming p v))) in
      let labels = length-map (preds_of (graph_of func) b) (λ (label : BlockId). label.0) in
      let some = has_pred b v ((is.reached).blocks b below) joins in
      record {
        line = (record { result = refl; type = refl; operand_count = refl; values = phi_values; label_count = sym labels ∙ sym count; no_bundle = refl }, omega (arith, count, some));
        typed = typed;
        local = record {
          values = values_known other (now func table naming) phi typed;
          blocks = all_from_at (λ (label : BlockId). label.0 < length (now func table naming).blocks) (preds_of (graph_of func) b) (λ place label at.
              let pred = get_map (λ (l : BlockId). l.0) (preds_of (graph_of func) b) place label at in
              let within = edge_within func label.0 b (any_passes_from_place (λ (x : ℕ). eqb x label.0) (preds func b) place label.0 pred (eq-eqb label.0 label.0 refl)) in
              let same = (is.alike).blocks in
              omega (arith, within, same));
        };
        global = record {
          layouts = All-nil (λ layout. layout < length other.layouts);
          functions = phi_items (λ named. named < length other.funcs) _ (λ value. refl);
        };
        leaves = λ ends. absurd cc;
        unordered = refl;
        widths = All-nil IsWidth;
        few = omega arith;
      }
    where
      phi : Instruction
      phi = piece_inst (text func table naming) (inserted_phi func table naming to b v)

      phi_values : list_all is_value phi.operands ≡ true
      phi_values = all_values phi.operands (λ place o at.
          let from = map_back (λ (p : ℕ). named (to (names_at_end func table naming p v))) (preds func b) place o at in
          ap is_value from.is)

      phi_items : (P : ℕ → Type 0) (h : Operand → Option ℕ) → ((value : ValueId) → h (operands.Value value) ≡ None) → All P (filter_map h (operands_of phi))
      phi_items P h value = no_items P h (operands_of phi) (λ place o at. elim (get_joined phi.operands [] place o at) [
        | inl own_operand ↦
            let from = map_back (λ (p : ℕ). named (to (names_at_end func table naming p v))) (preds func b) place o own_operand in
            ap h from.is ∙ value (record { 0 = to (names_at_end func table naming from.before v) })
        | inr there ↦ absurd (let none = there.2 in none-some o none)
      ])
