-- The phis of each block, a pointer at a time.
use Rattle.std.proofs.Common.{◌≡◌, ◌∙◌, ℕ, zero, suc, ◌+◌, ◌<◌, ◌≤◌, Bool, true, false, ◌&&◌, if◌then◌else◌, List, [], ◌∷◌, ◌++◌, length, map, filter, take, get_or, replicate, refl, ap, sym, arith, Some, slice_get, append-nil}
use Rattle.std.specs.List.{range_with_len}
use Rattle.std.specs.Global.{Vec}
use Rattle.std.proofs.lemmas.List.{map-append, take_all}
use Rattle.std.proofs.lemmas.List.Elements.{filter-append}
use Rattle.std.proofs.lemmas.Option.{get_or_from_slice_get, slice_get_within}
use Rattle.std.proofs.Math.Seq.{take-suc}
use Rattle.sp_ids.specs.declared.ids.ValueId.{ValueId}
use Rattle.ir_ast.specs.declared.ops.Operand.{Operand}
use Rattle.ir_ast.specs.Funcs.{Function}
use Rattle.graph_search.specs.Paths.{MarksReached}
use Rattle.list_laws.proofs.Places.{get_map}
use Rattle.list_laws.proofs.Contents.{contains_get}
use Rattle.rewriting_forms.specs.Numbered.{among, pointers, preds}
use Rattle.rewriting_forms.specs.Liveness.{is_live}
use Rattle.rewriting_forms.specs.Names.{stands_in_list, is_many, joins_of}
use Rattle.live_sets.specs.Starts.{list_at}
use Rattle.live_sets.specs.Ends.{AreFronts}
use Rattle.live_sets.specs.Joins.{AddsJoins, AreJoins}
use Rattle.live_sets.proofs.EdgeLemmas.{among_has}
use Rattle.live_sets.proofs.EndLemmas.{no_marks}
use Rattle.list_laws.proofs.Booleans.{and_false}
use Rattle.list_laws.proofs.Ranges.{range_get}
use Rattle.ir_ast.specs.Operands.{valued}
use Rattle.ir_ast.specs.Lists.{has_mark}

-- nothing is added where the pointer isn't wanted
pub joins_none : (rows fronts : List (List ℕ)) (count : ℕ) (starts : List ℕ) (value : ValueId) (marks : List Bool) (wanted : Bool) (joins : List (Vec ValueId))
    → ((node : ℕ) → (wanted && has_mark marks node) ≡ false) → (wanted ≡ true → MarksReached rows starts marks)
    → AddsJoins rows fronts count starts wanted value joins joins
joins_none rows fronts count starts value marks wanted joins none reached = record {
  marks = marks;
  reached = reached;
  whole = refl;
  each = λ block below. sym (rw (none (count + block)) (nothing (is_many (get_or fronts block [])) (list_at joins block)));
}
  where
    nothing : (t : Bool) (xs : List ValueId) → xs ++ (if t && false then value ∷ [] else []) ≡ xs
    nothing true xs = append-nil xs
    nothing false xs = append-nil xs

pub unmarked_at : (n node : ℕ) → has_mark (replicate n false) node ≡ false
unmarked_at zero node = refl
unmarked_at (suc n) zero = refl
unmarked_at (suc n) (suc node) = unmarked_at n node

where_wanted : (wanted found live : Bool) → (wanted ≡ true → found ≡ live) → (wanted && found) ≡ (wanted && live)
where_wanted true found live is = is refl
where_wanted false found live is = refl

pub front_at : (func : Function) (fronts : List (List ℕ)) (b : ℕ) → AreFronts func fronts → b < length func.blocks → get_or fronts b [] ≡ preds func b
front_at func fronts b are below =
    let e : 0 + b ≡ b = omega arith in
    ap (λ (xs : List (List ℕ)). get_or xs b []) are
    ∙ get_or_from_slice_get (map (preds func) (range_with_len 0 (length func.blocks))) b (preds func b) []
    (get_map (preds func) (range_with_len 0 (length func.blocks)) b b (range_get 0 (length func.blocks) b below ∙ ap Some e))

-- one pointer more
pub joins_more : (func : Function) (table : List Operand) (b i : ℕ) (value : ValueId) (old new : List ValueId) (many wanted found : Bool)
    → slice_get (pointers func) i ≡ Some value.0 → old ≡ map valued (filter (joins_of func table b) (take i (pointers func)))
    → many ≡ is_many (preds func b) → wanted ≡ stands_in_list func table value.0 → (wanted ≡ true → found ≡ is_live func table b 0 value.0)
    → new ≡ old ++ (if many && (wanted && found) then value ∷ [] else [])
    → new ≡ map valued (filter (joins_of func table b) (take (i + 1) (pointers func)))
joins_more func table b i value old new many wanted found at so_far many_is wanted_is found_is added =
    let test = joins_of func table b in
    let ptrs = pointers func in
    let e : i + 1 ≡ suc i = omega arith in
    let below = slice_get_within ptrs i value.0 at in
    let item = get_or_from_slice_get ptrs i value.0 0 at in
    let more : take (i + 1) ptrs ≡ take i ptrs ++ value.0 ∷ [] = ap (λ (n : ℕ). take n ptrs) e ∙ take-suc ptrs i 0 below ∙ ap (λ (x : ℕ). take i ptrs ++ x ∷ []) item in
    let pointer : among value.0 ptrs ≡ true = among_has ptrs value.0 (contains_get ptrs i value.0 at) in
    let same : (many && (wanted && found)) ≡ joins_of func table b value.0 =
    sym (ap (λ (t : Bool). is_many (preds func b) && (t && (stands_in_list func table value.0 && is_live func table b 0 value.0))) pointer
    ∙ ap (λ (t : Bool). t && (stands_in_list func table value.0 && is_live func table b 0 value.0)) (sym many_is)
    ∙ ap (λ (t : Bool). many && (t && is_live func table b 0 value.0)) (sym wanted_is) ∙ ap (λ (t : Bool). many && t) (sym (where_wanted wanted found (is_live func table b 0 value.0) found_is))) in
    added ∙ ap (λ (xs : List ValueId). xs ++ (if many && (wanted && found) then value ∷ [] else [])) so_far
    ∙ ap (λ (t : Bool). map valued (filter test (take i ptrs)) ++ (if t then value ∷ [] else [])) same
    ∙ sym (ap (λ (xs : List ℕ). map valued (filter test xs)) more ∙ ap (map valued) (filter-append test (take i ptrs) (value.0 ∷ []))
    ∙ map-append valued (filter test (take i ptrs)) (filter test (value.0 ∷ []))
    ∙ ap (λ (xs : List ValueId). map valued (filter test (take i ptrs)) ++ xs) (one (joins_of func table b value.0) refl))
  where
    one : (t : Bool) → joins_of func table b value.0 ≡ t → map valued (filter (joins_of func table b) (value.0 ∷ [])) ≡ (if joins_of func table b value.0 then value ∷ [] else [])
    one true is = rw is refl
    one false is = rw is refl

pub joins_all : (func : Function) (table : List Operand) (b i : ℕ) (joins : List ValueId) → length (pointers func) ≤ i
    → joins ≡ map valued (filter (joins_of func table b) (take i (pointers func))) → joins ≡ map valued (filter (joins_of func table b) (pointers func))
joins_all func table b i joins past so_far = so_far ∙ ap (λ (xs : List ℕ). map valued (filter (joins_of func table b) xs)) (take_all i (pointers func) past)

pub none_wanted : (wanted : Bool) (node : ℕ) → (wanted && has_mark [] node) ≡ false
none_wanted wanted node = and_false wanted

-- a pointer without starts is live at no front
pub none_marked : (rows fronts : List (List ℕ)) (count : ℕ) (starts : List ℕ) (value : ValueId) (wanted : Bool) (joins : List (Vec ValueId)) → length starts ≡ 0
    → AddsJoins rows fronts count starts wanted value joins joins
none_marked rows fronts count (x ∷ starts) value wanted joins none = absurd (omega (arith, none))
none_marked rows fronts count [] value wanted joins none =
    joins_none rows fronts count [] value (replicate (length rows) false) wanted joins
    (λ node. ap (λ (t : Bool). wanted && t) (unmarked_at (length rows) node) ∙ and_false wanted) (λ is. no_marks rows)

-- where no block has two or more edges into it, no pointer gets a phi
pub none_joined : (func : Function) (table : List Operand) (joins : List (Vec ValueId)) → length joins ≡ length func.blocks → ((b : ℕ) → list_at joins b ≡ [])
    → ((b : ℕ) → b < length func.blocks → is_many (preds func b) ≡ false) → AreJoins func table joins
none_joined func table joins whole empty none = record {
  whole = whole;
  each = λ b below. empty b ∙ sym (ap (map valued) (no_pointers b (none b below) (pointers func)));
}
  where
    no_pointers : (b : ℕ) → is_many (preds func b) ≡ false → (xs : List ℕ) → filter (joins_of func table b) xs ≡ []
    no_pointers b few [] = refl
    no_pointers b few (x ∷ xs) = (let rest = no_pointers b few xs in rw few rest)
