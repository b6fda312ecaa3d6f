-- The lists of live pointers at the ends of blocks, a pointer at a time.
use Rattle.std.proofs.Common.{◌≡◌, ℕ, zero, suc, ◌+◌, ◌<◌, ◌≤◌, Bool, true, false, if◌then◌else◌, List, [], ◌∷◌, ◌++◌, length, map, filter, take, get_or, refl, ap, sym, arith, Some, None, Option, slice_get, ◌∙◌}
use Rattle.std.specs.List.{All, list_any}
use Rattle.std.specs.Option.{option_map_or}
use Rattle.std.specs.Global.{Vec}
use Rattle.std.proofs.lemmas.List.{map-append, length-map, take_all}
use Rattle.std.proofs.lemmas.List.Elements.{filter-append}
use Rattle.std.proofs.lemmas.Option.{get_or_from_slice_get}
use Rattle.std.proofs.Math.Seq.{take-suc}
use Rattle.sp_ids.specs.declared.ids.ValueId.{ValueId}
use Rattle.ir_ast.specs.declared.ops.Operand.{Operand}
use Rattle.ir_ast.specs.Funcs.{Function}
use Rattle.ir_ast.specs.Types.{is_pointer}
use Rattle.ir_ast.specs.Values.{value_types}
use Rattle.list_laws.proofs.Contents.{contains_get, all_at}
use Rattle.rewriting_forms.specs.Numbered.{pointers, succs}
use Rattle.rewriting_forms.specs.Liveness.{live_over, live_front}
use Rattle.live_sets.specs.Starts.{list_at}
use Rattle.live_sets.specs.Ends.{lives_at_end, AreEnds}
use Rattle.live_sets.proofs.UseLemmas.{among_mark, marked_within}
use Rattle.live_sets.proofs.EdgeLemmas.{among_has}
use Rattle.ir_ast.specs.Operands.{valued}
use Rattle.ir_ast.specs.Lists.{has_mark}

pub empty_at : {A : Type 0} (lists : List (Vec A)) (b : ℕ) → All (λ (list : Vec A). list.items ≡ []) lists → list_at lists b ≡ []
empty_at lists b all = go (slice_get lists b) refl
  where
    go : (o : Option (Vec _)) → slice_get lists b ≡ o → option_map_or (λ (list : Vec _). list.items) o [] ≡ []
    go None none = refl
    go (Some list) some = all_at (λ (list : Vec _). list.items ≡ []) lists b list all some

value_get : (numbers : List ℕ) (i : ℕ) → i < length numbers → slice_get numbers i ≡ Some (get_or (map valued numbers) i (valued 0)).0
value_get [] i below = absurd (omega arith)
value_get (n ∷ numbers) zero below = refl
value_get (n ∷ numbers) (suc i) below = value_get numbers i (omega arith)

pub value_at : (func : Function) (values : List ValueId) (i : ℕ) → values ≡ map valued (pointers func) → i < length values
    → slice_get (pointers func) i ≡ Some (get_or values i (valued 0)).0
value_at func values i are below =
    let long = ap length are ∙ length-map (pointers func) valued in
    value_get (pointers func) i (omega (arith, long, below)) ∙ sym (ap (λ (vs : List ValueId). Some (get_or vs i (valued 0)).0) are)

pub pointer_marked : (func : Function) (marks : List Bool) → marks ≡ map is_pointer (value_types func) → (i x : ℕ) → slice_get (pointers func) i ≡ Some x → has_mark marks x ≡ true
pointer_marked func marks right i x at = sym (among_mark func marks right x) ∙ among_has (pointers func) x (contains_get (pointers func) i x at)

pub marked_below : (func : Function) (marks : List Bool) → marks ≡ map is_pointer (value_types func) → (x : ℕ) → has_mark marks x ≡ true → x < length marks
marked_below func marks right x is =
    let within = marked_within func marks right x is in
    let long = ap length right ∙ length-map (value_types func) is_pointer in
    omega (arith, within, long)

pub ends_more : (func : Function) (table : List Operand) (b i : ℕ) (value : ValueId) (old new : List ValueId) (found : List Bool) → slice_get (pointers func) i ≡ Some value.0
    → old ≡ map valued (filter (lives_at_end func table b) (take i (pointers func)))
    → has_mark found b ≡ lives_at_end func table b value.0
    → new ≡ old ++ (if has_mark found b then value ∷ [] else [])
    → new ≡ map valued (filter (lives_at_end func table b) (take (i + 1) (pointers func)))
ends_more func table b i value old new found at so_far mark added =
    let test = lives_at_end func table b in
    let ptrs = pointers func in
    let e : i + 1 ≡ suc i = omega arith in
    let below = within ptrs i value.0 at in
    let item = get_or_from_slice_get ptrs i value.0 0 at in
    let more : take (i + 1) ptrs ≡ take i ptrs ++ value.0 ∷ [] = ap (λ (n : ℕ). take n ptrs) e ∙ take-suc ptrs i 0 below ∙ ap (λ (x : ℕ). take i ptrs ++ x ∷ []) item in
    added ∙ ap (λ (xs : List ValueId). xs ++ (if has_mark found b then value ∷ [] else [])) so_far
    ∙ ap (λ (t : Bool). map valued (filter test (take i ptrs)) ++ (if t then value ∷ [] else [])) mark
    ∙ sym (ap (λ (xs : List ℕ). map valued (filter test xs)) more ∙ ap (map valued) (filter-append test (take i ptrs) (value.0 ∷ []))
    ∙ map-append valued (filter test (take i ptrs)) (filter test (value.0 ∷ []))
    ∙ ap (λ (xs : List ValueId). map valued (filter test (take i ptrs)) ++ xs) (one (test value.0) refl))
  where
    within : (xs : List ℕ) (k x : ℕ) → slice_get xs k ≡ Some x → k < length xs
    within [] k x is = absurd (cc)
    within (y ∷ xs) zero x is = omega arith
    within (y ∷ xs) (suc k) x is = (let w = within xs k x is in omega (arith, w))

    one : (t : Bool) → lives_at_end func table b value.0 ≡ t → map valued (filter (lives_at_end func table b) (value.0 ∷ [])) ≡ (if lives_at_end func table b value.0 then value ∷ [] else [])
    one true is = rw is refl
    one false is = rw is refl

pub ends_all : (func : Function) (table : List Operand) (b i : ℕ) (ends : List ValueId) → length (pointers func) ≤ i
    → ends ≡ map valued (filter (lives_at_end func table b) (take i (pointers func))) → ends ≡ map valued (filter (lives_at_end func table b) (pointers func))
ends_all func table b i ends past so_far = so_far ∙ ap (λ (xs : List ℕ). map valued (filter (lives_at_end func table b) xs)) (take_all i (pointers func) past)

-- without edges nothing is live at the end of a block
pub ends_none : (func : Function) (table : List Operand) (wanted : List Bool) (ends : List (Vec ValueId)) → length ends ≡ length func.blocks → ((b : ℕ) → list_at ends b ≡ [])
    → ((b : ℕ) → b < length func.blocks → succs func b ≡ []) → AreEnds func table wanted ends
ends_none func table wanted ends whole empty none = record {
  whole = whole;
  each = λ b below is. empty b ∙ sym (ap (map valued) (no_pointers b (none b below) (pointers func)));
}
  where
    no_pointers : (b : ℕ) → succs func b ≡ [] → (xs : List ℕ) → filter (lives_at_end func table b) xs ≡ []
    no_pointers b none [] = refl
    no_pointers b none (x ∷ xs) =
        let dead : lives_at_end func table b x ≡ false = ap (list_any (live_over func table x (live_front func table x (length func.blocks)) b)) none in
        let rest = no_pointers b none xs in
        rw dead rest
