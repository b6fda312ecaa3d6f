-- What is listed live at a call: it stands among the entries of the call's statepoint, and what the call's bundle holds is listed.
use Rattle.std.proofs.Common.{◌≡◌, ℕ, suc, true, false, not, eqb, ◌&&◌, if◌then◌else◌, List, [], ◌∷◌, map, refl, ap, ◌∙◌}
use Rattle.std.specs.Prelude.{Some, slice_get}
use Rattle.std.specs.List.{Contains, list_any, position}
use Rattle.std.proofs.lemmas.Bool.{and_from, eq-eqb, eqb-true, false≢true, not_from_false, or_left}
use Rattle.std.proofs.lemmas.Map.Keys.{any_passes_from_place}
use Rattle.list_laws.proofs.Contents.{get_contained}
use Rattle.list_laws.proofs.Places.{get_map, get_past}
use Rattle.ir_ast.specs.declared.ops.Operand.{Operand}
use Rattle.ir_ast.specs.declared.ops.Operand.TheVariants.{Value, Int, Null, Fun}
use Rattle.ir_ast.specs.declared.types.Ty.{Ty}
use Rattle.ir_ast.specs.Funcs.{Function}
use Rattle.ir_ast.specs.Types.{is_pointer}
use Rattle.object_meaning.specs.Lines.{Line}
use Rattle.rewriting_forms.specs.Numbered.{among, base_at, gives, line_at, lines_at, named, pointers}
use Rattle.rewriting_forms.specs.Liveness.{any_held, is_live, is_live_after, is_use, live_list}
use Rattle.rewriting_forms.specs.Rewritten.{entries, is_null, same_operand}
use Rattle.rewriting_laws.proofs.NameLemmas.{filter_among, found, line_is}
use Rattle.rewritten_sound.specs.Takes.{HoldsOthers}
use Rattle.rewritten_sound.proofs.definite.PieceLaws.{among_at}

pub same_named : (o : Operand) (v : ℕ) → same_operand o (named v) ≡ true → o ≡ named v
same_named (Value id) v is = ap named (eqb-true id.0 v is)
same_named (Int word) v is = absurd (false≢true is)
same_named Null v is = absurd (false≢true is)
same_named (Fun called) v is = absurd (false≢true is)

module _ (func : Function) (table : List Operand) (b k : ℕ) where
  -- a listed pointer is one of the entries, at the first place where it stands
  pub entry_of : (v : ℕ) → among v (live_list func table b k) ≡ true
      → (place : ℕ) × (position (λ (entry : Operand). same_operand entry (named v)) (entries func table b k) ≡ Some place) × (slice_get (entries func table b k) place ≡ Some (named v))
  entry_of v listed =
      let place = among_at v (live_list func table b k) listed in
      let there = get_past (if list_any (λ (x : ℕ). is_null (base_at table x)) (live_list func table b k) then Null ∷ [] else []) (map (λ (x : ℕ). named x) (live_list func table b k)) place.0
      ∙ get_map (λ (x : ℕ). named x) (live_list func table b k) place.0 v place.1 in
      let first = found (λ (entry : Operand). same_operand entry (named v)) (entries func table b k) _ (named v) there (eq-eqb v v refl) in
      (first.0, first.2, first.3 ∙ ap (λ o. Some o) (same_named first.1 v first.4))

  module _ (line : Line) (stands : slice_get (lines_at func b) k ≡ Some line) where
    -- a pointer that is live behind the line is listed, unless the line gives it
    pub listed : (v : ℕ) → among v (pointers func) ≡ true → is_live_after func table b k v ≡ true → gives line v ≡ false → among v (live_list func table b k) ≡ true
    listed v pointer after none =
        let kept : not (gives (line_at func b k) v) ≡ true = not_from_false (gives (line_at func b k) v) (ap (λ (l : Line). gives l v) (line_is func b k line stands) ∙ none) in
        filter_among (λ (x : ℕ). is_live_after func table b k x && not (gives (line_at func b k) x)) v (pointers func) pointer
        (and_from (is_live_after func table b k v) (not (gives (line_at func b k) v)) after kept)

    -- so is a pointer that its bundle holds
    pub held_listed : HoldsOthers func → (entry : Ty × Operand) → Contains line.inst.bundle entry → is_pointer entry.0 ≡ true → (v : ℕ) → entry.1 ≡ named v
        → among v (live_list func table b k) ≡ true
    held_listed others entry contained pointer v is =
        let held = others b k v line entry stands contained pointer is in
        let place = get_contained line.inst.bundle entry contained in
        let used : is_use func table v entry.1 ≡ true = ap (is_use func table v) is ∙ or_left (eqb v v) _ (eq-eqb v v refl) in
        let holds : any_held func table v line.inst ≡ true = any_passes_from_place (λ (e : Ty × Operand). is_use func table v e.1) line.inst.bundle place.0 entry place.1 used in
        listed v held.0
        (or_left (any_held func table v (line_at func b k).inst) (is_live func table b (suc k) v) (ap (λ (l : Line). any_held func table v l.inst) (line_is func b k line stands) ∙ holds))
        held.1
