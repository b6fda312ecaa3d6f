-- The slots of a block are answered by the numbers of the versions that stand there.
use Rattle.std.proofs.Common.{◌≡◌, ◌∙◌, ℕ, suc, ◌<◌, ◌+◌, inl, inr, Bool, true, false, if◌then◌else◌, List, [], ◌∷◌, ◌++◌, length, map, drop, Option, Some, None, slice_get, refl, ap, sym, arith, subst, append_assoc, append-nil}
use Rattle.std.specs.Prelude.{slice_index}
use Rattle.std.specs.List.{flat_map, range_with_len}
use Rattle.std.specs.Option.{option_map_or}
use Rattle.std.proofs.lemmas.Bool.{cases_Bool}
use Rattle.std.proofs.lemmas.List.{map-append}
use Rattle.ir_ast.specs.declared.ops.Operand.{Operand}
use Rattle.ir_ast.specs.declared.ops.Operand.TheVariants.{Value, Int, Null, Fun}
use Rattle.ir_ast.specs.Funcs.{Function}
use Rattle.object_meaning.specs.Lines.{Line}
use Rattle.rewriting_forms.specs.Numbered.{among, lines_at, calls, pointers}
use Rattle.rewriting_forms.specs.Liveness.{live_list}
use Rattle.rewriting_forms.specs.Names.{Name, own, relocated, joined, token, Names, Naming, names_at, names_at_end, full_naming}
use Rattle.rewriting_forms.specs.Rewritten.{line_names, joined_at, names_of, place_in}
use Rattle.rewriting_laws.specs.Laws.{IsReached}
use Rattle.rewriting_laws.proofs.NameLemmas.{line_is, at_rest, among_here, among_there}
use Rattle.rewriting_laws.proofs.PlaceLaws.{Rising}
use Rattle.version_walk.specs.declared.slots.Slot.{Slot}
use Rattle.version_walk.specs.declared.slots.Slot.TheVariants.{Token, Number}
use Rattle.version_walk.specs.Slots.{answered, current_behind, next_behind}
use Rattle.ssa_rebuild.specs.Rows.{use_slot, give_slot, uses_of, held_in, own_slots, own_uses, plain_slots, call_slots, line_slots, lines_slots, entries_from, block_slots, start_of, use_numbers, AreKnown, line_numbers, lines_numbers, block_numbers}
use Rattle.version_walk.proofs.SlotLemmas.{answered_append}
use Rattle.ssa_rebuild.proofs.NumberLemmas.{rises_front, rises_back, block_rises}
use Rattle.ssa_rebuild.proofs.VersionLemmas.{Shows, line_shows, lines_show, front_shows, body_rises, body_start, before}

-- ---- uses and definitions

pub uses_answered : (current : List ℕ) (next : ℕ) (operands : List Operand) (rest : List Slot)
    → answered current next (uses_of operands ++ rest) ≡ map Number (use_numbers (slice_index current) operands) ++ answered current next rest
uses_answered current next [] rest = refl
uses_answered current next (Value value ∷ operands) rest = ap (λ (ss : List Slot). Number (slice_index current value.0) ∷ ss) (uses_answered current next operands rest)
uses_answered current next (Int word ∷ operands) rest = uses_answered current next operands rest
uses_answered current next (Null ∷ operands) rest = uses_answered current next operands rest
uses_answered current next (Fun func ∷ operands) rest = uses_answered current next operands rest

pub list_answered : (current : List ℕ) (next : ℕ) (vs : List ℕ) (rest : List Slot)
    → answered current next (map use_slot vs ++ rest) ≡ map Number (map (slice_index current) vs) ++ answered current next rest
list_answered current next [] rest = refl
list_answered current next (v ∷ vs) rest = ap (λ (ss : List Slot). Number (slice_index current v) ∷ ss) (list_answered current next vs rest)

module _ (number : Name → ℕ) (count : ℕ) where
  pub uses_shown : (names : Names) (current : List ℕ) (operands : List Operand) → Shows number count names current → AreKnown count operands
      → use_numbers (slice_index current) operands ≡ use_numbers (λ v. number (names v)) operands
  uses_shown names current [] shows known = refl
  uses_shown names current (Value value ∷ operands) shows known =
      ap (λ (n : ℕ). n ∷ use_numbers (slice_index current) operands) (shows.each value.0 known.0)
      ∙ ap (λ (ns : List ℕ). number (names value.0) ∷ ns) (uses_shown names current operands shows known.1)
  uses_shown names current (Int word ∷ operands) shows known = uses_shown names current operands shows known
  uses_shown names current (Null ∷ operands) shows known = uses_shown names current operands shows known
  uses_shown names current (Fun func ∷ operands) shows known = uses_shown names current operands shows known

  pub list_shown : (names : Names) (current : List ℕ) (vs : List ℕ) → Shows number count names current → ((v : ℕ) → among v vs ≡ true → v < count)
      → map (slice_index current) vs ≡ map (λ v. number (names v)) vs
  list_shown names current [] shows inside = refl
  list_shown names current (v ∷ vs) shows inside =
      ap (λ (n : ℕ). n ∷ map (slice_index current) vs) (shows.each v (inside v (among_first v vs)))
      ∙ ap (λ (ns : List ℕ). number (names v) ∷ ns) (list_shown names current vs shows (λ w is. inside w (among_later w v vs is)))
    where
      among_first : (v : ℕ) (vs : List ℕ) → among v (v ∷ vs) ≡ true
      among_first v vs = among_here v vs

      among_later : (w v : ℕ) (vs : List ℕ) → among w vs ≡ true → among w (v ∷ vs) ≡ true
      among_later w v vs is = among_there w v vs is

  pub gives_answered : (make : ℕ → Name) (vs : List ℕ) (next : ℕ) (current : List ℕ) → Rising number next (map make vs)
      → answered current next (map give_slot vs) ≡ map Number (map number (map make vs))
  gives_answered make [] next current rises = refl
  gives_answered make (v ∷ vs) next current rises =
      let first : next ≡ number (make v) = (let h = rises 0 (make v) refl in omega (arith, h)) in
      let rest = gives_answered make vs (next + 1) (current_behind current next (give_slot v ∷ [])) (λ i name is. let h = rises (suc i) name is in omega (arith, h)) in
      ap (λ (ss : List Slot). Number next ∷ ss) rest ∙ ap (λ (n : ℕ). Number n ∷ map Number (map number (map make vs))) first

  pub own_answered : (to : Option ℕ) (next : ℕ) (current : List ℕ) → Rising number next (option_map_or (λ x. own x ∷ []) to [])
      → answered current next (own_slots to) ≡ map Number (map number (option_map_or (λ x. own x ∷ []) to []))
  own_answered None next current rises = refl
  own_answered (Some x) next current rises =
      let first : next ≡ number (own x) = (let h = rises 0 (own x) refl in omega (arith, h)) in
      ap (λ (n : ℕ). let ss : List Slot = Number n ∷ [] in ss) first

both_mapped : (one other : List ℕ) → map Number (one ++ other) ≡ map Number one ++ map Number other
both_mapped one other = map-append Number one other

-- ---- a line, a block

module _ (func : Function) (table : List Operand) (naming : Naming) (number : Name → ℕ) (count : ℕ)
    (pointers_inside : (v : ℕ) → among v (pointers func) ≡ true → v < count)
    (results_inside : (b k x : ℕ) (line : Line) → slice_get (lines_at func b) k ≡ Some line → line.to ≡ Some x → x < count)
    (listed : (b k v : ℕ) → among v (live_list func table b k) ≡ true → v < count)
    (uses_inside : (b k : ℕ) (line : Line) → slice_get (lines_at func b) k ≡ Some line
    → AreKnown count line.inst.operands × AreKnown count (own_uses line.inst) × AreKnown count (held_in line.inst.bundle))
  where
    abbrev own_names : Line → List Name
    own_names line = option_map_or (λ x. own x ∷ []) line.to []

    plain_answered : (b k next : ℕ) (line : Line) (current : List ℕ) → slice_get (lines_at func b) k ≡ Some line → calls line ≡ false
        → Rising number next (line_names func table b k) → Shows number count (names_at func table naming b k) current
        → answered current next (plain_slots line)
        ≡ map Number (use_numbers (λ v. number (names_at func table naming b k v)) (own_uses line.inst)
        ++ (use_numbers (λ v. number (names_at func table naming b k v)) (held_in line.inst.bundle) ++ map number (line_names func table b k)))
    plain_answered b k next line current stands plain rises shows =
        let is = line_is func b k line stands in
        let known = uses_inside b k line stands in
        let here = names_at func table naming b k in
        let names_are : line_names func table b k ≡ own_names line =
        ap (λ (l : Line). (if calls l then token b k ∷ [] else []) ++ (own_names l ++ (if calls l then map (relocated b k) (live_list func table b k) else []))) is
        ∙ ap (λ (t : Bool). (if t then token b k ∷ [] else []) ++ (own_names line ++ (if t then map (relocated b k) (live_list func table b k) else []))) plain
        ∙ append-nil (own_names line) in
        let given = own_answered number count line.to next current (subst (Rising number next) names_are rises) in
        let first = use_numbers (λ v. number (here v)) (own_uses line.inst) in
        let second = use_numbers (λ v. number (here v)) (held_in line.inst.bundle) in
        uses_answered current next (own_uses line.inst) (uses_of (held_in line.inst.bundle) ++ own_slots line.to)
        ∙ ap (λ (ss : List Slot). map Number (use_numbers (slice_index current) (own_uses line.inst)) ++ ss) (uses_answered current next (held_in line.inst.bundle) (own_slots line.to))
        ∙ ap (λ (ns : List ℕ). map Number ns ++ (map Number (use_numbers (slice_index current) (held_in line.inst.bundle)) ++ answered current next (own_slots line.to))) (uses_shown number count here current (own_uses line.inst) shows known.1)
        ∙ ap (λ (ns : List ℕ). map Number first ++ (map Number ns ++ answered current next (own_slots line.to))) (uses_shown number count here current (held_in line.inst.bundle) shows known.2)
        ∙ ap (λ (ss : List Slot). map Number first ++ (map Number second ++ ss)) (given ∙ ap (λ (ns : List Name). map Number (map number ns)) (sym names_are))
        ∙ sym (both_mapped first (second ++ map number (line_names func table b k))
        ∙ ap (λ (ss : List Slot). map Number first ++ ss) (both_mapped second (map number (line_names func table b k))))

    call_answered : (b k next : ℕ) (line : Line) (current : List ℕ) → slice_get (lines_at func b) k ≡ Some line → calls line ≡ true
        → Rising number next (line_names func table b k) → Shows number count (names_at func table naming b k) current
        → answered current next (call_slots (live_list func table b k) line)
        ≡ map Number (use_numbers (λ v. number (names_at func table naming b k v)) line.inst.operands ++ (map (λ v. number (names_at func table naming b k v)) (live_list func table b k)
        ++ (use_numbers (λ v. number (names_at func table naming b k v)) (held_in line.inst.bundle) ++ map number (line_names func table b k))))
    call_answered b k next line current stands call rises shows =
        let is = line_is func b k line stands in
        let known = uses_inside b k line stands in
        let here = names_at func table naming b k in
        let list = live_list func table b k in
        let names_are : line_names func table b k ≡ token b k ∷ (own_names line ++ map (relocated b k) list) =
        ap (λ (l : Line). (if calls l then token b k ∷ [] else []) ++ (own_names l ++ (if calls l then map (relocated b k) list else []))) is
        ∙ ap (λ (t : Bool). (if t then token b k ∷ [] else []) ++ (own_names line ++ (if t then map (relocated b k) list else []))) call in
        let all = subst (Rising number next) names_are rises in
        let rest = rises_back number next (token b k ∷ []) (own_names line ++ map (relocated b k) list) all in
        let own_rises = rises_front number (next + 1) (own_names line) (map (relocated b k) list) rest in
        let list_rises : Rising number (next_behind (next + 1) (own_slots line.to)) (map (relocated b k) list) =
        subst (λ (n : ℕ). Rising number n (map (relocated b k) list)) (own_size line.to (next + 1)) (rises_back number (next + 1) (own_names line) (map (relocated b k) list) rest) in
        let token_is : next ≡ number (token b k) = (let h = all 0 (token b k) refl in omega (arith, h)) in
        let gives_tail = own_slots line.to ++ map give_slot list in
        let held_tail = uses_of (held_in line.inst.bundle) ++ (Token ∷ gives_tail) in
        let one = use_numbers (λ v. number (here v)) line.inst.operands in
        let two = map (λ v. number (here v)) list in
        let three = use_numbers (λ v. number (here v)) (held_in line.inst.bundle) in
        let own_part = map number (own_names line) in
        let list_part = map number (map (relocated b k) list) in
        let given : answered current (next + 1) gives_tail ≡ map Number own_part ++ map Number list_part =
        answered_append current (next + 1) (own_slots line.to) (map give_slot list)
        ∙ ap (λ (ss : List Slot). ss ++ answered (current_behind current (next + 1) (own_slots line.to)) (next_behind (next + 1) (own_slots line.to)) (map give_slot list)) (own_answered number count line.to (next + 1) current own_rises)
        ∙ ap (λ (ss : List Slot). map Number own_part ++ ss) (gives_answered number count (relocated b k) list (next_behind (next + 1) (own_slots line.to)) (current_behind current (next + 1) (own_slots line.to)) list_rises) in
        let all_given : Number next ∷ answered current (next + 1) gives_tail ≡ map Number (map number (line_names func table b k)) =
        ap (λ (ss : List Slot). Number next ∷ ss) given
        ∙ ap (λ (n : ℕ). Number n ∷ (map Number own_part ++ map Number list_part)) token_is
        ∙ ap (λ (ss : List Slot). Number (number (token b k)) ∷ ss) (sym (ap (map Number) (map-append number (own_names line) (map (relocated b k) list)) ∙ both_mapped own_part list_part))
        ∙ ap (λ (ns : List Name). map Number (map number ns)) (sym names_are) in
        uses_answered current next line.inst.operands (map use_slot list ++ held_tail)
        ∙ ap (λ (ss : List Slot). map Number (use_numbers (slice_index current) line.inst.operands) ++ ss) (list_answered current next list held_tail
        ∙ ap (λ (ss : List Slot). map Number (map (slice_index current) list) ++ ss) (uses_answered current next (held_in line.inst.bundle) (Token ∷ gives_tail)))
        ∙ ap (λ (ns : List ℕ). map Number ns ++ (map Number (map (slice_index current) list) ++ (map Number (use_numbers (slice_index current) (held_in line.inst.bundle)) ++ (Number next ∷ answered current (next + 1) gives_tail))))
        (uses_shown number count here current line.inst.operands shows known.0)
        ∙ ap (λ (ns : List ℕ). map Number one ++ (map Number ns ++ (map Number (use_numbers (slice_index current) (held_in line.inst.bundle)) ++ (Number next ∷ answered current (next + 1) gives_tail))))
        (list_shown number count here current list shows (λ v has. listed b k v has))
        ∙ ap (λ (ns : List ℕ). map Number one ++ (map Number two ++ (map Number ns ++ (Number next ∷ answered current (next + 1) gives_tail)))) (uses_shown number count here current (held_in line.inst.bundle) shows known.2)
        ∙ ap (λ (ss : List Slot). map Number one ++ (map Number two ++ (map Number three ++ ss))) all_given
        ∙ sym (both_mapped one (two ++ (three ++ map number (line_names func table b k)))
        ∙ ap (λ (ss : List Slot). map Number one ++ ss) (both_mapped two (three ++ map number (line_names func table b k))
        ∙ ap (λ (ss : List Slot). map Number two ++ ss) (both_mapped three (map number (line_names func table b k)))))
      where
        own_size : (to : Option ℕ) (n : ℕ) → n + length (option_map_or (λ x. own x ∷ []) to []) ≡ next_behind n (own_slots to)
        own_size None n = omega arith
        own_size (Some x) n = refl

    line_answered : (b k next : ℕ) (line : Line) (current : List ℕ) → slice_get (lines_at func b) k ≡ Some line
        → Rising number next (line_names func table b k) → Shows number count (names_at func table naming b k) current
        → answered current next (line_slots func table b k line) ≡ map Number (line_numbers func table naming number b k line)
    line_answered b k next line current stands rises shows = elim (cases_Bool (calls line)) [
      | inl call ↦ rw call (call_answered b k next line current stands call rises shows)
      | inr plain ↦ rw plain (plain_answered b k next line current stands plain rises shows)
    ]

    pub lines_answered : (b k next : ℕ) (lines : List Line) (current : List ℕ) → drop k (lines_at func b) ≡ lines
        → Rising number next (flat_map (line_names func table b) (range_with_len k (length lines))) → Shows number count (names_at func table naming b k) current
        → answered current next (lines_slots func table b k lines) ≡ map Number (lines_numbers func table naming number b k lines)
    lines_answered b k next [] current place rises shows = refl
    lines_answered b k next (line ∷ lines) current place rises shows =
        let here = at_rest (lines_at func b) k line lines place in
        let e : suc k ≡ k + 1 = omega arith in
        let first_rises = rises_front number next (line_names func table b k) (flat_map (line_names func table b) (range_with_len (k + 1) (length lines))) rises in
        let one = line_shows func table naming number count pointers_inside results_inside b k next line current here.0 first_rises shows in
        let rest_rises : Rising number (next_behind next (line_slots func table b k line)) (flat_map (line_names func table b) (range_with_len (suc k) (length lines))) =
        subst (λ (m : ℕ). Rising number (next_behind next (line_slots func table b k line)) (flat_map (line_names func table b) (range_with_len m (length lines)))) (sym e)
        (subst (λ (n : ℕ). Rising number n (flat_map (line_names func table b) (range_with_len (k + 1) (length lines)))) (sym one.1)
        (rises_back number next (line_names func table b k) (flat_map (line_names func table b) (range_with_len (k + 1) (length lines))) rises)) in
        answered_append current next (line_slots func table b k line) (lines_slots func table b (suc k) lines)
        ∙ ap (λ (ss : List Slot). ss ++ answered (current_behind current next (line_slots func table b k line)) (next_behind next (line_slots func table b k line)) (lines_slots func table b (suc k) lines))
        (line_answered b k next line current here.0 first_rises shows)
        ∙ ap (λ (ss : List Slot). map Number (line_numbers func table naming number b k line) ++ ss)
        (lines_answered b (suc k) (next_behind next (line_slots func table b k line)) lines (current_behind current next (line_slots func table b k line)) here.1 rest_rises one.0)
        ∙ sym (both_mapped (line_numbers func table naming number b k line) (lines_numbers func table naming number b (suc k) lines))

module _ (func : Function) (table : List Operand) (graph : IsReached func) (count : ℕ)
    (pointers_inside : (v : ℕ) → among v (pointers func) ≡ true → v < count)
    (results_inside : (b k x : ℕ) (line : Line) → slice_get (lines_at func b) k ≡ Some line → line.to ≡ Some x → x < count)
    (listed : (b k v : ℕ) → among v (live_list func table b k) ≡ true → v < count)
    (uses_inside : (b k : ℕ) (line : Line) → slice_get (lines_at func b) k ≡ Some line
    → AreKnown count line.inst.operands × AreKnown count (own_uses line.inst) × AreKnown count (held_in line.inst.bundle))
    (entries_inside : (b : ℕ) → b < length func.blocks → AreKnown count (entries_from func (full_naming func table) b))
  where
    abbrev naming : Naming
    naming = full_naming func table

    abbrev number : Name → ℕ
    number = place_in (names_of func table naming)

    -- the slots of a block, answered by the numbers with which it begins
    pub block_answered : (b : ℕ) (current : List ℕ) → b < length func.blocks → Shows number count (before func table graph count pointers_inside results_inside b) current
        → answered current (start_of func table naming b) (block_slots func table naming b) ≡ map Number (block_numbers func table naming number b)
    block_answered b current inside shows =
        let front = front_shows func table graph count pointers_inside results_inside b current inside shows in
        let joined_list = joined_at func naming b in
        let first = map give_slot joined_list in
        let lines = lines_slots func table b 0 (lines_at func b) in
        let start = start_of func table naming b in
        let body = body_start func table graph count pointers_inside results_inside b in
        let z : 0 + length (lines_at func b) ≡ length (lines_at func b) = omega arith in
        let rises = body_rises func table graph count pointers_inside results_inside b inside in
        let joined_rises = rises_front number start (map (joined b) joined_list) (flat_map (line_names func table b) (range_with_len 0 (length (lines_at func b)))) (block_rises func table naming b inside) in
        let shown = lines_show func table naming number count pointers_inside results_inside b 0 body (lines_at func b) (current_behind current start first) refl rises front in
        let at_end = subst (λ (n : ℕ). Shows number count (names_at func table naming b n) (current_behind (current_behind current start first) body lines)) z shown.0 in
        let entries = entries_from func naming b in
        let behind = current_behind (current_behind current start first) body lines in
        let last : answered behind (next_behind body lines) (uses_of entries) ≡ map Number (use_numbers (λ v. number (names_at_end func table naming b v)) entries) =
        sym (ap (answered behind (next_behind body lines)) (append-nil (uses_of entries))) ∙ uses_answered behind (next_behind body lines) entries []
        ∙ append-nil (map Number (use_numbers (slice_index behind) entries))
        ∙ ap (map Number) (uses_shown number count (names_at_end func table naming b) behind entries at_end (entries_inside b inside)) in
        let ones = map number (map (joined b) joined_list) in
        let twos = lines_numbers func table naming number b 0 (lines_at func b) in
        let threes = use_numbers (λ v. number (names_at_end func table naming b v)) entries in
        answered_append current start first (lines ++ uses_of entries)
        ∙ ap (λ (ss : List Slot). ss ++ answered (current_behind current start first) body (lines ++ uses_of entries)) (gives_answered number count (joined b) joined_list start current joined_rises)
        ∙ ap (λ (ss : List Slot). map Number ones ++ ss) (answered_append (current_behind current start first) body lines (uses_of entries)
        ∙ ap (λ (ss : List Slot). ss ++ answered behind (next_behind body lines) (uses_of entries))
        (lines_answered func table naming number count pointers_inside results_inside listed uses_inside b 0 body (lines_at func b) (current_behind current start first) refl rises front)
        ∙ ap (λ (ss : List Slot). map Number twos ++ ss) last)
        ∙ sym (both_mapped ones (twos ++ threes) ∙ ap (λ (ss : List Slot). map Number ones ++ ss) (both_mapped twos threes))
        ∙ ap (map Number) (sym (append_assoc ones twos threes))
