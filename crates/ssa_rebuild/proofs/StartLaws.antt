-- The numbers with which blocks begin, and those of the own definitions of values.
use Rattle.std.proofs.Common.{◌≡◌, ◌∙◌, ℕ, suc, ◌+◌, inl, inr, Bool, true, false, if◌then◌else◌, List, [], ◌∷◌, ◌++◌, length, map, drop, Option, Some, None, slice_get, refl, ap, sym, arith, subst, append-nil, length-append}
use Rattle.std.specs.List.{flat_map, range_with_len}
use Rattle.std.specs.Option.{option_map_or}
use Rattle.std.proofs.lemmas.Bool.{cases_Bool}
use Rattle.std.proofs.lemmas.List.{map-append, length-map}
use Rattle.ir_ast.specs.declared.ops.Operand.{Operand}
use Rattle.ir_ast.specs.declared.ops.Operand.TheVariants.{Value, Int, Null, Fun}
use Rattle.ir_ast.specs.Funcs.{Function}
use Rattle.object_meaning.specs.Lines.{Line}
use Rattle.rewriting_forms.specs.Numbered.{lines_at, calls}
use Rattle.rewriting_forms.specs.Liveness.{live_list}
use Rattle.rewriting_forms.specs.Names.{Name, own, relocated, joined, token, Naming}
use Rattle.rewriting_forms.specs.Rewritten.{line_names, joined_at, block_names}
use Rattle.rewriting_laws.proofs.NameLemmas.{line_is, at_rest}
use Rattle.rewriting_laws.proofs.PlaceLaws.{Rising}
use Rattle.version_walk.specs.declared.slots.Slot.{Slot}
use Rattle.version_walk.specs.declared.slots.Slot.TheVariants.{Use, Own, Give, Token, Number}
use Rattle.version_walk.specs.Slots.{next_behind}
use Rattle.ssa_rebuild.specs.Rows.{use_slot, give_slot, uses_of, held_in, own_slots, own_uses, plain_slots, call_slots, line_slots, lines_slots, entries_from, block_slots, owns}
use Rattle.version_walk.proofs.SlotLemmas.{next_append}
use Rattle.ssa_rebuild.proofs.NumberLemmas.{rises_front, rises_back}
use Rattle.ssa_rebuild.proofs.VersionLemmas.{uses_next, list_next, gives_next}

-- ---- the numbers of values among those of other slots

pub owns_append : (next : ℕ) (one other : List Slot) → owns next (one ++ other) ≡ owns next one ++ owns (next_behind next one) other
owns_append next [] other = refl
owns_append next (Use value ∷ one) other = owns_append next one other
owns_append next (Own value ∷ one) other = ap (λ (ns : List ℕ). next ∷ ns) (owns_append (next + 1) one other)
owns_append next (Give value ∷ one) other = owns_append (next + 1) one other
owns_append next (Token ∷ one) other = owns_append (next + 1) one other
owns_append next (Number number ∷ one) other = owns_append next one other

uses_own : (next : ℕ) (operands : List Operand) (rest : List Slot) → owns next (uses_of operands ++ rest) ≡ owns next rest
uses_own next [] rest = refl
uses_own next (Value value ∷ operands) rest = uses_own next operands rest
uses_own next (Int word ∷ operands) rest = uses_own next operands rest
uses_own next (Null ∷ operands) rest = uses_own next operands rest
uses_own next (Fun func ∷ operands) rest = uses_own next operands rest

list_own : (next : ℕ) (vs : List ℕ) (rest : List Slot) → owns next (map use_slot vs ++ rest) ≡ owns next rest
list_own next [] rest = refl
list_own next (v ∷ vs) rest = list_own next vs rest

gives_own : (next : ℕ) (vs : List ℕ) → owns next (map give_slot vs) ≡ []
gives_own next [] = refl
gives_own next (v ∷ vs) = gives_own (next + 1) vs

-- ---- how many definitions a line has

module _ (func : Function) (table : List Operand) where
  abbrev own_names : Line → List Name
  own_names line = option_map_or (λ x. own x ∷ []) line.to []

  pub plain_names_are : (b k : ℕ) (line : Line) → slice_get (lines_at func b) k ≡ Some line → calls line ≡ false → line_names func table b k ≡ own_names line
  plain_names_are b k line stands plain =
      ap (λ (l : Line). (if calls l then token b k ∷ [] else []) ++ (own_names l ++ (if calls l then map (relocated b k) (live_list func table b k) else []))) (line_is func b k line stands)
      ∙ ap (λ (t : Bool). (if t then token b k ∷ [] else []) ++ (own_names line ++ (if t then map (relocated b k) (live_list func table b k) else []))) plain
      ∙ append-nil (own_names line)

  pub call_names_are : (b k : ℕ) (line : Line) → slice_get (lines_at func b) k ≡ Some line → calls line ≡ true
      → line_names func table b k ≡ token b k ∷ (own_names line ++ map (relocated b k) (live_list func table b k))
  call_names_are b k line stands call =
      ap (λ (l : Line). (if calls l then token b k ∷ [] else []) ++ (own_names l ++ (if calls l then map (relocated b k) (live_list func table b k) else []))) (line_is func b k line stands)
      ∙ ap (λ (t : Bool). (if t then token b k ∷ [] else []) ++ (own_names line ++ (if t then map (relocated b k) (live_list func table b k) else []))) call

  own_count : (to : Option ℕ) (next : ℕ) → next_behind next (own_slots to) ≡ next + length (option_map_or (λ x. own x ∷ []) to [])
  own_count None next = omega arith
  own_count (Some x) next = refl

  own_owned : (number : Name → ℕ) (to : Option ℕ) (next : ℕ) → Rising number next (option_map_or (λ x. own x ∷ []) to [])
      → owns next (own_slots to) ≡ map number (option_map_or (λ x. own x ∷ []) to [])
  own_owned number None next rises = refl
  own_owned number (Some x) next rises =
      let first : next ≡ number (own x) = (let h = rises 0 (own x) refl in omega (arith, h)) in
      ap (λ (n : ℕ). let ns : List ℕ = n ∷ [] in ns) first

  plain_counts : (number : Name → ℕ) (b k next : ℕ) (line : Line) → slice_get (lines_at func b) k ≡ Some line → calls line ≡ false
      → (next_behind next (plain_slots line) ≡ next + length (line_names func table b k))
      × (Rising number next (line_names func table b k) → owns next (plain_slots line) ≡ map number (own_names line))
  plain_counts number b k next line stands plain =
      let names = plain_names_are b k line stands plain in
      let tail = uses_of (held_in line.inst.bundle) ++ own_slots line.to in (
        uses_next next (own_uses line.inst) tail ∙ uses_next next (held_in line.inst.bundle) (own_slots line.to) ∙ own_count line.to next
            ∙ sym (ap (λ (ns : List Name). next + length ns) names),
        λ rises. uses_own next (own_uses line.inst) tail ∙ uses_own next (held_in line.inst.bundle) (own_slots line.to)
            ∙ own_owned number line.to next (subst (Rising number next) names rises),
      )

  call_counts : (number : Name → ℕ) (b k next : ℕ) (line : Line) → slice_get (lines_at func b) k ≡ Some line → calls line ≡ true
      → (next_behind next (call_slots (live_list func table b k) line) ≡ next + length (line_names func table b k))
      × (Rising number next (line_names func table b k) → owns next (call_slots (live_list func table b k) line) ≡ map number (own_names line))
  call_counts number b k next line stands call =
      let names = call_names_are b k line stands call in
      let list = live_list func table b k in
      let gives_tail = own_slots line.to ++ map give_slot list in
      let held_tail = uses_of (held_in line.inst.bundle) ++ (Token ∷ gives_tail) in
      let after : next_behind next (call_slots list line) ≡ next_behind (next_behind (next + 1) (own_slots line.to)) (map give_slot list) =
      uses_next next line.inst.operands (map use_slot list ++ held_tail) ∙ list_next next list held_tail
      ∙ uses_next next (held_in line.inst.bundle) (Token ∷ gives_tail) ∙ next_append (next + 1) (own_slots line.to) (map give_slot list) in
      let own_part = own_count line.to (next + 1) in
      let list_part = gives_next (next_behind (next + 1) (own_slots line.to)) list in
      let long = length-map list (relocated b k) in
      let sum = length-append (own_names line) (map (relocated b k) list) in
      let whole = ap length names in (
        omega (arith, after, own_part, list_part, long, sum, whole),
        λ rises.
            let all = subst (Rising number next) names rises in
            let rest = rises_back number next (token b k ∷ []) (own_names line ++ map (relocated b k) list) all in
            uses_own next line.inst.operands (map use_slot list ++ held_tail) ∙ list_own next list held_tail
            ∙ uses_own next (held_in line.inst.bundle) (Token ∷ gives_tail) ∙ owns_append (next + 1) (own_slots line.to) (map give_slot list)
            ∙ ap (λ (ns : List ℕ). owns (next + 1) (own_slots line.to) ++ ns) (gives_own (next_behind (next + 1) (own_slots line.to)) list)
            ∙ append-nil (owns (next + 1) (own_slots line.to))
            ∙ own_owned number line.to (next + 1) (rises_front number (next + 1) (own_names line) (map (relocated b k) list) rest),
      )

  line_counts : (number : Name → ℕ) (b k next : ℕ) (line : Line) → slice_get (lines_at func b) k ≡ Some line
      → (next_behind next (line_slots func table b k line) ≡ next + length (line_names func table b k))
      × (Rising number next (line_names func table b k) → owns next (line_slots func table b k line) ≡ map number (own_names line))
  line_counts number b k next line stands = elim (cases_Bool (calls line)) [
    | inl call ↦ rw call (call_counts number b k next line stands call)
    | inr plain ↦ rw plain (plain_counts number b k next line stands plain)
  ]

  abbrev names_in : ℕ → ℕ → List Line → List Name
  names_in b k lines = flat_map (line_names func table b) (range_with_len k (length lines))

  lines_count : (number : Name → ℕ) (b k next : ℕ) (lines : List Line) → drop k (lines_at func b) ≡ lines
      → (next_behind next (lines_slots func table b k lines) ≡ next + length (names_in b k lines))
      × (Rising number next (names_in b k lines) → owns next (lines_slots func table b k lines) ≡ map number (flat_map own_names lines))
  lines_count number b k next [] place = (omega arith, λ rises. refl)
  lines_count number b k next (line ∷ lines) place =
      let here = at_rest (lines_at func b) k line lines place in
      let e : suc k ≡ k + 1 = omega arith in
      let one = line_counts number b k next line here.0 in
      let after = next_behind next (line_slots func table b k line) in
      let rest = lines_count number b (suc k) after lines here.1 in
      let later = flat_map (line_names func table b) (range_with_len (k + 1) (length lines)) in
      let sizes = length-append (line_names func table b k) later in
      let same : length (names_in b (suc k) lines) ≡ length later = ap (λ (m : ℕ). length (flat_map (line_names func table b) (range_with_len m (length lines)))) e in
      let split = next_append next (line_slots func table b k line) (lines_slots func table b (suc k) lines) in (
        omega (arith, split, rest.0, one.0, sizes, same),
        λ rises.
            let rest_rises : Rising number after (names_in b (suc k) lines) =
            subst (λ (m : ℕ). Rising number after (flat_map (line_names func table b) (range_with_len m (length lines)))) (sym e)
            (subst (λ (n : ℕ). Rising number n later) (sym one.0) (rises_back number next (line_names func table b k) later rises)) in
            owns_append next (line_slots func table b k line) (lines_slots func table b (suc k) lines)
            ∙ ap (λ (ns : List ℕ). ns ++ owns after (lines_slots func table b (suc k) lines)) (one.1 (rises_front number next (line_names func table b k) later rises))
            ∙ ap (λ (ns : List ℕ). map number (own_names line) ++ ns) (rest.1 rest_rises)
            ∙ sym (map-append number (own_names line) (flat_map own_names lines)),
      )

  module _ (naming : Naming) (number : Name → ℕ) where
    uses_last : (next : ℕ) (operands : List Operand) → (next_behind next (uses_of operands) ≡ next) × (owns next (uses_of operands) ≡ [])
    uses_last next operands = (
      sym (ap (next_behind next) (append-nil (uses_of operands))) ∙ uses_next next operands [],
      sym (ap (owns next) (append-nil (uses_of operands))) ∙ uses_own next operands [],
    )

    -- behind a block
    pub block_counts : (b next : ℕ)
        → (next_behind next (block_slots func table naming b) ≡ next + length (block_names func table naming b))
        × (Rising number next (block_names func table naming b) → owns next (block_slots func table naming b) ≡ map number (flat_map own_names (lines_at func b)))
    block_counts b next =
        let joined_list = joined_at func naming b in
        let first = map give_slot joined_list in
        let lines = lines_slots func table b 0 (lines_at func b) in
        let entries = uses_of (entries_from func naming b) in
        let body = next_behind next first in
        let steps = gives_next next joined_list in
        let all = lines_count number b 0 body (lines_at func b) refl in
        let last = uses_last (next_behind body lines) (entries_from func naming b) in
        let split : next_behind next (block_slots func table naming b) ≡ next_behind (next_behind body lines) entries =
        next_append next first (lines ++ entries) ∙ next_append body lines entries in
        let long = length-map joined_list (joined b) in
        let names = flat_map (line_names func table b) (range_with_len 0 (length (lines_at func b))) in
        let sum = length-append (map (joined b) joined_list) names in (
          omega (arith, split, last.0, all.0, steps, long, sum),
          λ rises.
              let body_is : next + length (map (joined b) joined_list) ≡ body = omega (arith, long, steps) in
              let lines_rise = subst (λ (n : ℕ). Rising number n names) body_is (rises_back number next (map (joined b) joined_list) names rises) in
              owns_append next first (lines ++ entries)
              ∙ ap (λ (ns : List ℕ). ns ++ owns body (lines ++ entries)) (gives_own next joined_list)
              ∙ owns_append body lines entries
              ∙ ap (λ (ns : List ℕ). owns body lines ++ ns) last.1 ∙ append-nil (owns body lines) ∙ all.1 lines_rise,
        )
