-- How many slots a block has before its entries.
use Rattle.std.proofs.Common.{◌≡◌, ◌∙◌, ℕ, suc, inl, inr, true, false, List, [], ◌∷◌, ◌++◌, length, map, drop, Option, Some, None, slice_get, refl, ap, sym, arith, length-append}
use Rattle.std.specs.Option.{option_map_or}
use Rattle.std.proofs.lemmas.Bool.{cases_Bool}
use Rattle.ir_ast.specs.declared.ops.Operand.{Operand}
use Rattle.ir_ast.specs.declared.ops.Operand.TheVariants.{Value, Int, Null, Fun}
use Rattle.ir_ast.specs.Funcs.{Function}
use Rattle.object_meaning.specs.Lines.{Line}
use Rattle.rewriting_forms.specs.Numbered.{lines_at, calls}
use Rattle.rewriting_forms.specs.Liveness.{live_list}
use Rattle.rewriting_forms.specs.Names.{Name, own, relocated, joined, Naming}
use Rattle.rewriting_forms.specs.Rewritten.{line_names, joined_at}
use Rattle.rewriting_laws.proofs.NameLemmas.{at_rest}
use Rattle.version_walk.specs.declared.slots.Slot.{Slot}
use Rattle.version_walk.specs.declared.slots.Slot.TheVariants.{Token}
use Rattle.ssa_rebuild.specs.Rows.{use_slot, give_slot, uses_of, held_in, own_slots, own_uses, plain_slots, call_slots, line_slots, lines_slots, use_numbers, number_at, line_numbers, lines_numbers, body_numbers}
use Rattle.ssa_rebuild.proofs.StartLaws.{plain_names_are, call_names_are}

append_long : (one ones : List Slot) (other others : List ℕ) → length one ≡ length other → length ones ≡ length others → length (one ++ ones) ≡ length (other ++ others)
append_long one ones other others same rest =
    let left = length-append one ones in
    let right = length-append other others in
    omega (arith, left, right, same, rest)

uses_long : (here : ℕ → ℕ) (operands : List Operand) → length (uses_of operands) ≡ length (use_numbers here operands)
uses_long here [] = refl
uses_long here (Value value ∷ operands) = ap suc (uses_long here operands)
uses_long here (Int word ∷ operands) = uses_long here operands
uses_long here (Null ∷ operands) = uses_long here operands
uses_long here (Fun func ∷ operands) = uses_long here operands

list_long : (here : ℕ → ℕ) (vs : List ℕ) → length (map use_slot vs) ≡ length (map here vs)
list_long here [] = refl
list_long here (v ∷ vs) = ap suc (list_long here vs)

gives_long : (number : Name → ℕ) (make : ℕ → Name) (vs : List ℕ) → length (map give_slot vs) ≡ length (map number (map make vs))
gives_long number make [] = refl
gives_long number make (v ∷ vs) = ap suc (gives_long number make vs)

given_long : (number : Name → ℕ) (make : ℕ → Name) (to : Option ℕ) (vs : List ℕ)
    → length (own_slots to ++ map give_slot vs) ≡ length (map number (option_map_or (λ x. own x ∷ []) to [] ++ map make vs))
given_long number make None vs = gives_long number make vs
given_long number make (Some x) vs = ap suc (gives_long number make vs)

own_long : (number : Name → ℕ) (to : Option ℕ) → length (own_slots to) ≡ length (map number (option_map_or (λ x. own x ∷ []) to []))
own_long number None = refl
own_long number (Some x) = refl

module _ (func : Function) (table : List Operand) (naming : Naming) (number : Name → ℕ) where
  plain_long : (b k : ℕ) (line : Line) → slice_get (lines_at func b) k ≡ Some line → calls line ≡ false
      → length (plain_slots line)
      ≡ length (use_numbers (number_at func table naming number b k) (own_uses line.inst)
      ++ (use_numbers (number_at func table naming number b k) (held_in line.inst.bundle) ++ map number (line_names func table b k)))
  plain_long b k line stands plain =
      let here = number_at func table naming number b k in
      let held = held_in line.inst.bundle in
      let given = own_long number line.to ∙ ap (λ (ns : List Name). length (map number ns)) (sym (plain_names_are func table b k line stands plain)) in
      append_long (uses_of (own_uses line.inst)) (uses_of held ++ own_slots line.to) (use_numbers here (own_uses line.inst)) (use_numbers here held ++ map number (line_names func table b k))
      (uses_long here (own_uses line.inst))
      (append_long (uses_of held) (own_slots line.to) (use_numbers here held) (map number (line_names func table b k)) (uses_long here held) given)

  call_long : (b k : ℕ) (line : Line) → slice_get (lines_at func b) k ≡ Some line → calls line ≡ true
      → length (call_slots (live_list func table b k) line)
      ≡ length (use_numbers (number_at func table naming number b k) line.inst.operands ++ (map (number_at func table naming number b k) (live_list func table b k)
      ++ (use_numbers (number_at func table naming number b k) (held_in line.inst.bundle) ++ map number (line_names func table b k))))
  call_long b k line stands call =
      let here = number_at func table naming number b k in
      let held = held_in line.inst.bundle in
      let list = live_list func table b k in
      let names = map number (line_names func table b k) in
      let slots = Token ∷ (own_slots line.to ++ map give_slot list) in
      let given : length slots ≡ length names =
      ap suc (given_long number (relocated b k) line.to list) ∙ ap (λ (ns : List Name). length (map number ns)) (sym (call_names_are func table b k line stands call)) in
      append_long (uses_of line.inst.operands) (map use_slot list ++ (uses_of held ++ slots)) (use_numbers here line.inst.operands) (map here list ++ (use_numbers here held ++ names))
      (uses_long here line.inst.operands)
      (append_long (map use_slot list) (uses_of held ++ slots) (map here list) (use_numbers here held ++ names) (list_long here list)
      (append_long (uses_of held) slots (use_numbers here held) names (uses_long here held) given))

  pub line_long : (b k : ℕ) (line : Line) → slice_get (lines_at func b) k ≡ Some line
      → length (line_slots func table b k line) ≡ length (line_numbers func table naming number b k line)
  line_long b k line stands = elim (cases_Bool (calls line)) [
    | inl call ↦ rw call (call_long b k line stands call)
    | inr plain ↦ rw plain (plain_long b k line stands plain)
  ]

  pub lines_long : (b k : ℕ) (lines : List Line) → drop k (lines_at func b) ≡ lines
      → length (lines_slots func table b k lines) ≡ length (lines_numbers func table naming number b k lines)
  lines_long b k [] place = refl
  lines_long b k (line ∷ lines) place =
      let here = at_rest (lines_at func b) k line lines place in
      append_long (line_slots func table b k line) (lines_slots func table b (suc k) lines) (line_numbers func table naming number b k line) (lines_numbers func table naming number b (suc k) lines)
      (line_long b k line here.0) (lines_long b (suc k) lines here.1)

  -- the slots before a block's entries are as many as their numbers
  pub body_long : (b : ℕ)
      → length (map give_slot (joined_at func naming b) ++ lines_slots func table b 0 (lines_at func b))
      ≡ length (body_numbers func table naming number b)
  body_long b =
      append_long (map give_slot (joined_at func naming b)) (lines_slots func table b 0 (lines_at func b)) (map number (map (joined b) (joined_at func naming b)))
      (lines_numbers func table naming number b 0 (lines_at func b)) (gives_long number (joined b) (joined_at func naming b)) (lines_long b 0 (lines_at func b) refl)
