-- Functions by the addresses of their instructions, one after the other.
use Rattle.std.proofs.Common.{◌≡◌, ℕ, ◌+◌, ◌-◌, ◌/◌, ◌%◌, ◌<◌, ◌≤◌, ◌==◌, ◌&&◌, Bool, true, false, cond, List, [], ◌∷◌, length, map, drop, get_or, refl, sym, ap, ◌∙◌, arith, Some, None}
use Rattle.std.specs.Prelude.{nat_le, nat_lt}
use Rattle.std.proofs.lemmas.Bool.Decides.{nat_tests}
use Rattle.std.proofs.Math.ListN.{get_or-map}
use Rattle.std.proofs.lemmas.List.{length-map}
use Rattle.list_laws.proofs.Places.{drop_item}
use Rattle.ir_ast.specs.Funcs.{Function, LinedFunction, content_of, instructions_of}
use Rattle.frame_forms.specs.CodeAddresses.{next_start}
use Rattle.machine_meaning.specs.Code.{has_instruction, name_in}
use Rattle.trap_frames.specs.Spans.{span_of}

before_start : (start : ℕ) (func : Function) (address : ℕ) → address < start → has_instruction start func address ≡ false
before_start start func address before = grind (arith, nat_tests)

-- below the first function there is none
pub none_below : (start : ℕ) (funcs : List Function) (address : ℕ) → address < start → name_in start funcs address ≡ None
none_below start [] address before = refl
none_below start (func ∷ funcs) address before =
    ap (λ (b : Bool). cond b (Some func.name) (name_in (next_start start func) funcs address)) (before_start start func address before)
    ∙ none_below (next_start start func) funcs address (omega arith)

-- a function that starts so far below an address
module _ (func : Function) (funcs : List Function) (address behind : ℕ) (within : behind ≤ address) where
  abbrev start : ℕ
  start = address - behind

  abbrev count : ℕ
  count = length (instructions_of func.blocks)

  has_is : has_instruction start func address ≡ ((behind % 4 == 0) && nat_lt (behind / 4) count)
  has_is = let same : address - start ≡ behind = omega arith in let above : nat_le start address ≡ true = grind (arith, nat_tests) in rw (above, same) refl

  by : (b : Bool) → has_instruction start func address ≡ b → name_in start (func ∷ funcs) address ≡ cond b (Some func.name) (name_in (next_start start func) funcs address)
  by b is = ap (λ (has : Bool). cond has (Some func.name) (name_in (next_start start func) funcs address)) is

  pub named_here : ((behind % 4 == 0) && nat_lt (behind / 4) count) ≡ true → name_in start (func ∷ funcs) address ≡ Some func.name
  named_here has = by true (has_is ∙ has)

  next_is : start % 16 ≡ 0 → next_start start func ≡ start + span_of count
  next_is even = omega (arith, even)

  pub named_later : start % 16 ≡ 0 → ((behind % 4 == 0) && nat_lt (behind / 4) count) ≡ false → name_in start (func ∷ funcs) address ≡ name_in (start + span_of count) funcs address
  named_later even none = by false (has_is ∙ none) ∙ ap (λ (from : ℕ). name_in from funcs address) (next_is even)

pub even_more : (start count : ℕ) → start % 16 ≡ 0 → (start + span_of count) % 16 ≡ 0
even_more start count even = omega (arith, even)

-- the functions from a place on
pub here : (funcs : List LinedFunction) (contents : List Function) (k : ℕ) (func : LinedFunction) → map content_of funcs ≡ contents → k < length funcs → func ≡ get_or funcs k func
    → drop k contents ≡ func.content ∷ drop (k + 1) contents
here funcs contents k func same below is =
    let found : func.content ≡ get_or contents k func.content = ap content_of is ∙ sym (get_or-map content_of funcs k func) ∙ ap (λ xs. get_or xs k func.content) same in
    let within : k < length contents = omega (arith, ap length same, length-map funcs content_of, below) in
    drop_item contents k func.content within found
