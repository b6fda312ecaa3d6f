-- Live lists as lists of values.
use Rattle.std.proofs.Common.{◌≡◌, ℕ, suc, ◌+◌, ◌-◌, ◌<◌, ◌≤◌, ◌^◌, Bool, true, false, not, ◌&&◌, if◌then◌else◌, List, [], ◌∷◌, length, map, filter, sum, refl, ap, sym, arith, inl, inr, ◌∙◌, subst}
use Rattle.std.specs.Prelude.{is_some, slice_get}
use Rattle.std.specs.List.{All, sum_by, flat_map, range_with_len}
use Rattle.std.specs.Option.{option_map_or}
use Rattle.std.specs.Global.{Vec}
use Rattle.std.proofs.lemmas.Bool.{cases_Bool}
use Rattle.std.proofs.lemmas.List.{length-append, length-map}
use Rattle.std.proofs.lemmas.List.FromFn.{length-range_with_len}
use Rattle.std.proofs.lemmas.List.Sums.{sum_by-cons}
use Rattle.std.proofs.lemmas.List.Elements.{All-nil, All-cons, All-head, All-tail, All-append}
use Rattle.sp_ids.specs.declared.ids.ValueId.{ValueId}
use Rattle.ir_ast.specs.declared.ops.Operand.{Operand}
use Rattle.ir_ast.specs.Insts.{Instruction}
use Rattle.ir_ast.specs.Funcs.{Function, IsSmall, instructions_of}
use Rattle.ir_ast.specs.Types.{is_pointer}
use Rattle.ir_ast.specs.Values.{argument, outcome, definition_type, definitions_of, value_types}
use Rattle.object_meaning.specs.Lines.{Line}
use Rattle.rewriting_forms.specs.Numbered.{lines_at, line_at, gives, calls, pointers}
use Rattle.rewriting_forms.specs.Liveness.{is_live_after, live_list, lists_from, live_lists}
use Rattle.statepoint_insert.specs.Groups.{GroupContent, numbers_in, group_of, groups_of}
use Rattle.ir_ast.proofs.FuncLaws.{few_values, few_filtered}
use Rattle.ir_ast.specs.Operands.{valued}

-- ---- sizes

pub sizes : (lists : List (Vec ValueId)) → sum (map length (map (λ (list : Vec ValueId). list.items) lists)) ≡ sum_by (λ (list : Vec ValueId). length list.items) lists
sizes [] = refl
sizes (list ∷ lists) =
    let one = sum_by-cons (λ (n : ℕ). n) (length list.items) (map length (map (λ (l : Vec ValueId). l.items) lists)) in
    let other = sum_by-cons (λ (l : Vec ValueId). length l.items) list lists in
    let rest = sizes lists in
    omega (arith, one, other, rest)

-- ---- the lists of a function are short

pub few_pointers : (func : Function) → length (pointers func) ≤ length func.args + length (instructions_of func.blocks)
few_pointers func =
    let kept = few_filtered (λ (v : ℕ). option_map_or is_pointer (slice_get (value_types func) v) false) (range_with_len 0 (length (value_types func))) in
    let range = length-range_with_len 0 (length (value_types func)) in
    let values = few_values func in
    omega (arith, kept, range, values)

pub few_live : (func : Function) (table : List Operand) (b k : ℕ) → length (live_list func table b k) ≤ length func.args + length (instructions_of func.blocks)
few_live func table b k =
    let kept = few_filtered (λ (v : ℕ). is_live_after func table b k v && not (gives (line_at func b k) v)) (pointers func) in
    let all = few_pointers func in
    omega (arith, kept, all)

module _ (func : Function) (table : List Operand) where
  abbrev IsShort : List ℕ → Type 0
  IsShort list = length list ≤ length func.args + length (instructions_of func.blocks)

  short_here : (called : Bool) (list : List ℕ) → IsShort list → All IsShort (if called then list ∷ [] else [])
  short_here true list is = All-cons IsShort list [] is (All-nil IsShort)
  short_here false list is = All-nil IsShort

  short_from : (b k : ℕ) (lines : List Line) → All IsShort (lists_from func table b k lines)
  short_from b k [] = All-nil IsShort
  short_from b k (line ∷ lines) =
      All-append IsShort (if calls line then live_list func table b k ∷ [] else []) (lists_from func table b (suc k) lines)
      (short_here (calls line) (live_list func table b k) (few_live func table b k)) (short_from b (suc k) lines)

  short_flat : (blocks : List ℕ) → All IsShort (flat_map (λ b. lists_from func table b 0 (lines_at func b)) blocks)
  short_flat [] = All-nil IsShort
  short_flat (b ∷ blocks) =
      All-append IsShort (lists_from func table b 0 (lines_at func b)) (flat_map (λ c. lists_from func table c 0 (lines_at func c)) blocks)
      (short_from b 0 (lines_at func b)) (short_flat blocks)

  pub short_lists : All IsShort (live_lists func table)
  short_lists = short_flat (range_with_len 0 (length func.blocks))

-- ---- as they are read

pub numbers_valued : (list : List ℕ) → numbers_in (map valued list) ≡ list
numbers_valued [] = refl
numbers_valued (v ∷ list) = ap (λ (vs : List ℕ). v ∷ vs) (numbers_valued list)

abbrev items : List (Vec ValueId) → List (List ValueId)
items lists = map (λ list. list.items) lists

grouped_by : (table : List Operand) (lists : List (Vec ValueId))
    → map (λ (list : Vec ValueId). group_of table (numbers_in list.items)) lists ≡ map (λ (list : List ValueId). group_of table (numbers_in list)) (items lists)
grouped_by table [] = refl
grouped_by table (list ∷ lists) = ap (λ (gs : List GroupContent). group_of table (numbers_in list.items) ∷ gs) (grouped_by table lists)

grouped_values : (table : List Operand) (lists : List (List ℕ))
    → map (λ (list : List ValueId). group_of table (numbers_in list)) (map (map valued) lists) ≡ map (group_of table) lists
grouped_values table [] = refl
grouped_values table (list ∷ lists) =
    ap (λ (vs : List ℕ). group_of table vs ∷ map (λ (l : List ValueId). group_of table (numbers_in l)) (map (map valued) lists)) (numbers_valued list)
    ∙ ap (λ (gs : List GroupContent). group_of table list ∷ gs) (grouped_values table lists)

pub groups_made : (func : Function) (table : List Operand) (lists : List (Vec ValueId)) → items lists ≡ map (map valued) (live_lists func table)
    → map (λ (list : Vec ValueId). group_of table (numbers_in list.items)) lists ≡ groups_of func table
groups_made func table lists are =
    grouped_by table lists ∙ ap (map (λ (list : List ValueId). group_of table (numbers_in list))) are ∙ grouped_values table (live_lists func table)

short_values : (room : ℕ) (lists : List (List ℕ)) → All (λ (list : List ℕ). length list ≤ room) lists
    → All (λ (list : List ValueId). length list ≤ room) (map (map valued) lists)
short_values room [] all = All-nil (λ (list : List ValueId). length list ≤ room)
short_values room (list ∷ lists) all =
    All-cons (λ (l : List ValueId). length l ≤ room) (map valued list) (map (map valued) lists)
    (let same = length-map list valued in let here = All-head (λ (l : List ℕ). length l ≤ room) list lists all in omega (arith, same, here))
    (short_values room lists (All-tail (λ (l : List ℕ). length l ≤ room) list lists all))

short_items : (room : ℕ) (lists : List (Vec ValueId)) → room < 2 ^ 31 → All (λ (list : List ValueId). length list ≤ room) (items lists)
    → All (λ (list : Vec ValueId). length list.items < 2 ^ 32 - 1) lists
short_items room [] small all = All-nil (λ (list : Vec ValueId). length list.items < 2 ^ 32 - 1)
short_items room (list ∷ lists) small all =
    All-cons (λ (l : Vec ValueId). length l.items < 2 ^ 32 - 1) list lists
    (let here = All-head (λ (l : List ValueId). length l ≤ room) list.items (items lists) all in omega (arith, here, small))
    (short_items room lists small (All-tail (λ (l : List ValueId). length l ≤ room) list.items (items lists) all))

pub lists_fit : (func : Function) (table : List Operand) (lists : List (Vec ValueId)) → IsSmall func.args func.blocks
    → items lists ≡ map (map valued) (live_lists func table) → All (λ (list : Vec ValueId). length list.items < 2 ^ 32 - 1) lists
lists_fit func table lists small are =
    let room = length func.args + length (instructions_of func.blocks) in
    short_items room lists (let a = small.few_arguments in let b = small.few_instructions in omega (arith, a, b))
    (subst (λ (ls : List (List ValueId)). All (λ (list : List ValueId). length list ≤ room) ls) (sym are) (short_values room (live_lists func table) (short_lists func table)))
