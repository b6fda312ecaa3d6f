-- One more function among the entries.
use Rattle.std.proofs.Common.{◌≡◌, ◌∙◌, ℕ, suc, zero, ◌+◌, ◌<◌, ◌≤◌, Bool, true, false, cond, List, [], ◌∷◌, ◌++◌, map, filter, length, drop, Option, refl, ap, sym, arith, append_assoc, nat_lt}
use Rattle.std.proofs.lemmas.Bool.{lt-ltb}
use Rattle.list_laws.proofs.Places.{get_some, drop_at}
use Rattle.std.specs.Option.{option_map_or}
use Rattle.std.specs.List.{flat_map}
use Rattle.frame_forms.specs.ModuleLayouts.{FunctionLayout, statepoints_in}
use Rattle.map_bytes.specs.declared.values.FuncEntry.{FuncEntry}
use Rattle.map_bytes.specs.Maps.{counted_records, function_bytes}
use Rattle.stackmap_write.specs.ModuleMaps.{entry_of, entries_of, entry_in}

entry_from : Option FunctionLayout → FuncEntry
entry_from laid = record {
  address = option_map_or (λ one. one.address) laid 0;
  frame_bytes = option_map_or (λ one. one.frame_bytes) laid 0;
  records = option_map_or (λ one. one.statepoints) laid 0;
}

-- the entries of a function and of others, by whether the function has a statepoint
abbrev entries_by : Bool → FunctionLayout → List FunctionLayout → List FuncEntry
entries_by has one rest = map entry_of (cond has (one ∷ filter (λ laid. nat_lt 0 laid.statepoints) rest) (filter (λ laid. nat_lt 0 laid.statepoints) rest))

pub entries_taken : (laid : List FunctionLayout) (func : ℕ) → func < length laid → 0 < statepoints_in laid func
    → entries_of (drop func laid) ≡ entry_in laid func ∷ entries_of (drop (func + 1) laid)
unfolding entry_from
entries_taken laid func below positive =
    let found = get_some laid func below in
    let one = found.0 in
    let rest = drop (func + 1) laid in
    let count : statepoints_in laid func ≡ one.statepoints = ap (λ (o : Option FunctionLayout). option_map_or (λ laid. laid.statepoints) o 0) found.1 in
    let has : nat_lt 0 one.statepoints ≡ true = lt-ltb 0 one.statepoints (omega arith) in
    ap entries_of (drop_at laid func one found.1) ∙ ap (λ b. entries_by b one rest) has
    ∙ ap (λ entry. entry ∷ entries_of rest) (sym (ap entry_from found.1))

no_less : (n : ℕ) → n ≡ 0 → nat_lt 0 n ≡ false
no_less n none = ap (nat_lt 0) none

pub entries_skipped : (laid : List FunctionLayout) (func : ℕ) → func < length laid → statepoints_in laid func ≤ 0
    → entries_of (drop func laid) ≡ entries_of (drop (func + 1) laid)
entries_skipped laid func below none =
    let found = get_some laid func below in
    let one = found.0 in
    let rest = drop (func + 1) laid in
    let count : statepoints_in laid func ≡ one.statepoints = ap (λ (o : Option FunctionLayout). option_map_or (λ laid. laid.statepoints) o 0) found.1 in
    ap entries_of (drop_at laid func one found.1) ∙ ap (λ b. entries_by b one rest) (no_less one.statepoints (omega arith))

-- how many records the functions from one on have
pub counted_step : (laid : List FunctionLayout) (func : ℕ) → func < length laid
    → counted_records (entries_of (drop func laid)) ≡ statepoints_in laid func + counted_records (entries_of (drop (func + 1) laid))
counted_step laid func below = by_count (statepoints_in laid func) refl
  where
    by_count : (n : ℕ) → statepoints_in laid func ≡ n
        → counted_records (entries_of (drop func laid)) ≡ statepoints_in laid func + counted_records (entries_of (drop (func + 1) laid))
    by_count zero is = ap counted_records (entries_skipped laid func below (omega arith)) ∙ (omega arith)
    by_count (suc n) is = ap counted_records (entries_taken laid func below (omega arith))

short_by : (has : Bool) (one : FunctionLayout) (laid : List FunctionLayout) → length (entries_of laid) ≤ length laid → length (entries_by has one laid) ≤ suc (length laid)
short_by true one laid short = omega arith
short_by false one laid short = omega arith

pub entries_short : (laid : List FunctionLayout) → length (entries_of laid) ≤ length laid
entries_short [] = omega arith
entries_short (one ∷ laid) = short_by (nat_lt 0 one.statepoints) one laid (entries_short laid)

-- what is put, when one more entry is put too
pub entry_put : (done new all : List ℕ) (laid : List FunctionLayout) (func : ℕ) (entry : FuncEntry) → func < length laid → 0 < statepoints_in laid func
    → entry ≡ entry_in laid func → new ≡ done ++ function_bytes entry → done ++ flat_map function_bytes (entries_of (drop func laid)) ≡ all
    → new ++ flat_map function_bytes (entries_of (drop (func + 1) laid)) ≡ all
entry_put done new all laid func entry below positive is put known =
    let later : List ℕ = flat_map function_bytes (entries_of (drop (func + 1) laid)) in
    ap (λ (front : List ℕ). front ++ later) put ∙ append_assoc done (function_bytes entry) later
    ∙ ap (λ (one : FuncEntry). done ++ (function_bytes one ++ later)) is
    ∙ ap (λ (entries : List FuncEntry). done ++ flat_map function_bytes entries) (sym (entries_taken laid func below positive)) ∙ known

pub entry_left : (done new all : List ℕ) (laid : List FunctionLayout) (func : ℕ) → func < length laid → statepoints_in laid func ≤ 0
    → new ≡ done → done ++ flat_map function_bytes (entries_of (drop func laid)) ≡ all
    → new ++ flat_map function_bytes (entries_of (drop (func + 1) laid)) ≡ all
entry_left done new all laid func below none same known =
    let later : List ℕ = flat_map function_bytes (entries_of (drop (func + 1) laid)) in
    ap (λ (front : List ℕ). front ++ later) same
    ∙ ap (λ (entries : List FuncEntry). done ++ flat_map function_bytes entries) (sym (entries_skipped laid func below none)) ∙ known
