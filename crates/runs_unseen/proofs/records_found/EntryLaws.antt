-- Where the map of a module has the record of a statepoint, and what the entry of its function says.
use Rattle.std.proofs.Common.{◌≡◌, ◌∙◌, ℕ, zero, suc, ◌+◌, ◌*◌, ◌^◌, ◌<◌, ◌≤◌, true, List, [], ◌∷◌, ◌++◌, length, take, drop, map, nat_lt, refl, ap, subst, arith, Some, slice_get}
use Rattle.std.specs.List.{All, flat_map}
use Rattle.std.proofs.lemmas.List.Elements.{All-head, All-tail}
use Rattle.std.proofs.lemmas.Option.{none-some, same_Some}
use Rattle.list_laws.proofs.Places.{get_front, get_map, get_past}
use Rattle.ir_ast.specs.declared.ops.Op.{Op}
use Rattle.ir_ast.specs.declared.ops.Op.TheVariants.{Statepoint}
use Rattle.ir_ast.specs.Insts.{Instruction}
use Rattle.ir_ast.specs.Funcs.{Function, instructions_of}
use Rattle.ir_ast.specs.Faults.GroupShape.{is_statepoint}
use Rattle.frame_forms.specs.CodeAddresses.{next_start}
use Rattle.frame_forms.specs.ModuleLayouts.{laid_at, laid_from, statepoints_of}
use Rattle.map_bytes.specs.declared.values.Place.{Place}
use Rattle.map_bytes.specs.Entries.{Entry, entry_of, entries_of}
use Rattle.map_bytes.specs.Maps.{MapRecord}
use Rattle.stackmap_write.specs.ModuleMaps.{deopt_places, entries_of as function_entries, entry_of as function_entry, group_places, records_at, records_from, records_of, statepoint_record}
use Rattle.stackmap_write.proofs.AddressLaws.{split_by}
use Rattle.stackmap_write.proofs.FitLaws.{IsTarget}
use Rattle.runs_unseen.proofs.records_found.LineLaws.{run_of}

-- ---- the record of a statepoint

-- a record that returns here, with these "deopt" locations and this group
pub record HasRecord (records : List MapRecord) (offset : ℕ) (deopts : List Place) (group : List Instruction) : Type 0 where
  pub number : ℕ
  pub one : MapRecord
  pub stands : slice_get records number ≡ Some one
  pub offset_is : one.offset ≡ offset
  pub places_are : one.places ≡ group_places deopts group

first_record : (start : ℕ) (deopts : List Place) (op : Op) (rest : List Instruction) (more : List MapRecord) → is_statepoint op ≡ true
    → HasRecord (records_at start deopts op rest ++ more) (4 * (start + 1 + run_of rest)) deopts (take (run_of rest) rest)
first_record start deopts (Statepoint id callee types) rest more is = record {
  number = 0;
  one = statepoint_record id (4 * (start + 1 + run_of rest)) deopts (take (run_of rest) rest);
  stands = refl;
  offset_is = refl;
  places_are = refl;
}
first_record start deopts _ rest more is = absurd (cc)

-- a statepoint has a record that returns behind its group
pub record_in : (constants : List ℕ) (start : ℕ) (insts : List Instruction) (place : ℕ) (inst : Instruction) → slice_get insts place ≡ Some inst → is_statepoint inst.op ≡ true
    → HasRecord (records_from constants start insts) (4 * (start + place + 1 + run_of (drop (suc place) insts))) (deopt_places constants inst)
    (take (run_of (drop (suc place) insts)) (drop (suc place) insts))
record_in constants start [] place inst stands is = absurd (none-some inst stands)
record_in constants start (first ∷ rest) zero inst stands is =
    let same : first ≡ inst = same_Some first inst stands in
    let one = first_record start (deopt_places constants first) first.op rest (records_from constants (start + 1) rest) (ap (λ (i : Instruction). is_statepoint i.op) same ∙ is) in
    let here : 4 * (start + 1 + run_of rest) ≡ 4 * (start + 0 + 1 + run_of rest) = omega arith in
    record { number = one.number; one = one.one; stands = one.stands; offset_is = one.offset_is ∙ here; places_are = one.places_are ∙ ap (λ (i : Instruction). group_places (deopt_places constants i) (take (run_of rest) rest)) same }
record_in constants start (first ∷ rest) (suc place) inst stands is =
    let more = record_in constants (start + 1) rest place inst stands is in
    let here : 4 * (start + 1 + place + 1 + run_of (drop (suc place) rest)) ≡ 4 * (start + suc place + 1 + run_of (drop (suc place) rest)) = omega arith in
    record {
      number = length (records_at start (deopt_places constants first) first.op rest) + more.number;
      one = more.one;
      stands = get_past (records_at start (deopt_places constants first) first.op rest) (records_from constants (start + 1) rest) more.number ∙ more.stands;
      offset_is = more.offset_is ∙ here;
      places_are = more.places_are;
    }

-- ---- the entry of its function

-- a function's layout, and where the entries of its records stand among all
pub record Laid (constants : List ℕ) (start : ℕ) (funcs : List Function) (number : ℕ) (func : Function) : Type 0 where
  pub at : ℕ
  pub later : start ≤ at
  pub room : at + 4 * length (instructions_of func.blocks) < 2 ^ 64
  pub laid : slice_get (laid_from start funcs) number ≡ Some (laid_at at func)
  pub entry : (k : ℕ) (one : MapRecord) → slice_get (records_of constants func) k ≡ Some one
      → (j : ℕ) × (slice_get (entries_of (function_entries (laid_from start funcs)) (flat_map (records_of constants) funcs)) j ≡ Some (entry_of (function_entry (laid_at at func)) one))

module _ (constants : List ℕ) (start : ℕ) (first : Function) (funcs : List Function) where
  abbrev mine : List Entry
  mine = map (entry_of (function_entry (laid_at start first))) (records_of constants first)

  abbrev others : List Entry
  others = entries_of (function_entries (laid_from (next_start start first) funcs)) (flat_map (records_of constants) funcs)

  split : entries_of (function_entries (laid_from start (first ∷ funcs))) (flat_map (records_of constants) (first ∷ funcs)) ≡ mine ++ others
  split = split_by constants (nat_lt 0 (statepoints_of first)) start first (laid_from (next_start start first) funcs) (flat_map (records_of constants) funcs) refl

pub laid_in : (constants : List ℕ) (start : ℕ) (funcs : List Function) → start + length funcs * 4294967312 < 2 ^ 64 → All IsTarget funcs
    → (number : ℕ) (func : Function) → slice_get funcs number ≡ Some func → Laid constants start funcs number func
laid_in constants start [] room targets number func found = absurd (none-some func found)
laid_in constants start (first ∷ funcs) room targets zero func found =
    let target : IsTarget first = All-head IsTarget first funcs targets in
    let few : length (instructions_of first.blocks) < 2 ^ 30 = target.small.few_instructions in
    let here : Laid constants start (first ∷ funcs) 0 first = record {
      at = start;
      later = omega arith;
      room = omega arith;
      laid = refl;
      entry = λ k one is. (
        k,
        ap (λ entries. slice_get entries k) (split constants start first funcs)
            ∙ get_front (mine constants start first funcs) (others constants start first funcs) k (entry_of (function_entry (laid_at start first)) one)
            (get_map (entry_of (function_entry (laid_at start first))) (records_of constants first) k one is),
      );
    } in
    subst (Laid constants start (first ∷ funcs) 0) (same_Some first func found) here
laid_in constants start (first ∷ funcs) room targets (suc number) func found =
    let target : IsTarget first = All-head IsTarget first funcs targets in
    let few : length (instructions_of first.blocks) < 2 ^ 30 = target.small.few_instructions in
    let next : next_start start first ≤ start + 4294967312 = omega arith in
    let above : start ≤ next_start start first = omega arith in
    let more = laid_in constants (next_start start first) funcs (omega arith) (All-tail IsTarget first funcs targets) number func found in
    let later : next_start start first ≤ more.at = more.later in
    record {
      at = more.at;
      later = omega arith;
      room = more.room;
      laid = more.laid;
      entry = λ k one is.
          let rest = more.entry k one is in (
            length (mine constants start first funcs) + rest.0,
            ap (λ entries. slice_get entries (length (mine constants start first funcs) + rest.0)) (split constants start first funcs)
                ∙ (get_past (mine constants start first funcs) (others constants start first funcs) rest.0 ∙ rest.1),
          );
    }
