-- The lists of calls, the last one first.
use Rattle.std.specs.Prelude.{◌≡◌, ℕ, Bool, true, not, ◌&&◌, ◌||◌, if◌then◌else◌, List, [], ◌∷◌, ◌++◌, map, filter, drop, reverse, Option}
use Rattle.std.specs.List.{list_any}
use Rattle.std.specs.List.Sorted.{IsStrictlySortedBy}
use Rattle.std.specs.Ordering.{nat_cmp}
use Rattle.std.specs.BTreeSet.{BTreeSet}
use Rattle.std.specs.Global.{Vec}
use Rattle.sp_ids.specs.declared.ids.ValueId.{ValueId}
use Rattle.ir_ast.specs.declared.ops.Operand.{Operand}
use Rattle.ir_ast.specs.Insts.{Instruction}
use Rattle.ir_ast.specs.Funcs.{Function}
use Rattle.rewriting_forms.specs.Numbered.{is_call, lines_at}
use Rattle.rewriting_forms.specs.Liveness.{live_lines, lists_from}
use Rattle.live_sets.specs.Ends.{lives_at_end}
use Rattle.live_sets.specs.Sets.{is_in, AreMarked, Changed}
use Rattle.live_sets.specs.Uses.{names, uses}
use Rattle.ir_ast.specs.Operands.{valued}
use Rattle.ir_ast.specs.Lists.{has_mark}

abbrev pub items_of : List (Vec ValueId) → List (List ValueId)
items_of lists = map (λ list. list.items) lists

-- the bundle of a call uses the value
abbrev pub is_held : List Bool → List Operand → ℕ → Instruction → Bool
is_held marks table v inst = list_any (λ entry. uses marks table v entry.1) inst.bundle

-- what the bundle of a call uses is in its set, and the list has the set's pointers but for the call's own result
pub record AddsList (marks : List Bool) (table : List Operand) (inst : Instruction) (to : Option ValueId)
    (old_set new_set : BTreeSet ℕ) (old new : List (Vec ValueId)) : Type 0 where
  pub set : Changed marks old_set new_set (λ v old. (is_call inst.op && is_held marks table v inst) || old)
  pub ordered : is_call inst.op ≡ true → IsStrictlySortedBy nat_cmp new_set.keys
  pub list : items_of new ≡ items_of old ++ (if is_call inst.op then map valued (filter (λ v. not (names to v)) new_set.keys) ∷ [] else [])

-- the lists of a block, the last one first
abbrev pub AddsBlock : Function → List Operand → ℕ → List (Vec ValueId) → List (Vec ValueId) → Type 0
AddsBlock func table b old new =
    items_of new ≡ items_of old ++ reverse (map (map valued) (lists_from func table b 0 (lines_at func b)))

-- at a place of a block, coming from its end: the set has the pointers that are live there, and the lists of the calls behind it were added
pub record AtPlace (func : Function) (table : List Operand) (marks : List Bool) (b place : ℕ) (set : BTreeSet ℕ) (old now : List (Vec ValueId)) : Type 0 where
  pub live : (v : ℕ) → has_mark marks v ≡ true → is_in set v ≡ live_lines func table v (lives_at_end func table b v) (drop place (lines_at func b))
  pub marked : AreMarked marks set
  pub listed : items_of now ≡ items_of old ++ reverse (map (map valued) (lists_from func table b place (drop place (lines_at func b))))
