-- The group of a call: what its statepoint keeps, and what its relocates are of.
use Rattle.std.specs.Prelude.{ℕ, Bool, if◌then◌else◌, List, [], ◌∷◌, ◌++◌, map}
use Rattle.std.specs.List.{list_any, position}
use Rattle.std.specs.Option.{option_map_or}
use Rattle.sp_ids.specs.declared.ids.ValueId.{ValueId}
use Rattle.ir_ast.specs.declared.ops.Operand.{Operand}
use Rattle.ir_ast.specs.declared.ops.Operand.TheVariants.{Null}
use Rattle.ir_ast.specs.Funcs.{Function}
use Rattle.rewriting_forms.specs.Numbered.{named, base_at}
use Rattle.rewriting_forms.specs.Liveness.{live_lists}
use Rattle.rewriting_forms.specs.Rewritten.{is_null, same_operand}
use Rattle.statepoint_insert.specs.declared.groups.Relocate.{Relocate}
use Rattle.ir_ast.specs.Operands.{valued}

-- what a contract sees of a `Group`
pub record GroupContent : Type 0 where
  pub has_null : Bool
  pub relocates : List Relocate

abbrev pub numbers_in : List ValueId → List ℕ
numbers_in values = map (λ value. value.0) values

-- some pointer of the list has the base `null`
abbrev pub has_null_base : List Operand → List ℕ → Bool
has_null_base table list = list_any (λ v. is_null (base_at table v)) list

-- the "gc-live" entries of a call with this live list
abbrev pub entries_of : List Operand → List ℕ → List Operand
entries_of table list = (if has_null_base table list then Null ∷ [] else []) ++ map (λ v. named v) list

-- the index of an operand among the entries
abbrev pub index_in : List Operand → List ℕ → Operand → ℕ
index_in table list o = option_map_or (λ place. place) (position (λ entry. same_operand entry o) (entries_of table list)) 0

abbrev pub relocate_in : List Operand → List ℕ → ℕ → Relocate
relocate_in table list v = record { value = valued v; base = index_in table list (base_at table v) }

abbrev pub group_of : List Operand → List ℕ → GroupContent
group_of table list = record { has_null = has_null_base table list; relocates = map (relocate_in table list) list }

-- the groups of the calls that aren't of leaves, in text order
abbrev pub groups_of : Function → List Operand → List GroupContent
groups_of func table = map (group_of table) (live_lists func table)
