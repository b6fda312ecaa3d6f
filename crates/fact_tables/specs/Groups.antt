-- What the relocates of a statepoint group keep.
use Rattle.std.specs.Prelude.{◌≡◌, ℕ, Bool, false, ◌==◌, ◌&&◌, ◌||◌, nat_eq, List, Option, Some, None, MatchOption, slice_get}
use Rattle.std.specs.List.{list_any}
use Rattle.std.specs.Option.{option_map_or}
use Rattle.ir_ast.specs.Insts.{Instruction}
use Rattle.object_meaning.specs.Lines.{Line}
use Rattle.object_meaning.specs.Frames.{index_in}
use Rattle.pair_facts.specs.Lines.{line_in, is_relocate, head_at, group_in}
use Rattle.pair_facts.specs.Pairs.{base_index, derived_index, has_base}
use Rattle.fact_tables.specs.declared.groups.Kept.{Kept}
use Rattle.fact_tables.specs.declared.groups.Group.{Group}

-- the line relocates this entry as the derived pointer
abbrev pub keeps_value : ℕ → Line → Bool
keeps_value entry line = is_relocate line.inst.op && (derived_index line == entry)

-- the sets are those of the entries that these lines keep
pub record IsKept (lines : List Line) (kept : Kept) : Type 0 where
  pub bases : (entry : ℕ) → list_any (nat_eq entry) kept.bases.keys ≡ has_base lines entry
  pub values : (entry : ℕ) → list_any (nat_eq entry) kept.values.keys ≡ list_any (keeps_value entry) lines

-- ---- the same by instructions

abbrev pub relocates_base_of : ℕ → Instruction → Bool
relocates_base_of entry inst =
    is_relocate inst.op && (index_in (slice_get inst.operands 1) == entry && index_in (slice_get inst.operands 2) == entry)

abbrev pub keeps_value_of : ℕ → Instruction → Bool
keeps_value_of entry inst = is_relocate inst.op && (index_in (slice_get inst.operands 2) == entry)

-- one instruction more
pub record Keeps (inst : Instruction) (old new : Kept) : Type 0 where
  pub bases : (entry : ℕ) → list_any (nat_eq entry) new.bases.keys ≡ (list_any (nat_eq entry) old.bases.keys || relocates_base_of entry inst)
  pub values : (entry : ℕ) → list_any (nat_eq entry) new.values.keys ≡ (list_any (nat_eq entry) old.values.keys || keeps_value_of entry inst)

-- the same for a relocate with these two indices
pub record KeepsBoth (base derived : ℕ) (old new : Kept) : Type 0 where
  pub bases : (entry : ℕ) → list_any (nat_eq entry) new.bases.keys ≡ (list_any (nat_eq entry) old.bases.keys || ((base == entry) && (derived == entry)))
  pub values : (entry : ℕ) → list_any (nat_eq entry) new.values.keys ≡ (list_any (nat_eq entry) old.values.keys || (derived == entry))

-- ---- the group of a line

-- the statepoint whose group a line is of, and what that group keeps
pub record IsGroup (lines : List Line) (head : Option ℕ) (group : Group) : Type 0 where
  pub head_is : head ≡ Some group.head
  pub kept : IsKept (group_in lines group.head) group.kept

abbrev pub IsGroupOf : List Line → Option ℕ → Option Group → Type 0
IsGroupOf lines head found = MatchOption found (head ≡ None) (IsGroup lines head)

-- whether the group of the line at a place keeps the line's base entry as a base
abbrev pub is_based : List Line → ℕ → Bool
is_based lines place = option_map_or (λ head. has_base (group_in lines head) (base_index (line_in lines place))) (head_at lines place) false

-- the same from the set
abbrev pub is_based_by : Instruction → Option Group → Bool
is_based_by inst found = option_map_or (λ group. list_any (nat_eq (index_in (slice_get inst.operands 1))) group.kept.bases.keys) found false
