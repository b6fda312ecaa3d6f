-- What the tables have, as a function of the function, and what is read of them.
use Rattle.std.specs.Prelude.{ℕ, suc, ◌+◌, Bool, false, nat_lt, if◌then◌else◌, List, [], ◌∷◌, ◌++◌, length, map, take, count_by, slice_index, slice_index_or, replicate}
use Rattle.std.specs.List.{flat_map, range_with_len}
use Rattle.ir_ast.specs.declared.ops.Operand.{Operand}
use Rattle.ir_ast.specs.declared.ops.Operand.TheVariants.{Value, Null}
use Rattle.ir_ast.specs.Funcs.{Function}
use Rattle.ir_ast.specs.Values.{definitions_of}
use Rattle.base_forms.specs.DerivedMarks.{derived_marks}
use Rattle.base_forms.specs.Inserted.{is_merged, is_negated, inserted_number, new_number}
use Rattle.base_forms.specs.Bases.{base_of}
use Rattle.base_forms.specs.Based.{rank_of}
use Rattle.base_forms.specs.Lines.{Insertion}
use Rattle.base_tables.specs.Kinds.{any_marked}
use Rattle.ir_ast.specs.Operands.{named}

-- lists by the value's number
pub record ValueTables : Type 0 where
  pub derived : List Bool
  pub base_ranks : List ℕ
  pub same_ranks : List ℕ
  pub inserted : List ℕ
  pub numbers : List ℕ
  pub bases : List Operand

abbrev pub values_of : Function → List ℕ
values_of func = range_with_len 0 (length (definitions_of func))

abbrev pub tables_of : Function → ValueTables
tables_of func = record {
  derived = derived_marks func;
  base_ranks = map (rank_of func (is_merged (derived_marks func))) (values_of func);
  same_ranks = map (rank_of func (is_negated (derived_marks func))) (values_of func);
  inserted = map (inserted_number func (derived_marks func)) (values_of func);
  numbers = map (new_number func (derived_marks func)) (values_of func);
  bases = map (λ value. base_of func (derived_marks func) (named value)) (values_of func);
}

-- the tables where no line is inserted: the bases are the origins
abbrev pub unchanged : List Bool → List Operand → ValueTables
unchanged derived origins = record {
  derived = derived;
  base_ranks = replicate (length derived) 0;
  same_ranks = replicate (length derived) 0;
  inserted = range_with_len 0 (length derived);
  numbers = range_with_len 0 (length derived);
  bases = origins;
}

-- ---- what is read

abbrev pub now_by : ValueTables → Operand → Operand
now_by tables (Value value) = Value (record { 0 = slice_index tables.numbers value.0 })
now_by tables operand = operand

abbrev pub base_by : ValueTables → Operand → Operand
base_by tables (Value value) = slice_index_or tables.bases value.0 Null
base_by tables operand = operand

abbrev pub tabled : ValueTables → Insertion
tabled tables = record {
  now = now_by tables;
  base = base_by tables;
  uses_derived = λ inst. any_marked tables.derived inst.operands;
  base_rank = slice_index tables.base_ranks;
  same_rank = slice_index tables.same_ranks;
  inserted = slice_index tables.inserted;
}

-- the line inserted before a value is its own base
abbrev pub inserted_base : List ℕ → List ℕ → ℕ → List Operand
inserted_base inserted numbers value =
    if nat_lt (slice_index inserted value) (slice_index numbers value) then named (slice_index inserted value) ∷ [] else []

abbrev pub table_in : List ℕ → List ℕ → List Operand → List Operand
table_in inserted numbers bases =
    flat_map (λ value. inserted_base inserted numbers value ++ slice_index_or bases value Null ∷ []) (range_with_len 0 (length bases))

abbrev pub table_of : ValueTables → List Operand
table_of tables = table_in tables.inserted tables.numbers tables.bases

-- ---- how they are made

abbrev pub marks_before : List Bool → ℕ → ℕ
marks_before marks value = count_by (λ mark. mark) (take value marks)

abbrev pub inserted_in : List Bool → ℕ → ℕ
inserted_in marks value = value + marks_before marks value

abbrev pub number_in : List Bool → ℕ → ℕ
number_in marks value = value + marks_before marks (suc value)

abbrev pub own_base_in : List Bool → List ℕ → List ℕ → Operand → Operand
own_base_in merged inserted numbers (Value value) =
    Value (record { 0 = if slice_index_or merged value.0 false then slice_index inserted value.0 else slice_index numbers value.0 })
own_base_in merged inserted numbers operand = operand
