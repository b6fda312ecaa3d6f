-- The values of a folded function: those that stay, in their order.
use Rattle.std.proofs.Common.{◌≡◌, ℕ, zero, suc, ◌+◌, ◌<◌, ◌≤◌, Bool, true, false, not, cond, ◌&&◌, if◌then◌else◌, List, [], ◌∷◌, ◌++◌, length, map, take, replicate, refl, sym, ap, ◌∙◌, arith}
use Rattle.std.specs.Prelude.{Some, is_some, slice_get, filter}
use Rattle.std.specs.List.{range_with_len}
use Rattle.std.proofs.lemmas.List.{length-append, length-map, map-append}
use Rattle.std.proofs.lemmas.List.Elements.{filter-append}
use Rattle.list_laws.proofs.Ranges.{range_append}
use Rattle.ir_ast.specs.Funcs.{Function, instructions_of}
use Rattle.ir_ast.specs.Insts.{Instruction}
use Rattle.ir_ast.specs.Values.{Definition, argument, definition_name, definition_type, definitions_of, outcome, value_types}
use Rattle.ir_ast.specs.Faults.GroupShape.{number_at}
use Rattle.graph_search.specs.Paths.{Marked}
use Rattle.ir_cfg.specs.Unreached.{kept_of}
use Rattle.ir_cfg.proofs.KeepsPlaces.{kept_map, kept_some, map_through, marks_before}
use Rattle.folded_forms.specs.Folded.{Table, folded, folded_insts, folded_line, stays}
use Rattle.folded_source.proofs.LineLaws.{folded_front, folded_text, line_marks}
use Rattle.object_meaning.proofs.GivenLaws.{has_result}

-- a mark for each of these values, on those that stay
abbrev pub marks_from : Table → ℕ → ℕ → List Bool
marks_from table next count = map (stays table) (range_with_len next count)

abbrev pub value_marks : Table → Function → List Bool
value_marks table func = marks_from table 0 (length (definitions_of func))

-- how many of the first values stay
abbrev pub counted : Table → ℕ → ℕ
counted table value = length (filter (stays table) (range_with_len 0 value))

-- ---- ranges

pub marks_split : (table : Table) (next one other : ℕ) → marks_from table next (one + other) ≡ marks_from table next one ++ marks_from table (next + one) other
marks_split table next one other = ap (map (stays table)) (range_append next one other) ∙ map-append (stays table) (range_with_len next one) (range_with_len (next + one) other)

pub mark_of : (table : Table) (next count place : ℕ) → place < count → slice_get (marks_from table next count) place ≡ Some (stays table (next + place))
mark_of table next zero place below = absurd (omega arith)
mark_of table next (suc count) zero below = let e : next ≡ next + 0 = omega arith in ap (λ (n : ℕ). Some (stays table n)) e
mark_of table next (suc count) (suc place) below =
    let e : next + 1 + place ≡ next + suc place = omega arith in
    mark_of table (next + 1) count place (omega arith) ∙ ap (λ (n : ℕ). Some (stays table n)) e

all_stay : (table : Table) (next count : ℕ) → ((value : ℕ) → value < next + count → stays table value ≡ true) → marks_from table next count ≡ replicate count true
all_stay table next zero each = refl
all_stay table next (suc count) each =
    ap (λ (mark : Bool). mark ∷ marks_from table (next + 1) count) (each next (omega arith))
    ∙ ap (λ (rest : List Bool). true ∷ rest) (all_stay table (next + 1) count (λ value below. each value (omega arith)))

count_all : (table : Table) (next count : ℕ) → ((value : ℕ) → value < next + count → stays table value ≡ true) → length (filter (stays table) (range_with_len next count)) ≡ count
count_all table next zero each = refl
count_all table next (suc count) each =
    ap (λ (mark : Bool). length (cond mark (next ∷ filter (stays table) (range_with_len (next + 1) count)) (filter (stays table) (range_with_len (next + 1) count)))) (each next (omega arith))
    ∙ ap suc (count_all table (next + 1) count (λ value below. each value (omega arith)))

count_marks : (table : Table) (next count place : ℕ) → place ≤ count → length (filter (stays table) (range_with_len next place)) ≡ marks_before (marks_from table next count) place
count_marks table next zero zero within = refl
count_marks table next zero (suc place) within = absurd (omega arith)
count_marks table next (suc count) zero within = refl
count_marks table next (suc count) (suc place) within = by (stays table next) (count_marks table (next + 1) count place (omega arith))
  where
    by : (mark : Bool) → length (filter (stays table) (range_with_len (next + 1) place)) ≡ marks_before (marks_from table (next + 1) count) place
        → length (cond mark (next ∷ filter (stays table) (range_with_len (next + 1) place)) (filter (stays table) (range_with_len (next + 1) place)))
        ≡ marks_before (mark ∷ marks_from table (next + 1) count) (suc place)
    by true rest = ap suc rest
    by false rest = rest

pub filter_split : (table : Table) (next one other : ℕ)
    → length (filter (stays table) (range_with_len next (one + other))) ≡ length (filter (stays table) (range_with_len next one)) + length (filter (stays table) (range_with_len (next + one) other))
filter_split table next one other =
    ap (λ (all : List ℕ). length (filter (stays table) all)) (range_append next one other)
    ∙ (ap (λ (all : List ℕ). length all) (filter-append (stays table) (range_with_len next one) (range_with_len (next + one) other))
    ∙ length-append (filter (stays table) (range_with_len next one)) (filter (stays table) (range_with_len (next + one) other)))

-- ---- results

pub results_kept : (table : Table) (next : ℕ) (insts : List Instruction)
    → filter has_result (folded_insts table next insts) ≡ map (folded_line table) (kept_of (marks_from table next (length (filter has_result insts))) (filter has_result insts))
results_kept table next [] = refl
results_kept table next (inst ∷ insts) = by (is_some inst.result) refl (stays table next) refl (λ n. results_kept table n insts)
  where
    by : (given : Bool) → is_some inst.result ≡ given → (mark : Bool) → stays table next ≡ mark
        → ((n : ℕ) → filter has_result (folded_insts table n insts) ≡ map (folded_line table) (kept_of (marks_from table n (length (filter has_result insts))) (filter has_result insts)))
        → filter has_result ((if given && not mark then [] else folded_line table inst ∷ []) ++ folded_insts table (if given then next + 1 else next) insts)
        ≡ map (folded_line table) (kept_of (map (λ n. stays table n) (range_with_len next (length (cond given (inst ∷ filter has_result insts) (filter has_result insts))))) (cond given (inst ∷ filter has_result insts) (filter has_result insts)))
    by true is true here rest =
        ap (λ (given : Bool). cond given (folded_line table inst ∷ filter has_result (folded_insts table (next + 1) insts)) (filter has_result (folded_insts table (next + 1) insts))) is
        ∙ (ap (λ (more : List Instruction). folded_line table inst ∷ more) (rest (next + 1))
        ∙ ap (λ (mark : Bool). map (folded_line table) (kept_of (mark ∷ marks_from table (next + 1) (length (filter has_result insts))) (inst ∷ filter has_result insts))) (sym here))
    by true is false here rest =
        rest (next + 1)
        ∙ ap (λ (mark : Bool). map (folded_line table) (kept_of (mark ∷ marks_from table (next + 1) (length (filter has_result insts))) (inst ∷ filter has_result insts))) (sym here)
    by false is mark here rest =
        ap (λ (given : Bool). cond given (folded_line table inst ∷ filter has_result (folded_insts table next insts)) (filter has_result (folded_insts table next insts))) is
        ∙ rest next

results_counted : (table : Table) (next : ℕ) (insts : List Instruction)
    → length (filter has_result (folded_insts table next insts)) ≡ length (filter (stays table) (range_with_len next (length (filter has_result insts))))
results_counted table next insts =
    ap length (results_kept table next insts)
    ∙ (length-map (kept_of (marks_from table next (length (filter has_result insts))) (filter has_result insts)) (folded_line table)
    ∙ kept_counted next (filter has_result insts))
  where
    kept_counted : {A : Type 0} (next : ℕ) (xs : List A) → length (kept_of (marks_from table next (length xs)) xs) ≡ length (filter (stays table) (range_with_len next (length xs)))
    kept_counted next [] = refl
    kept_counted {A} next (x ∷ xs) = by (stays table next) (kept_counted (next + 1) xs)
      where
        by : (mark : Bool) → length (kept_of (marks_from table (next + 1) (length xs)) xs) ≡ length (filter (stays table) (range_with_len (next + 1) (length xs)))
            → length (kept_of (mark ∷ marks_from table (next + 1) (length xs)) (x ∷ xs))
            ≡ length (cond mark (next ∷ filter (stays table) (range_with_len (next + 1) (length xs))) (filter (stays table) (range_with_len (next + 1) (length xs))))
        by true rest = ap suc rest
        by false rest = rest

-- ---- a function whose arguments stay

abbrev pub definition_folded : Table → Definition → Definition
definition_folded table (argument arg) = argument arg
definition_folded table (outcome inst) = outcome (folded_line table inst)

module _ (func : Function) (table : Table) (arguments : (value : ℕ) → value < length func.args → stays table value ≡ true) where
  below_args : (value : ℕ) → value < 0 + length func.args → stays table value ≡ true
  below_args value below = arguments value (omega arith)

  pub counted_argument : (value : ℕ) → value ≤ length func.args → counted table value ≡ value
  counted_argument value within = count_all table 0 value (λ one below. arguments one (omega arith))

  value_marks_are : value_marks table func ≡ replicate (length (map argument func.args)) true ++ marks_from table (length func.args) (length (filter has_result (instructions_of func.blocks)))
  value_marks_are =
      let args = length-map func.args argument in
      let results = length-map (filter has_result (instructions_of func.blocks)) outcome in
      let all = length-append (map argument func.args) (map outcome (filter has_result (instructions_of func.blocks))) in
      let count : length (definitions_of func) ≡ length func.args + length (filter has_result (instructions_of func.blocks)) = omega (arith, args, results, all) in
      let none : 0 + length func.args ≡ length func.args = omega arith in
      ap (marks_from table 0) count
      ∙ (marks_split table 0 (length func.args) (length (filter has_result (instructions_of func.blocks)))
      ∙ (ap (λ (first : ℕ). marks_from table 0 (length func.args) ++ marks_from table first (length (filter has_result (instructions_of func.blocks)))) none
      ∙ ap (λ (front : List Bool). front ++ marks_from table (length func.args) (length (filter has_result (instructions_of func.blocks))))
      (all_stay table 0 (length func.args) below_args ∙ ap (λ (n : ℕ). replicate n true) (sym args))))

  pub new_definitions : definitions_of (folded func table) ≡ map (definition_folded table) (kept_of (value_marks table func) (definitions_of func))
  new_definitions =
      let insts = instructions_of func.blocks in
      let results = filter has_result insts in
      let marks = marks_from table (length func.args) (length results) in
      let D : Definition → Definition = definition_folded table in
      ap (λ (all : List Instruction). map argument func.args ++ map outcome (filter has_result all)) (folded_text table (length func.args) func.blocks)
      ∙ (ap (λ (all : List Instruction). map argument func.args ++ map outcome all) (results_kept table (length func.args) insts)
      ∙ (ap (λ (all : List Definition). map argument func.args ++ all)
      (map_through outcome (folded_line table) (λ inst. D (outcome inst)) (λ inst. refl) (kept_of marks results)
      ∙ (sym (map_through D outcome (λ inst. D (outcome inst)) (λ inst. refl) (kept_of marks results))
      ∙ ap (map D) (sym (kept_map outcome marks results))))
      ∙ (ap (λ (all : List Definition). all ++ map D (kept_of marks (map outcome results))) (sym (map_through D argument argument (λ arg. refl) func.args))
      ∙ (sym (map-append D (map argument func.args) (kept_of marks (map outcome results)))
      ∙ ap (map D) (sym (kept_some (map argument func.args) (map outcome results) marks) ∙ ap (λ (ms : List Bool). kept_of ms (definitions_of func)) (sym value_marks_are))))))

  same_name : (given : Definition) → definition_name (definition_folded table given) ≡ definition_name given
  same_name (argument arg) = refl
  same_name (outcome inst) = refl

  same_type : (given : Definition) → definition_type (definition_folded table given) ≡ definition_type given
  same_type (argument arg) = refl
  same_type (outcome inst) = refl

  pub new_names : map definition_name (definitions_of (folded func table)) ≡ kept_of (value_marks table func) (map definition_name (definitions_of func))
  new_names =
      ap (map definition_name) new_definitions
      ∙ (map_through definition_name (definition_folded table) definition_name same_name (kept_of (value_marks table func) (definitions_of func))
      ∙ sym (kept_map definition_name (value_marks table func) (definitions_of func)))

  pub new_types : value_types (folded func table) ≡ kept_of (value_marks table func) (value_types func)
  new_types =
      ap (map definition_type) new_definitions
      ∙ (map_through definition_type (definition_folded table) definition_type same_type (kept_of (value_marks table func) (definitions_of func))
      ∙ sym (kept_map definition_type (value_marks table func) (definitions_of func)))

  pub value_marked : (value : ℕ) → value < length (definitions_of func) → stays table value ≡ true → Marked (value_marks table func) value
  value_marked value below stays_here =
      let e : 0 + value ≡ value = omega arith in
      mark_of table 0 (length (definitions_of func)) value below ∙ ap (λ (mark : Bool). Some mark) (ap (stays table) e ∙ stays_here)

  pub value_counted : (value : ℕ) → value ≤ length (definitions_of func) → counted table value ≡ marks_before (value_marks table func) value
  value_counted value within = count_marks table 0 (length (definitions_of func)) value within

  -- the number of the next result, with the first lines
  pub number_folded : (place : ℕ)
      → number_at (folded func table) (marks_before (line_marks table (length func.args) (instructions_of func.blocks)) place) ≡ counted table (number_at func place)
  number_folded place =
      let insts = instructions_of func.blocks in
      let front : take (marks_before (line_marks table (length func.args) insts) place) (instructions_of (folded func table).blocks) ≡ folded_insts table (length func.args) (take place insts) =
      ap (take (marks_before (line_marks table (length func.args) insts) place)) (folded_text table (length func.args) func.blocks) ∙ folded_front table (length func.args) insts place in
      let some = ap (λ (all : List Instruction). length (filter has_result all)) front ∙ results_counted table (length func.args) (take place insts) in
      let split = filter_split table 0 (length func.args) (length (filter has_result (take place insts))) in
      let args = count_all table 0 (length func.args) below_args in
      let none : 0 + length func.args ≡ length func.args = omega arith in
      let there = ap (λ (first : ℕ). length (filter (stays table) (range_with_len first (length (filter has_result (take place insts)))))) none in
      omega (arith, some, split, args, there)
