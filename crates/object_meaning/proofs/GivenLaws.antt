-- Which definitions the instructions of a text give, and the registers of their results.
use Rattle.std.proofs.Common.{◌≡◌, ℕ, zero, suc, ◌+◌, Bool, true, false, if◌then◌else◌, List, [], ◌∷◌, ◌++◌, length, map, drop, refl, sym, ap, append-nil, ◌∙◌, arith}
use Rattle.std.specs.Prelude.{Some, is_some, slice_get, filter}
use Rattle.std.proofs.lemmas.List.{length-append, length-map, map-append}
use Rattle.std.proofs.lemmas.List.Elements.{filter-append}
use Rattle.std.proofs.Math.Seq.{drop-append_seam}
use Rattle.list_laws.proofs.Places.{drop_first}
use Rattle.ir_ast.specs.Insts.{Instruction}
use Rattle.ir_ast.specs.Funcs.{Function, instructions_of}
use Rattle.ir_ast.specs.Values.{Definition, argument, definitions_of, outcome}
use Rattle.object_meaning.specs.Lines.{after_all, following}

abbrev pub has_result : Instruction → Bool
has_result inst = is_some inst.result

abbrev pub given_by : List Instruction → List Definition
given_by insts = map outcome (filter has_result insts)

pub after_is : (next : ℕ) (insts : List Instruction) → after_all next insts ≡ next + length (filter has_result insts)
after_is next [] = omega arith
after_is next (inst ∷ insts) = by (is_some inst.result) (λ n. after_is n insts)
  where
    by : (b : Bool) → ((n : ℕ) → after_all n insts ≡ n + length (filter has_result insts))
        → after_all (if b then next + 1 else next) insts ≡ next + length (if b then inst ∷ filter has_result insts else filter has_result insts)
    by true rest = let is = rest (next + 1) in omega arith
    by false rest = rest next

-- arguments and results
pub definition_count : (func : Function) → length (definitions_of func) ≡ length func.args + length (filter has_result (instructions_of func.blocks))
definition_count func =
    let both = length-append (map argument func.args) (given_by (instructions_of func.blocks)) in
    let first = length-map func.args argument in
    let second = length-map (filter has_result (instructions_of func.blocks)) outcome in
    omega arith

-- ---- which definitions come next

pub given_append : (xs ys : List Instruction) → given_by (xs ++ ys) ≡ given_by xs ++ given_by ys
given_append xs ys = ap (map outcome) (filter-append has_result xs ys) ∙ map-append outcome (filter has_result xs) (filter has_result ys)

pub drop_given : (all : List Definition) (next : ℕ) (inst : Instruction) (insts : List Instruction) (after : List Definition) → drop next all ≡ given_by (inst ∷ insts) ++ after
    → (is_some inst.result ≡ true → slice_get all next ≡ Some (outcome inst)) × (drop (following next inst) all ≡ given_by insts ++ after)
drop_given all next inst insts after is = by (is_some inst.result) is
  where
    by : (b : Bool) → drop next all ≡ map outcome (if b then inst ∷ filter has_result insts else filter has_result insts) ++ after
        → (b ≡ true → slice_get all next ≡ Some (outcome inst)) × (drop (if b then next + 1 else next) all ≡ given_by insts ++ after)
    by true from = let found = drop_first all next (outcome inst) (given_by insts ++ after) from in (λ named. found.0, found.1)
    by false from = (λ named. absurd cc, from)

pub drop_all : (all : List Definition) (next : ℕ) (insts : List Instruction) (after : List Definition) → drop next all ≡ given_by insts ++ after → drop (after_all next insts) all ≡ after
drop_all all next [] after is = is
drop_all all next (inst ∷ insts) after is = drop_all all (following next inst) insts after (drop_given all next inst insts after is).1

-- the results come behind the arguments
pub results_last : (func : Function) → drop (length func.args) (definitions_of func) ≡ given_by (instructions_of func.blocks) ++ []
results_last func =
    ap (λ n. drop n (definitions_of func)) (sym (length-map func.args argument))
    ∙ (drop-append_seam (map argument func.args) (given_by (instructions_of func.blocks)) ∙ sym (append-nil (given_by (instructions_of func.blocks))))
