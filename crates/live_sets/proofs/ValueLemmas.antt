-- Marks of values, one more at a time.
use Rattle.std.proofs.Common.{◌≡◌, ℕ, zero, suc, ◌+◌, Bool, true, false, if◌then◌else◌, List, [], ◌∷◌, ◌++◌, map, filter, refl, ap, sym, arith, ◌∙◌}
use Rattle.std.specs.Prelude.{is_some}
use Rattle.std.specs.List.{range_with_len}
use Rattle.std.proofs.lemmas.List.{map-append}
use Rattle.std.proofs.lemmas.List.Elements.{filter-append}
use Rattle.sp_ids.specs.declared.ids.ValueId.{ValueId}
use Rattle.ir_ast.specs.declared.funcs.Arg.{Arg}
use Rattle.ir_ast.specs.Insts.{Instruction}
use Rattle.ir_ast.specs.Funcs.{Function, instructions_of}
use Rattle.ir_ast.specs.Types.{is_pointer}
use Rattle.ir_ast.specs.Values.{Definition, argument, outcome, definition_type, value_types}
use Rattle.live_sets.specs.Values.{result_is_pointer}
use Rattle.list_laws.proofs.Ranges.{range_more}
use Rattle.ir_ast.specs.Operands.{valued}
use Rattle.ir_ast.specs.Lists.{has_mark}

pub marked_more : (marks : List Bool) (number : ℕ) (values new : List ValueId)
    → values ≡ map valued (filter (has_mark marks) (range_with_len 0 number))
    → new ≡ values ++ (if has_mark marks number then valued number ∷ [] else [])
    → new ≡ map valued (filter (has_mark marks) (range_with_len 0 (number + 1)))
marked_more marks number values new so_far added =
    let zero_more : 0 + number ≡ number = omega arith in
    let range : range_with_len 0 (number + 1) ≡ range_with_len 0 number ++ number ∷ [] = range_more 0 number ∙ ap (λ (n : ℕ). range_with_len 0 number ++ n ∷ []) zero_more in
    let split = filter-append (has_mark marks) (range_with_len 0 number) (number ∷ []) in
    added ∙ ap (λ (vs : List ValueId). vs ++ (if has_mark marks number then valued number ∷ [] else [])) so_far
    ∙ sym (ap (λ (ns : List ℕ). map valued (filter (has_mark marks) ns)) range
    ∙ ap (map valued) split
    ∙ map-append valued (filter (has_mark marks) (range_with_len 0 number)) (filter (has_mark marks) (number ∷ []))
    ∙ ap (λ (vs : List ValueId). map valued (filter (has_mark marks) (range_with_len 0 number)) ++ vs) (one (has_mark marks number) refl))
  where
    one : (t : Bool) → has_mark marks number ≡ t → map valued (filter (has_mark marks) (number ∷ [])) ≡ (if has_mark marks number then valued number ∷ [] else [])
    one true is = rw is refl
    one false is = rw is refl

map_map : {A B C : Type 0} (f : B → C) (g : A → B) (xs : List A) → map f (map g xs) ≡ map (λ (x : A). f (g x)) xs
map_map f g [] = refl
map_map f g (x ∷ xs) = ap (λ (ys : List _). f (g x) ∷ ys) (map_map f g xs)

pub marks_whole : (func : Function) → map (λ (arg : Arg). is_pointer arg.ty) func.args ++ map result_is_pointer (filter (λ (inst : Instruction). is_some inst.result) (instructions_of func.blocks))
    ≡ map is_pointer (value_types func)
marks_whole func =
    let results = filter (λ (inst : Instruction). is_some inst.result) (instructions_of func.blocks) in
    sym (map_map is_pointer definition_type (map argument func.args ++ map outcome results)
    ∙ map-append (λ (d : Definition). is_pointer (definition_type d)) (map argument func.args) (map outcome results)
    ∙ ap (λ (bs : List Bool). bs ++ map (λ (d : Definition). is_pointer (definition_type d)) (map outcome results)) (map_map (λ (d : Definition). is_pointer (definition_type d)) argument func.args)
    ∙ ap (λ (bs : List Bool). map (λ (arg : Arg). is_pointer arg.ty) func.args ++ bs) (map_map (λ (d : Definition). is_pointer (definition_type d)) outcome results))
