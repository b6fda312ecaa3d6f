use Rattle.std.proofs.Common.{◌≡◌, ◌∙◌, ◌+◌, ◌++◌, List, Some, Vec, Global, sym, ap, slice_get, drop, append-nil}
use Rattle.std.proofs.lemmas.List.{drop_all}
use Rattle.std.proofs.lemmas.Option.{slice_get-get_or}
use Rattle.ir_ast.specs.declared.ops.Operand.{Operand}
use Rattle.ir_ast.specs.declared.ops.Operand.TheVariants.{Int}
use Rattle.pair_facts.specs.Uses.{pointers_of}
use Rattle.used_pairs.proofs.UseLemmas.{pointers_pushed, pointers_kept, pointers_none}
use Rattle.used_pairs.proofs.escaping.pointers_of.Goals as goal
use Rattle.used_pairs.proofs.escaping.pointers_of.Goals.{then-is_pointer_at+in_ok-push, else-is_pointer_at}

pub loop-place-preserved : goal.loop-place-preserved
loop-place-preserved c =
    let types = c.args.types.now in
    let operands = c.args.operands.now in
    let place = c.loop-place.place in
    let at : slice_get operands place ≡ Some c.operand_at-operand.result =
    slice_get-get_or operands place (Int 0) c.loop-place-test.true ∙ ap Some (sym c.operand_at-operand.ensures) in
    elim c.if-is_pointer_at.branch [
      | then-is_pointer_at+in_ok-push w ↦
          pointers_pushed types operands place c.operand_at-operand.result c.loop-place.pointers.items _ _ at (sym c.is_pointer_at.ensures ∙ w.if-is_pointer_at.true)
          (ap (λ (v : Vec Operand Global). v.items) w.pointers-is ∙ w.in_ok-push.ensures.items) c.loop-place.invariant
      | else-is_pointer_at w ↦
          ap (λ (v : Vec Operand Global). v.items ++ pointers_of (drop (place + 1) types) (drop (place + 1) operands)) w.pointers-is
          ∙ pointers_kept types operands place c.operand_at-operand.result c.loop-place.pointers.items _ at (sym c.is_pointer_at.ensures ∙ w.if-is_pointer_at.false) c.loop-place.invariant
    ]

pub returns : goal.returns
returns c =
    let types = drop c.loop-place.place c.args.types.now in
    let pointers = c.loop-place.pointers.items in
    let none = drop_all c.loop-place.place c.args.operands.now c.loop-place-test.false in
    sym (append-nil pointers) ∙ ap (λ (xs : List Operand). pointers ++ xs) (sym (ap (pointers_of types) none ∙ pointers_none types)) ∙ c.loop-place.invariant
