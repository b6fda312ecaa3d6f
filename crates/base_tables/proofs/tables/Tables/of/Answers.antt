use Rattle.std.proofs.Common.{◌≡◌, ◌∙◌, ℕ, Bool, false, List, Some, slice_get, length, ap, sym, subst}
use Rattle.std.specs.Prelude.{map}
use Rattle.std.specs.Result.{IfOk}
use Rattle.std.specs.List.{range_with_len}
use Rattle.std.proofs.lemmas.List.{length-map}
use Rattle.ir_ast.specs.declared.ops.Operand.{Operand}
use Rattle.base_tables.specs.declared.shapes.Shape.{Shape}
use Rattle.base_tables.specs.Kinds.{Kind, kind_merged, kind_negated, origin_in}
use Rattle.base_tables.specs.Flags.{kind_inserted}
use Rattle.base_tables.specs.Seen.{seen_shape}
use Rattle.base_tables.specs.Tables.{ValueTables, marks_before, inserted_in, number_in, own_base_in}
use Rattle.base_tables.specs.Users.{AreMarks}
use Rattle.base_tables.proofs.TableLemmas.{tables_are}
use Rattle.base_tables.proofs.UnchangedLemmas.{unchanged_are}
use Rattle.base_tables.proofs.tables.Tables.of.Goals as goal
use Rattle.ir_ast.specs.Operands.{named}

pub returns-then-inserts_nothing : goal.returns-then-inserts_nothing
returns-then-inserts_nothing c =
    let marks = c.in_ok-derived.derived.items in
    let shapes = c.in_ok-shapes.shapes.items in
    let none : (value : ℕ) (kind : Kind) → slice_get (map seen_shape shapes) value ≡ Some kind → kind_inserted marks kind ≡ false
    = subst (λ (ms : List Bool). (value : ℕ) (kind : Kind) → slice_get (map seen_shape shapes) value ≡ Some kind → kind_inserted ms kind ≡ false) c.as_slice-3.ensures.value
    (subst (λ (xs : List Shape). (value : ℕ) (kind : Kind) → slice_get (map seen_shape xs) value ≡ Some kind → kind_inserted c.as_slice-3.result.now kind ≡ false) c.as_slice-4.ensures.value
    (c.inserts_nothing.ensures c.if-inserts_nothing.true)) in
    subst (λ (made : ValueTables). IfOk c.unchanged.result (λ tables. tables ≡ made))
    (unchanged_are c.args.func.now.content c.requires.lines c.requires.known (map seen_shape shapes) c.in_ok-shapes.ensures.kinds
    marks c.in_ok-origins.origins.items
    (subst (λ (xs : List Shape). AreMarks (map seen_shape xs) marks) c.as_slice.ensures.value c.in_ok-derived.ensures)
    (c.in_ok-origins.ensures ∙ ap (λ (xs : List Shape). map (λ value. origin_in (map seen_shape xs) (named value)) (range_with_len 0 (length xs))) c.as_slice-2.ensures.value
    ∙ ap (λ k. map (λ value. origin_in (map seen_shape shapes) (named value)) (range_with_len 0 k)) (sym (length-map shapes seen_shape)))
    none)
    c.unchanged.ensures

pub returns : goal.returns
returns c =
    let marks = c.in_ok-derived.derived.items in
    let shapes = c.in_ok-shapes.shapes.items in
    let merged = c.in_ok-flags.flags.merged.items in
    let inserted = c.in_ok-numbers.numbers.inserted.items in
    let numbers = c.in_ok-numbers.numbers.numbers.items in
    tables_are c.args.func.now.content c.requires.lines c.requires.known (map seen_shape shapes) c.in_ok-shapes.ensures.kinds
    marks merged c.in_ok-flags.flags.negated.items c.in_ok-flags.flags.either.items
    c.in_ok-base_ranks.base_ranks.items c.in_ok-same_ranks.same_ranks.items inserted numbers
    c.in_ok-origins.origins.items c.in_ok-bases.bases.items (length shapes)
    (subst (λ (xs : List Shape). AreMarks (map seen_shape xs) marks) c.as_slice.ensures.value c.in_ok-derived.ensures)
    (sym (length-map shapes seen_shape))
    (c.in_ok-origins.ensures ∙ ap (λ (xs : List Shape). map (λ value. origin_in (map seen_shape xs) (named value)) (range_with_len 0 (length xs))) c.as_slice-2.ensures.value)
    (c.in_ok-flags.ensures.merged ∙ ap (λ (ms : List Bool). map (kind_merged ms) (map seen_shape c.as_slice-6.result.now)) c.as_slice-5.ensures.value
    ∙ ap (λ (xs : List Shape). map (kind_merged marks) (map seen_shape xs)) c.as_slice-6.ensures.value)
    (c.in_ok-flags.ensures.negated ∙ ap (λ (ms : List Bool). map (kind_negated ms) (map seen_shape c.as_slice-6.result.now)) c.as_slice-5.ensures.value
    ∙ ap (λ (xs : List Shape). map (kind_negated marks) (map seen_shape xs)) c.as_slice-6.ensures.value)
    (c.in_ok-flags.ensures.either ∙ ap (λ (ms : List Bool). map (kind_inserted ms) (map seen_shape c.as_slice-6.result.now)) c.as_slice-5.ensures.value
    ∙ ap (λ (xs : List Shape). map (kind_inserted marks) (map seen_shape xs)) c.as_slice-6.ensures.value)
    (c.in_ok-base_ranks.ensures ∙ ap (λ (fs : List Bool). map (marks_before fs) (range_with_len 0 (length fs))) c.as_slice-7.ensures.value)
    (c.in_ok-same_ranks.ensures ∙ ap (λ (fs : List Bool). map (marks_before fs) (range_with_len 0 (length fs))) c.as_slice-8.ensures.value)
    (c.in_ok-numbers.ensures.inserted ∙ ap (λ (fs : List Bool). map (inserted_in fs) (range_with_len 0 (length fs))) c.as_slice-9.ensures.value)
    (c.in_ok-numbers.ensures.numbers ∙ ap (λ (fs : List Bool). map (number_in fs) (range_with_len 0 (length fs))) c.as_slice-9.ensures.value)
    (c.in_ok-bases.ensures ∙ ap (λ (fs : List Bool). map (own_base_in fs inserted numbers) c.as_slice-11.result.now) c.as_slice-10.ensures.value
    ∙ ap (λ (os : List Operand). map (own_base_in merged inserted numbers) os) c.as_slice-11.ensures.value)
