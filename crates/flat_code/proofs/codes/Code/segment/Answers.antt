use Rattle.std.proofs.Common.{◌≡◌, ap, sym, ◌∙◌, Some, List}
use Rattle.std.specs.Prelude.{slice_get}
use Rattle.flat_code.specs.declared.lines.Function.{Function}
use Rattle.flat_code.specs.declared.lines.Segment.{Segment}
use Rattle.flat_code.specs.Codes.{segment_at}
use Rattle.flat_code.proofs.CodeLemmas.{fits_at}
use Rattle.flat_code.proofs.codes.Code.segment.Goals as goal

pub returns-in-None : goal.returns-in-None
returns-in-None c =
    ap (λ (f : Function). slice_get f.segments.items c.args.place) (sym c.function.ensures.value)
    ∙ ap (λ (segments : List Segment). slice_get segments c.args.place) (sym c.as_slice.ensures.value) ∙ c.in-None.ensures

pub returns-in-Some : goal.returns-in-Some
returns-in-Some c =
    let there : segment_at c.args.self.now c.args.func c.args.place ≡ Some c.in-Some.segment.now =
    ap (λ (f : Function). slice_get f.segments.items c.args.place) (sym c.function.ensures.value)
    ∙ ap (λ (segments : List Segment). slice_get segments c.args.place) (sym c.as_slice.ensures.value) ∙ c.in-Some.ensures in
    fits_at c.args.self.now c.args.func c.args.place c.in-Some.segment.now (rw c.function.ensures.value at c.function.ensures.fits) there
