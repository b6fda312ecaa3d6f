use Rattle.std.proofs.Common.{◌≡◌, ℕ, ap, sym, ◌∙◌, Some, None, List, [], subst}
use Rattle.std.specs.Prelude.{Option, MatchOption, slice_get}
use Rattle.object_meaning.specs.Lines.{insts_of}
use Rattle.flat_code.specs.declared.lines.Function.{Function}
use Rattle.flat_code.specs.Spots.{behind_phis}
use Rattle.flat_code.specs.Segments.{IsFunction, StartsAt}
use Rattle.flat_code.specs.Codes.{function_at, defined_at}
use Rattle.flat_code.proofs.CodeLemmas.{front_at, block_of}
use Rattle.flat_code.proofs.codes.Code.start.Goals as goal

pub returns-in-None : goal.returns-in-None
returns-in-None c =
    let code = c.args.self.now in let func = c.args.func in let block = c.args.block in
    let function : IsFunction code.content.layouts (defined_at code func) (function_at code func) = rw c.function.ensures.value at c.function.ensures.fits in
    let found : slice_get (function_at code func).starts.items block ≡ None =
    ap (λ (f : Function). slice_get f.starts.items block) (sym c.function.ensures.value)
    ∙ ap (λ (starts : List ℕ). slice_get starts block) (sym c.as_slice.ensures.value) ∙ sym c.start_in.ensures ∙ c.in-None.is in
    subst (λ (o : Option ℕ). MatchOption o (insts_of code.content func block ≡ []) (λ place. StartsAt (function_at code func).segments.items place (behind_phis (defined_at code func) block)))
    found (function.starts block)

pub returns-in-Some : goal.returns-in-Some
returns-in-Some c =
    let code = c.args.self.now in let func = c.args.func in let block = c.args.block in
    let function : IsFunction code.content.layouts (defined_at code func) (function_at code func) = rw c.function.ensures.value at c.function.ensures.fits in
    let found : slice_get (function_at code func).starts.items block ≡ Some c.in-Some.place =
    ap (λ (f : Function). slice_get f.starts.items block) (sym c.function.ensures.value)
    ∙ ap (λ (starts : List ℕ). slice_get starts block) (sym c.as_slice.ensures.value) ∙ sym c.start_in.ensures ∙ c.in-Some.is in
    let starts = subst (λ (o : Option ℕ). MatchOption o (insts_of code.content func block ≡ []) (λ place. StartsAt (function_at code func).segments.items place (behind_phis (defined_at code func) block)))
    found (function.starts block) in
    record {
      lines = front_at code func c.in-Some.place (behind_phis (defined_at code func) block) starts;
      block_is = block_of code func c.in-Some.place (behind_phis (defined_at code func) block) starts;
    }
