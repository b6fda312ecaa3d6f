use Rattle.std.proofs.Common.{◌≡◌, ℕ, ◌+◌, ◌-◌, ◌*◌, ◌^◌, refl, ap, ◌∙◌}
use Rattle.sp_ids.specs.Numbers.{wrapped}
use Rattle.object_meaning.specs.Numbers.{width_of}
use Rattle.object_meaning.proofs.NumberLemmas.{word_low}
use Rattle.machine_lines.proofs.computing.outcome.Goals as goal

pub returns-in-Add-clause-value : goal.returns-in-Add-clause-value
returns-in-Add-clause-value c =
    let sum = c.word-first.result + c.word-second.result in
    let e : c.wrap.result ≡ wrapped (width_of c.args.ty.now) sum =
    c.wrap.ensures ∙ word_low c.args.decoded.now.width sum c.requires.word ∙ ap (λ (w : ℕ). wrapped w sum) c.requires.width in
    rw (c.in-Add.is, e, c.word-first.ensures, c.word-second.ensures) refl

pub returns-in-Sub-clause-value : goal.returns-in-Sub-clause-value
returns-in-Sub-clause-value c =
    let difference = c.word-first.result + (2 ^ 64 - c.word-second.result) in
    let e : c.wrap-in-Sub.result ≡ wrapped (width_of c.args.ty.now) difference =
    c.wrap-in-Sub.ensures ∙ word_low c.args.decoded.now.width difference c.requires.word ∙ ap (λ (w : ℕ). wrapped w difference) c.requires.width in
    rw (c.in-Sub.is, e, c.word-first.ensures, c.word-second.ensures) refl

pub returns-in-Mul-clause-value : goal.returns-in-Mul-clause-value
returns-in-Mul-clause-value c =
    let product = c.word-first.result * c.word-second.result in
    let e : c.wrap-in-Mul.result ≡ wrapped (width_of c.args.ty.now) product =
    c.wrap-in-Mul.ensures ∙ word_low c.args.decoded.now.width product c.requires.word ∙ ap (λ (w : ℕ). wrapped w product) c.requires.width in
    rw (c.in-Mul.is, e, c.word-first.ensures, c.word-second.ensures) refl
