use Rattle.std.proofs.Common.{◌≡◌, ◌+◌, ◌-◌, ◌*◌, ◌^◌, refl, ◌∙◌}
use Rattle.sp_ids.specs.Numbers.{wrapped}
use Rattle.object_meaning.proofs.NumberLemmas.{word_low}
use Rattle.flat_code.proofs.numbers.computed_number.Goals as goal

pub returns-in-Add : goal.returns-in-Add
returns-in-Add c =
    let e : c.wrap.result ≡ wrapped c.args.width (c.args.left + c.args.right) =
    c.wrap.ensures ∙ word_low c.args.width (c.args.left + c.args.right) c.requires.sized.word in
    rw (c.in-Add.is, e) refl

pub returns-in-Sub : goal.returns-in-Sub
returns-in-Sub c =
    let e : c.wrap-in-Sub.result ≡ wrapped c.args.width (c.args.left + (2 ^ 64 - c.args.right)) =
    c.wrap-in-Sub.ensures ∙ word_low c.args.width (c.args.left + (2 ^ 64 - c.args.right)) c.requires.sized.word in
    rw (c.in-Sub.is, e) refl

pub returns-in-Mul : goal.returns-in-Mul
returns-in-Mul c =
    let e : c.wrap-in-Mul.result ≡ wrapped c.args.width (c.args.left * c.args.right) =
    c.wrap-in-Mul.ensures ∙ word_low c.args.width (c.args.left * c.args.right) c.requires.sized.word in
    rw (c.in-Mul.is, e) refl
