use Rattle.std.proofs.Common.{◌≡◌, ◌<◌, ◌*◌, ◌^◌, refl, ◌∙◌, lt-ltb, arith}
use Rattle.sp_ids.specs.Numbers.{wrapped}
use Rattle.object_meaning.proofs.NumberLemmas.{word_low}
use Rattle.machine_lines.proofs.computing.left_shift.Goals as goal

pub returns-then-right-from : goal.returns-then-right-from
returns-then-right-from c =
    let e : c.wrap.result ≡ wrapped c.args.width (c.args.left * 2 ^ c.args.right) =
    c.wrap.ensures ∙ word_low c.args.width (c.args.left * 2 ^ c.args.right) c.requires.word in
    let below : c.args.right < c.args.width = omega arith in
    let fits = lt-ltb c.args.right c.args.width below in
    rw (e, fits) refl
