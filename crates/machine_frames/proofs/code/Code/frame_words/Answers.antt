use Rattle.std.proofs.Common.{◌≡◌, ◌*◌, ◌≤◌, length, sym, ◌∙◌, arith}
use Rattle.machine_meaning.specs.Code.{words_in}
use Rattle.machine_frames.proofs.CodeLemmas.{words_are, no_words}
use Rattle.machine_frames.proofs.code.Code.frame_words.Goals as goal

pub returns-then-func-function_count : goal.returns-then-func-function_count
returns-then-func-function_count c =
    let past : length c.self.inside.layouts ≤ c.args.func = omega (arith, c.function_count.ensures) in
    rw (← c.self.view_is) (sym (no_words c.self.inside.«module».now.content c.self.inside.layouts c.self.inside.tables.items c.args.func c.self.invariant past))

pub returns : goal.returns
returns c =
    let bytes : c.frame_bytes-words.result ≡ 8 * words_in c.self.inside.«module».now.content c.args.func =
    c.frame_bytes-words.ensures ∙ words_are c.self.inside.«module».now.content c.self.inside.layouts c.self.inside.tables.items c.args.func c.self.invariant in
    rw (← c.self.view_is) (omega (arith, bytes))
