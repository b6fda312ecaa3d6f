use Rattle.std.proofs.Common.{◌≡◌, refl, sym, ap, ◌∙◌, ℕ, ◌+◌, ◌<◌, List, drop, length, slice_index_or, arith, rules}
use Rattle.std.proofs.lemmas.List.{drop_more}
use Rattle.std.proofs.lemmas.Grind.{common_steps}
use Rattle.std.specs.Str.{bytes_eq}
use Rattle.line_tokens.proofs.tokens.is_text.Goals as goal

-- past a byte that both have
one_on : (bytes text : List ℕ) (i : ℕ) → i < length bytes → i < length text → slice_index_or bytes i 0 ≡ slice_index_or text i 0
    → bytes_eq (drop i bytes) (drop i text) ≡ bytes_eq (drop (i + 1) bytes) (drop (i + 1) text)
one_on bytes text i in_bytes in_text same = rw (drop_more bytes i 0 in_bytes, drop_more text i 0 in_text, same) (search rules)

pub loop-i-preserved : goal.loop-i-preserved
loop-i-preserved c =
    c.loop-i.invariant ∙ one_on c.args.bytes.now c.args.text.now c.loop-i.i (omega (arith, c.loop-i-test.true, c.if-bytes-text.false)) c.loop-i-test.true c.if-bytes-i.false

pub returns : goal.returns
returns c = grind (arith, common_steps, c.loop-i.invariant, c.loop-i-test.false, c.if-bytes-text.false)
