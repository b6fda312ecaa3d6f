-- Words that are written over the newest of a stack, one after another.
use Rattle.std.proofs.Common.{◌≡◌, ℕ, suc, ◌+◌, ◌<◌, List, [], ◌∷◌, ◌++◌, length, drop, set, get_or, ◌-◌, sym, ap, ◌∙◌, arith, append_assoc}
use Rattle.std.proofs.Math.Seq.{set-append_seam}
use Rattle.std.proofs.lemmas.List.{drop_more, length-append, length-drop, length_push}
use Rattle.machine_meaning.specs.Machines.{over}

pub over_more : (words before stack : List ℕ) (place word : ℕ) → length words ≡ place → stack ≡ over words before → place < length stack
    → set stack place word ≡ over (words ++ word ∷ []) before
over_more words before stack place word count is within =
    let k = length words in
    let all : length stack ≡ k + (length before - k) = ap length is ∙ length-append words (drop k before) ∙ ap (λ (n : ℕ). k + n) (length-drop k before) in
    let more = drop_more before k 0 (omega arith) in
    let seam = set-append_seam words (get_or before k 0) (drop (k + 1) before) word in
    ap (λ (l : List ℕ). set l place word) (is ∙ ap (λ (l : List ℕ). words ++ l) more)
    ∙ ap (λ (n : ℕ). set (words ++ get_or before k 0 ∷ drop (k + 1) before) n word) (sym count)
    ∙ seam
    ∙ sym (append_assoc words (word ∷ []) (drop (k + 1) before))
    ∙ ap (λ (n : ℕ). (words ++ word ∷ []) ++ drop n before) (sym (length_push words word))
