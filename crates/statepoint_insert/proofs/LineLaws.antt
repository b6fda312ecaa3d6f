-- Relocates, one after another.
use Rattle.std.proofs.Common.{◌≡◌, ℕ, suc, ◌+◌, ◌<◌, List, [], ◌∷◌, ◌++◌, length, take, get_or, ap, sym, arith, append_assoc, ◌∙◌}
use Rattle.std.proofs.lemmas.List.{take_more, length-take-le}
use Rattle.ir_ast.specs.Insts.{Instruction}
use Rattle.statepoint_insert.specs.declared.groups.Relocate.{Relocate}
use Rattle.statepoint_insert.specs.Texts.{relocate_line, relocate_lines}

module _ (token : ℕ) where
  pub lines_push : (count rank : ℕ) (xs : List Relocate) (x : Relocate)
      → relocate_lines token count rank (xs ++ x ∷ []) ≡ relocate_lines token count rank xs ++ relocate_line token (count + length xs) (rank + length xs) x ∷ []
  lines_push count rank [] x =
      let c : count ≡ count + 0 = omega arith in
      let r : rank ≡ rank + 0 = omega arith in
      ap (λ (n : ℕ). relocate_line token n rank x ∷ []) c ∙ ap (λ (n : ℕ). relocate_line token (count + 0) n x ∷ []) r
  lines_push count rank (y ∷ xs) x =
      let c : suc count + length xs ≡ count + suc (length xs) = omega arith in
      let r : suc rank + length xs ≡ rank + suc (length xs) = omega arith in
      ap (λ (ls : List Instruction). relocate_line token count rank y ∷ ls) (lines_push (suc count) (suc rank) xs x)
      ∙ ap (λ (n : ℕ). relocate_line token count rank y ∷ (relocate_lines token (suc count) (suc rank) xs ++ relocate_line token n (suc rank + length xs) x ∷ [])) c
      ∙ ap (λ (n : ℕ). relocate_line token count rank y ∷ (relocate_lines token (suc count) (suc rank) xs ++ relocate_line token (count + suc (length xs)) n x ∷ [])) r

  lines_more : (count rank i : ℕ) (d : Relocate) (xs : List Relocate) → i < length xs
      → relocate_lines token count rank (take (i + 1) xs) ≡ relocate_lines token count rank (take i xs) ++ relocate_line token (count + i) (rank + i) (get_or xs i d) ∷ []
  lines_more count rank i d xs within =
      let long : length (take i xs) ≡ i = length-take-le i xs (omega arith) in
      ap (relocate_lines token count rank) (take_more xs i d within) ∙ lines_push count rank (take i xs) (get_or xs i d)
      ∙ ap (λ (n : ℕ). relocate_lines token count rank (take i xs) ++ relocate_line token (count + n) (rank + n) (get_or xs i d) ∷ []) long

  -- one more line
  pub line_added : (first start i count rank : ℕ) (d : Relocate) (all read : List Relocate) (old lines new : List Instruction) (line : Instruction)
      → read ≡ all → i < length read → count ≡ first + i → rank ≡ start + i → line ≡ relocate_line token count rank (get_or read i d)
      → new ≡ lines ++ line ∷ [] → lines ≡ old ++ relocate_lines token first start (take i all)
      → new ≡ old ++ relocate_lines token first start (take (i + 1) all)
  line_added first start i count rank d all read old lines new line same within count_is rank_is line_is pushed so_far =
      let one : line ≡ relocate_line token (first + i) (start + i) (get_or all i d) =
      line_is ∙ ap (λ (n : ℕ). relocate_line token n rank (get_or read i d)) count_is ∙ ap (λ (n : ℕ). relocate_line token (first + i) n (get_or read i d)) rank_is
      ∙ ap (λ (xs : List Relocate). relocate_line token (first + i) (start + i) (get_or xs i d)) same in
      pushed ∙ ap (λ (l : Instruction). lines ++ l ∷ []) one
      ∙ ap (λ (ls : List Instruction). ls ++ relocate_line token (first + i) (start + i) (get_or all i d) ∷ []) so_far
      ∙ append_assoc old (relocate_lines token first start (take i all)) (relocate_line token (first + i) (start + i) (get_or all i d) ∷ [])
      ∙ ap (λ (ls : List Instruction). old ++ ls) (sym (lines_more first start i d all (let long = ap length same in omega (arith, long, within))))
