-- A loop of pieces: what was taken so far, and what is left of the whole text.
use Rattle.std.proofs.Common.{◌≡◌, List, ℕ, [], ◌++◌, refl, sym, ap, subst, ◌∙◌, append-nil, append_assoc}

-- what stands before `left` in the whole text was taken
pub record TookBefore {W : Type 0} (took : W → W → List ℕ → Type 0) (old new : W) (whole left : List ℕ) : Type 0 where
  pub done : List ℕ
  pub split : whole ≡ done ++ left
  pub taken : took old new done

module _ {W : Type 0} (took failed_within : W → W → List ℕ → Type 0) where
  pub TookBefore-start : ((sink : W) → took sink sink []) → (old : W) (whole : List ℕ) → TookBefore took old old whole whole
  TookBefore-start nothing old whole = record { done = []; split = refl; taken = nothing old }

  -- one piece more
  pub TookBefore-next : ((old mid new : W) (first second : List ℕ) → took old mid first → took mid new second → took old new (first ++ second)) →
      (old mid new : W) (whole left piece rest : List ℕ) → TookBefore took old mid whole left → took mid new piece → left ≡ piece ++ rest → TookBefore took old new whole rest
  TookBefore-next both old mid new whole left piece rest before one split = record {
    done = before.done ++ piece;
    split = before.split ∙ ap (λ bytes. before.done ++ bytes) split ∙ sym (append_assoc before.done piece rest);
    taken = both old mid new before.done piece before.taken one;
  }

  -- nothing is left
  pub TookBefore-end : (old new : W) (whole : List ℕ) → TookBefore took old new whole [] → took old new whole
  TookBefore-end old new whole before =
      subst (took old new) (sym (before.split ∙ append-nil before.done)) before.taken

  -- the next piece fails
  pub TookBefore-failed : ((old new : W) (first second : List ℕ) → failed_within old new first → failed_within old new (first ++ second)) →
      ((old mid new : W) (first second : List ℕ) → took old mid first → failed_within mid new second → failed_within old new (first ++ second)) →
      (old mid new : W) (whole left piece rest : List ℕ) → TookBefore took old mid whole left → failed_within mid new piece → left ≡ piece ++ rest → failed_within old new whole
  TookBefore-failed in_first in_second old mid new whole left piece rest before failed split =
      subst (failed_within old new) (sym (before.split ∙ ap (λ bytes. before.done ++ bytes) split))
      (in_second old mid new before.done (piece ++ rest) before.taken (in_first mid new piece rest failed))
