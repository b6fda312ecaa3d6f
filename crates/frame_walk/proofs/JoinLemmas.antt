-- A frame, its return word and what lies behind it, put back together.
use Rattle.std.proofs.Common.{◌≡◌, ℕ, ◌+◌, ◌<◌, List, [], ◌∷◌, ◌++◌, length, take, drop, refl, ap}
use Rattle.std.specs.Prelude.{slice_index}
use Rattle.std.proofs.lemmas.List.{drop_more, drop-drop}
use seplogic.Ra.Ura.{Ura}
use base.Fml.{GName, fres, fsep}
use base.Logic.{ent, sep, wand}
use types.Follow.{followed₂}
use types.Kit.{‵, ◌$◌, ◌∵◌, !, qed, by, move, use2, join, fsplit, each, assume, rewrite}
use types.Logic.{Logic, sem}
use denote.Array.{Array}
use denote.Builtin.{u64}
use denote.Follow.{both_by, follows_both}
use denote.Memory.{mem}
use denote.RattleType.{RattleType}
use Rattle.frame_walk.specs.Lent.{joined}

pub word_between : (words : List ℕ) (count : ℕ) → count < length words → take 1 (drop count words) ≡ slice_index words count ∷ []
word_between words count l = ap (take 1) (drop_more words count 0 l)

pub behind_word : (words : List ℕ) (count : ℕ) → drop 1 (drop count words) ≡ drop (count + 1) words
behind_word words count = drop-drop 1 count words

abbrev pub L : RattleType
L = Array u64 0

module _ {M : Type 1} {𝓤 : Ura M} (𝓛 : Logic 𝓤) where
  open 𝓛 use {A}

  -- the words end as the frame and the rest do, where the word between them ends as it was
  pub joins : (whole frame back word rest : GName) (words : List ℕ) (address : ℕ) → words ≡ address ∷ []
      → ent 𝓤 (sep 𝓤 (sem 𝓛 (follows_both L L L whole frame back ◌++◌)) (sep 𝓤 (sem 𝓛 (follows_both L L L back word rest ◌++◌)) (A.res word (L.coded.code words))))
      (sem 𝓛 (follows_both L L L whole frame rest (joined address)))
  unfolding both_by
  joins whole frame back word rest words address e =
      qed 𝓛 (‵ (follows_both L L L whole frame back ◌++◌) ∷ ‵ (follows_both L L L back word rest ◌++◌) ∷ ‵ (fres word (L.coded.code words)) ∷ []) ∵
      each ! (λ (w : List ℕ × List ℕ). wand 𝓤 (sep 𝓤 (A.res frame (L.coded.code w.0)) (A.res rest (L.coded.code w.1))) (A.res whole (L.coded.code (joined address w.0 w.1)))) (λ w.
      assume ! (‵ (fsep (fres frame (L.coded.code w.0)) (fres rest (L.coded.code w.1)))) $ fsplit ! $
      rewrite ! 4 (λ (zs : List ℕ). ‵ (fres word (L.coded.code zs))) e refl $
      move ! (4 ∷ 1 ∷ []) $ join ! $ move ! (0 ∷ 3 ∷ []) $
      use2 𝓛 (‵ (fres back (L.coded.code (address ∷ w.1)))) (followed₂ 𝓛 (mem L) (mem L) (mem L) ◌++◌ back word rest (address ∷ []) w.1) $
      move ! (1 ∷ 0 ∷ []) $ join ! $
      by ! (followed₂ 𝓛 (mem L) (mem L) (mem L) ◌++◌ whole frame back w.0 (address ∷ w.1)))
