-- A loop over the frames of a stack, frame by frame.
use Rattle.std.proofs.Common.{◌≡◌, ℕ, ◌+◌, ◌-◌, ◌≤◌, List, [], ◌∷◌, ◌++◌, length, take, drop, get_or, refl, sym, ap, ◌∙◌, subst, arith, Option, Some, None}
use Rattle.std.proofs.lemmas.List.{append_assoc, length-drop, drop-drop, get_or-drop, take-append-drop}
use borrow.Rule.Slice.PartMut.{put_mid}
use Rattle.frame_walk.specs.Maps.{FrameEntry}
use Rattle.frame_walk.specs.Walks.{frame_in, frame_words}
use Rattle.frame_walk.specs.Lent.{joined}
use Rattle.frame_walk.specs.Changes.{FramesChange}
use Rattle.frame_walk.specs.Changes.FramesChange.{ended, lost, frame}
use Rattle.frame_walk.proofs.WalkLemmas.{frame_fits, behind_changed, first_of_drop, changed_drop, changed_take}

module _ (S : Type 0) (found : ℕ → Option FrameEntry) (does : S → FrameEntry → List ℕ → List ℕ → S → Type 0) where
  abbrev Changes : ℕ → S → List ℕ → S → List ℕ → Option ℕ → Type 0
  Changes = FramesChange S found does

  -- the frames before a place are changed: what becomes of those from there on becomes of all
  abbrev pub Follows : ℕ → S → List ℕ → ℕ → S → ℕ → List ℕ → Type 0
  Follows address first start next state place words =
      (last : S) (rest : List ℕ) (answer : Option ℕ) → Changes next state (drop place words) last rest answer → Changes address first start last (take place words ++ rest) answer

  module _ (address : ℕ) (first : S) (start : List ℕ) (place next : ℕ) (state : S) (words : List ℕ) (so_far : Follows address first start next state place words) where
    stays : (answer : Option ℕ) → Changes next state (drop place words) state (drop place words) answer → Changes address first start state words answer
    stays answer h = subst (λ (all : List ℕ). Changes address first start state all answer) (take-append-drop place words) (so_far state (drop place words) answer h)

    pub change_done : next ≡ 0 → Changes address first start state words None
    change_done e = stays None (subst (λ (n : ℕ). Changes n state (drop place words) state (drop place words) None) (sym e) (ended state (drop place words)))

    pub change_lost : (next ≡ 0 → ⊥) → frame_in found next (length words - place) ≡ None → Changes address first start state words (Some next)
    change_lost some none = stays (Some next) (lost next state (drop place words) some (ap (frame_in found next) (length-drop place words) ∙ none))

    pub change_more : (changed : List ℕ) (one : FrameEntry) (after : S) → place ≤ length words → (next ≡ 0 → ⊥) → frame_in found next (length words - place) ≡ Some one
        → does state one (take (frame_words one) (drop place words)) changed after → length changed ≡ frame_words one
        → length (put_mid place (frame_words one) words changed) ≡ length words
        → Follows address first start (get_or (put_mid place (frame_words one) words changed) (place + frame_words one) 0) after (place + frame_words one + 1) (put_mid place (frame_words one) words changed)
    change_more changed one after within some is did size same last rest answer h =
        let n = frame_words one in
        let whole = put_mid place n words changed in
        let fits = frame_fits found next (length words - place) one is in
        let here : drop (place + n) whole ≡ drop (place + n) words =
        (let e : place + n + 0 ≡ place + n = omega arith in subst (λ (m : ℕ). drop m whole ≡ drop m words) e (changed_drop place n words words changed within size refl 0)) in
        let word : get_or whole (place + n) 0 ≡ get_or (drop place words) n 0 = first_of_drop (place + n) whole words here ∙ sym (get_or-drop place words n 0) in
        let below : drop (place + n + 1) whole ≡ drop (n + 1) (drop place words) =
        behind_changed place n words words changed within size refl
        ∙ (let e : place + n + 1 ≡ place + (n + 1) = omega arith in ap (λ (m : ℕ). drop m words) e) ∙ sym (drop-drop (n + 1) place words) in
        let behind : Changes (get_or (drop place words) n 0) after (drop (n + 1) (drop place words)) last rest answer =
        subst (λ (all : List ℕ). Changes (get_or (drop place words) n 0) after all last rest answer) below
        (subst (λ (a : ℕ). Changes a after (drop (place + n + 1) whole) last rest answer) word h) in
        let step = frame next one state after last (drop place words) changed rest answer some (ap (frame_in found next) (length-drop place words) ∙ is) did size behind in
        let all : take place words ++ joined (get_or (drop place words) n 0) changed rest ≡ take (place + n + 1) whole ++ rest =
        sym (ap (λ (front : List ℕ). front ++ rest) (changed_take place n words words changed within size refl (omega arith))
        ∙ append_assoc (take place words) (changed ++ get_or words (place + n) 0 ∷ []) rest
        ∙ ap (λ (back : List ℕ). take place words ++ back) (append_assoc changed (get_or words (place + n) 0 ∷ []) rest)
        ∙ ap (λ (a : ℕ). take place words ++ (changed ++ a ∷ rest)) (sym (get_or-drop place words n 0))) in
        subst (λ (l : List ℕ). Changes address first start last l answer) all (so_far last (joined (get_or (drop place words) n 0) changed rest) answer step)
