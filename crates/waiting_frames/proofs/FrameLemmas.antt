-- Frames that wait, one after the other.
use Rattle.std.proofs.Common.{◌≡◌, ℕ, suc, ◌+◌, ◌-◌, ◌<◌, ◌≤◌, List, [], ◌∷◌, ◌++◌, length, map, take, drop, reverse, get_or, min, refl, sym, ap, ◌∙◌, arith, drop-cons}
use Rattle.std.proofs.lemmas.List.{length-reverse, get_or-reverse, drop_all, drop_min, take_min}
use Rattle.std.specs.List.{concat}
use Rattle.std.proofs.lemmas.List.Folds.{concat-append}
use Rattle.flat_code.specs.Codes.{FlatModule}
use Rattle.object_store.specs.declared.words.Word.{Word}
use Rattle.waiting_frames.specs.declared.frames.Saved.{Saved}
use Rattle.waiting_frames.specs.Frames.{Seen, frames_below, exit_frame}
use Rattle.waiting_frames.specs.Shown.{frame_lines, frame_text, frames_lines, frames_text}

pub below_count : (saved : List Saved) (registers : List Word) → length (frames_below saved registers) ≡ length saved
below_count [] registers = refl
below_count (one ∷ saved) registers = ap suc (below_count saved (take one.base registers))

pub waiting_count : (saved : List Saved) (registers : List Word) → length (frames_below (reverse saved) registers) ≡ length saved
waiting_count saved registers = below_count (reverse saved) registers ∙ length-reverse saved

newest_first : (saved : List Saved) (place : ℕ) (frame d : Saved) → place < length saved → frame ≡ get_or saved (length saved - 1 - place) d
    → drop place (reverse saved) ≡ frame ∷ drop (place + 1) (reverse saved)
newest_first saved place frame d within is =
    let next : suc place ≡ place + 1 = omega arith in
    drop-cons (reverse saved) place d (omega (arith, within, length-reverse saved))
    ∙ ap (λ (one : Saved). one ∷ drop (suc place) (reverse saved)) (get_or-reverse saved place d within ∙ sym is)
    ∙ ap (λ (n : ℕ). frame ∷ drop n (reverse saved)) next

-- the next frame of a stack whose registers are in one list
pub next_lines : (code : FlatModule) (saved : List Saved) (left own below : List Word) (place at : ℕ) (frame d : Saved)
    → place < length saved → frame ≡ get_or saved (length saved - 1 - place) d → at ≡ min frame.base (length left)
    → below ≡ take at left → own ≡ drop at left
    → frames_lines code (place + 1) (frames_below (drop place (reverse saved)) left)
    ≡ frame_lines code (place + 1) (exit_frame code (record { spot = frame.spot; registers = own }))
    ++ frames_lines code (place + 1 + 1) (frames_below (drop (place + 1) (reverse saved)) below)
next_lines code saved left own below place at frame d within is cut front back =
    let mine : drop frame.base left ≡ own = sym (drop_min frame.base left) ∙ ap (λ (n : ℕ). drop n left) (sym cut) ∙ sym back in
    let others : take frame.base left ≡ below = sym (take_min frame.base left) ∙ ap (λ (n : ℕ). take n left) (sym cut) ∙ sym front in
    let more = drop (place + 1) (reverse saved) in
    ap (λ (order : List Saved). frames_lines code (place + 1) (frames_below order left)) (newest_first saved place frame d within is)
    ∙ ap (λ (words : List Word). frame_lines code (place + 1) (exit_frame code (record { spot = frame.spot; registers = words })) ++ frames_lines code (place + 1 + 1) (frames_below more (take frame.base left))) mine
    ∙ ap (λ (words : List Word). frame_lines code (place + 1) (exit_frame code (record { spot = frame.spot; registers = own })) ++ frames_lines code (place + 1 + 1) (frames_below more words)) others

pub next_frame : (code : FlatModule) (saved : List Saved) (left own below : List Word) (place at : ℕ) (frame d : Saved)
    → place < length saved → frame ≡ get_or saved (length saved - 1 - place) d → at ≡ min frame.base (length left)
    → below ≡ take at left → own ≡ drop at left
    → frames_text code (place + 1) (frames_below (drop place (reverse saved)) left)
    ≡ frame_text code (place + 1) (exit_frame code (record { spot = frame.spot; registers = own }))
    ++ frames_text code (place + 1 + 1) (frames_below (drop (place + 1) (reverse saved)) below)
next_frame code saved left own below place at frame d within is cut front back =
    ap concat (next_lines code saved left own below place at frame d within is cut front back)
    ∙ concat-append (frame_lines code (place + 1) (exit_frame code (record { spot = frame.spot; registers = own })))
    (frames_lines code (place + 1 + 1) (frames_below (drop (place + 1) (reverse saved)) below))

-- no frame is left
pub last_lines : (code : FlatModule) (saved : List Saved) (left : List Word) (place : ℕ) → length saved ≤ place
    → frames_lines code (place + 1) (frames_below (drop place (reverse saved)) left) ≡ []
last_lines code saved left place over =
    ap (λ (order : List Saved). frames_lines code (place + 1) (frames_below order left)) (drop_all place (reverse saved) (omega (arith, over, length-reverse saved)))

pub last_frame : (code : FlatModule) (saved : List Saved) (left : List Word) (place : ℕ) → length saved ≤ place
    → frames_text code (place + 1) (frames_below (drop place (reverse saved)) left) ≡ []
last_frame code saved left place over = ap concat (last_lines code saved left place over)
