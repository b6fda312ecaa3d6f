-- A legal group of moves: each cell holds what it held.
use Rattle.std.proofs.Common.{◌≡◌, ℕ, zero, suc, ◌<◌, ◌≤◌, List, [], ◌∷◌, length, get_or, map, refl, sym, ap, ◌∙◌, subst, arith, Option, Some, None}
use Rattle.std.specs.Prelude.{slice_get}
use Rattle.std.proofs.lemmas.Option.{slice_get_within}
use Rattle.std.proofs.lemmas.List.{length-map}
use Rattle.ir_ast.specs.declared.cells.Cell.{Cell}
use Rattle.ir_ast.specs.declared.cells.Cell.TheVariants.{I64, Ptr}
use Rattle.ir_ast.specs.Layouts.{ObjectLayout}
use Rattle.ir_ast.specs.Objects.{Datum, Object}
use Rattle.move_plan.specs.declared.plan_lines.Move.{Move}
use Rattle.moving_heap.specs.declared.stands.Stand.{Stand}
use Rattle.moving_heap.specs.declared.stands.Moved.{Moved}
use Rattle.moving_heap.specs.Contents.{Content, moved_word, moved_words, after_moves}
use Rattle.moving_heap.specs.Places.{moved, moves_of, carried, sent, group_moves, group_targets}
use Rattle.moving_heap.specs.Settled.{AreSettled}
use Rattle.moving_heap.proofs.PlaceLemmas.{moved-length, group_is, group_places, group_settled, sent-size}
use Rattle.object_meaning.specs.Registers.{nothing, pointer_in}
use Rattle.machine_meaning.proofs.AddressLaws.{cell_moves}
use Rattle.moves_unseen.specs.Objects.{AreHeld, Holds, IsHeld}
use Rattle.moving_heap.proofs.CellLemmas.{moved_count}

-- ---- words by their kinds

word_moved : (moves : List Moved) (kinds : List Cell) (words : List ℕ) (cell : ℕ) (kind : Cell) → slice_get kinds cell ≡ Some kind → cell < length words
    → get_or (moved_words moves kinds words) cell 0 ≡ moved_word moves kind (get_or words cell 0)
word_moved moves [] words cell kind is l = cc
word_moved moves (first ∷ kinds) [] cell kind is l = absurd (omega arith)
word_moved moves (first ∷ kinds) (word ∷ words) zero kind is l =
    let same : first ≡ kind = cc in ap (λ (k : Cell). moved_word moves k word) same
word_moved moves (first ∷ kinds) (word ∷ words) (suc cell) kind is l = word_moved moves kinds words cell kind is (omega arith)

-- ---- one object

module _ (stands : List Stand) (targets : List (Option ℕ)) (are : AreSettled stands) (after : AreSettled (moved stands targets)) where
  holds_moved : (kind : Cell) (datum : Datum) (held : ℕ) → Holds stands kind datum held → Holds (moved stands targets) kind datum (moved_word (moves_of stands targets) kind held)
  holds_moved I64 datum held is = is
  holds_moved Ptr datum held base = record {
    heap = record { object = subst (λ (n : ℕ). (pointer_in datum).object ≤ n) (sym (moved-length stands targets)) base.heap.object; offset = base.heap.offset };
    first = base.first;
    word = cell_moves stands targets (pointer_in datum) held are after base.heap base.first base.word;
  }

  object_moved : (layouts : List ObjectLayout) (object : Object) (content : Content) → IsHeld layouts stands object content
      → IsHeld layouts (moved stands targets) object (after_moves (moves_of stands targets) content)
  object_moved layouts object content is = record {
    layout = is.layout;
    count = is.count;
    kinds = is.kinds;
    cells_count = is.cells_count;
    words_count = moved_count (moves_of stands targets) content.kinds content.words ∙ is.words_count;
    cells = λ cell kind at.
        subst (Holds (moved stands targets) kind (get_or object.cells cell nothing))
        (sym (word_moved (moves_of stands targets) content.kinds content.words cell kind at
        (subst (λ (n : ℕ). cell < n) (sym is.words_count) (slice_get_within content.kinds cell kind at))))
        (holds_moved kind (get_or object.cells cell nothing) (get_or content.words cell 0) (is.cells cell kind at));
  }

-- ---- all objects

mapped_at : {X Y : Type 0} (f : X → Y) (xs : List X) (k : ℕ) (y : Y) → slice_get (map f xs) k ≡ Some y → (x : X) × ((slice_get xs k ≡ Some x) × (y ≡ f x))
mapped_at f [] k y is = cc
mapped_at f (x ∷ xs) zero y is = (x, (refl, (let same : f x ≡ y = cc in sym same)))
mapped_at f (x ∷ xs) (suc k) y is = mapped_at f xs k y is

moved_size : (stands : List Stand) (targets : List (Option ℕ)) (k : ℕ) (stand : Stand) → slice_get (moved stands targets) k ≡ Some stand
    → (one : Stand) × ((slice_get stands k ≡ Some one) × (stand.size ≡ one.size))
moved_size [] targets k stand is = cc
moved_size (first ∷ stands) [] k stand is = (stand, (is, refl))
moved_size (first ∷ stands) (target ∷ targets) zero stand is =
    (first, (refl, (let same : sent first target ≡ stand = cc in ap (λ (s : Stand). s.size) (sym same) ∙ sent-size first target)))
moved_size (first ∷ stands) (target ∷ targets) (suc k) stand is = moved_size stands targets k stand is

module _ (layouts : List ObjectLayout) (objects : List Object) (stands : List Stand) (contents : List Content) (are : AreHeld layouts objects stands contents) where
  all_moved : (targets : List (Option ℕ)) → AreSettled (moved stands targets)
      → AreHeld layouts objects (moved stands targets) (map (after_moves (moves_of stands targets)) contents)
  all_moved targets after = record {
    settled = after;
    stands_count = moved-length stands targets ∙ are.stands_count;
    contents_count = length-map contents (after_moves (moves_of stands targets)) ∙ are.contents_count;
    sizes = λ place object stand here there.
        let found = moved_size stands targets place stand there in
        found.1.1 ∙ are.sizes place object found.0 here found.1.0;
    each = λ place object content here there.
        let found = mapped_at (after_moves (moves_of stands targets)) contents place content there in
        subst (IsHeld layouts (moved stands targets) object) (sym found.1.1)
        (object_moved stands targets are.settled after layouts object found.0 (are.each place object found.0 here found.1.0));
  }

  -- the group of an event
  pub group_held : (lines : List Move) (event : Option ℕ) → (group_moves stands lines event ≡ [] → ⊥)
      → AreHeld layouts objects (map (carried (group_moves stands lines event)) stands) (map (after_moves (group_moves stands lines event)) contents)
  group_held lines event some =
      let targets = group_targets stands lines event in
      let places = group_places stands lines event are.settled some in
      let moves = (group_is stands lines event some).1 in
      let after = subst AreSettled places (group_settled stands lines event are.settled some) in
      subst (λ (next : List Stand). AreHeld layouts objects next (map (after_moves (group_moves stands lines event)) contents)) (sym places)
      (subst (λ (made : List Moved). AreHeld layouts objects (moved stands (group_targets stands lines event)) (map (after_moves made) contents)) (sym moves)
      (all_moved targets after))
