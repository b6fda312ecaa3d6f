-- Footprints, where every cell has 8 bytes: of a new object, and of those that are there.
use Rattle.std.proofs.Common.{◌≡◌, ℕ, zero, suc, ◌+◌, ◌-◌, ◌*◌, ◌<◌, ◌≤◌, List, [], ◌∷◌, length, map, take, drop, get_or, max, refl, sym, ap, ◌∙◌, arith}
use Rattle.std.specs.List.{sum_by}
use Rattle.std.proofs.lemmas.List.{length-take-le, length-drop, get_or-map, length-set}
use Rattle.std.proofs.lemmas.List.Sums.{sum_by-cons}
use Rattle.std.proofs.Math.Nat.{mul_left_comm}
use Rattle.ir_ast.specs.declared.cells.Cell.{Cell}
use Rattle.ir_ast.specs.Sizes.{size_of}
use Rattle.ir_ast.proofs.SizeLaws.{aligned_at, size_is}
use Rattle.cell_rows.specs.declared.shapes.Shape.{Shape}
use Rattle.moving_heap.specs.declared.cells.Part.{Part}
use Rattle.moving_heap.specs.declared.cells.Counted.{Counted}
use Rattle.moving_heap.specs.declared.stands.Moved.{Moved}
use Rattle.moving_heap.specs.Contents.{Content, AreKept, contents_of, shapes_of, bytes_of, sizes_of, with_word, after_moves, nothing_kept, begins}
use Rattle.moving_heap.specs.Heaps.{footprint}
use Rattle.moving_heap.proofs.CellLemmas.{moved_count}
use Rattle.moving_heap.proofs.ShapeLemmas.{shape_is_at, shapes_of-length}

pub footprint_bytes : (fields : List Cell) (count : ℕ) → footprint fields count ≡ max 8 (8 * (count * length fields))
footprint_bytes fields count =
    ap (λ (size : ℕ). max 8 size)
    (aligned_at 8 (count * size_of fields) (count * length fields) refl (ap (λ (size : ℕ). count * size) (size_is fields) ∙ mul_left_comm count 8 (length fields)))

pub contents-length : (shapes : List Shape) (kinds : List Cell) (words : List ℕ) → length (contents_of shapes kinds words) ≡ length shapes
contents-length [] kinds words = refl
contents-length (shape ∷ shapes) kinds words = ap suc (contents-length shapes (drop shape.cells kinds) (drop shape.cells words))

contents_sizes : (shapes : List Shape) (kinds : List Cell) (words : List ℕ) → sum_by (λ shape. shape.cells) shapes ≡ length words
    → sizes_of (contents_of shapes kinds words) ≡ map (λ shape. max 8 (8 * shape.cells)) shapes
contents_sizes [] kinds words whole = refl
contents_sizes (shape ∷ shapes) kinds words whole =
    let sum = sum_by-cons (λ (s : Shape). s.cells) shape shapes in
    let front : length (take shape.cells words) ≡ shape.cells = length-take-le shape.cells words (omega arith) in
    let behind = length-drop shape.cells words in
    rw front (ap (λ (l : List ℕ). max 8 (8 * shape.cells) ∷ l) (contents_sizes shapes (drop shape.cells kinds) (drop shape.cells words) (omega arith)))

pub size_at : (parts : List Part) (widths : List ℕ) (counts : List Counted) (kinds : List Cell) (words : List ℕ) (object : ℕ) → AreKept parts widths counts
    → sum_by (λ shape. shape.cells) (shapes_of parts widths counts) ≡ length words → object < length parts
    → get_or (sizes_of (contents_of (shapes_of parts widths counts) kinds words)) object 0 ≡ max 8 (8 * ((get_or parts object nothing_kept).end - begins 0 parts object))
size_at parts widths counts kinds words object are whole l =
    let d : Shape = record { layout = 0; first = 0; cells = 0; count = 0 } in
    let size = shapes_of-length parts widths counts are in
    ap (λ (sizes : List ℕ). get_or sizes object 0) (contents_sizes (shapes_of parts widths counts) kinds words whole)
    ∙ get_or-map (λ (shape : Shape). max 8 (8 * shape.cells)) (shapes_of parts widths counts) object d 0 (omega arith)
    ∙ ap (λ (shape : Shape). max 8 (8 * shape.cells)) (shape_is_at parts widths counts object d are l)

-- a written cell and moves leave all sizes
pub sizes_written : (contents : List Content) (object cell word : ℕ) → sizes_of (with_word contents object cell word) ≡ sizes_of contents
sizes_written [] object cell word = refl
sizes_written (content ∷ contents) zero cell word = ap (λ (n : ℕ). max 8 (8 * n) ∷ sizes_of contents) (length-set content.words cell word)
sizes_written (content ∷ contents) (suc object) cell word = ap (λ (l : List ℕ). bytes_of content ∷ l) (sizes_written contents object cell word)

pub sizes_moved : (moves : List Moved) (contents : List Content) → sizes_of (map (after_moves moves) contents) ≡ sizes_of contents
sizes_moved moves [] = refl
sizes_moved moves (content ∷ contents) =
    rw (moved_count moves content.kinds content.words) (ap (λ (l : List ℕ). bytes_of content ∷ l) (sizes_moved moves contents))

-- all cells, by the footprints of the objects that have them
cells_within : (shapes : List Shape) → 8 * sum_by (λ shape. shape.cells) shapes ≤ sum_by (λ (n : ℕ). n) (map (λ (shape : Shape). max 8 (8 * shape.cells)) shapes)
cells_within [] = omega arith
cells_within (shape ∷ shapes) =
    let sum = sum_by-cons (λ (s : Shape). s.cells) shape shapes in
    let bytes = sum_by-cons (λ (n : ℕ). n) (max 8 (8 * shape.cells)) (map (λ (s : Shape). max 8 (8 * s.cells)) shapes) in
    let rest = cells_within shapes in
    let big : 8 * shape.cells ≤ max 8 (8 * shape.cells) = omega arith in omega arith

sizes-sum : (contents : List Content) → sum_by (λ (n : ℕ). n) (sizes_of contents) ≡ sum_by bytes_of contents
sizes-sum [] = refl
sizes-sum (content ∷ contents) =
    sum_by-cons (λ (n : ℕ). n) (bytes_of content) (sizes_of contents) ∙ ap (λ (n : ℕ). bytes_of content + n) (sizes-sum contents) ∙ sym (sum_by-cons bytes_of content contents)

pub words_within : (shapes : List Shape) (kinds : List Cell) (words : List ℕ) → sum_by (λ shape. shape.cells) shapes ≡ length words
    → 8 * length words ≤ sum_by bytes_of (contents_of shapes kinds words)
words_within shapes kinds words whole =
    let within = cells_within shapes in
    let same = sym (ap (λ (l : List ℕ). sum_by (λ (n : ℕ). n) l) (contents_sizes shapes kinds words whole)) ∙ sizes-sum (contents_of shapes kinds words) in
    omega arith
