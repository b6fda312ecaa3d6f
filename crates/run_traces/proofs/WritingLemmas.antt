-- Lines that are put one by one.
use Rattle.std.proofs.Common.{◌≡◌, ℕ, Bool, true, false, suc, ◌+◌, List, [], ◌∷◌, ◌++◌, take, drop, map, refl, sym, ap, ◌∙◌, arith, Option, Some, None}
use Rattle.std.specs.Prelude.{slice_get}
use Rattle.std.specs.List.{concat, filter_map}
use Rattle.std.specs.Option.{option_map}
use Rattle.std.proofs.lemmas.List.{append-nil, append_assoc, map-append, take-append-drop, take_more}
use Rattle.std.proofs.lemmas.List.Folds.{concat-append}
use Rattle.std.proofs.lemmas.Option.{get_or_from_slice_get, slice_get_within}
use Rattle.tool_io.specs.Sink.{append_known, AppendsFront}
use Rattle.tool_io.proofs.AppendLaws.{append_known-then, AppendsFront-among, AppendsFront-first}
use Rattle.piece_writer.specs.LinePuts.{PutsFirst, PutsLines, SinkTold}
use Rattle.piece_writer.proofs.LineLaws.{first_after, first_more, puts_both, puts_same}
use Rattle.ir_ast.specs.Layouts.{ObjectLayout}
use Rattle.moving_heap.specs.declared.stands.Moved.{Moved}
use Rattle.moving_heap.specs.declared.stands.Stand.{Stand}
use Rattle.moving_heap.specs.Contents.{Content, shape_of}
use Rattle.moving_heap.specs.Heaps.{of_number}
use Rattle.moving_heap.specs.Places.{new_address}
use Rattle.moving_heap.specs.Settled.{IsNumbered}
use Rattle.machine_meaning.specs.Happenings.{ObjectMove as Move, object_move}
use Rattle.tool_report.specs.RunLines.{place_line}
use Rattle.run_texts.specs.RunTexts.{is_poll, layout_name, place_lines}
use Rattle.run_traces.specs.Happenings.{kind_of}
use Rattle.list_laws.proofs.Places.{drop_at, drop_past}

-- ---- lists

module _ {X Y : Type 0} (line : Y → List ℕ) (of : X → Y) (xs : List X) (i : ℕ) (x : X) (is : slice_get xs i ≡ Some x) where
  more_lines : concat (map line (map of (take (i + 1) xs))) ≡ concat (map line (map of (take i xs))) ++ line (of x)
  more_lines =
      ap (λ l. concat (map line (map of l))) (take_more xs i x (slice_get_within xs i x is) ∙ ap (λ y. take i xs ++ y ∷ []) (get_or_from_slice_get xs i x x is))
      ∙ ap (λ l. concat (map line l)) (map-append of (take i xs) (x ∷ []))
      ∙ ap concat (map-append line (map of (take i xs)) (of x ∷ []))
      ∙ concat-append (map line (map of (take i xs))) (line (of x) ∷ [])
      ∙ ap (λ l. concat (map line (map of (take i xs))) ++ l) (append-nil (line (of x)))

  all_lines : concat (map line (map of xs)) ≡ concat (map line (map of (take i xs))) ++ (line (of x) ++ concat (map line (map of (drop (i + 1) xs))))
  all_lines =
      ap (λ l. concat (map line (map of l))) (sym (take-append-drop i xs) ∙ ap (λ l. take i xs ++ l) (drop_at xs i x is))
      ∙ ap (λ l. concat (map line l)) (map-append of (take i xs) (x ∷ drop (i + 1) xs))
      ∙ ap concat (map-append line (map of (take i xs)) (of x ∷ map of (drop (i + 1) xs)))
      ∙ concat-append (map line (map of (take i xs))) (line (of x) ∷ map line (map of (drop (i + 1) xs)))

  pub lines_next : map line (map of (drop i xs)) ≡ (line (of x) ∷ []) ++ map line (map of (drop (i + 1) xs))
  lines_next = ap (λ l. map line (map of l)) (drop_at xs i x is)

  pub lines_more : (old now new : Option (List ℕ)) → now ≡ append_known old (concat (map line (map of (take i xs)))) → new ≡ append_known now (line (of x))
      → new ≡ append_known old (concat (map line (map of (take (i + 1) xs))))
  lines_more old now new so_far added =
      append_known-then old now new (concat (map line (map of (take i xs)))) (line (of x)) so_far added ∙ ap (append_known old) (sym more_lines)

  pub lines_front : (old now new : Option (List ℕ)) → now ≡ append_known old (concat (map line (map of (take i xs)))) → AppendsFront now new (line (of x))
      → AppendsFront old new (concat (map line (map of xs)))
  lines_front old now new so_far front =
      AppendsFront-among old (concat (map line (map of (take i xs)))) (concat (map line (map of (drop (i + 1) xs)))) (concat (map line (map of xs))) so_far front all_lines

-- ---- places

pub record PlacesSoFar (layouts : List ObjectLayout) (stands : List Stand) (contents : List Content) (place : ℕ) (old now : Option (List ℕ)) : Type 0 where
  pub first : List ℕ
  pub written : now ≡ append_known old first
  pub rest : first ++ concat (place_lines layouts (drop place stands) (drop place contents)) ≡ concat (place_lines layouts stands contents)

-- the object of a number
pub record Found {X Y : Type 0} (f : X → Y) (xs : List X) (i : ℕ) (y : Y) : Type 0 where
  pub x : X
  pub is : slice_get xs i ≡ Some x
  pub value : f x ≡ y

found_in : {X Y : Type 0} (f : X → Y) (xs : List X) (i : ℕ) (y : Y) (o : Option X) → slice_get xs i ≡ o → option_map f o ≡ Some y → Found f xs i y
found_in f xs i y None is e = cc
found_in f xs i y (Some x) is e = record { x = x; is = is; value = cc }

missing_in : {X Y : Type 0} (f : X → Y) (xs : List X) (i : ℕ) (o : Option X) → slice_get xs i ≡ o → option_map f o ≡ None → slice_get xs i ≡ None
missing_in f xs i None is e = is
missing_in f xs i (Some x) is e = cc

at_number : {X : Type 0} (xs : List X) (place : ℕ) → of_number xs (place + 1) ≡ slice_get xs place
at_number xs place = let next : place + 1 ≡ suc place = omega arith in ap (of_number xs) next

pub found : {X Y : Type 0} (f : X → Y) (xs : List X) (place : ℕ) (y : Y) → Some y ≡ option_map f (of_number xs (place + 1)) → Found f xs place y
found f xs place y is = found_in f xs place y (slice_get xs place) refl (ap (option_map f) (sym (at_number xs place)) ∙ sym is)

pub missing : {X Y : Type 0} (f : X → Y) (xs : List X) (place : ℕ) → None ≡ option_map f (of_number xs (place + 1)) → drop place xs ≡ []
missing f xs place is = drop_past xs place (missing_in f xs place (slice_get xs place) refl (ap (option_map f) (sym (at_number xs place)) ∙ sym is))

no_contents : (layouts : List ObjectLayout) (stands : List Stand) → place_lines layouts stands [] ≡ []
no_contents layouts [] = refl
no_contents layouts (stand ∷ stands) = refl

module _ (layouts : List ObjectLayout) (stands : List Stand) (contents : List Content) (place : ℕ) where
  pub none_left : drop place stands ≡ [] → place_lines layouts (drop place stands) (drop place contents) ≡ []
  none_left none = ap (λ l. place_lines layouts l (drop place contents)) none

  pub none_filled : drop place contents ≡ [] → place_lines layouts (drop place stands) (drop place contents) ≡ []
  none_filled none = ap (λ l. place_lines layouts (drop place stands) l) none ∙ no_contents layouts (drop place stands)

  module _ (numbered : IsNumbered stands) (address : ℕ) (stand : Found (λ (stand : Stand). stand.address) stands place address) (layout count : ℕ)
      (content : Found shape_of contents place (layout, count)) where
    line_is : place_line stand.x.number (layout_name layouts content.x.layout) content.x.count stand.x.address ≡ place_line (place + 1) (layout_name layouts layout) count address
    line_is =
        let number : stand.x.number ≡ place + 1 =
        sym (ap (λ (s : Stand). s.number) (get_or_from_slice_get stands place stand.x stand.x stand.is)) ∙ numbered.at place stand.x (slice_get_within stands place stand.x stand.is) in
        ap (λ (n : ℕ). place_line n (layout_name layouts content.x.layout) content.x.count stand.x.address) number
        ∙ ap (λ (s : ℕ × ℕ). place_line (place + 1) (layout_name layouts s.0) s.1 stand.x.address) content.value
        ∙ ap (place_line (place + 1) (layout_name layouts layout) count) stand.value

    pub places_next : place_lines layouts (drop place stands) (drop place contents)
        ≡ (place_line (place + 1) (layout_name layouts layout) count address ∷ []) ++ place_lines layouts (drop (place + 1) stands) (drop (place + 1) contents)
    places_next =
        ap (λ (l : List Stand). place_lines layouts l (drop place contents)) (drop_at stands place stand.x stand.is)
        ∙ ap (λ (l : List Content). place_lines layouts (stand.x ∷ drop (place + 1) stands) l) (drop_at contents place content.x content.is)
        ∙ ap (λ (line : List ℕ). line ∷ place_lines layouts (drop (place + 1) stands) (drop (place + 1) contents)) line_is

module _ (layouts : List ObjectLayout) (stands : List Stand) (contents : List Content) (place : ℕ) (old now new : Option (List ℕ)) (so_far : PlacesSoFar layouts stands contents place old now) where
  whole_without : concat (place_lines layouts (drop place stands) (drop place contents)) ≡ [] → now ≡ append_known old (concat (place_lines layouts stands contents))
  whole_without none =
      so_far.written ∙ ap (append_known old) (sym (append-nil so_far.first) ∙ ap (λ l. so_far.first ++ l) (sym none) ∙ so_far.rest)

  pub places_end : drop place stands ≡ [] → now ≡ append_known old (concat (place_lines layouts stands contents))
  places_end none = whole_without (ap (λ l. concat (place_lines layouts l (drop place contents))) none)

  pub places_stop : drop place contents ≡ [] → now ≡ append_known old (concat (place_lines layouts stands contents))
  places_stop none = whole_without (ap (λ l. concat (place_lines layouts (drop place stands) l)) none ∙ ap concat (no_contents layouts (drop place stands)))

  module _ (numbered : IsNumbered stands) (address : ℕ) (stand : Found (λ (stand : Stand). stand.address) stands place address) (layout count : ℕ)
      (content : Found shape_of contents place (layout, count)) where
    rest_is : so_far.first ++ (place_line (place + 1) (layout_name layouts layout) count address ++ concat (place_lines layouts (drop (place + 1) stands) (drop (place + 1) contents)))
        ≡ concat (place_lines layouts stands contents)
    rest_is =
        ap (λ (line : List ℕ). so_far.first ++ (line ++ concat (place_lines layouts (drop (place + 1) stands) (drop (place + 1) contents)))) (sym (line_is layouts stands contents place numbered address stand layout count content))
        ∙ ap (λ (l : List Content). so_far.first ++ concat (place_lines layouts (stand.x ∷ drop (place + 1) stands) l)) (sym (drop_at contents place content.x content.is))
        ∙ ap (λ (l : List Stand). so_far.first ++ concat (place_lines layouts l (drop place contents))) (sym (drop_at stands place stand.x stand.is))
        ∙ so_far.rest

    pub places_more : new ≡ append_known now (place_line (place + 1) (layout_name layouts layout) count address) → PlacesSoFar layouts stands contents (place + 1) old new
    places_more added = record {
      first = so_far.first ++ place_line (place + 1) (layout_name layouts layout) count address;
      written = append_known-then old now new so_far.first (place_line (place + 1) (layout_name layouts layout) count address) so_far.written added;
      rest = append_assoc so_far.first (place_line (place + 1) (layout_name layouts layout) count address) (concat (place_lines layouts (drop (place + 1) stands) (drop (place + 1) contents))) ∙ rest_is;
    }

    pub places_front : AppendsFront now new (place_line (place + 1) (layout_name layouts layout) count address) → AppendsFront old new (concat (place_lines layouts stands contents))
    places_front front =
        AppendsFront-among old so_far.first (concat (place_lines layouts (drop (place + 1) stands) (drop (place + 1) contents))) (concat (place_lines layouts stands contents))
        so_far.written front (sym rest_is)

-- ---- moves

module _ (moves : List Moved) (stands : List Stand) (place : ℕ) (items : List Move) (all : List Move) (address : ℕ)
    (stand : Found (λ (stand : Stand). stand.address) stands place address) (so_far : items ++ filter_map (object_move moves) (drop place stands) ≡ all) where
  opened : items ++ filter_map (object_move moves) (stand.x ∷ drop (place + 1) stands) ≡ all
  opened = ap (λ (l : List Stand). items ++ filter_map (object_move moves) l) (sym (drop_at stands place stand.x stand.is)) ∙ so_far

  pub stays : None ≡ new_address moves address → items ++ filter_map (object_move moves) (drop (place + 1) stands) ≡ all
  stays none =
      let is : object_move moves stand.x ≡ None = ap (λ (a : ℕ). option_map (λ (new : ℕ). let m : Move = record { object = stand.x.number; old = stand.x.address; new = new } in m) (new_address moves a)) stand.value
      ∙ ap (option_map (λ (new : ℕ). let m : Move = record { object = stand.x.number; old = stand.x.address; new = new } in m)) (sym none) in
      rw is at opened

  pub goes : (numbered : IsNumbered stands) (new : ℕ) (pushed : List Move) → Some new ≡ new_address moves address → pushed ≡ items ++ record { object = place + 1; old = address; new = new } ∷ []
      → pushed ++ filter_map (object_move moves) (drop (place + 1) stands) ≡ all
  goes numbered new pushed some is =
      let number : stand.x.number ≡ place + 1 =
      sym (ap (λ (s : Stand). s.number) (get_or_from_slice_get stands place stand.x stand.x stand.is)) ∙ numbered.at place stand.x (slice_get_within stands place stand.x stand.is) in
      let rest = filter_map (object_move moves) (drop (place + 1) stands) in
      let move : object_move moves stand.x ≡ Some (record { object = place + 1; old = address; new = new }) =
      ap (λ (n : ℕ). option_map (λ (new : ℕ). let m : Move = record { object = n; old = stand.x.address; new = new } in m) (new_address moves stand.x.address)) number
      ∙ ap (λ (a : ℕ). option_map (λ (new : ℕ). let m : Move = record { object = place + 1; old = a; new = new } in m) (new_address moves a)) stand.value
      ∙ ap (option_map (λ (new : ℕ). let m : Move = record { object = place + 1; old = address; new = new } in m)) (sym some) in
      let one : Move = record { object = place + 1; old = address; new = new } in
      ap (λ (l : List Move). l ++ rest) is ∙ append_assoc items (one ∷ []) rest ∙ (rw move at opened)

-- ---- events

pub poll_kind : (poll : Bool) → is_poll (kind_of poll) ≡ poll
poll_kind true = refl
poll_kind false = refl

pub line_front : (line : List ℕ) (moves slots : List (List ℕ)) (old new : Option (List ℕ)) → AppendsFront old new line → AppendsFront old new (line ++ concat (moves ++ slots))
line_front line moves slots old new front = AppendsFront-first front (concat (moves ++ slots))

module _ (line : List ℕ) (moves slots : List (List ℕ)) (old one two new : Option (List ℕ)) (first : one ≡ append_known old line) where
  pub moves_front : AppendsFront one new (concat moves) → AppendsFront old new (line ++ concat (moves ++ slots))
  moves_front front =
      AppendsFront-among old line (concat slots) (line ++ concat (moves ++ slots)) first front (ap (λ text. line ++ text) (concat-append moves slots))

  module _ (second : two ≡ append_known one (concat moves)) where
    split : line ++ concat (moves ++ slots) ≡ (line ++ concat moves) ++ concat slots
    split = ap (λ text. line ++ text) (concat-append moves slots) ∙ sym (append_assoc line (concat moves) (concat slots))

    both : two ≡ append_known old (line ++ concat moves)
    both = append_known-then old one two line (concat moves) first second

    pub slots_front : AppendsFront two new (concat slots) → AppendsFront old new (line ++ concat (moves ++ slots))
    slots_front front =
        AppendsFront-among old (line ++ concat moves) [] (line ++ concat (moves ++ slots)) both front
        (split ∙ ap (λ text. (line ++ concat moves) ++ text) (sym (append-nil (concat slots))))

    pub slots_all : new ≡ append_known two (concat slots) → new ≡ append_known old (line ++ concat (moves ++ slots))
    slots_all added = append_known-then old two new (line ++ concat moves) (concat slots) both added ∙ ap (append_known old) (sym split)

module _ (line : List ℕ) (moves slots : List (List ℕ)) (old one two new : SinkTold) (first : PutsLines old one (line ∷ [])) where
  pub moves_cut : PutsFirst one new moves → PutsFirst old new (line ∷ (moves ++ slots))
  moves_cut cut = first_after old one new (line ∷ []) (moves ++ slots) first (first_more one new moves slots cut)

  module _ (second : PutsLines one two moves) where
    pub moves_put : PutsLines old two (line ∷ (moves ++ []))
    moves_put =
        puts_same old two (line ∷ moves) (line ∷ (moves ++ [])) (ap (λ (more : List (List ℕ)). line ∷ more) (sym (append-nil moves)))
        (puts_both old one two (line ∷ []) moves first second)

    pub slots_cut : PutsFirst two new slots → PutsFirst old new (line ∷ (moves ++ slots))
    slots_cut cut = first_after old one new (line ∷ []) (moves ++ slots) first (first_after one two new moves slots second cut)

    pub slots_put : PutsLines two new slots → PutsLines old new (line ∷ (moves ++ slots))
    slots_put third = puts_both old one new (line ∷ []) (moves ++ slots) first (puts_both one two new moves slots second third)
