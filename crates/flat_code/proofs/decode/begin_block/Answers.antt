use Rattle.std.proofs.Common.{◌≡◌, ℕ, ◌++◌, [], ◌∷◌, Some, length, refl, sym, ap, subst, ◌∙◌, arith}
use Rattle.std.specs.Prelude.{slice_get}
use Rattle.std.proofs.lemmas.List.{length-map}
use Rattle.std.proofs.lemmas.List.Elements.{All-nil}
use Rattle.flat_code.specs.declared.spots.Due.TheVariants.{Line as Next}
use Rattle.flat_code.specs.declared.spots.Spot.{Spot}
use Rattle.flat_code.specs.declared.lines.Segment.{Segment}
use Rattle.flat_code.specs.Flats.{IsSizedLine}
use Rattle.flat_code.specs.Spots.{lines_at, behind_phis}
use Rattle.flat_code.specs.Segments.{starts_in}
use Rattle.list_laws.proofs.Places.{get_last}
use Rattle.flat_code.proofs.DecodeLemmas.{decodes_none, chained_open, front_get}
use Rattle.flat_code.proofs.decode.begin_block.Goals as goal

pub decode_block-requires-clause-open : goal.decode_block-requires-clause-open
decode_block-requires-clause-open c =
    let layouts = c.args.source.now.layouts in let defined = c.args.source.now.defined in
    let spot : Spot = record { block = c.args.block; at = c.phi_count-at.result; next = c.in_ok-next.next; due = Next } in
    record {
      chained = rw c.replace.ensures.value (chained_open layouts defined c.args.segments.now.items (Some spot) c.requires.chained);
      lines = rw c.new-2.ensures.items (decodes_none layouts (lines_at defined spot));
      sized = rw c.new-2.ensures.items (All-nil IsSizedLine);
      block = refl;
    }

pub returns-clause-starts : goal.returns-clause-starts
returns-clause-starts c =
    let defined = c.args.source.now.defined in
    let spot : Spot = record { block = c.args.block; at = c.phi_count-at.result; next = c.in_ok-next.next; due = Next } in
    let same : spot ≡ behind_phis defined c.args.block = rw (c.in_ok-next.ensures, c.first.ensures, c.phi_count-at.ensures.value, c.insts-insts.ensures.value) refl in
    let all = c.in_ok-segments.field-0.items in
    let there = front_get (starts_in c.replace.result.items ++ spot ∷ []) (starts_in all) (length (starts_in c.replace.result.items)) spot
    c.in_ok-segments.ensures.starts (get_last (starts_in c.replace.result.items) spot) in
    let len : c.len.result ≡ length c.args.segments.now.items = omega arith in
    let before : length c.args.segments.now.items ≡ length c.replace.result.items = rw c.replace.ensures.value refl in
    let place : c.in_ok-place.place ≡ length (starts_in c.replace.result.items) =
    c.in_ok-place.ensures ∙ len ∙ before ∙ sym (length-map c.replace.result.items (λ (segment : Segment). segment.start)) in
    subst (λ (n : ℕ). slice_get (starts_in all) n ≡ Some (behind_phis defined c.args.block)) (sym place) (there ∙ ap (λ (s : Spot). Some s) same)
