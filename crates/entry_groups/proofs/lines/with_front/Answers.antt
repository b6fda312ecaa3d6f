use Rattle.std.proofs.Common.{◌≡◌, ◌++◌, ◌∙◌, List, drop, length, map, take, sym, ap, arith}
use Rattle.std.specs.Vec.Iter.{into_iter_steps}
use Rattle.std.proofs.Math.Seq.{drop-append_seam, take-append_seam}
use Rattle.std.proofs.lemmas.List.{length-append, map-id}
use Rattle.std.proofs.lemmas.Iterator.{items_from_drains}
use Rattle.std.proofs.lemmas.Iterator.Adapters.{YieldsList-from_vec}
use Rattle.ir_ast.specs.Insts.{Instruction}
use Rattle.entry_groups.specs.Entry.{put_line}
use Rattle.entry_groups.proofs.lines.with_front.Goals as goal

pub put_behind-requires : goal.put_behind-requires
put_behind-requires c =
    let (s, put_in, given, drained, items, _) = c.in_ok-splice.ensures.items in
    let all : put_in ≡ c.args.front.items =
    sym (map-id put_in) ∙ items_from_drains {steps = into_iter_steps} {s = s} put_in (drained.1.0, drained.1.1, λ _. (drained.0, drained.1.2)) (YieldsList-from_vec c.args.front.items given.0 (given.1 ∙ c.args.front.ok.0)) in
    let spliced = items ∙ ap (λ (xs : List Instruction). xs ++ drop 1 c.args.lines.items) all in
    omega (arith, c.len-behind.ensures ∙ c.args.front.ok.0, ap length spliced, length-append c.args.front.items (drop 1 c.args.lines.items))

pub returns : goal.returns
returns c =
    let (s, put_in, given, drained, items, _) = c.in_ok-splice.ensures.items in
    let all : put_in ≡ c.args.front.items =
    sym (map-id put_in) ∙ items_from_drains {steps = into_iter_steps} {s = s} put_in (drained.1.0, drained.1.1, λ _. (drained.0, drained.1.2)) (YieldsList-from_vec c.args.front.items given.0 (given.1 ∙ c.args.front.ok.0)) in
    let front = c.args.front.items in
    let rest = drop 1 c.args.lines.items in
    let spliced = items ∙ ap (λ (xs : List Instruction). xs ++ rest) all in
    c.in_ok-put_behind.ensures
    ∙ ap (λ n. take n c.splice.new.self.items ++ map (put_line c.args.row.now) (drop n c.splice.new.self.items)) (c.len-behind.ensures ∙ c.args.front.ok.0)
    ∙ ap (λ (xs : List Instruction). take (length front) xs ++ map (put_line c.args.row.now) (drop (length front) xs)) spliced
    ∙ ap (λ (xs : List Instruction). xs ++ map (put_line c.args.row.now) (drop (length front) (front ++ rest))) (take-append_seam front rest)
    ∙ ap (λ (xs : List Instruction). front ++ map (put_line c.args.row.now) xs) (drop-append_seam front rest)
