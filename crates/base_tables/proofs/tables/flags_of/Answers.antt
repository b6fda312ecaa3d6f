use Rattle.std.proofs.Common.{arith}
use Rattle.base_tables.specs.Kinds.{kind_merged, kind_negated}
use Rattle.base_tables.specs.Flags.{kind_inserted}
use Rattle.base_tables.specs.Seen.{seen_shape}
use Rattle.base_tables.proofs.TableLemmas.{flag_more, flag_all, either_is}
use Rattle.base_tables.proofs.tables.flags_of.Goals as goal

pub loop-shape-preserved : goal.loop-shape-preserved
loop-shape-preserved c =
    let i = c.loop-shape.shape-index in
    let shapes = c.args.shapes.now in
    record {
      merged = flag_more (λ shape. kind_merged c.args.marks.now (seen_shape shape)) shapes i _ c.loop-shape-test.true c.loop-shape.merged.items c.push_reserved.new.self.items _ c.loop-shape.invariant.merged c.push_reserved.ensures.items c.is_merged-merges.ensures;
      negated = flag_more (λ shape. kind_negated c.args.marks.now (seen_shape shape)) shapes i _ c.loop-shape-test.true c.loop-shape.negated.items c.push_reserved-in-loop-shape.new.self.items _ c.loop-shape.invariant.negated c.push_reserved-in-loop-shape.ensures.items c.is_negated-negates.ensures;
      either = flag_more (λ shape. kind_inserted c.args.marks.now (seen_shape shape)) shapes i _ c.loop-shape-test.true c.loop-shape.any.items c.push_reserved-in-loop-shape-2.new.self.items _ c.loop-shape.invariant.either c.push_reserved-in-loop-shape-2.ensures.items (either_is c.either.ensures c.is_merged-merges.ensures c.is_negated-negates.ensures);
      merged_len = omega (arith, c.push_reserved.ensures.len, c.loop-shape.invariant.merged_len);
      merged_room = omega (arith, c.push_reserved.ensures.capacity, c.loop-shape.invariant.merged_room);
      negated_len = omega (arith, c.push_reserved-in-loop-shape.ensures.len, c.loop-shape.invariant.negated_len);
      negated_room = omega (arith, c.push_reserved-in-loop-shape.ensures.capacity, c.loop-shape.invariant.negated_room);
      either_len = omega (arith, c.push_reserved-in-loop-shape-2.ensures.len, c.loop-shape.invariant.either_len);
      either_room = omega (arith, c.push_reserved-in-loop-shape-2.ensures.capacity, c.loop-shape.invariant.either_room);
    }

pub returns : goal.returns
returns c =
    let i = c.loop-shape.shape-index in
    record {
      merged = flag_all (kind_merged c.args.marks.now) seen_shape c.args.shapes.now i c.loop-shape.merged.items (omega arith) c.loop-shape.invariant.merged;
      negated = flag_all (kind_negated c.args.marks.now) seen_shape c.args.shapes.now i c.loop-shape.negated.items (omega arith) c.loop-shape.invariant.negated;
      either = flag_all (kind_inserted c.args.marks.now) seen_shape c.args.shapes.now i c.loop-shape.any.items (omega arith) c.loop-shape.invariant.either;
    }
