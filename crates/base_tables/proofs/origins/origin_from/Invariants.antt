use Rattle.std.proofs.Common.{◌≡◌, ◌+◌, ◌-◌, suc, length}
use Rattle.std.specs.Prelude.{map}
use Rattle.base_forms.specs.Bases.{origin_by}
use Rattle.base_tables.specs.Kinds.{stepped_in, origin_in}
use Rattle.base_tables.specs.Seen.{seen_shape}
use Rattle.base_tables.proofs.origins.origin_from.Given as goal

abbrev pub invariant-loop : goal.invariant-loop
invariant-loop l = record {
  end : l.end ≡ length l.shapes + 1;
  near : origin_in (map seen_shape l.shapes) l.fn.start ≡ origin_in (map seen_shape l.shapes) l.current;
  left : origin_in (map seen_shape l.shapes) l.fn.start ≡ origin_by (stepped_in (map seen_shape l.shapes)) (suc (length (map seen_shape l.shapes)) - l.counter) l.current;
}
