-- Shapes as kinds.
use Rattle.base_tables.specs.declared.shapes.Shape.{Shape}
use Rattle.base_tables.specs.declared.shapes.Shape.TheVariants as shapes
use Rattle.base_tables.specs.Kinds.{Kind, plain, steps, merges, differs}

abbrev pub seen_shape : Shape → Kind
seen_shape shapes.Plain = plain
seen_shape (shapes.Step before) = steps before
seen_shape (shapes.Merge operands) = merges operands.now
seen_shape (shapes.Unequal operands) = differs operands.now
