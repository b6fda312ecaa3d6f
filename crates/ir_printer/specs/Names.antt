-- What the lines of a function name.
pub use Rattle.print_tables.specs.Names.{Names, layout_name, function_name, block_name}
unfoldable pub use Rattle.print_tables.specs.Names.{result_name, value_name}
