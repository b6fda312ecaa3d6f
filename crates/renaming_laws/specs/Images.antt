-- A run whose lines are the images of another run's lines.
use Rattle.std.specs.Prelude.{◌≡◌, ℕ, true, List, [], ◌∷◌, ◌++◌, map}
use Rattle.std.specs.List.{All}
use Rattle.object_meaning.specs.Lines.{Line}
use Rattle.object_meaning.specs.States.{Setting}
use Rattle.renaming_laws.specs.Renamed.{Renaming, IsRenaming, IsLineOf, renamed_line}
use Rattle.renaming_laws.specs.Inserted.{Image}

-- each line of a function has its image, in their order
pub data Images (functions : ℕ → Renaming) (func : ℕ) : List Line → List Line → Type 0 where
  no_lines : Images functions func [] []
  more_lines : (line : Line) (group rest others : List Line) → IsLineOf functions func line → Image (functions func) line group
      → Images functions func rest others → Images functions func (line ∷ rest) (group ++ others)

-- the lines of the other setting are the images of the lines of this one, both from the front of each function that may be
-- called on and in each block that is entered by a jump; and the settings agree in all else but the registers
pub record HasImages (functions : ℕ → Renaming) (one other : Setting) : Type 0 where
  pub renaming : (func : ℕ) → IsRenaming (functions func)
  pub front : (func : ℕ) → (functions func).called ≡ true → Images functions func (one.front ++ one.lines func 0) (other.front ++ other.lines func 0)
  pub blocks : (func block : ℕ) → (functions func).entered block ≡ true → Images functions func (one.lines func block) (other.lines func block)
  pub room : (func : ℕ) → one.registers func ≡ (functions func).room
  pub now_room : (func : ℕ) → other.registers func ≡ (functions func).now_room
  pub names : (func : ℕ) → other.names func ≡ one.names func
  pub layouts : other.layouts ≡ one.layouts
  pub main : other.main ≡ one.main
  pub main_called : (functions one.main).called ≡ true
  pub go : (event : ℕ) → other.go event ≡ one.go event
  pub bound : other.bound ≡ one.bound

-- ---- numbers alone

-- a line under other numbers, with its name
abbrev pub renumbered : (ℕ → ℕ) → Line → Line
renumbered number line = renamed_line number line.inst.result line

-- the setting whose registers have other numbers
abbrev pub renumbered_setting : (ℕ → Renaming) → Setting → Setting
renumbered_setting functions setting = record setting {
  lines = λ func block. map (renumbered (functions func).number) (setting.lines func block);
  registers = λ func. (functions func).now_room;
}

-- what a setting asks of the numbers: its lines name registers that exist, and those in front of a function name none
pub record CanRenumber (functions : ℕ → Renaming) (setting : Setting) : Type 0 where
  pub renaming : (func : ℕ) → IsRenaming (functions func)
  pub room : (func : ℕ) → setting.registers func ≡ (functions func).room
  pub lines : (func block : ℕ) → All (IsLineOf functions func) (setting.lines func block)
  pub front : (func : ℕ) → All (IsLineOf functions func) setting.front
  pub main : (functions setting.main).called ≡ true
  pub front_stays : (func : ℕ) → map (renumbered (functions func).number) setting.front ≡ setting.front
