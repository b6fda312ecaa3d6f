-- Files by name.
use Rattle.std.specs.Prelude.{ℕ, List, [], find, Option, Some, unwrap_or}
use Rattle.std.specs.List.{position_or_len}
use Rattle.std.specs.Option.{option_map}
use Rattle.std.specs.Str.{bytes_eq}

pub record NamedFile : Type 0 where
  pub name : List ℕ
  pub contents : List ℕ

-- the contents of the file of this name, where there is one
abbrev pub contents_of : List NamedFile → List ℕ → Option (List ℕ)
contents_of files name = option_map (λ file. file.contents) (find (λ file. bytes_eq file.name name) files)

-- the same, where a name without a file has no bytes
abbrev pub sure_contents_of : List NamedFile → List ℕ → Option (List ℕ)
sure_contents_of files name = Some (unwrap_or (contents_of files name) [])

-- the place of the file of this name, or the number of files where there is none
abbrev pub place_of : List NamedFile → List ℕ → ℕ
place_of files name = position_or_len (λ file. bytes_eq file.name name) files
