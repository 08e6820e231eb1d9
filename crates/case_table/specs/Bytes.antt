-- Bytes as a table writes them.
use Rattle.std.specs.Prelude.{ℕ, cond, List, [], Some, codes, Option}
use Rattle.std.specs.Str.{bytes_eq}
use Rattle.session.specs.Sixteen.{hex_of}

-- the bytes that two digits each stand for in base sixteen, or none for `-`
abbrev pub bytes_in : List ℕ → Option (List ℕ)
bytes_in text = cond (bytes_eq text (codes "-")) (Some []) (hex_of text)
