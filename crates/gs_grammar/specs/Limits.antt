-- The limit of the size of an option. It is this project's own.
use Rattle.std.specs.Prelude.{ℕ}

-- trusted, own: the most symbols that the words of an option have together
abbrev pub most_symbols : ℕ
most_symbols = 512
