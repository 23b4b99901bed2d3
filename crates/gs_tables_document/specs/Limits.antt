-- The limits of table documents. They are this project's own.
use Rattle.std.specs.Prelude.{ℕ}

-- trusted, own: the most items of an option
abbrev pub most_items : ℕ
most_items = 24
