-- The rules of the entries of a list, and their rejections in order. They are this project's own.
use Rattle.std.specs.Prelude.{ℕ, not, nat_lt, List, ◌++◌, length, take}
use Rattle.std.specs.List.{flat_map, list_any, enumerate_from}
use Rattle.gs_chars.specs.Answers.{error_if}
use Rattle.gs_prefix.specs.declared.entry.PrefixEntry.{PrefixEntry}
use Rattle.gs_prefix.specs.declared.error.PrefixFault.{PrefixFault}
use Rattle.gs_prefix.specs.declared.error.PrefixFault.TheVariants.{BadPrefix, BadLength, Twice, Limit}
use Rattle.gs_prefix.specs.Lengths.{has_prefix, is_prefix}

-- trusted, own: the rejections of entry i, given the earlier entries
unfoldable pub entry_rejections : List PrefixEntry → ℕ → PrefixEntry → List PrefixFault
entry_rejections earlier i entry =
    error_if (not (is_prefix entry.prefix)) (BadPrefix i)
    ++ (error_if (nat_lt 12 entry.length) (BadLength i)
    ++ error_if (list_any (has_prefix entry.prefix) earlier) (Twice i))

-- trusted, own: the rejections of the entry at an index
abbrev pub rejections_at : List PrefixEntry → ℕ × PrefixEntry → List PrefixFault
rejections_at entries row = entry_rejections (take row.0 entries) row.0 row.1

-- trusted, own: the list of all rejections of `entries`, in the order in which they are reported
unfoldable pub rejections : List PrefixEntry → List PrefixFault
rejections entries =
    error_if (nat_lt 65536 (length entries)) Limit
    ++ flat_map (rejections_at entries) (enumerate_from 0 entries)
