-- The options of a level by their kind and the length of their company prefix: TDT 2.0, section 3 (selection of an option).
use Rattle.std.specs.Prelude.{ℕ, ◌==◌, ◌&&◌, Bool, List, map, filter}
use Rattle.std.specs.List.{enumerate_from}
use Rattle.gs_tables_document.specs.declared.document.OptInfo.{OptInfo}

-- trusted, own: holds if the option `info` is of the kind `kind` and the prefix length `gcp`
abbrev pub is_of : ℕ → ℕ → OptInfo → Bool
is_of kind gcp info = (info.kind == kind) && (info.gcp == gcp)

-- trusted, own: the numbers of the options of a kind and prefix length, ascending; the options are counted from n
abbrev pub numbers_from : ℕ → ℕ → ℕ → List OptInfo → List ℕ
numbers_from n kind gcp infos =
    map (λ (place : ℕ × OptInfo). place.0) (filter (λ (place : ℕ × OptInfo). is_of kind gcp place.1) (enumerate_from n infos))

-- trusted, own: the numbers of the options of a kind and prefix length, counted from 0
abbrev pub numbers_of : ℕ → ℕ → List OptInfo → List ℕ
numbers_of kind gcp infos = numbers_from 0 kind gcp infos
