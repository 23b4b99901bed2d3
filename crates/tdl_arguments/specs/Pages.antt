-- The texts that arguments ask for: the help, its parts on commands, and the version.
use Rattle.std.specs.Prelude.{ℕ, if◌then◌else◌, List, [], ◌∷◌, Option, Some, None, bytes_eq, codes, find}
use Rattle.tdl_arguments.specs.declared.pages.Page.{Page}
use Rattle.tdl_arguments.specs.declared.pages.Page.TheVariants.{Help, Version, Canon, Translate, Check, Resolve, Serve, Gen, Migrate, Class, Dump, Merge}

-- trusted, own: the word of a page: the option that asks for it, or the first word of its commands
abbrev pub page_word : Page → List ℕ
page_word Help = codes "--help"
page_word Version = codes "--version"
page_word Canon = codes "canon"
page_word Translate = codes "translate"
page_word Check = codes "check"
page_word Resolve = codes "resolve"
page_word Serve = codes "serve"
page_word Gen = codes "gen"
page_word Migrate = codes "migrate"
page_word Class = codes "class"
page_word Dump = codes "dump"
page_word Merge = codes "merge"

-- trusted, own: the parts of the help on commands
abbrev pub command_pages : List Page
command_pages = Canon ∷ Translate ∷ Check ∷ Resolve ∷ Serve ∷ Gen ∷ Migrate ∷ Class ∷ Dump ∷ Merge ∷ []

-- trusted, own: the part of the help on the commands whose first word is `word`
abbrev pub page_named : List ℕ → Option Page
page_named word = find (λ page. bytes_eq word (page_word page)) command_pages

-- trusted, own: The text that arguments ask for: the help by `--help` alone, the version by `--version` alone, and a part of the
-- help by the first word of a command and `--help`. All other arguments ask for none.
abbrev pub page_asked : List (List ℕ) → Option Page
page_asked [] = None
page_asked (word ∷ []) =
    if bytes_eq word (codes "--help") then Some Help
    else if bytes_eq word (codes "--version") then Some Version
    else None
page_asked (word ∷ last ∷ []) = if bytes_eq last (codes "--help") then page_named word else None
page_asked (word ∷ last ∷ next ∷ words) = None
