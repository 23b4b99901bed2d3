-- Arguments that ask for a text ask for no command.
use Rattle.std.proofs.Common.{◌≡◌, ℕ, List, [], ◌∷◌, Option, None, Some, length, map, refl, sym, inl, inr}
use Rattle.std.specs.Prelude.{OnSome, bytes_eq, codes}
use Rattle.gs_chars.proofs.TruthsAndLists.{equal_bytes, true_or_false}
use Rattle.gs_ident.proofs.PairLemmas.{found_passes}
use Rattle.tdl_arguments.specs.declared.command.Command.{Command}
use Rattle.tdl_arguments.specs.declared.command.Command.TheVariants as command
use Rattle.tdl_arguments.specs.declared.pages.Page.{Page}
use Rattle.tdl_arguments.specs.declared.pages.Page.TheVariants.{Help, Version, Canon, Translate, Check, Resolve, Serve, Gen, Migrate, Class, Dump, Merge}
use Rattle.tdl_arguments.specs.CommandReads.{command_of}
use Rattle.tdl_arguments.specs.Commands.{names_of}
use Rattle.tdl_arguments.specs.Pages.{command_pages, page_asked, page_named, page_word}
use Rattle.tdl_arguments.specs.Requests.{NotInOrder}
use Rattle.tdl_arguments.proofs.PairLemmas.{of_one_word}
use Rattle.tdl_arguments.proofs.RequestLemmas.{asks_of, not_in_order}

-- a command and one more argument ask for nothing
one_more_word : (words : List (List ℕ)) (command : Command) (word : List ℕ) → command_of words ≡ Some (command, word ∷ []) → NotInOrder words
one_more_word words command word e asked o =
    let a = asks_of words (command, word ∷ []) asked e o in
    of_one_word (names_of command) (word ∷ []) a.pairs refl a.of_rows

-- the word of a page and `--help` ask for nothing
invalid_pair : (page : Page) → NotInOrder (page_word page ∷ codes "--help" ∷ [])
invalid_pair Help = not_in_order (codes "--help" ∷ codes "--help" ∷ []) refl
invalid_pair Version = not_in_order (codes "--version" ∷ codes "--help" ∷ []) refl
invalid_pair Canon = not_in_order (codes "canon" ∷ codes "--help" ∷ []) refl
invalid_pair Translate = not_in_order (codes "translate" ∷ codes "--help" ∷ []) refl
invalid_pair Check = one_more_word (codes "check" ∷ codes "--help" ∷ []) command.Check (codes "--help") refl
invalid_pair Resolve = one_more_word (codes "resolve" ∷ codes "--help" ∷ []) command.Resolve (codes "--help") refl
invalid_pair Serve = one_more_word (codes "serve" ∷ codes "--help" ∷ []) command.Serve (codes "--help") refl
invalid_pair Gen = not_in_order (codes "gen" ∷ codes "--help" ∷ []) refl
invalid_pair Migrate = one_more_word (codes "migrate" ∷ codes "--help" ∷ []) command.Migrate (codes "--help") refl
invalid_pair Class = not_in_order (codes "class" ∷ codes "--help" ∷ []) refl
invalid_pair Dump = not_in_order (codes "dump" ∷ codes "--help" ∷ []) refl
invalid_pair Merge = one_more_word (codes "merge" ∷ codes "--help" ∷ []) command.Merge (codes "--help") refl

invalid_one : (word : List ℕ) (page : Page) → page_asked (word ∷ []) ≡ Some page → NotInOrder (word ∷ [])
invalid_one word page e = elim (true_or_false (bytes_eq word (codes "--help"))) as (λ _. NotInOrder (word ∷ [])) [
  | inl is ↦ rw (equal_bytes word (codes "--help") is) (not_in_order (codes "--help" ∷ []) refl)
  | inr other ↦ elim (true_or_false (bytes_eq word (codes "--version"))) as (λ _. NotInOrder (word ∷ [])) [
    | inl is ↦ rw (equal_bytes word (codes "--version") is) (not_in_order (codes "--version" ∷ []) refl)
    | inr none ↦ absurd (let f : None ≡ Some page = rw (other, none) at e in cc)
  ]
]

invalid_two : (word last : List ℕ) (page : Page) → page_asked (word ∷ last ∷ []) ≡ Some page → NotInOrder (word ∷ last ∷ [])
invalid_two word last page e = elim (true_or_false (bytes_eq last (codes "--help"))) as (λ _. NotInOrder (word ∷ last ∷ [])) [
  | inl is ↦
      let found : page_named word ≡ Some page = rw is at e in
      let passes = found_passes (λ (p : Page). bytes_eq word (page_word p)) command_pages page found in
      rw (equal_bytes last (codes "--help") is, equal_bytes word (page_word page) passes) (invalid_pair page)
  | inr none ↦ absurd (let f : None ≡ Some page = rw none at e in cc)
]

-- neither one argument nor two ask for no text
pub none_asked : {S : Type 0} (bytes : S → List ℕ) (words : List S) → (length words ≡ 1 → ⊥) → (length words ≡ 2 → ⊥) → None ≡ page_asked (map bytes words)
none_asked bytes [] one two = refl
none_asked bytes (x ∷ []) one two = absurd (one refl)
none_asked bytes (x ∷ y ∷ []) one two = absurd (two refl)
none_asked bytes (x ∷ y ∷ z ∷ words) one two = refl

invalid_asked : (words : List (List ℕ)) (page : Page) → page_asked words ≡ Some page → NotInOrder words
invalid_asked [] page e = absurd (let f : None ≡ Some page = e in cc)
invalid_asked (word ∷ []) page e = invalid_one word page e
invalid_asked (word ∷ last ∷ []) page e = invalid_two word last page e
invalid_asked (word ∷ last ∷ next ∷ words) page e = absurd (let f : None ≡ Some page = e in cc)

-- arguments that ask for a text are invalid
pub on_page : (words : List (List ℕ)) (page : Option Page) → page ≡ page_asked words → OnSome page (NotInOrder words)
on_page words None e = tt
on_page words (Some page) e = invalid_asked words page (sym e)
