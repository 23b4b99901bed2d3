-- How the arguments of a command are read, one by one. `command_words` defines the arguments of a command; laws join the two.
use Rattle.std.specs.Prelude.{ℕ, if◌then◌else◌, ◌&&◌, Bool, true, false, List, [], ◌∷◌, length, drop, map, codes, find, Option, Some, None, option_map, option_and_then, bytes_eq, string_bytes}
use Rattle.std.specs.Borrow.{Bor}
use Rattle.gs_translate.specs.declared.form.Form.{Form}
use Rattle.gs_translate.specs.declared.form.Form.TheVariants as form
use Rattle.gs_translate.specs.declared.form.Target.{Target}
use Rattle.gs_translate.specs.declared.form.Target.TheVariants as target
use Rattle.tdl_arguments.specs.declared.command.Command.{Command}
use Rattle.tdl_arguments.specs.declared.command.Command.TheVariants.{Canon, Translate, Check, Resolve, Serve, Gen, Migrate, ClassCanon, ClassUri, DumpRead, DumpWrite, Merge}
use Rattle.tdl_arguments.specs.declared.arguments.Split.{Split}
use Rattle.tdl_arguments.specs.Commands.{command_name, form_word, target_word}
use Rattle.tdl_arguments.specs.Ranges.{lines_of}

-- trusted, own: the forms that texts are read in
abbrev pub forms : List Form
forms = form.Hex ∷ form.Tag ∷ form.Pure ∷ form.Raw ∷ form.Bracketed ∷ form.Link ∷ []

-- the forms that texts are translated to
abbrev pub targets : List Target
targets = target.Hex ∷ target.Tag ∷ target.Pure ∷ target.Raw ∷ target.Bracketed ∷ target.Link ∷ target.Canon ∷ []

-- trusted, own: the form that has the word
abbrev pub form_named : List ℕ → Option Form
form_named word = find (λ form. bytes_eq word (form_word form)) forms

-- the form that texts are translated to that has the word
abbrev pub target_named : List ℕ → Option Target
target_named word = find (λ target. bytes_eq word (target_word target)) targets

-- the arguments after `canon`
abbrev pub canon_of : List (List ℕ) → Option (Command × List (List ℕ))
canon_of [] = None
canon_of (word ∷ words) = option_map (λ form. (Canon form, words)) (form_named word)

-- the arguments after `translate`
abbrev pub translation_of : List (List ℕ) → Option (Command × List (List ℕ))
translation_of [] = None
translation_of (word ∷ []) = None
translation_of (from ∷ to ∷ words) =
    option_and_then (λ form. option_map (λ target. (Translate form target, words)) (target_named to)) (form_named from)

-- the arguments after `gen`
abbrev pub gen_of : List (List ℕ) → Option (Command × List (List ℕ))
gen_of [] = None
gen_of (word ∷ words) = option_map (λ lines. (Gen lines, words)) (lines_of word)

-- the command with operands of a word and of the arguments after it
abbrev pub command_by : List ℕ → List (List ℕ) → Option (Command × List (List ℕ))
command_by word words =
    if bytes_eq word (codes "canon") then canon_of words
    else if bytes_eq word (codes "translate") then translation_of words
    else if bytes_eq word (codes "gen") then gen_of words
    else None

-- the command with operands that arguments begin with, and the arguments after it and its operands
abbrev pub operated_of : List (List ℕ) → Option (Command × List (List ℕ))
operated_of [] = None
operated_of (word ∷ words) = command_by word words

-- holds if the arguments begin with these words
abbrev pub stands_before : List (List ℕ) → List (List ℕ) → Bool
stands_before [] words = true
stands_before (word ∷ front) [] = false
stands_before (word ∷ front) (first ∷ words) = bytes_eq first word && stands_before front words

-- the commands without operands
abbrev pub plain_commands : List Command
plain_commands = Check ∷ Resolve ∷ Serve ∷ Migrate ∷ ClassCanon ∷ ClassUri ∷ DumpRead ∷ DumpWrite ∷ Merge ∷ []

-- the command without operands that arguments begin with
abbrev pub plain_command : List (List ℕ) → Option Command
plain_command words = find (λ command. stands_before (command_name command) words) plain_commands

-- the arguments after the words of a command without operands
abbrev pub behind_name : List (List ℕ) → Command → Command × List (List ℕ)
behind_name words command = (command, drop (length (command_name command)) words)

-- the command without operands that arguments begin with, and the arguments after it
abbrev pub plain_of : List (List ℕ) → Option (Command × List (List ℕ))
plain_of words = option_map (behind_name words) (plain_command words)

-- the first optional value, or the second if the first is absent
abbrev pub or_else : {A : Type 0} → Option A → Option A → Option A
or_else (Some a) other = Some a
or_else None other = other

-- the command that arguments begin with, and the arguments after it and its operands
abbrev pub command_of : List (List ℕ) → Option (Command × List (List ℕ))
command_of words = or_else (plain_of words) (operated_of words)

-- trusted, own: the words of a command, as contracts see them
abbrev pub known_front : List (Bor (List ℕ)) → List (List ℕ)
known_front words = map (λ (word : Bor (List ℕ)). word.now) words

-- the parts of a split, as contracts see it
abbrev pub known_split : Option Split → Option (Command × List (List ℕ))
known_split split = option_map (λ (s : Split). (s.command, map string_bytes s.behind.now)) split
